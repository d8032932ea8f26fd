-- Each line of a unit makes the library grow: no card is dropped, moved or altered.
use Rattle.std.specs.Prelude.{if◌then◌else◌}
use Prim.Native.Nat.{ℕ, zero, suc, ◌+◌, ◌-◌, ◌<◌}
use native.Mathlib.Omega.{arith}
use mathlib.Core.Path.{◌≡◌, refl, sym, ap, ◌∙◌, subst}
use mathlib.Core.Bool.{Bool, true, false, not, ◌||◌, beq}
use mathlib.Core.List.{List, [], ◌∷◌, ◌++◌, append-nil, append_assoc}
use mathlib.Core.Option.{Option, none, some}
use lib.Dec.{T, eqb, eqb→eq}
use lib.ListN.{length, length-append}
use Rattle.words.specs.Base.{any}
use Rattle.words_lines.specs.Directive.{directive, yank_names}
use Rattle.words_lines.specs.declared.Line.{Line}
use Rattle.words_lines.specs.declared.Line.TheVariants.{Text, Skipped, Deck as DeckLine·, Comdeck, Ident, Insert, Before, Delete, Restore, Yank as YankLine, Outside as LineOutside, Long as LineLong, Malformed as LineMalformed, NotCarried as LineNotCarried}
use Rattle.library.specs.Library.{Byte, Card, Deck, Library, reserved, entry_of}
use Rattle.library.specs.Yanks.{active, yanked}
use Rattle.library.specs.Growth.{count, Unknown, NewCard, KeptCard, GrownCards, no_cards, kept_card, added_card, GrownDecks, no_decks, kept_deck, added_deck, Growth}
use Rattle.library.proofs.GrowthSteps.{with_byte, kept_byte, new-byte, grown-cards-insert, grown-cards-end, grown-cards-raise, grown-decks-end, grown-decks-raise}
use Rattle.run_meaning.specs.Step.{TextPlace, nowhere, in_yanks, in_deck, State, start, unit_number, is_set, Step, went, limited, change_at, new_card, put_in, after_text, put_text, is_known, new_deck, after_deck, put_deck, after_ident, put_ident, in_set, with_place, is_unknown, is_no_set, after_yank, put_yank, Spot, is_backwards, is_yank_part, is_deck_spot, is_barred, place_after, insert_after, insert_before, marked, over_range, number_at, mark_in, after_mark, mark_range, find, obey, step}
use Rattle.run_meaning.specs.Units.{role_of, unit_names}
use Rattle.run_meaning.specs.declared.Why.TheVariants.{Known, Unknown as UnknownName, NoSet, Backwards, Barred}
use Rattle.run_meaning.proofs.HoldsThrough.{Went, refuse-went, limited-went, in-set-went}

-- CHANGES OF PARTS
pub grown-decks-change : (lo hi : ℕ) (f : List Card → List Card) → ((cs ds : List Card) → GrownCards lo hi cs ds → GrownCards lo hi cs (f ds))
    → (k : ℕ) {ds es : List Deck} → GrownDecks lo hi ds es → GrownDecks lo hi ds (change_at f k es)
grown-decks-change lo hi f h k no_decks = no_decks
grown-decks-change lo hi f h zero (kept_deck r g) = kept_deck (record { number = r.number; common = r.common; line = r.line; cards = h _ _ r.cards }) g
grown-decks-change lo hi f h (suc k) (kept_deck r g) = kept_deck r (grown-decks-change lo hi f h k g)
grown-decks-change lo hi f h zero (added_deck w c g) = added_deck w (h _ _ c) g
grown-decks-change lo hi f h (suc k) (added_deck w c g) = added_deck w c (grown-decks-change lo hi f h k g)

module _ (lo hi : ℕ) (lt : lo < hi) (yk : ℕ → Bool) (was : Bool) where
  kept-mark : (c d : Card) → KeptCard lo hi c d → KeptCard lo hi c (marked yk was hi d)
  kept-mark c d k = go (beq (active yk d) was)
    where
      b : Byte
      b = record { number = hi; activating = not was }

      go : (t : Bool) → KeptCard lo hi c (if t then with_byte b d else d)
      go true = kept_byte lo hi b (lt, omega arith) c d k
      go false = k

  new-mark : (d : Card) → NewCard lo hi d → NewCard lo hi (marked yk was hi d)
  new-mark d n = go (beq (active yk d) was)
    where
      b : Byte
      b = record { number = hi; activating = not was }

      go : (t : Bool) → NewCard lo hi (if t then with_byte b d else d)
      go true = new-byte lo hi b refl d n
      go false = n

  pub grown-range : (i j : ℕ) {cs ds : List Card} → GrownCards lo hi cs ds → GrownCards lo hi cs (over_range (marked yk was hi) i j ds)
  grown-range i j no_cards = no_cards
  grown-range (suc i) j (kept_card k g) = kept_card k (grown-range i (j - 1) g)
  grown-range (suc i) j (added_card n g) = added_card n (grown-range i (j - 1) g)
  grown-range zero zero (kept_card {c = c} {d = d} k g) = kept_card (kept-mark c d k) g
  grown-range zero zero (added_card {d = d} n g) = added_card (new-mark d n) g
  grown-range zero (suc j) (kept_card {c = c} {d = d} k g) = kept_card (kept-mark c d k) (grown-range zero j g)
  grown-range zero (suc j) (added_card {d = d} n g) = added_card (new-mark d n) (grown-range zero j g)

-- NAMES
pub unknown-end : (directory ns : List ℕ) (w : ℕ) → Unknown directory ns → entry_of (directory ++ ns) w ≡ 0 → Unknown directory (ns ++ (w ∷ []))
unknown-end directory [] w u e = (ap (λ (d : List ℕ). entry_of d w) (sym (append-nil directory)) ∙ e, tt)
unknown-end directory (n ∷ ns) w u e =
    (u.0, unknown-end (directory ++ (n ∷ [])) ns w u.1 (ap (λ (d : List ℕ). entry_of d w) (append_assoc directory (n ∷ []) ns) ∙ e))

pub not_known : (l : Library) (w : ℕ) → T (not (is_known l w)) → T (not (eqb w reserved)) × (entry_of l.directory w ≡ 0)
not_known l w t = go (eqb w reserved) (eqb (entry_of l.directory w) 0) (eqb→eq (entry_of l.directory w) 0) t
  where
    go : (r e : Bool) → (T e → entry_of l.directory w ≡ 0) → T (not (r || not e)) → T (not r) × (entry_of l.directory w ≡ 0)
    go true e f u = absurd u
    go false true f u = (tt, f tt)
    go false false f u = absurd u

-- STATES: a library that has grown, with a unit begun wherever a line can put anything into it
abbrev is_open : TextPlace → Bool
is_open nowhere = false
is_open in_yanks = false
is_open (in_deck k i) = true

pub record Grows (old : Library) (names : List ℕ) (s : State) : Type 0 where
  pub growth : Growth old names s.lib
  pub place : T (is_open s.place) → count old < count s.lib
  pub set : T (is_set s.kind) → count old < count s.lib

pub grows_start : (old : Library) (names : List ℕ) (l : Library) → Growth old names l → Grows old names (start l)
grows_start old names l g = record { growth = g; place = λ t. absurd t; set = λ t. absurd t }

module _ (old : Library) (ns : List ℕ) where
  -- a new name at the directory's end, and what goes with it
  named : (l : Library) (w : ℕ) (ds : List Deck) → Growth old ns l → T (not (is_known l w)) → GrownDecks (count old) (suc (count l)) old.decks ds
      → Growth old (ns ++ (w ∷ [])) (record { directory = l.directory ++ (w ∷ []); yanks = l.yanks; decks = ds })
  named l w ds g t h =
      let e : suc (count l) ≡ length (l.directory ++ (w ∷ [])) = omega (arith, length-append l.directory (w ∷ [])) in record {
        directory = ap (λ (d : List ℕ). d ++ (w ∷ [])) g.directory ∙ append_assoc old.directory ns (w ∷ []);
        unknown = unknown-end old.directory ns w g.unknown (ap (λ (d : List ℕ). entry_of d w) (sym g.directory) ∙ (not_known l w t).1);
        yanks = grown-cards-raise (count old) (count l) (length (l.directory ++ (w ∷ []))) (omega arith) g.yanks;
        decks = subst (λ (n : ℕ). GrownDecks (count old) n old.decks ds) e h;
      }

  above : (l : Library) (w : ℕ) → Growth old ns l → count old < length (l.directory ++ (w ∷ []))
  above l w g =
      let e : count l ≡ count old + length ns = ap length g.directory ∙ length-append old.directory ns in
      omega (arith, length-append l.directory (w ∷ []))

  ident-grows : (s : State) (w : ℕ) → Grows old ns s → Went (Grows old (ns ++ (w ∷ []))) (put_ident s w)
  ident-grows s w g =
      refuse-went (Grows old (ns ++ (w ∷ []))) (is_known s.lib w) Known (limited (after_ident s w))
      (λ t. limited-went (Grows old (ns ++ (w ∷ []))) (after_ident s w) (record {
        growth = named s.lib w s.lib.decks g.growth t (grown-decks-raise (count old) (count s.lib) (suc (count s.lib)) (omega arith) g.growth.decks);
        place = λ u. absurd u;
        set = λ u. above s.lib w g.growth;
      }))

  deck-grows : (s : State) (common : Bool) (l : List ℕ) (w : ℕ) → Grows old ns s → Went (Grows old (ns ++ (w ∷ []))) (put_deck s common l w)
  deck-grows s common l w g =
      let e : count s.lib ≡ count old + length ns = ap length g.growth.directory ∙ length-append old.directory ns in
      refuse-went (Grows old (ns ++ (w ∷ []))) (is_known s.lib w) Known (limited (after_deck s common l w))
      (λ t. limited-went (Grows old (ns ++ (w ∷ []))) (after_deck s common l w) (record {
        growth = named s.lib w (s.lib.decks ++ (new_deck s.lib common l ∷ [])) g.growth t
            (grown-decks-end (count old) (suc (count s.lib)) (new_deck s.lib common l) (omega arith, omega arith) no_cards
            (grown-decks-raise (count old) (count s.lib) (suc (count s.lib)) (omega arith) g.growth.decks));
        place = λ u. above s.lib w g.growth;
        set = λ u. absurd u;
      }))

  new-new : (s : State) (l : List ℕ) → count old < count s.lib → NewCard (count old) (count s.lib) (new_card s l)
  new-new s l lt = ((lt, omega arith), tt)

  text-grows : (s : State) (l : List ℕ) (p : TextPlace) → (T (is_open p) → count old < count s.lib) → Grows old ns s → Went (Grows old ns) (put_text s l p)
  text-grows s l nowhere h g = tt
  text-grows s l in_yanks h g = tt
  text-grows s l (in_deck k i) h g = limited-went (Grows old ns) (after_text s l k i) (record {
    growth = record {
      directory = g.growth.directory;
      unknown = g.growth.unknown;
      yanks = g.growth.yanks;
      decks = grown-decks-change (count old) (count s.lib) (put_in i (new_card s l))
          (λ cs ds. grown-cards-insert (count old) (count s.lib) (new_card s l) (new-new s l (h tt)) i) k g.growth.decks;
    };
    place = λ u. h tt;
    set = g.set;
  })

  place-grows : (s : State) (p : TextPlace) → count old < count s.lib → Grows old ns s → Grows old ns (with_place s p)
  place-grows s p lt g = record { growth = g.growth; place = λ u. lt; set = g.set }

  after-grows : (s : State) (o : Option Spot) → count old < count s.lib → Grows old ns s → Went (Grows old ns) (insert_after s o)
  after-grows s none lt g = tt
  after-grows s (some a) lt g =
      refuse-went (Grows old ns) (is_yank_part a) Barred (went (with_place s (place_after a))) (λ _. place-grows s (place_after a) lt g)

  before-grows : (s : State) (o : Option Spot) → count old < count s.lib → Grows old ns s → Went (Grows old ns) (insert_before s o)
  before-grows s none lt g = tt
  before-grows s (some a) lt g =
      refuse-went (Grows old ns) (is_yank_part a || is_deck_spot a) Barred (went (with_place s (in_deck (a.part - 1) (a.index - 1))))
      (λ _. place-grows s (in_deck (a.part - 1) (a.index - 1)) lt g)

  yank-grows : (s : State) (l : List ℕ) → Grows old ns s → Went (Grows old ns) (put_yank s l)
  yank-grows s l g =
      in-set-went (Grows old ns) s _
      (λ t. refuse-went (Grows old ns) (any (is_unknown s.lib) (yank_names l)) UnknownName _
      (λ _. refuse-went (Grows old ns) (any (is_no_set s.lib) (yank_names l)) NoSet (limited (after_yank s l))
      (λ _. limited-went (Grows old ns) (after_yank s l) (record {
        growth = record {
          directory = g.growth.directory;
          unknown = g.growth.unknown;
          yanks = grown-cards-end (count old) (count s.lib) (new_card s l) (new-new s l (g.set t)) g.growth.yanks;
          decks = g.growth.decks;
        };
        place = λ u. absurd u;
        set = g.set;
      }))))

  mark-in : (l : Library) (was : Bool) (p i j : ℕ) → count old < count l → Growth old ns l → Growth old ns (mark_in l was p i j)
  mark-in l was zero i j lt g = record {
    directory = g.directory;
    unknown = g.unknown;
    yanks = grown-range (count old) (count l) lt (yanked l 0) was i j g.yanks;
    decks = g.decks;
  }
  mark-in l was (suc k) i j lt g = record {
    directory = g.directory;
    unknown = g.unknown;
    yanks = g.yanks;
    decks = grown-decks-change (count old) (count l) (over_range (marked (yanked l (number_at l.decks k)) was (unit_number l)) (i - 1) (j - 1))
        (λ cs ds. grown-range (count old) (count l) lt (yanked l (number_at l.decks k)) was (i - 1) (j - 1)) k g.decks;
  }

  count-mark : (l : Library) (was : Bool) (p i j : ℕ) → (mark_in l was p i j).directory ≡ l.directory
  count-mark l was zero i j = refl
  count-mark l was (suc k) i j = refl

  range-grows : (s : State) (was : Bool) (a b : Option Spot) → count old < count s.lib → Grows old ns s → Went (Grows old ns) (mark_range s was a b)
  range-grows s was none b lt g = tt
  range-grows s was (some a) none lt g = tt
  range-grows s was (some a) (some b) lt g =
      let e : count (mark_in s.lib was a.part a.index b.index) ≡ count s.lib = ap length (count-mark s.lib was a.part a.index b.index) in
      refuse-went (Grows old ns) (is_backwards a b) Backwards _
      (λ _. refuse-went (Grows old ns) (is_barred a b) Barred (limited (after_mark s was a b))
      (λ _. limited-went (Grows old ns) (after_mark s was a b) (record {
        growth = mark-in s.lib was a.part a.index b.index lt g.growth;
        place = λ u. omega arith;
        set = λ u. omega arith;
      })))

  -- a line that starts no unit
  unnamed : (r : Step) → Went (Grows old ns) r → Went (Grows old (ns ++ [])) r
  unnamed r h = subst (λ (m : List ℕ). Went (Grows old m) r) (sym (append-nil ns)) h

  in-set-grows : (s : State) (r : Step) → Grows old ns s → (count old < count s.lib → Went (Grows old ns) r) → Went (Grows old (ns ++ [])) (in_set s r)
  in-set-grows s r g f = unnamed (in_set s r) (in-set-went (Grows old ns) s r (λ t. f (g.set t)))

  obey-grows : (s : State) (l : List ℕ) (a : Line) → Grows old ns s → Went (Grows old (ns ++ unit_names (role_of a))) (obey s l a)
  obey-grows s l LineOutside g = tt
  obey-grows s l LineLong g = tt
  obey-grows s l LineMalformed g = tt
  obey-grows s l LineNotCarried g = tt
  obey-grows s l Text g = unnamed (put_text s l s.place) (text-grows s l s.place g.place g)
  obey-grows s l Skipped g = unnamed (went s) g
  obey-grows s l (DeckLine· w) g = deck-grows s false l w g
  obey-grows s l (Comdeck w) g = deck-grows s true l w g
  obey-grows s l (Ident w) g = ident-grows s w g
  obey-grows s l YankLine g = unnamed (put_yank s l) (yank-grows s l g)
  obey-grows s l (Insert r) g = in-set-grows s (insert_after s (find s.lib r)) g (λ lt. after-grows s (find s.lib r) lt g)
  obey-grows s l (Before r) g = in-set-grows s (insert_before s (find s.lib r)) g (λ lt. before-grows s (find s.lib r) lt g)
  obey-grows s l (Delete a b) g =
      in-set-grows s (mark_range s true (find s.lib a) (find s.lib b)) g (λ lt. range-grows s true (find s.lib a) (find s.lib b) lt g)
  obey-grows s l (Restore a b) g =
      in-set-grows s (mark_range s false (find s.lib a) (find s.lib b)) g (λ lt. range-grows s false (find s.lib a) (find s.lib b) lt g)

-- A LINE
pub step-grows : (old : Library) (ns : List ℕ) (s : State) (l : List ℕ) → Grows old ns s → Went (Grows old (ns ++ unit_names (role_of (directive l)))) (step s l)
unfolding step
step-grows old ns s l g = obey-grows old ns s l (directive l) g
