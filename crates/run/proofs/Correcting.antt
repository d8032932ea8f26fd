-- INSERT and BEFORE: the card is found in the stream where the definitions find it in its part.
use Rattle.std.specs.Prelude.{if◌then◌else◌, Option as Answer, Some, None, Result, Ok, Err}
use Rattle.std.specs.Option.{ok_or}
use Prim.Native.Nat.{ℕ, zero, suc, ◌+◌, ◌-◌, ◌≤◌, ◌<◌}
use native.Mathlib.Omega.{arith}
use mathlib.Core.Path.{◌≡◌, refl, sym, ap, ap₂, ◌∙◌, subst}
use mathlib.Core.Bool.{Bool, true, false, ◌&&◌, ◌||◌, not}
use mathlib.Core.List.{List, [], ◌∷◌, ◌++◌, map}
use mathlib.Core.Option.{Option, none, some}
use lib.Dec.{T, eqb}
use lib.ListN.{length, get_or, take, drop, take-append-drop}
use lib.Seq.{length-take-le}
use Rattle.words.proofs.TestParts.{and-false}
use Rattle.words_lines.specs.Directive.{directive}
use Rattle.words_lines.specs.declared.CardName.{CardName}
use Rattle.words_lines.specs.declared.Line.TheVariants.{Insert, Before}
use Rattle.library.specs.Library.{Card, Deck, Library, deck_cards, parts, stream, entry_of}
use Rattle.library.specs.Yanks.{yanked}
use Rattle.library.specs.Sound.{no_two, same_card}
use Rattle.run_meaning.specs.Step.{TextPlace, in_yanks, in_deck, State, Step, went, refused, refuse, with_place, Spot, is_card_of, find, is_yank_part, is_deck_spot, place_after, insert_after, insert_before, obey, step}
use Rattle.run_meaning.specs.Safe.{Safe}
use Rattle.run_meaning.specs.Flat.{index_by, ahead, Stood, flat, FoundAs, HasPlace, flat_place}
use Rattle.run.specs.GapWords.{Ordered}
use Rattle.run.specs.CardSeek.{index_of}
use Rattle.library_yanks_bits.specs.SettledBits.{flagged}
use Rattle.run.specs.Work.{Work, Located, Locates, OpensAfter, OpensAhead}
use Rattle.run.specs.Desk.{Sane, moved_desk, TextGoes, Held, Answered}
use Rattle.run.specs.Corrected.{titled, SoughtAt, SoughtAs, SeeksCard, InsertSteps, BeforeSteps}
use Rattle.run.specs.declared.gap.Gap.{Gap}
use Rattle.run.specs.declared.seek.Place.{Place}
use Rattle.run.specs.declared.desk.Desk.{Desk}
use Rattle.run.specs.declared.desk.TextAt.TheVariants.{Gap as TextGap}
use Rattle.run.specs.declared.fixes.Sought.{Sought}
use Rattle.run_meaning.specs.declared.Why.{Why}
use Rattle.run_meaning.specs.declared.Why.TheVariants.{Nowhere, NoCard, Barred}
use Rattle.run_meaning.proofs.HoldsThrough.{Went}
use Rattle.run_meaning.proofs.StepSound.{step-safe}
use Rattle.run_meaning.proofs.FlatFind.{own_of, find-unknown, find-flat, stood-below, yank-part-flat, ltb_yes, ltb_no, eqb_yes, eqb_no}
use Rattle.run_meaning.proofs.FlatDecks.{deck-spot-named}

-- THE SEARCH
index_same : (o s : ℕ) (cs : List Card) → index_of o s cs ≡ index_by (is_card_of o s) cs
unfolding index_of
index_same o s [] = refl
index_same o s (c ∷ cs) = ap (λ (n : ℕ). if is_card_of o s c then 0 else suc n) (index_same o s cs)

-- a card that is not found
none-index : (l : Library) (a : Spot) → Stood (parts l) a.part a.index → flat l a < length (stream l)
unfolding stream
none-index l a h = stood-below (parts l) a.part a.index h

pub seek-unknown : (w dir : List ℕ) (d : Desk) (r : CardName) → entry_of (take d.entries dir) r.name ≡ 0 → SeeksCard w dir d r None
seek-unknown w dir d r e names decks flags s held =
    subst (SoughtAs s.lib d.gap held.below held.above r None)
    (sym (find-unknown s.lib r (ap (λ (ds : List ℕ). entry_of ds r.name) (sym held.tables.directory) ∙ e))) tt

module _ (w dir : List ℕ) (d : Desk) (r : CardName) (own : ℕ) (p : Place) (e : own ≡ entry_of (take d.entries dir) r.name) (pos : 0 < own) (locates : Locates w d.gap d.low own r.seq p) where
  module _ (names decks flags : List ℕ) (s : State) (held : Held w dir names decks flags d s) where
    abbrev l : Library
    l = s.lib

    known : own ≡ entry_of l.directory r.name
    known = e ∙ ap (λ (ds : List ℕ). entry_of ds r.name) held.tables.directory

    located : Located w d.gap (yanked l 0) held.below held.above own r.seq p
    located =
        locates (yanked l 0) held.below held.above held.work held.low
        (subst (λ (cs : List Card). T (no_two same_card cs)) (sym held.whole) held.safe.sound.once)

    index : p.index ≡ index_by (is_card_of own r.seq) (stream l)
    index = located.index ∙ index_same own r.seq (held.below ++ held.above) ∙ ap (index_by (is_card_of own r.seq)) held.whole

    named : index_by (is_card_of own r.seq) (stream l) ≡ index_by (is_card_of (own_of l r) r.seq) (stream l)
    named = ap (λ (o : ℕ). index_by (is_card_of o r.seq) (stream l)) known

    as-none : d.cards ≤ p.index → (o : Option Spot) → FoundAs l (index_by (is_card_of (own_of l r) r.seq) (stream l)) o → SoughtAs l d.gap held.below held.above r None o
    as-none le none h = tt
    as-none le (some a) h = absurd (omega (arith, h.1, index ∙ named, none-index l a h.0, held.cards))

    as-some : p.index < d.cards → (o : Option Spot) → FoundAs l (index_by (is_card_of (own_of l r) r.seq) (stream l)) o
        → SoughtAs l d.gap held.below held.above r (Some (record { own = own; at = p.at; index = p.index })) o
    as-some lt none h = absurd (omega (arith, index ∙ named ∙ h, held.cards))
    as-some lt (some a) h = record { stood = h.0; index = h.1 ∙ sym (index ∙ named); stands = located.stands; own = known; first = index }

  pub seek-missing : d.cards ≤ p.index → SeeksCard w dir d r None
  seek-missing le names decks flags s held =
      as-none names decks flags s held le (find s.lib r) (find-flat s.lib r (omega (arith, known names decks flags s held)))

  pub seek-known : p.index < d.cards → SeeksCard w dir d r (Some (record { own = own; at = p.at; index = p.index }))
  seek-known lt names decks flags s held =
      as-some names decks flags s held lt (find s.lib r) (find-flat s.lib r (omega (arith, known names decks flags s held)))

-- THE PLACE OF TEXT, behind a card and ahead of it
stood-place : (ds : List Deck) (k i : ℕ) → Stood (map deck_cards ds) k i → HasPlace ds k i
stood-place [] k i h = absurd h
stood-place (d ∷ ds) zero i h = omega (arith, h)
stood-place (d ∷ ds) (suc k) i h = stood-place ds k i h

ahead-place : (ds : List Deck) (k i : ℕ) → Stood (map deck_cards ds) k (suc i) → HasPlace ds k i
ahead-place [] k i h = absurd h
ahead-place (d ∷ ds) zero i h = omega (arith, h)
ahead-place (d ∷ ds) (suc k) i h = ahead-place ds k i h

place-behind : (l : Library) (p i n : ℕ) → Stood (parts l) p i → eqb p 0 ≡ false → n ≡ ahead (parts l) p + i + 1 → TextGoes l n TextGap (in_deck (p - 1) i)
place-behind l zero i n h e q = let z : ◌≡◌ {A = ℕ} 0 1 = cc in absurd (omega arith)
place-behind l (suc k) i n h e q =
    let m : k ≡ suc k - 1 = omega arith in
    subst (λ (j : ℕ). HasPlace l.decks j i × (n ≡ flat_place l j i)) m (stood-place l.decks k i h, omega (arith, q))

place-ahead : (l : Library) (p i n : ℕ) → Stood (parts l) p i → eqb p 0 ≡ false → eqb i 0 ≡ false → n ≡ ahead (parts l) p + i → TextGoes l n TextGap (in_deck (p - 1) (i - 1))
place-ahead l zero i n h e f q = let z : ◌≡◌ {A = ℕ} 0 1 = cc in absurd (omega arith)
place-ahead l (suc k) zero n h e f q = let z : ◌≡◌ {A = ℕ} 0 1 = cc in absurd (omega arith)
place-ahead l (suc k) (suc i) n h e f q =
    let m : k ≡ suc k - 1 = omega arith in
    let j : i ≡ suc i - 1 = omega arith in
    subst (λ (x : ℕ). TextGoes l n TextGap (in_deck x (suc i - 1))) m
    (subst (λ (x : ℕ). TextGoes l n TextGap (in_deck k x)) j (ahead-place l.decks k i h, omega (arith, q)))

-- THE GAP MOVED: the state with text at the gap
pub moved-sane : (w v : List ℕ) (d : Desk) (h : Gap) (n : ℕ) → Sane w d → length v ≡ length w → Ordered w h → n ≤ d.cards → Sane v (moved_desk d h n)
moved-sane w v d h n sane same o few =
    record {
      ordered = (o.0, omega (arith, o.1, same));
      room = same ∙ sane.room;
      entries = sane.entries;
      decks = sane.decks;
      cards = sane.cards;
      next = sane.next;
      yanks = sane.yanks;
      low = few;
    }

module _ (w v dir names decks flags line : List ℕ) (d : Desk) (h : Gap) (s : State) (held : Held w dir names decks flags d s) where
  cut-length : (n : ℕ) → n ≤ length (stream s.lib) → length (take n (held.below ++ held.above)) ≡ n
  cut-length n le = length-take-le n (held.below ++ held.above) (subst (λ (cs : List Card). n ≤ length cs) (sym held.whole) le)

  moved-held : (n : ℕ) (p : TextPlace) → length (take n (held.below ++ held.above)) ≡ n → step s line ≡ went (with_place s p) → Work v h (yanked s.lib 0) (take n (held.below ++ held.above)) (drop n (held.below ++ held.above))
      → TextGoes s.lib (length (take n (held.below ++ held.above))) TextGap p → Answered v dir names decks flags (Ok (moved_desk d h n)) (step s line)
  moved-held n p cut e work goes = subst (λ (x : Step). Answered v dir names decks flags (Ok (moved_desk d h n)) x) (sym e) new
    where
      safe : Safe (with_place s p)
      safe = subst (Went Safe) e (step-safe s line held.safe)

      new : Held v dir names decks flags (moved_desk d h n) (with_place s p)
      new = record {
        below = take n (held.below ++ held.above);
        above = drop n (held.below ++ held.above);
        work = work;
        whole = take-append-drop n (held.below ++ held.above) ∙ held.whole;
        low = sym cut;
        cards = held.cards;
        tables = record { directory = held.tables.directory; entries = held.tables.entries; listed = held.tables.listed; count = held.tables.count; marked = held.tables.marked };
        yanks = held.yanks;
        leads = held.leads;
        settled = held.settled;
        set = held.set;
        next = held.next;
        place = goes;
        safe = safe;
      }

off : (w dir names decks flags : List ℕ) (y : Why) (r q : Step) → r ≡ q → q ≡ refused y → Answered w dir names decks flags (Err y) r
off w dir names decks flags y r q e f = subst (λ (x : Step). Answered w dir names decks flags (Err y) x) (sym (e ∙ f)) refl

-- a correction: outside a set 24, else what it asks of the card
abbrev ask : State → Bool → (Option Spot → Step) → Option Spot → Step
ask s b f o = refuse (not b) Nowhere (f o)

-- INSERT
module _ (w dir : List ℕ) (d : Desk) (r : CardName) (v names decks flags line : List ℕ) (s : State) (asks : directive line ≡ Insert r) (held : Held w dir names decks flags d s) where
  insert-obeyed : (b : Bool) (o : Option Spot) → d.set ≡ b → find s.lib r ≡ o → step s line ≡ ask s b (insert_after s) o
  unfolding step
  insert-obeyed b o e f = ap (obey s line) asks ∙ ap₂ (λ (x : Bool) (y : Option Spot). refuse (not x) Nowhere (insert_after s y)) (sym held.set ∙ e) f

  insert-no-set : d.set ≡ false → Answered v dir names decks flags (Err Nowhere) (step s line)
  insert-no-set e = off v dir names decks flags Nowhere (step s line) _ (insert-obeyed false (find s.lib r) e refl) refl

  module _ (on : d.set ≡ true) where
    insert-none : (o : Option Spot) → find s.lib r ≡ o → SoughtAs s.lib d.gap held.below held.above r None o
        → Answered v dir names decks flags (Err NoCard) (step s line)
    insert-none none e h = off v dir names decks flags NoCard (step s line) _ (insert-obeyed true none on e) refl
    insert-none (some a) e h = absurd h

  module _ (on : d.set ≡ true) (f : Sought) where
    insert-barred : f.index < d.yanks → (o : Option Spot) → find s.lib r ≡ o → SoughtAs s.lib d.gap held.below held.above r (Some f) o
        → Answered v dir names decks flags (Err Barred) (step s line)
    insert-barred y none e h = absurd h
    insert-barred y (some a) e h =
        off v dir names decks flags Barred (step s line) _ (insert-obeyed true (some a) on e)
        (ap (λ (b : Bool). refuse b Barred (went (with_place s (place_after a))))
        (yank-part-flat s.lib a h.stood ∙ ltb_yes (flat s.lib a) (length s.lib.yanks) (omega (arith, h.index, held.yanks))))

    insert-went : f.index < d.cards → d.yanks ≤ f.index → (g : Gap) → OpensAfter w d.gap f.at v g → (o : Option Spot) → find s.lib r ≡ o
        → SoughtAs s.lib d.gap held.below held.above r (Some f) o → Answered v dir names decks flags (Ok (moved_desk d g (f.index + 1))) (step s line)
    insert-went lt y g opens none e h = absurd h
    insert-went lt y g opens (some a) e h =
        let part : is_yank_part a ≡ false = yank-part-flat s.lib a h.stood ∙ ltb_no (flat s.lib a) (length s.lib.yanks) (omega (arith, h.index, held.yanks)) in
        let here : f.index < length (held.below ++ held.above) = subst (λ (cs : List Card). f.index < length cs) (sym held.whole) (omega (arith, held.cards)) in
        let within : f.index + 1 ≤ length (stream s.lib) = omega (arith, held.cards) in
        let cut : length (take (f.index + 1) (held.below ++ held.above)) ≡ f.index + 1 = cut-length w v dir names decks flags line d g s held (f.index + 1) within in
        moved-held w v dir names decks flags line d g s held (f.index + 1) (in_deck (a.part - 1) a.index) cut
        (insert-obeyed true (some a) on e ∙ ap (λ (b : Bool). refuse b Barred (went (with_place s (if b then in_yanks else in_deck (a.part - 1) a.index)))) part)
        (opens (yanked s.lib 0) held.below held.above f.index held.work h.stands here)
        (place-behind s.lib a.part a.index (length (take (f.index + 1) (held.below ++ held.above))) h.stood part (omega (arith, cut, h.index)))

pub insert-off : (w dir : List ℕ) (d : Desk) (r : CardName) (v : List ℕ) → d.set ≡ false → InsertSteps w dir d r v (Err Nowhere)
insert-off w dir d r v e names decks flags line s asks held = insert-no-set w dir d r v names decks flags line s asks held e

pub insert-missing : (w dir : List ℕ) (d : Desk) (r : CardName) (v : List ℕ) → d.set ≡ true → SeeksCard w dir d r None → InsertSteps w dir d r v (Err NoCard)
insert-missing w dir d r v on seeks names decks flags line s asks held = insert-none w dir d r v names decks flags line s asks held on (find s.lib r) refl (seeks names decks flags s held)

module _ (w dir : List ℕ) (d : Desk) (r : CardName) (v : List ℕ) (on : d.set ≡ true) (f : Sought) (seeks : SeeksCard w dir d r (Some f)) where
  pub insert-yanks : f.index < d.yanks → InsertSteps w dir d r v (Err Barred)
  insert-yanks y names decks flags line s asks held = insert-barred w dir d r v names decks flags line s asks held on f y (find s.lib r) refl (seeks names decks flags s held)

  pub insert-on : f.index < d.cards → d.yanks ≤ f.index → (g : Gap) → OpensAfter w d.gap f.at v g → InsertSteps w dir d r v (Ok (moved_desk d g (f.index + 1)))
  insert-on lt y g opens names decks flags line s asks held = insert-went w dir d r v names decks flags line s asks held on f lt y g opens (find s.lib r) refl (seeks names decks flags s held)

-- BEFORE
module _ (w dir : List ℕ) (d : Desk) (r : CardName) (v names decks flags line : List ℕ) (s : State) (asks : directive line ≡ Before r) (held : Held w dir names decks flags d s) where
  before-obeyed : (b : Bool) (o : Option Spot) → d.set ≡ b → find s.lib r ≡ o → step s line ≡ ask s b (insert_before s) o
  unfolding step
  before-obeyed b o e f = ap (obey s line) asks ∙ ap₂ (λ (x : Bool) (y : Option Spot). refuse (not x) Nowhere (insert_before s y)) (sym held.set ∙ e) f

  before-no-set : d.set ≡ false → Answered v dir names decks flags (Err Nowhere) (step s line)
  before-no-set e = off v dir names decks flags Nowhere (step s line) _ (before-obeyed false (find s.lib r) e refl) refl

  module _ (on : d.set ≡ true) where
    before-none : (o : Option Spot) → find s.lib r ≡ o → SoughtAs s.lib d.gap held.below held.above r None o
        → Answered v dir names decks flags (Err NoCard) (step s line)
    before-none none e h = off v dir names decks flags NoCard (step s line) _ (before-obeyed true none on e) refl
    before-none (some a) e h = absurd h

  module _ (on : d.set ≡ true) (f : Sought) where
    -- whether the card is a deck card, by its owner and number
    is-titled : f.index < d.cards → (a : Spot) → SoughtAt s.lib d.gap held.below held.above r f a → is_deck_spot a ≡ (eqb r.seq 1 && flagged decks f.own)
    is-titled lt a h =
        deck-spot-named s.lib held.safe.sound f.own r.seq a h.stood (h.index ∙ h.first) (omega (arith, h.first, held.cards))
        ∙ ap (λ (b : Bool). eqb r.seq 1 && b) (sym (held.tables.marked f.own))

    barred : (a : Spot) → (is_yank_part a || is_deck_spot a) ≡ true → find s.lib r ≡ some a → Answered v dir names decks flags (Err Barred) (step s line)
    barred a q e =
        off v dir names decks flags Barred (step s line) _ (before-obeyed true (some a) on e)
        (ap (λ (b : Bool). refuse b Barred (went (with_place s (in_deck (a.part - 1) (a.index - 1))))) q)

    before-barred : f.index < d.yanks → (o : Option Spot) → find s.lib r ≡ o → SoughtAs s.lib d.gap held.below held.above r (Some f) o
        → Answered v dir names decks flags (Err Barred) (step s line)
    before-barred y none e h = absurd h
    before-barred y (some a) e h =
        barred a (ap (λ (b : Bool). b || is_deck_spot a)
        (yank-part-flat s.lib a h.stood ∙ ltb_yes (flat s.lib a) (length s.lib.yanks) (omega (arith, h.index, held.yanks)))) e

    or-true : (a b : Bool) → b ≡ true → (a || b) ≡ true
    or-true true b e = refl
    or-true false b e = e

    before-titled : f.index < d.cards → (eqb r.seq 1 && flagged decks f.own) ≡ true → (o : Option Spot) → find s.lib r ≡ o → SoughtAs s.lib d.gap held.below held.above r (Some f) o
        → Answered v dir names decks flags (Err Barred) (step s line)
    before-titled lt m none e h = absurd h
    before-titled lt m (some a) e h = barred a (or-true (is_yank_part a) (is_deck_spot a) (is-titled lt a h ∙ m)) e

    before-went : f.index < d.cards → d.yanks ≤ f.index → (eqb r.seq 1 && flagged decks f.own) ≡ false → (g : Gap) → OpensAhead w d.gap f.at v g
        → (o : Option Spot) → find s.lib r ≡ o → SoughtAs s.lib d.gap held.below held.above r (Some f) o → Answered v dir names decks flags (Ok (moved_desk d g f.index)) (step s line)
    before-went lt y m g opens none e h = absurd h
    before-went lt y m g opens (some a) e h =
        let part : is_yank_part a ≡ false = yank-part-flat s.lib a h.stood ∙ ltb_no (flat s.lib a) (length s.lib.yanks) (omega (arith, h.index, held.yanks)) in
        let deck : is_deck_spot a ≡ false = is-titled lt a h ∙ m in
        let index : eqb a.index 0 ≡ false = ap (λ (b : Bool). not b && eqb a.index 0) (sym part) ∙ deck in
        let here : f.index ≤ length (held.below ++ held.above) = subst (λ (cs : List Card). f.index ≤ length cs) (sym held.whole) (omega (arith, held.cards)) in
        let within : f.index ≤ length (stream s.lib) = omega (arith, held.cards) in
        let cut : length (take f.index (held.below ++ held.above)) ≡ f.index = cut-length w v dir names decks flags line d g s held f.index within in
        moved-held w v dir names decks flags line d g s held f.index (in_deck (a.part - 1) (a.index - 1)) cut
        (before-obeyed true (some a) on e ∙ ap₂ (λ (b c : Bool). refuse (b || c) Barred (went (with_place s (in_deck (a.part - 1) (a.index - 1))))) part deck)
        (opens (yanked s.lib 0) held.below held.above f.index held.work h.stands here)
        (place-ahead s.lib a.part a.index (length (take f.index (held.below ++ held.above))) h.stood part index (omega (arith, cut, h.index)))

pub before-off : (w dir decks : List ℕ) (d : Desk) (r : CardName) (v : List ℕ) → d.set ≡ false → BeforeSteps w dir decks d r v (Err Nowhere)
before-off w dir decks d r v e names flags line s asks held = before-no-set w dir d r v names decks flags line s asks held e

pub before-missing : (w dir decks : List ℕ) (d : Desk) (r : CardName) (v : List ℕ) → d.set ≡ true → SeeksCard w dir d r None → BeforeSteps w dir decks d r v (Err NoCard)
before-missing w dir decks d r v on seeks names flags line s asks held = before-none w dir d r v names decks flags line s asks held on (find s.lib r) refl (seeks names decks flags s held)

module _ (w dir decks : List ℕ) (d : Desk) (r : CardName) (v : List ℕ) (on : d.set ≡ true) (f : Sought) (seeks : SeeksCard w dir d r (Some f)) where
  pub before-yanks : f.index < d.yanks → BeforeSteps w dir decks d r v (Err Barred)
  before-yanks y names flags line s asks held = before-barred w dir d r v names decks flags line s asks held on f y (find s.lib r) refl (seeks names decks flags s held)

  pub before-deck : f.index < d.cards → titled decks f.own r.seq ≡ true → BeforeSteps w dir decks d r v (Err Barred)
  before-deck lt m names flags line s asks held = before-titled w dir d r v names decks flags line s asks held on f lt m (find s.lib r) refl (seeks names decks flags s held)

  pub before_on : f.index < d.cards → d.yanks ≤ f.index → titled decks f.own r.seq ≡ false → (g : Gap) → OpensAhead w d.gap f.at v g
      → BeforeSteps w dir decks d r v (Ok (moved_desk d g f.index))
  before_on lt y m g opens names flags line s asks held = before-went w dir d r v names decks flags line s asks held on f lt y m g opens (find s.lib r) refl (seeks names decks flags s held)

-- a card that is sought, or 28
pub present : (o : Answer Sought) (m : Result Sought Why) (f : Sought) → m ≡ ok_or o NoCard → m ≡ Ok f → o ≡ Some f
present None m f e q = absurd (cc)
present (Some k) m f e q = cc

pub absent : (o : Answer Sought) (m : Result Sought Why) (y : Why) → m ≡ ok_or o NoCard → m ≡ Err y → (o ≡ None) × (y ≡ NoCard)
absent None m y e q = (refl, cc)
absent (Some k) m y e q = absurd (cc)

-- the test `!b`
pub not_taken : (b : Bool) → not b ≡ true → b ≡ false
not_taken true e = sym e
not_taken false e = refl

pub not_left : (b : Bool) → not b ≡ false → b ≡ true
not_left true e = refl
not_left false e = sym e
