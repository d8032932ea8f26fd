-- What is sound under a directory is sound, raised, where that directory follows another.
-- This is where the kinds of target are told apart.
use Rattle.std.specs.Prelude.{if◌then◌else◌}
use Prim.Native.Nat.{ℕ, suc, ◌+◌, ◌-◌, ◌≤◌, ◌<◌}
use native.Mathlib.Omega.{arith}
use mathlib.Core.Path.{◌≡◌, refl, sym, ap, ap₂, ◌∙◌, subst}
use mathlib.Core.Bool.{◌||◌, Bool, true, false, ◌&&◌, not}
use mathlib.Core.List.{List, [], ◌∷◌, ◌++◌, map}
use borrow.Author.Tests.{eq-eqb, ne_eqb}
use lib.Dec.{T, eqb, eqb→eq, eqb_refl, ltb, leb, lt→ltb, le→leb, ltb→lt, leb→le}
use lib.ListN.{length}
use Rattle.words.specs.Base.{any, all, member}
use Rattle.words.specs.Names.{is_name_word}
use Rattle.words.proofs.TestParts.{and_both}
use Rattle.words_lines.specs.Directive.{directive, yank_names}
use Rattle.library.specs.Each.{Each}
use Rattle.library.specs.Library.{Byte, Card, Deck, deck_of, history, deck_card, name_at, entry_of}
use Rattle.library.specs.Yanks.{Target, whole_set, covers, is_yank, targets}
use Rattle.library.specs.Check.{ok_target}
use Rattle.library.specs.Sound.{is_entry, never_falls, BeginsNoDeck, SoundCard, SoundDeck}
use Rattle.library.proofs.EachTest.{each_map, each-of-map, and_parts, all-each, each_all}
use Rattle.library.proofs.EntryNames.{any_at, name-at}
use Rattle.library.proofs.NameAtEnd.{entry-some}
use Rattle.library.proofs.YankTargets.{deck-number}
use Rattle.library_raise.specs.RaisedCards.{raise_byte, raise_card, raise_deck}
use Rattle.merge_meaning.specs.Merged.{raise_deck_number}
use Rattle.library.proofs.NumbersBeyond.{entry-beyond, name-beyond, named-beyond}
use Rattle.library.proofs.EntryNames.{not-purged}
use Rattle.library.proofs.YankNames.{yank-named}
use Rattle.merge_meaning.proofs.NamesApart.{Apart, not_first}

falls-raise : (k n : ℕ) (bs : List Byte) → T (never_falls n bs) → T (never_falls (k + n) (map (raise_byte k) bs))
falls-raise k n [] t = tt
falls-raise k n (b ∷ bs) t =
    let q = and_parts (leb n b.number) (never_falls b.number bs) t in
    let le : n ≤ b.number = leb→le n b.number q.0 in
    and_both (leb (k + n) (k + b.number)) (never_falls (k + b.number) (map (raise_byte k) bs)) (le→leb (k + n) (k + b.number) (omega arith)) (falls-raise k b.number bs q.1)

-- CARDS AND DECKS
module _ (first second : List ℕ) where
  abbrev up : ℕ
  up = length first

  pub card-raise : (c : Card) → SoundCard second c → SoundCard (first ++ second) (raise_card up c)
  card-raise c s = record {
    line = s.line;
    numbered = s.numbered;
    fits = s.fits;
    named = each_all (λ b. is_entry (first ++ second) b.number) (history (raise_card up c))
        (each-of-map (λ b. T (is_entry (first ++ second) b.number)) (raise_byte up) (history c)
        (each_map _ _ (λ b t. named-beyond first second b.number t) (history c) (all-each (λ b. is_entry second b.number) (history c) s.named)));
    rises = falls-raise up c.owner c.later s.rises;
  }

  pub cards-raise : (cs : List Card) → Each (SoundCard second) cs → Each (SoundCard (first ++ second)) (map (raise_card up) cs)
  cards-raise cs h = each-of-map (SoundCard (first ++ second)) (raise_card up) cs (each_map _ _ card-raise cs h)

  pub others-raise : (cs : List Card) → Each BeginsNoDeck cs → Each BeginsNoDeck (map (raise_card up) cs)
  others-raise cs h = each-of-map BeginsNoDeck (raise_card up) cs h

  pub deck-raise : (d : Deck) → SoundDeck second d → SoundDeck (first ++ second) (raise_deck up d)
  deck-raise d s = record {
    title = s.title ∙ ap (deck_of d.common) (sym (name-beyond first second d.number (deck-number second d s).0));
    first = card-raise (deck_card d) s.first;
    cards = cards-raise d.cards s.cards;
    others = others-raise d.cards s.others;
  }

-- THE KINDS OF TARGET
abbrev pub raise_target : ℕ → Target → Target
raise_target k (whole_set n) = whole_set (k + n)

pub eqb-raise : (k n m : ℕ) → eqb (k + n) (k + m) ≡ eqb n m
eqb-raise k n m = go (eqb n m) (eqb→eq n m) (λ e. eqb-refl-at e)
  where
    eqb-refl-at : n ≡ m → T (eqb n m)
    eqb-refl-at e = subst (λ (x : ℕ). T (eqb n x)) e (eqb_refl n)

    go : (c : Bool) → (T c → n ≡ m) → (n ≡ m → T c) → eqb (k + n) (k + m) ≡ c
    go true f g = let e : n ≡ m = f tt in eq-eqb (k + n) (k + m) (ap (λ (x : ℕ). k + x) e)
    go false f g = ne_eqb (k + n) (k + m) (λ e. g (omega arith))

pub covers-raise : (k deck n : ℕ) (t : Target) → covers (raise_deck_number k deck) (k + n) (raise_target k t) ≡ covers deck n t
covers-raise k deck n (whole_set m) = eqb-raise k n m

pub any-raise : (k deck n : ℕ) (ts : List Target) → any (covers (raise_deck_number k deck) (k + n)) (map (raise_target k) ts) ≡ any (covers deck n) ts
any-raise k deck n [] = refl
any-raise k deck n (t ∷ ts) = ap₂ ◌||◌ (covers-raise k deck n t) (any-raise k deck n ts)

-- a raised target covers no number up to k
pub raise-low : (k deck n : ℕ) → n ≤ k → (directory names : List ℕ) (own : ℕ) (ts : List Target) → Each (λ t. T (ok_target directory names own t)) ts
    → any (covers deck n) (map (raise_target k) ts) ≡ false
raise-low k deck n le directory names own [] h = refl
raise-low k deck n le directory names own (whole_set m ∷ ts) h =
    let p = and_parts (ltb 0 m && ltb m own) (not (member (name_at directory m) names)) h.0 in
    let pos : 0 < m = ltb→lt 0 m (and_parts (ltb 0 m) (ltb m own) p.0).0 in
    ap₂ ◌||◌ (ne_eqb n (k + m) (λ e. omega arith)) (raise-low k deck n le directory names own ts h.1)

-- what a card acts on has a number, which is lower than its owner's: it covers neither 0 nor the owner's number or one above it
pub none-covers : (deck n : ℕ) (directory names : List ℕ) (own : ℕ) → (0 < n → own ≤ n) → (ts : List Target) → Each (λ t. T (ok_target directory names own t)) ts
    → any (covers deck n) ts ≡ false
none-covers deck n directory names own out [] h = refl
none-covers deck n directory names own out (whole_set m ∷ ts) h =
    let p = and_parts (ltb 0 m && ltb m own) (not (member (name_at directory m) names)) h.0 in
    let q = and_parts (ltb 0 m) (ltb m own) p.0 in
    let pos : 0 < m = ltb→lt 0 m q.0 in
    let lt : m < own = ltb→lt m own q.1 in
    ap₂ ◌||◌ (ne_eqb n m (λ e. let o : own ≤ n = out (omega arith) in omega arith)) (none-covers deck n directory names own out ts h.1)

-- and one of the first covers none above k
pub first-high : (k deck n : ℕ) → 0 < n → (directory names : List ℕ) (own : ℕ) → own ≤ suc k → (ts : List Target) → Each (λ t. T (ok_target directory names own t)) ts
    → any (covers deck (k + n)) ts ≡ false
first-high k deck n pos directory names own le ts h = none-covers deck (k + n) directory names own (λ q. omega arith) ts h

module _ (first second : List ℕ) (a : Apart first second) where
  -- names have their numbers raised
  names-raise : (deck_words : List ℕ) (own : ℕ) (ws : List ℕ) → Each (λ w. T (is_name_word w)) ws
      → Each (λ t. T (ok_target second deck_words own t)) (map (λ w. whole_set (entry_of second w)) ws)
      → map (λ w. whole_set (entry_of (first ++ second) w)) ws ≡ map (raise_target (length first)) (map (λ w. whole_set (entry_of second w)) ws)
  names-raise deck_words own [] n h = refl
  names-raise deck_words own (w ∷ ws) n h =
      let m : ℕ = entry_of second w in
      let p = and_parts (ltb 0 m && ltb m own) (not (member (name_at second m) deck_words)) h.0 in
      let pos : 0 < m = ltb→lt 0 m (and_parts (ltb 0 m) (ltb m own) p.0).0 in
      let no : T (not (member w first)) = not_first first second a w (not-purged w n.0) (entry-some second w pos).0 in
      ap₂ {C = List Target} ◌∷◌ (ap whole_set (entry-beyond first second w no pos)) (names-raise deck_words own ws n.1 h.1)

  pub targets-raise : (deck_words : List ℕ) (own : ℕ) (l : List ℕ) → Each (λ t. T (ok_target second deck_words own t)) (targets second l)
      → targets (first ++ second) l ≡ map (raise_target (length first)) (targets second l)
  unfolding targets
  targets-raise deck_words own l h = go (is_yank (directive l)) (yank-named l) h
    where
      go : (c : Bool) → (T c → Each (λ w. T (is_name_word w)) (yank_names l))
          → Each (λ t. T (ok_target second deck_words own t)) (if c then map (λ w. whole_set (entry_of second w)) (yank_names l) else [])
          → (if c then map (λ w. whole_set (entry_of (first ++ second) w)) (yank_names l) else [])
          ≡ map (raise_target (length first)) (if c then map (λ w. whole_set (entry_of second w)) (yank_names l) else [])
      go true n k = names-raise deck_words own (yank_names l) (n tt) k
      go false n k = refl

  -- a set of the second stays one: it is below the owner, and its name on no longer deck list
  target-raise : (deck_words longer : List ℕ) (own : ℕ) (t : Target) → own ≤ length second
      → ((x : ℕ) → T (member x second) → T (not (member x deck_words)) → T (not (member x longer)))
      → T (ok_target second deck_words own t) → T (ok_target (first ++ second) longer (length first + own) (raise_target (length first) t))
  target-raise deck_words longer own (whole_set n) le f t =
      let k : ℕ = length first in
      let p = and_parts (ltb 0 n && ltb n own) (not (member (name_at second n) deck_words)) t in
      let q = and_parts (ltb 0 n) (ltb n own) p.0 in
      let pos : 0 < n = ltb→lt 0 n q.0 in
      let lt : n < own = ltb→lt n own q.1 in
      let here : T (member (name_at second n) second) = any_at (eqb (name_at second n)) second (n - 1) (omega arith) (subst (λ (x : ℕ). T (eqb (name_at second n) x)) (name-at second n pos) (eqb_refl (name_at second n))) in
      and_both (ltb 0 (k + n) && ltb (k + n) (k + own)) (not (member (name_at (first ++ second) (k + n)) longer))
      (and_both (ltb 0 (k + n)) (ltb (k + n) (k + own)) (lt→ltb 0 (k + n) (omega arith)) (lt→ltb (k + n) (k + own) (omega arith)))
      (subst (λ (x : ℕ). T (not (member x longer))) (sym (name-beyond first second n pos)) (f (name_at second n) here p.1))

  pub yank-raise : (deck_words longer : List ℕ) (c : Card) → c.owner ≤ length second
      → ((x : ℕ) → T (member x second) → T (not (member x deck_words)) → T (not (member x longer)))
      → T (is_yank (directive c.line) && all (ok_target second deck_words c.owner) (targets second c.line))
      → T (is_yank (directive c.line) && all (ok_target (first ++ second) longer (length first + c.owner)) (targets (first ++ second) c.line))
  yank-raise deck_words longer c le f t =
      let k : ℕ = length first in
      let p = and_parts (is_yank (directive c.line)) (all (ok_target second deck_words c.owner) (targets second c.line)) t in
      let h = all-each (ok_target second deck_words c.owner) (targets second c.line) p.1 in
      and_both (is_yank (directive c.line)) (all (ok_target (first ++ second) longer (k + c.owner)) (targets (first ++ second) c.line)) p.0
      (subst (λ (ts : List Target). T (all (ok_target (first ++ second) longer (k + c.owner)) ts)) (sym (targets-raise deck_words c.owner c.line h))
      (each_all (ok_target (first ++ second) longer (k + c.owner)) (map (raise_target k) (targets second c.line))
      (each-of-map (λ x. T (ok_target (first ++ second) longer (k + c.owner) x)) (raise_target k) (targets second c.line)
      (each_map _ _ (λ x u. target-raise deck_words longer c.owner x le f u) (targets second c.line) h))))
