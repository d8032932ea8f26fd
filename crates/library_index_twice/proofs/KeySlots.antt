-- Keys of which each comes to a slot that no key ahead has marked are all different. Assumes nothing.
--   Marking, mark-..         the slots of the keys ahead are marked
use Prim.Native.Nat.{ℕ, ◌+◌, ◌≤◌, ◌<◌}
use native.Mathlib.Omega.{arith}
use mathlib.Core.Path.{◌≡◌, refl, sym, ap, ◌∙◌}
use mathlib.Core.Bool.{Bool, true, false}
use mathlib.Core.List.{List}
use lib.Dec.{eqb}
use lib.ListN.{length, get_or, set, length-set}
use lib.Seq.{get_or-set_same, get_or-set_other}
use borrow.Author.Tests.{eqb-true, eqb-false}
use borrow.Author.Count.{below_more}
use Rattle.std.specs.Prelude.{Some}
use Rattle.words.specs.Base.{member}
use Rattle.words_lists.specs.Ahead.{ahead_of}
use Rattle.library_index_twice.specs.Slots.{slot_of}
use Rattle.library_index_twice.proofs.KeysAhead.{not-ahead, Until, until-on}

-- a key has a slot, with a mark
abbrev Marked : List ℕ → List Bool → ℕ → Type 0
Marked starts marks key = (s : ℕ) × (slot_of starts key ≡ Some s) × (get_or marks s false ≡ true)

-- THE MARKS: the first n keys have slots with marks, and none of these stands twice
pub record Marking (keys starts : List ℕ) (marks : List Bool) (n : ℕ) : Type 0 where
  pub long : length marks ≡ 65536
  pub marked : (m : ℕ) → m < n → Marked starts marks (get_or keys m 0)
  pub within : n ≤ length keys
  pub until : Until keys n

module _ (keys starts : List ℕ) (marks : List Bool) (n : ℕ) (h : Marking keys starts marks n) where
  module _ (lt : n < length keys) (s : ℕ) (is : slot_of starts (get_or keys n 0) ≡ Some s) (low : s < 65536) (free : get_or marks s false ≡ false) where
    abbrev key : ℕ
    key = get_or keys n 0

    -- a key with this slot ahead would have marked it
    new : member key (ahead_of n keys) ≡ false
    new = not-ahead key n keys (λ m p e. clash (get_or keys m 0) e (h.marked m p))
      where
        clash : (k : ℕ) → k ≡ key → Marked starts marks k → ⊥
        clash k e w =
            let here : slot_of starts key ≡ Some w.0 = ap (slot_of starts) (sym e) ∙ w.1 in
            let z : w.0 ≡ s = cc in
            let both : ◌≡◌ {A = Bool} true false = sym w.2 ∙ ap (λ (i : ℕ). get_or marks i false) z ∙ free in cc

    this : get_or (set marks s true) s false ≡ true
    this = get_or-set_same marks s true false (omega (arith, h.long))

    still : (k : ℕ) → Marked starts marks k → Marked starts (set marks s true) k
    still k w = go (eqb w.0 s) refl
      where
        go : (b : Bool) → eqb w.0 s ≡ b → Marked starts (set marks s true) k
        go true e = (w.0, w.1, ap (λ (i : ℕ). get_or (set marks s true) i false) (eqb-true w.0 s e) ∙ this)
        go false e = (w.0, w.1, get_or-set_other marks s w.0 true false (eqb-false w.0 s e) ∙ w.2)

    pub mark_on : Marking keys starts (set marks s true) (n + 1)
    mark_on = record {
      long = length-set marks s true ∙ h.long;
      marked = below_more (λ m. Marked starts (set marks s true) (get_or keys m 0)) n (λ m p. still (get_or keys m 0) (h.marked m p)) (s, is, this);
      within = omega (arith, lt);
      until = until-on keys n h.until lt new;
    }
