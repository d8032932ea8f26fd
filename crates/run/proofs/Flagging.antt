-- Flags cleared from the first on, then those of a list's numbers set one after another.
use Prim.Native.Nat.{ℕ, suc, ◌+◌, ◌-◌, ◌≤◌, ◌<◌}
use native.Mathlib.Omega.{arith}
use mathlib.Core.Path.{◌≡◌, refl, sym, ap, ap₂, ◌∙◌}
use mathlib.Core.Bool.{Bool, true, false, ◌||◌, not}
use mathlib.Core.List.{List, ◌∷◌, map}
use lib.Dec.{eqb}
use lib.ListN.{length, take, drop, set, get_or, drop_of_length-le}
use lib.Seq.{drop-cons, get_or-set_same, get_or-set_other}
use Rattle.words.proofs.TestParts.{or-false, or-true}
use Rattle.words.specs.Base.{member}
use Rattle.library_yanks_bits.specs.SettledBits.{flagged}
use Rattle.library_index.proofs.Zeros.{zeros, zeros-zero}
use Rattle.run.specs.Loaded.{NoFlags}
use Rattle.run_meaning.proofs.FlatFind.{compared, eqb_yes, eqb_no}

-- cleared, no number is flagged
pub no-flags : (n : ℕ) (flags : List ℕ) → flags ≡ zeros n → NoFlags flags
unfolding flagged
no-flags n flags e m = ap (λ (k : ℕ). not (eqb k 0)) (ap (λ (l : List ℕ). get_or l m 0) e ∙ zeros-zero n m)

-- SET: the numbers `of` the names from i on are still to do
abbrev pub StillFlags : (ℕ → ℕ) → List ℕ → ℕ → List ℕ → Type 0
StillFlags of names i flags = (m : ℕ) → (flagged flags m || member m (map of (drop i names))) ≡ member m (map of names)

flag-set : (flags : List ℕ) (n m : ℕ) → n < length flags → flagged (set flags n 1) m ≡ (flagged flags m || eqb m n)
unfolding flagged
flag-set flags n m within =
    compared _ m n
    (λ a. other (λ e. omega arith))
    (λ e. ap (λ (k : ℕ). not (eqb (get_or (set flags n 1) k 0) 0)) e ∙ ap (λ (k : ℕ). not (eqb k 0)) (get_or-set_same flags n 1 0 within) ∙ sym (or-true (not (eqb (get_or flags m 0) 0))) ∙ ap (λ (b : Bool). not (eqb (get_or flags m 0) 0) || b) (sym (eqb_yes m n e)))
    (λ a. other (λ e. omega arith))
  where
    other : (m ≡ n → ⊥) → not (eqb (get_or (set flags n 1) m 0) 0) ≡ (not (eqb (get_or flags m 0) 0) || eqb m n)
    other ne =
        ap (λ (k : ℕ). not (eqb k 0)) (get_or-set_other flags n m 1 0 ne)
        ∙ sym (or-false (not (eqb (get_or flags m 0) 0))) ∙ ap (λ (b : Bool). not (eqb (get_or flags m 0) 0) || b) (sym (eqb_no m n ne))

or_parts : (a b c : Bool) → ((a || b) || c) ≡ (a || (b || c))
or_parts true b c = refl
or_parts false b c = refl

pub flag-start : (of : ℕ → ℕ) (names flags : List ℕ) → NoFlags flags → StillFlags of names 0 flags
flag-start of names flags h m = ap (λ (b : Bool). b || member m (map of names)) (h m)

pub flag-more : (of : ℕ → ℕ) (names : List ℕ) (i : ℕ) (flags : List ℕ) (e : ℕ) → i < length names → e < length flags → e ≡ of (get_or names i 0)
    → StillFlags of names i flags → StillFlags of names (i + 1) (set flags e 1)
flag-more of names i flags e lt within is h m =
    let here : drop i names ≡ get_or names i 0 ∷ drop (suc i) names = drop-cons names i 0 lt in
    let next : i + 1 ≡ suc i = omega arith in
    ap₂ (λ (b : Bool) (j : ℕ). b || member m (map of (drop j names))) (flag-set flags e m within) next
    ∙ or_parts (flagged flags m) (eqb m e) (member m (map of (drop (suc i) names)))
    ∙ ap (λ (x : ℕ). flagged flags m || (eqb m x || member m (map of (drop (suc i) names)))) is
    ∙ ap (λ (r : List ℕ). flagged flags m || member m (map of r)) (sym here)
    ∙ h m

pub flag-end : (of : ℕ → ℕ) (names : List ℕ) (i : ℕ) (flags : List ℕ) → length names ≤ i → StillFlags of names i flags → (m : ℕ) → flagged flags m ≡ member m (map of names)
flag-end of names i flags done h m =
    or-none (flagged flags m) ∙ ap (λ (r : List ℕ). flagged flags m || member m (map of r)) (sym (drop_of_length-le names {i = i} done)) ∙ h m
  where
    or-none : (a : Bool) → a ≡ (a || false)
    or-none true = refl
    or-none false = refl
