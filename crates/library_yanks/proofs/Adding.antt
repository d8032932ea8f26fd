-- A name's flag is one of the flags, and is added to them. Assumes nothing.
--   entry-within, flag-add
use Rattle.std.specs.Prelude.{if◌then◌else◌}
use Prim.Native.Nat.{ℕ, suc, ◌+◌, ◌≤◌, ◌<◌}
use native.Mathlib.Omega.{arith}
use mathlib.Core.Path.{◌≡◌, refl, ap, ◌∙◌}
use mathlib.Core.Bool.{Bool, true, false, ◌||◌}
use mathlib.Core.List.{List, [], ◌∷◌}
use lib.Dec.{eqb}
use lib.ListN.{length, set}
use lib.Seq.{get_or-set_same, get_or-set_other}
use borrow.Author.Tests.{eqb-true, eqb-false}
use Rattle.library.specs.Library.{entry_from, entry_of}
use Rattle.library_yanks.specs.Bytes.{flagged}

entry-bound : (w k : ℕ) (xs : List ℕ) → entry_from w (suc k) xs ≤ k + length xs
entry-bound w k [] = omega arith
entry-bound w k (x ∷ xs) = go (eqb w x) (entry-bound w (suc k) xs)
  where
    go : (b : Bool) → entry_from w (suc (suc k)) xs ≤ suc k + length xs → (if b then suc k else entry_from w (suc (suc k)) xs) ≤ k + suc (length xs)
    go true h = omega arith
    go false h = omega arith

pub entry-within : (d : List ℕ) (w : ℕ) → entry_of d w ≤ length d
unfolding entry_of
entry-within d w = let b : entry_from w 1 d ≤ 0 + length d = entry-bound w 0 d in omega arith

pub flag-add : (flags : List ℕ) (n j : ℕ) → n < length flags → flagged (set flags n 1) j ≡ (flagged flags j || eqb j n)
flag-add flags n j h = go (eqb j n) refl
  where
    or-true : (a : Bool) → true ≡ (a || true)
    or-true true = refl
    or-true false = refl

    or-false : (a : Bool) → a ≡ (a || false)
    or-false true = refl
    or-false false = refl

    go : (b : Bool) → eqb j n ≡ b → flagged (set flags n 1) j ≡ (flagged flags j || b)
    go true e = ap (λ (k : ℕ). flagged (set flags n 1) k) (eqb-true j n e) ∙ ap (λ (x : ℕ). eqb x 1) (get_or-set_same flags n 1 0 h) ∙ or-true (flagged flags j)
    go false e = ap (λ (x : ℕ). eqb x 1) (get_or-set_other flags n j 1 0 (eqb-false j n e)) ∙ or-false (flagged flags j)
