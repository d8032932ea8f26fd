-- How many digits a number has, by the powers of ten. Assumes nothing.
use Rattle.std.specs.Prelude.{if◌then◌else◌}
use Prim.Native.Nat.{ℕ, zero, suc, ◌+◌, ◌*◌, ◌/◌, ◌%◌, ◌^◌, ◌≤◌, ◌<◌}
use native.Mathlib.Omega.{arith}
use native.Mathlib.Nat.{pow-suc}
use mathlib.Core.Path.{◌≡◌, refl}
use mathlib.Core.List.{List, [], ◌∷◌}
use borrow.Author.Tests.{lt-ltb, le-ltb}
use lib.ListN.{length}
use Rattle.words.specs.Names.{digits, numeral}

ten-pos : (k : ℕ) → 0 < 10 ^ k
ten-pos zero = omega arith
ten-pos (suc k) = let p : 10 ^ suc k ≡ 10 ^ k * 10 = pow-suc 10 k in omega (arith, ten-pos k)

-- one more than the power that it reaches
digits-long : (k fuel n : ℕ) (r : List ℕ) → 10 ^ k ≤ n → n < 10 * 10 ^ k → k < fuel → length (digits fuel n r) ≡ k + 1 + length r
digits-long k zero n r a b h = absurd (omega arith)
digits-long zero (suc fuel) n r a b h = rw (lt-ltb n 10 (omega arith)) (omega arith)
digits-long (suc k) (suc fuel) n r a b h =
    let p : 10 ^ suc k ≡ 10 ^ k * 10 = pow-suc 10 k in
    let pos : 0 < 10 ^ k = ten-pos k in
    rw (le-ltb n 10 (omega arith)) (let q : length (digits fuel (n / 10) ((48 + n % 10) ∷ r)) ≡ k + 1 + suc (length r) = digits-long k fuel (n / 10) ((48 + n % 10) ∷ r) (omega arith) (omega arith) (omega arith) in omega arith)

pub digits-reach : (n k : ℕ) → 10 ^ k ≤ n → n < 10 * 10 ^ k → k < 20 → k + 1 ≡ length (numeral n)
unfolding numeral
digits-reach n k a b h = let e : length (digits 20 n []) ≡ k + 1 + 0 = digits-long k 20 n [] a b h in omega arith

pub digit-zero : (n : ℕ) → n ≡ 0 → 1 ≡ length (numeral n)
unfolding numeral
digit-zero n e = rw e
