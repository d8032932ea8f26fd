-- Powers of 64, the place values of codes. Assumes nothing.
use Rattle.std.specs.Prelude.{if◌then◌else◌}
use Prim.Native.Nat.{ℕ, zero, suc, ◌+◌, ◌-◌, ◌*◌, ◌%◌, ◌^◌, ◌≤◌, ◌<◌}
use native.Mathlib.Omega.{arith}
use native.Mathlib.Numerals.{add-one}
use native.Mathlib.Nat.{pow-suc, pow-le-pow_right, mul-lt-mul_of_pos_right}
use lib.Pow.{pow-add, shl_exact}
use mathlib.Core.Path.{◌≡◌, refl, sym, ap, ◌∙◌, subst}
use lib.Dec.{ltb, lit<}
use borrow.Author.Tests.{lt-ltb}
use mathlib.Core.Bool.{Bool, true, false}

abbrev pub power : ℕ → ℕ
power k = 64 ^ k

pub power-more : (w k x : ℕ) → w < 64 ^ k → x < 64 → w * 64 + x < 64 ^ (k + 1)
power-more w k x h l = rw (add-one, pow-suc 64 k) (omega arith)

pub power-low : (w k j : ℕ) → k ≤ j → w < 64 ^ k → w < 64 ^ j
power-low w k j h l = omega (arith, pow-le-pow_right {n = 64} (lit< tt) h)

pub power_pos : (j : ℕ) → 0 < 64 ^ j
power_pos j = let h : 0 ≤ j = omega arith in omega (arith, pow-le-pow_right {n = 64} (lit< tt) h)

-- six bits a place
pub bits-power : (k : ℕ) → 2 ^ (6 * k) ≡ 64 ^ k
bits-power zero = refl
bits-power (suc k) =
    let e : 6 * suc k ≡ 6 * k + 6 = omega arith in
    ap (λ (n : ℕ). 2 ^ n) e ∙ pow-add 2 (6 * k) 6 ∙ ap (λ (n : ℕ). n * 64) (bits-power k) ∙ sym (pow-suc 64 k)

pub shifted : (k : ℕ) → k < 10 → (1 * 2 ^ (6 * k)) % 2 ^ 64 ≡ 64 ^ k
shifted k h =
    let one : 1 * 2 ^ (6 * k) ≡ 2 ^ (6 * k) = omega arith in
    shl_exact {a = 1} 1 (6 * k) 64 (lit< tt) (omega arith) ∙ one ∙ bits-power k

pub power-fits : (w k : ℕ) → k ≤ 10 → w < 64 ^ k → w * 64 ^ (10 - k) < 2 ^ 60
power-fits w k h l = subst (λ (n : ℕ). w * 64 ^ (10 - k) < n) e (mul-lt-mul_of_pos_right l (power_pos (10 - k)))
  where
    ten : k + (10 - k) ≡ 10
    ten = omega arith

    e : 64 ^ k * 64 ^ (10 - k) ≡ 2 ^ 60
    e = sym (pow-add 64 k (10 - k)) ∙ ap power ten

-- of a place that a word has
pub power_in : (k : ℕ) {r : ℕ} → r ≡ (if ltb k 10 then 64 ^ k else 0) → k < 10 → r ≡ 64 ^ k
power_in k e h = e ∙ ap (λ (b : Bool). if b then 64 ^ k else 0) (lt-ltb k 10 h)

-- a word so far, shifted by a place value or by the 0 past the tenth place, has room
pub power-room : (w k r : ℕ) → k ≤ 10 → w < 64 ^ k → r ≡ (if ltb (10 - k) 10 then 64 ^ (10 - k) else 0) → w * r < 2 ^ 64
power-room w k r h l e = go (ltb (10 - k) 10) e
  where
    go : (b : Bool) → r ≡ (if b then 64 ^ (10 - k) else 0) → w * r < 2 ^ 64
    go true is = rw is (omega (arith, power-fits w k h l))
    go false is = rw is (omega arith)
