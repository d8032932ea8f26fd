-- The code at a place of a word. Assumes nothing.
use Prim.Native.Nat.{ℕ, zero, suc, ◌+◌, ◌-◌, ◌/◌, ◌%◌, ◌^◌, ◌<◌}
use native.Mathlib.Omega.{arith}
use native.Mathlib.Nat.{div-one, div-div-eq-div-mul, pow-succ', add-suc}
use mathlib.Core.Path.{◌≡◌, sym, ap, ◌∙◌}
use mathlib.Core.List.{List, ◌∷◌}
use lib.ListN.{length, get_or}
use Rattle.words.specs.Text.{low_codes}

pub low-beyond : (n w j : ℕ) (r : List ℕ) → get_or (low_codes n w r) (n + j) 0 ≡ get_or r j 0
low-beyond zero w j r = let e : zero + j ≡ j = omega arith in rw e
low-beyond (suc n) w j r =
    let e : suc n + j ≡ n + suc j = omega arith in
    rw e (low-beyond n (w / 64) (suc j) (w % 64 ∷ r))

low-at : (j k w : ℕ) (r : List ℕ) → get_or (low_codes (j + suc k) w r) j 0 ≡ w / 64 ^ k % 64
low-at j zero w r =
    let e : j + suc zero ≡ suc j = omega arith in
    let z : j ≡ j + 0 = omega arith in
    rw e (ap (λ (i : ℕ). get_or (low_codes j (w / 64) (w % 64 ∷ r)) i 0) z ∙ low-beyond j (w / 64) 0 (w % 64 ∷ r) ∙ ap (λ (n : ℕ). n % 64) (sym (div-one w)))
low-at j (suc k) w r =
    rw (add-suc j (suc k))
    (low-at j k (w / 64) (w % 64 ∷ r)
    ∙ ap (λ (n : ℕ). n % 64) (div-div-eq-div-mul w 64 (64 ^ k) ∙ ap (λ (n : ℕ). w / n) (sym (pow-succ' 64 k))))

pub word_at : (w p : ℕ) (r : List ℕ) → p < 10 → get_or (low_codes 10 w r) p 0 ≡ w / 64 ^ (9 - p) % 64
word_at w p r h = let e : p + suc (9 - p) ≡ 10 = omega arith in ap (λ (n : ℕ). get_or (low_codes n w r) p 0) (sym e) ∙ low-at p (9 - p) w r

pub length-low : (n w : ℕ) (r : List ℕ) → length (low_codes n w r) ≡ n + length r
length-low zero w r = omega arith
length-low (suc n) w r = omega (arith, length-low n (w / 64) (w % 64 ∷ r))
