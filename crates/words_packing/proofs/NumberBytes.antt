-- Numbers as bytes, highest first and lowest first: what is written is read again.
--   lists below a bound   Below, all-below, below_all, below-known, below-take, below-drop, below-append
--   highest first         bytes_below, number-join, number-so, number-div, number-bytes, bytes-number
--   lowest first          low-number, low-bytes, low-eight
use mathlib.Core.Path.{◌≡◌, refl, ap, ◌∙◌}
use mathlib.Core.Bool.{Bool, true, false, ◌&&◌}
use mathlib.Core.List.{List, [], ◌∷◌, ◌++◌}
use Prim.Native.Nat.{ℕ, zero, suc, ◌+◌, ◌*◌, ◌/◌, ◌%◌, ◌^◌, ◌≤◌, ◌<◌}
use native.Mathlib.Nat.{pow-suc, div-div-eq-div-mul, div-one, div-lt_iff_lt-mul}
use native.Mathlib.Omega.{arith}
use lib.Dec.{ltb}
use lib.ListN.{length, get_or, take, drop}
use lib.Seq.{length-take-le}
use borrow.Author.Tests.{ltb-true, lt-ltb}
use Rattle.words.specs.Base.{all}
use Rattle.words_packing.specs.Pack.{bytes_of, number_of, low_bytes, low_number}

-- every element is below n
abbrev pub Below : ℕ → List ℕ → Type 0
Below n [] = Unit
Below n (x ∷ xs) = (x < n) × Below n xs

both : (a b : Bool) → (a && b) ≡ true → (a ≡ true) × (b ≡ true)
both true b h = (refl, h)
both false b h = (h, cc)

pub all-below : (n : ℕ) (xs : List ℕ) → all (λ x. ltb x n) xs ≡ true → Below n xs
all-below n [] h = tt
all-below n (x ∷ xs) h =
    let e = both (ltb x n) (all (λ y. ltb y n) xs) h in
    (ltb-true x n e.0, all-below n xs e.1)

pub below_all : (n : ℕ) (xs : List ℕ) → Below n xs → all (λ x. ltb x n) xs ≡ true
below_all n [] b = refl
below_all n (x ∷ xs) b = rw (lt-ltb x n b.0) (below_all n xs b.1)

pub below-known : (n : ℕ) (xs : List ℕ) → ((i : ℕ) → get_or xs i 0 < n) → Below n xs
below-known n [] h = tt
below-known n (x ∷ xs) h = (h 0, below-known n xs (λ i. h (suc i)))

pub below-take : (n k : ℕ) (xs : List ℕ) → Below n xs → Below n (take k xs)
below-take n zero xs b = tt
below-take n (suc k) [] b = tt
below-take n (suc k) (x ∷ xs) b = (b.0, below-take n k xs b.1)

pub below-drop : (n k : ℕ) (xs : List ℕ) → Below n xs → Below n (drop k xs)
below-drop n zero xs b = b
below-drop n (suc k) [] b = tt
below-drop n (suc k) (x ∷ xs) b = below-drop n k xs b.1

pub below-append : (n : ℕ) (xs ys : List ℕ) → Below n xs → Below n ys → Below n (xs ++ ys)
below-append n [] ys b c = c
below-append n (x ∷ xs) ys b c = (b.0, below-append n xs ys b.1 c)

-- HIGHEST FIRST
pub bytes_below : (n w : ℕ) → Below 256 (bytes_of n w)
bytes_below zero w = tt
bytes_below (suc n) w = (omega arith, bytes_below n w)

-- one byte less of a number
up : (w n : ℕ) → w / 256 ^ suc n ≡ w / 256 ^ n / 256
up w n = rw (pow-suc 256 n, ← div-div-eq-div-mul w (256 ^ n) 256)

pub number-join : (so : ℕ) (xs ys : List ℕ) → number_of so (xs ++ ys) ≡ number_of (number_of so xs) ys
number-join so [] ys = refl
number-join so (x ∷ xs) ys = number-join (so * 256 + x) xs ys

pub number-so : (so : ℕ) (bs : List ℕ) → number_of so bs ≡ so * 256 ^ length bs + number_of 0 bs
number-so so [] = omega arith
number-so so (b ∷ bs) =
    rw (pow-suc 256 (length bs)) (omega (arith, number-so (so * 256 + b) bs, number-so (0 * 256 + b) bs))

pub number-div : (so : ℕ) (bs : List ℕ) → Below 256 bs → number_of so bs / 256 ^ length bs ≡ so
number-div so [] h = div-one so
number-div so (b ∷ bs) h = rw (up (number_of (so * 256 + b) bs) (length bs), number-div (so * 256 + b) bs h.1) (omega (arith, h.0))

pub number-bytes : (n w : ℕ) → number_of (w / 256 ^ n) (bytes_of n w) ≡ w
number-bytes zero w = div-one w
number-bytes (suc n) w =
    let e : w / 256 ^ suc n * 256 + w / 256 ^ n % 256 ≡ w / 256 ^ n = rw (up w n) (omega arith) in
    ap (λ (so : ℕ). number_of so (bytes_of n w)) e ∙ number-bytes n w

pub bytes-number : (so : ℕ) (bs : List ℕ) → Below 256 bs → bytes_of (length bs) (number_of so bs) ≡ bs
bytes-number so [] h = refl
bytes-number so (b ∷ bs) h =
    let e : number_of (so * 256 + b) bs / 256 ^ length bs % 256 ≡ b = rw (number-div (so * 256 + b) bs h.1) (omega (arith, h.0)) in
    rw (e, bytes-number (so * 256 + b) bs h.1)

-- LOWEST FIRST
pub low-number : (n w : ℕ) → w < 256 ^ n → low_number (low_bytes n w) ≡ w
low-number zero w h = omega arith
low-number (suc n) w h =
    let less : w / 256 < 256 ^ n = (div-lt_iff_lt-mul {k = 256} {x = w} {y = 256 ^ n} (omega arith)).1 (rw (pow-suc 256 n) at h) in
    rw (low-number n (w / 256) less) (omega arith)

pub low-bytes : (bs : List ℕ) → Below 256 bs → low_bytes (length bs) (low_number bs) ≡ bs
low-bytes [] h = refl
low-bytes (b ∷ bs) h =
    let e : (b + 256 * low_number bs) % 256 ≡ b = omega (arith, h.0) in
    let f : (b + 256 * low_number bs) / 256 ≡ low_number bs = omega (arith, h.0) in
    rw (e, f, low-bytes bs h.1)

pub low-eight : (bs : List ℕ) → Below 256 bs → 8 ≤ length bs → low_bytes 8 (low_number (take 8 bs)) ≡ take 8 bs
low-eight bs h n =
    let l : length (take 8 bs) ≡ 8 = length-take-le 8 bs n in
    rw l at (low-bytes (take 8 bs) (below-take 256 8 bs h))
