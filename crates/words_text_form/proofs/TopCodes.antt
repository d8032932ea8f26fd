-- The codes of a word taken from the top. Assumes nothing.
use Prim.Native.Nat.{ℕ, zero, suc, ◌+◌, ◌-◌, ◌*◌, ◌/◌, ◌%◌, ◌^◌, ◌≤◌, ◌<◌}
use native.Mathlib.Omega.{arith}
use native.Mathlib.Nat.{pow-suc, div-add-mod, mod-lt, mul-lt-mul_of_pos_right, mul-one, div-lt_iff_lt-mul}
use native.Mathlib.Numerals.{add-one}
use lib.Pow.{pow-add}
use lib.ListN.{length, get_or, drop}
use lib.Seq.{drop-cons}
use mathlib.Core.Path.{◌≡◌, refl, sym, ap, ◌∙◌, subst}
use mathlib.Core.List.{List, [], ◌∷◌, ◌++◌}
use Rattle.words.specs.Text.{low_codes, all_codes}
use Rattle.words.proofs.Powers.{power_pos}

-- the next k codes of a word, from the top
abbrev pub top_codes : ℕ → ℕ → List ℕ
top_codes zero w = []
top_codes (suc k) w = w / 2 ^ 54 ∷ top_codes k (w % 2 ^ 54 * 64)

low-split : (j q u : ℕ) (r : List ℕ) → q < 64 → u < 64 ^ j → low_codes (suc j) (q * 64 ^ j + u) r ≡ q ∷ low_codes j u r
low-split zero q u r h l = let e : (q * 1 + u) % 64 ≡ q = omega arith in ap (λ (i : ℕ). i ∷ r) e
low-split (suc j) q u r h l =
    let s : 64 ^ suc j ≡ 64 ^ j * 64 = pow-suc 64 j in
    let v : q * 64 ^ suc j ≡ q * (64 ^ j * 64) = ap (λ (i : ℕ). q * i) s in
    let d : (q * 64 ^ suc j + u) / 64 ≡ q * 64 ^ j + u / 64 = omega arith in
    let m : (q * 64 ^ suc j + u) % 64 ≡ u % 64 = omega arith in
    (λ t. low_codes (suc j) (d t) (m t ∷ r)) ∙ low-split j q (u / 64) (u % 64 ∷ r) h (omega arith)

-- k codes at the top of a word, then fill
top-low : (k v : ℕ) → k ≤ 10 → v < 64 ^ k → top_codes k (v * 64 ^ (10 - k)) ≡ low_codes k v []
top-low zero v h l = refl
top-low (suc j) v h l =
    let a : ℕ = 64 ^ j in
    let b : ℕ = 64 ^ (10 - suc j) in
    let q : ℕ = v / a in
    let u : ℕ = v % a in
    let is : a * q + u ≡ v = div-add-mod v a in
    let ul : u < a = mod-lt v (power_pos j) in
    let nine : j + (10 - suc j) ≡ 9 = omega arith in
    let ab : a * b ≡ 2 ^ 54 = sym (pow-add 64 j (10 - suc j)) ∙ ap (λ (i : ℕ). 64 ^ i) nine in
    let qs : q < 64 = (div-lt_iff_lt-mul {k = a} {x = v} {y = 64} (power_pos j)).1 (subst (λ (i : ℕ). v < i) (pow-suc 64 j ∙ omega arith) l) in
    let vb : (a * q + u) * b ≡ v * b = ap (λ (i : ℕ). i * b) is in
    let abq : (a * b) * q ≡ 2 ^ 54 * q = ap (λ (i : ℕ). i * q) ab in
    let ub : u * b < a * b = mul-lt-mul_of_pos_right ul (power_pos (10 - suc j)) in
    let d : v * b / 2 ^ 54 ≡ q = omega arith in
    let m : v * b % 2 ^ 54 ≡ u * b = omega arith in
    let more : 10 - j ≡ suc (10 - suc j) = omega arith in
    let b64 : 64 ^ (10 - j) ≡ b * 64 = ap (λ (i : ℕ). 64 ^ i) more ∙ pow-suc 64 (10 - suc j) in
    let ub64 : u * b * 64 ≡ u * 64 ^ (10 - j) = omega (arith, ap (λ (i : ℕ). u * i) b64) in
    let vs : q * a + u ≡ v = omega arith in
    (λ t. d t ∷ top_codes j (m t * 64))
    ∙ ap (λ (i : ℕ). q ∷ top_codes j i) ub64
    ∙ ap {B = List ℕ} (λ r. q ∷ r) (top-low j u (omega arith) ul)
    ∙ sym (low-split j q u [] qs ul)
    ∙ ap (λ (i : ℕ). low_codes (suc j) i []) vs

pub top-word : (w : ℕ) → w < 2 ^ 60 → top_codes 10 w ≡ low_codes 10 w []
top-word w h = ap (top_codes 10) (sym (mul-one w)) ∙ top-low 10 w (omega arith) h

low-append : (n w : ℕ) (q r : List ℕ) → low_codes n w (q ++ r) ≡ low_codes n w q ++ r
low-append zero w q r = refl
low-append (suc n) w q r = low-append n (w / 64) (w % 64 ∷ q) r

-- a word's codes, then those of the words behind it
pub word-parted : (ws : List ℕ) (i : ℕ) → i < length ws → all_codes (drop i ws) ≡ low_codes 10 (get_or ws i 0) [] ++ all_codes (drop (i + 1) ws)
word-parted ws i h = rw (add-one, drop-cons ws i 0 h) (low-append 10 (get_or ws i 0) [] (all_codes (drop (suc i) ws)))
