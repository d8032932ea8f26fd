-- Each turn of packing writes what the next two words say, and the rest is packed alike.
--   two words             number-eight, pair-bytes, put-pair
--   packing               pack-more, two_at
--   words as eight bytes  eights-more
use mathlib.Core.Path.{◌≡◌, refl, sym, ap, ◌∙◌}
use mathlib.Core.List.{List, [], ◌∷◌, ◌++◌, append-nil}
use Prim.Native.Nat.{ℕ, suc, ◌+◌, ◌*◌, ◌/◌, ◌%◌, ◌^◌, ◌≤◌, ◌<◌}
use native.Mathlib.Nat.{div-eq_of_lt}
use native.Mathlib.Numerals.{add-one, add-two}
use native.Mathlib.Omega.{arith}
use lib.ListN.{length, get_or, take, drop, length-drop, drop_of_length-le}
use lib.Seq.{length-take-le, drop-append-add, drop-cons}
use Rattle.words_packing.specs.Pack.{bytes_of, number_of, low_number, packed, words_from, words_of_eights}
use Rattle.words_packing.proofs.NumberBytes.{Below, below-append, bytes_below, number-join, number-so, number-bytes, bytes-number}
use Rattle.words_packing.proofs.WrittenSoFar.{Filling, fill_more}

-- TWO WORDS: the high eight bytes and the low eight of the 15 share the middle one
pub number-eight : (w : ℕ) → w < 2 ^ 64 → number_of 0 (bytes_of 8 w) ≡ w
number-eight w h = ap (λ (so : ℕ). number_of so (bytes_of 8 w)) (sym (div-eq_of_lt h)) ∙ number-bytes 8 w

number-seven : (w : ℕ) → number_of 0 (bytes_of 7 w) ≡ w % 2 ^ 56
number-seven w = omega (arith, number-bytes 7 w, number-so (w / 2 ^ 56) (bytes_of 7 w))

same_sum : (a b : ℕ) → (a * 16 + b / 2 ^ 56) * 2 ^ 56 + (a % 16 * 2 ^ 60 + b) % 2 ^ 56 ≡ a * 2 ^ 60 + b
same_sum a b = omega arith

number-both : (hi lo : ℕ) → hi < 2 ^ 64 → number_of 0 (bytes_of 8 hi ++ bytes_of 7 lo) ≡ hi * 2 ^ 56 + lo % 2 ^ 56
number-both hi lo h =
    number-join 0 (bytes_of 8 hi) (bytes_of 7 lo)
    ∙ ap (λ (so : ℕ). number_of so (bytes_of 7 lo)) (number-eight hi h)
    ∙ number-so hi (bytes_of 7 lo)
    ∙ ap (λ (n : ℕ). hi * 2 ^ 56 + n) (number-seven lo)

pub pair-bytes : (a b : ℕ) → a < 2 ^ 60 → b < 2 ^ 60 → bytes_of 8 (a * 16 + b / 2 ^ 56) ++ bytes_of 7 (a % 16 * 2 ^ 60 + b) ≡ bytes_of 15 (a * 2 ^ 60 + b)
pair-bytes a b ha hb =
    let hi : ℕ = a * 16 + b / 2 ^ 56 in
    let lo : ℕ = a % 16 * 2 ^ 60 + b in
    let less : Below 256 (bytes_of 8 hi ++ bytes_of 7 lo) = below-append 256 (bytes_of 8 hi) (bytes_of 7 lo) (bytes_below 8 hi) (bytes_below 7 lo) in
    sym (bytes-number 0 (bytes_of 8 hi ++ bytes_of 7 lo) less) ∙ ap (λ (w : ℕ). bytes_of 15 w) (number-both hi lo (omega arith) ∙ same_sum a b)

-- the low eight are written first, and then the high eight over the first of them
pub put-pair : (out x y : List ℕ) (a b : ℕ) → length out ≡ 15 → a < 2 ^ 60 → b < 2 ^ 60 → x ≡ bytes_of 8 (a % 16 * 2 ^ 60 + b) → y ≡ bytes_of 8 (a * 16 + b / 2 ^ 56)
    → y ++ drop 8 (take 7 out ++ (x ++ drop 8 (drop 7 out))) ≡ bytes_of 15 (a * 2 ^ 60 + b)
put-pair out x y a b h ha hb ex ey =
    let l : length (take 7 out) ≡ 7 = length-take-le 7 out (omega arith) in
    let none : drop 8 (drop 7 out) ≡ [] = drop_of_length-le (drop 7 out) {i = 8} (rw length-drop (omega arith)) in
    let seam : drop 8 (take 7 out ++ (x ++ drop 8 (drop 7 out))) ≡ drop 1 (x ++ drop 8 (drop 7 out)) = rw l at (drop-append-add (take 7 out) (x ++ drop 8 (drop 7 out)) 1) in
    let shared : drop 1 (x ++ drop 8 (drop 7 out)) ≡ bytes_of 7 (a % 16 * 2 ^ 60 + b) = rw (none, append-nil, ex) in
    rw (seam, shared, ey) (pair-bytes a b ha hb)

-- PACKING
module _ {whole space new : List ℕ} {at : ℕ} where
  pub pack-more : (ws : List ℕ) (a b : ℕ) (r : List ℕ) → Filling whole (packed ws) space new at → ws ≡ a ∷ b ∷ r → at + 15 ≤ length new
      → Filling whole (packed r) space (take at new ++ (bytes_of 15 (a * 2 ^ 60 + b) ++ drop (at + 15) new)) (at + 15)
  pack-more ws a b r f e h = fill_more (bytes_of 15 (a * 2 ^ 60 + b)) 15 (rw e at f) refl h

-- the next two words of a slice
pub two_at : (ws : List ℕ) (i : ℕ) → i + 2 ≤ length ws → drop i ws ≡ get_or ws i 0 ∷ get_or ws (i + 1) 0 ∷ drop (i + 2) ws
two_at ws i h = rw (add-one, add-two, drop-cons ws i 0 (omega arith), drop-cons ws (suc i) 0 (omega arith))

-- WORDS AS EIGHT BYTES: the next of them
pub eights-more : (xs : List ℕ) → 8 ≤ length xs → words_of_eights xs ≡ low_number (take 8 xs) ∷ words_of_eights (drop 8 xs)
eights-more xs h =
    let k : length xs / 8 ≡ suc (length (drop 8 xs) / 8) = rw length-drop (omega arith) in
    ap (λ (n : ℕ). words_from n xs) k
