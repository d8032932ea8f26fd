-- Each turn of unpacking writes what the next 15 bytes say, and the rest is unpacked alike.
--   unpacking             unpacked-pair, unpacked-last, pair-at, left_over
use mathlib.Core.Path.{◌≡◌, refl, sym, ap, ◌∙◌}
use mathlib.Core.Bool.{Bool, true, false, ◌||◌}
use mathlib.Core.List.{List, [], ◌∷◌}
use Prim.Native.Nat.{ℕ, suc, ◌+◌, ◌*◌, ◌/◌, ◌%◌, ◌^◌, ◌≤◌, ◌<◌}
use native.Mathlib.Omega.{arith}
use lib.Dec.{eqb}
use lib.ListN.{length, take, drop, length-drop}
use lib.Seq.{length-take-le, take-add, take_all, drop-drop}
use borrow.Author.Tests.{eqb-true}
use Rattle.words_packing.specs.Pack.{is_packed_length, number_of, unpacked_pairs, unpacked}
use Rattle.words_packing.proofs.NumberBytes.{Below, below-take, below-drop, number-join, number-so, number-div}

-- UNPACKING: the first word is in the high eight bytes of 15, the second in the low eight
high_part : (xs : List ℕ) → 15 ≤ length xs → Below 256 xs → number_of 0 (take 15 xs) / 2 ^ 56 ≡ number_of 0 (take 8 xs)
high_part xs h b =
    let l : length (take 7 (drop 8 xs)) ≡ 7 = length-take-le 7 (drop 8 xs) (rw length-drop (omega arith)) in
    let less : Below 256 (take 7 (drop 8 xs)) = below-take 256 7 (drop 8 xs) (below-drop 256 8 xs b) in
    ap (λ (bs : List ℕ). number_of 0 bs / 2 ^ 56) (take-add 8 7 xs)
    ∙ ap (λ (n : ℕ). n / 2 ^ 56) (number-join 0 (take 8 xs) (take 7 (drop 8 xs)))
    ∙ rw l at (number-div (number_of 0 (take 8 xs)) (take 7 (drop 8 xs)) less)

low_part : (xs : List ℕ) → 15 ≤ length xs → number_of 0 (take 15 xs) ≡ number_of 0 (take 7 xs) * 2 ^ 64 + number_of 0 (take 8 (drop 7 xs))
low_part xs h =
    let l : length (take 8 (drop 7 xs)) ≡ 8 = length-take-le 8 (drop 7 xs) (rw length-drop (omega arith)) in
    ap (λ (bs : List ℕ). number_of 0 bs) (take-add 7 8 xs)
    ∙ number-join 0 (take 7 xs) (take 8 (drop 7 xs))
    ∙ rw l at (number-so (number_of 0 (take 7 xs)) (take 8 (drop 7 xs)))

-- the next 15 bytes
pub unpacked-pair : (xs : List ℕ) → 15 ≤ length xs → Below 256 xs
    → unpacked xs ≡ number_of 0 (take 8 xs) / 16 ∷ number_of 0 (take 8 (drop 7 xs)) % 2 ^ 60 ∷ unpacked (drop 15 xs)
unpacked-pair xs h b =
    let k : length xs / 15 ≡ suc (length (drop 15 xs) / 15) = rw length-drop (omega arith) in
    let first : number_of 0 (take 15 xs) / 2 ^ 60 ≡ number_of 0 (take 8 xs) / 16 = omega (arith, high_part xs h b) in
    let second : number_of 0 (take 15 xs) % 2 ^ 60 ≡ number_of 0 (take 8 (drop 7 xs)) % 2 ^ 60 = omega (arith, low_part xs h) in
    ap (λ (n : ℕ). unpacked_pairs n xs) k ∙ ap {B = List ℕ} (λ (n : ℕ). n ∷ number_of 0 (take 15 xs) % 2 ^ 60 ∷ unpacked (drop 15 xs)) first
    ∙ ap {B = List ℕ} (λ (n : ℕ). number_of 0 (take 8 xs) / 16 ∷ n ∷ unpacked (drop 15 xs)) second

pub unpacked-last : (xs : List ℕ) → length xs ≡ 8 → unpacked xs ≡ number_of 0 (take 8 xs) / 16 ∷ []
unpacked-last [] h = absurd (omega arith)
unpacked-last (x ∷ xs) h =
    let k : length (x ∷ xs) / 15 ≡ 0 = omega arith in
    ap (λ (n : ℕ). unpacked_pairs n (x ∷ xs)) k
    ∙ ap {B = List ℕ} (λ (bs : List ℕ). number_of 0 bs / 16 ∷ []) (sym (take_all 8 (x ∷ xs) (omega arith)))

pub pair-at : (bs : List ℕ) (at : ℕ) → Below 256 bs → at + 15 ≤ length bs
    → unpacked (drop at bs) ≡ number_of 0 (take 8 (drop at bs)) / 16 ∷ number_of 0 (take 8 (drop (at + 7) bs)) % 2 ^ 60 ∷ unpacked (drop (at + 15) bs)
pair-at bs at b h =
    rw (← drop-drop 7 at bs, ← drop-drop 15 at bs) (unpacked-pair (drop at bs) (rw length-drop (omega arith)) (below-drop 256 at bs b))

-- what is left where less than 15 bytes are
pub left_over : (n at : ℕ) → is_packed_length n ≡ true → at % 15 ≡ 0 → at < n → n < at + 15 → n ≡ at + 8
left_over n at r m h g = ways (eqb (n % 15) 0) (eqb (n % 15) 8) refl refl r
  where
    ways : (a b : Bool) → eqb (n % 15) 0 ≡ a → eqb (n % 15) 8 ≡ b → (a || b) ≡ true → n ≡ at + 8
    ways true b ea eb e = absurd (let z = eqb-true (n % 15) 0 ea in omega arith)
    ways false true ea eb e = let z = eqb-true (n % 15) 8 eb in omega arith
    ways false false ea eb e = absurd (let z : ◌≡◌ {A = ℕ} 0 1 = cc in omega arith)
