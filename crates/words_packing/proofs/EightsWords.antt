-- Words that stand as eight bytes each: the one at a place, one put there, and the bytes of all.
--   one of them     word-of, word-put, put-long
--   all of them     eights-back, eights-space
use mathlib.Core.Path.{◌≡◌, refl, sym, ap, ◌∙◌}
use mathlib.Core.List.{List, [], ◌∷◌, ◌++◌, append_assoc}
use Prim.Native.Nat.{ℕ, zero, suc, ◌+◌, ◌*◌, ◌/◌, ◌%◌, ◌^◌, ◌≤◌, ◌<◌}
use native.Mathlib.Omega.{arith}
use lib.ListN.{length, get_or, take, drop, set, length-append, length-drop, take-append-drop}
use lib.Seq.{length-take-le, take-add, take_at, drop_at, drop-drop}
use Rattle.std.specs.Prelude.{Result, Ok, Err}
use Rattle.words_packing.specs.Pack.{low_bytes, low_number, eights, words_from, words_of_eights, space_after, times_eight}
use Rattle.words_packing.specs.declared.PackingRefused.{PackingRefused}
use Rattle.words_packing.proofs.NumberBytes.{Below, below-drop, low-number, low-eight}

-- ONE OF THEM
pub word-of : (k i : ℕ) (bs : List ℕ) → i < k → get_or (words_from k bs) i 0 ≡ low_number (take 8 (drop (i * 8) bs))
word-of zero i bs h = absurd (omega arith)
word-of (suc k) zero bs h = refl
word-of (suc k) (suc i) bs h =
    let n : 8 + i * 8 ≡ suc i * 8 = omega arith in
    word-of k i (drop 8 bs) (omega arith)
    ∙ ap (λ (xs : List ℕ). low_number (take 8 xs)) (drop-drop (i * 8) 8 bs)
    ∙ ap (λ (j : ℕ). low_number (take 8 (drop j bs))) n

pub word-put : (k i w : ℕ) (bs : List ℕ) → i < k → k * 8 ≤ length bs → w < 2 ^ 64
    → words_from k (take (i * 8) bs ++ (low_bytes 8 w ++ drop (i * 8 + 8) bs)) ≡ set (words_from k bs) i w
word-put zero i w bs h long less = absurd (omega arith)
word-put (suc k) zero w bs h long less = ap {B = List ℕ} (λ (x : ℕ). x ∷ words_from k (drop 8 bs)) (low-number 8 w less)
word-put (suc k) (suc i) w bs h long less =
    let l : length (take 8 bs) ≡ 8 = length-take-le 8 bs (omega arith) in
    let n : suc i * 8 ≡ 8 + i * 8 = omega arith in
    let m : 8 + i * 8 + 8 ≡ 8 + (i * 8 + 8) = omega arith in
    let rest : List ℕ = take (i * 8) (drop 8 bs) ++ (low_bytes 8 w ++ drop (i * 8 + 8) (drop 8 bs)) in
    let e : take (suc i * 8) bs ++ (low_bytes 8 w ++ drop (suc i * 8 + 8) bs) ≡ take 8 bs ++ rest =
    rw n (rw m (rw (take-add 8 (i * 8) bs, ← drop-drop (i * 8 + 8) 8 bs, append_assoc))) in
    ap (words_from (suc k)) e
    ∙ rw (take_at (take 8 bs) rest 8 l, drop_at (take 8 bs) rest 8 l)
    (ap {B = List ℕ} (λ (r : List ℕ). low_number (take 8 bs) ∷ r) (word-put k i w (drop 8 bs) (omega arith) (rw length-drop (omega arith)) less))

pub put-long : (i w : ℕ) (bs : List ℕ) → i * 8 + 8 ≤ length bs → length (take (i * 8) bs ++ (low_bytes 8 w ++ drop (i * 8 + 8) bs)) ≡ length bs
put-long i w bs h =
    omega (arith, length-append (take (i * 8) bs) (low_bytes 8 w ++ drop (i * 8 + 8) bs), length-take-le (i * 8) bs (omega arith), length-drop (i * 8 + 8) bs)

-- ALL OF THEM
pub eights-back : (k : ℕ) (bs : List ℕ) → Below 256 bs → length bs ≡ 8 * k → eights (words_from k bs) ≡ bs
eights-back zero [] h l = refl
eights-back zero (b ∷ bs) h l = absurd (omega arith)
eights-back (suc k) bs h l =
    let front = low-eight bs h (omega arith) in
    let rest : eights (words_from k (drop 8 bs)) ≡ drop 8 bs = eights-back k (drop 8 bs) (below-drop 256 8 bs h) (rw length-drop (omega arith)) in
    (λ i. front i ++ rest i) ∙ take-append-drop 8 bs

eights-append : (xs ys : List ℕ) → eights (xs ++ ys) ≡ eights xs ++ eights ys
eights-append [] ys = refl
eights-append (x ∷ xs) ys = ap (λ (r : List ℕ). low_bytes 8 x ++ r) (eights-append xs ys) ∙ sym (append_assoc (low_bytes 8 x) (eights xs) (eights ys))

eights-drop : (n : ℕ) (ws : List ℕ) → eights (drop n ws) ≡ drop (n * 8) (eights ws)
eights-drop zero ws = refl
eights-drop (suc n) [] = let m : suc n * 8 ≡ suc (7 + n * 8) = omega arith in rw m
eights-drop (suc n) (w ∷ ws) =
    let m : suc n * 8 ≡ 8 + n * 8 = omega arith in
    rw m (eights-drop n ws ∙ drop-drop (n * 8) 8 (low_bytes 8 w ++ eights ws))

-- what the bytes are where the words are what a space holds afterwards
module _ (result old new : List ℕ) (a : Below 256 old) (b : Below 256 new) (even : length old % 8 ≡ 0) (long : length new ≡ length old) where
  old-back : eights (words_of_eights old) ≡ old
  old-back = eights-back (length old / 8) old a (omega arith)

  new-back : eights (words_of_eights new) ≡ new
  new-back = eights-back (length new / 8) new b (omega arith)

  pub eights-space : (p : Result ℕ PackingRefused) → words_of_eights new ≡ space_after p result (words_of_eights old)
      → new ≡ space_after (times_eight p) (eights result) old
  unfolding space_after
  eights-space (Ok n) e =
      sym new-back ∙ ap eights e ∙ eights-append result (drop n (words_of_eights old))
      ∙ ap (λ (r : List ℕ). eights result ++ r) (eights-drop n (words_of_eights old) ∙ ap (drop (n * 8)) old-back)
  eights-space (Err x) e = sym new-back ∙ ap eights e ∙ old-back
