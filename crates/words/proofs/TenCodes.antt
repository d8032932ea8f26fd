-- Words of ten codes: the codes read back, and how many words there are. Assumes nothing.
use Rattle.std.specs.Prelude.{if◌then◌else◌}
use Prim.Native.Nat.{ℕ, zero, suc, ◌+◌, ◌-◌, ◌*◌, ◌/◌, ◌%◌, ◌^◌, ◌≤◌, ◌<◌}
use native.Mathlib.Omega.{arith}
use native.Mathlib.Nat.{mul-one, mul_assoc, pow-suc, add-zero, add-suc}
use native.Mathlib.Decide.{ℕ_discrete}
use mathlib.Core.Path.{◌≡◌, refl, sym, ap, ◌∙◌}
use mathlib.Core.Bool.{Bool}
use mathlib.Core.List.{List, [], ◌∷◌, ◌++◌, append-nil}
use borrow.Author.Tests.{ne_eqb}
use lib.Dec.{T, ltb→lt}
use lib.ListN.{length, replicate}
use Rattle.words.specs.Base.{all}
use Rattle.words.specs.Text.{fill, words_of, low_codes, all_codes}
use Rattle.words.proofs.TestParts.{and_left, and_right}
use Rattle.words.proofs.CompressedLine.{is_code, replicate-snoc}

pub low-cong : {i j v w : ℕ} (r : List ℕ) → i ≡ j → v ≡ w → low_codes i v r ≡ low_codes j w r
low-cong r p q = λ t. low_codes (p t) (q t) r

-- one code lower
pub low-one : (j w x : ℕ) (r : List ℕ) → x < 64 → low_codes (suc j) (w * 64 + x) r ≡ low_codes j w (x ∷ r)
low-one j w x r h =
    let d : (w * 64 + x) / 64 ≡ w = omega arith in
    let m : (w * 64 + x) % 64 ≡ x = omega arith in
    λ t. low_codes j (d t) (m t ∷ r)

pub low-shift : (k j w : ℕ) (r : List ℕ) → low_codes (j + k) (w * 64 ^ k) r ≡ low_codes j w (replicate k 0 ++ r)
low-shift zero j w r = low-cong r (add-zero j) (mul-one w)
low-shift (suc k) j w r =
    low-cong r (add-suc j k) e
    ∙ low-one (j + k) (w * 64 ^ k) 0 r (omega arith)
    ∙ low-shift k j w (0 ∷ r)
    ∙ ap (low_codes j w) (replicate-snoc k 0 r)
  where
    e : w * 64 ^ suc k ≡ w * 64 ^ k * 64 + 0
    e = ap (λ (p : ℕ). w * p) (pow-suc 64 k) ∙ sym (mul_assoc w (64 ^ k) 64) ∙ sym (add-zero (w * 64 ^ k * 64))

fill_end : (w k : ℕ) → k ≤ 10 → Dec (k ≡ 10) → (z : ℕ) × (all_codes (fill w k []) ≡ low_codes (10 - k) w (replicate z 0))
fill_end w k le (yes e) = (0, ap (λ (i : ℕ). all_codes (fill w i [])) e ∙ sym (ap (λ (i : ℕ). low_codes (10 - i) w []) e))
fill_end w k le (no ne) = (
  k,
  ap (λ (c : Bool). all_codes (if c then [] else (w * 64 ^ k ∷ []))) (ne_eqb k 10 ne)
      ∙ low-cong [] f refl
      ∙ low-shift k (10 - k) w []
      ∙ ap (low_codes (10 - k) w) (append-nil (replicate k 0)),
)
  where
    f : 10 ≡ 10 - k + k
    f = omega arith

fill-back : (cs : List ℕ) (w k : ℕ) → k ≤ 10 → T (all is_code cs) → (z : ℕ) × (all_codes (fill w k cs) ≡ low_codes (10 - k) w (cs ++ replicate z 0))
fill-back [] w k le h = fill_end w k le (ℕ_discrete k 10)
fill-back (x ∷ xs) w zero le h =
    let r = fill-back xs x 9 (omega arith) (and_right (is_code x) (all is_code xs) h) in
    let m : x % 64 ≡ x = omega (arith, ltb→lt x 64 (and_left (is_code x) (all is_code xs) h)) in
    (r.0, ap (low_codes 10 w) (r.1 ∙ ap (λ (y : ℕ). y ∷ (xs ++ replicate r.0 0)) m))
fill-back (x ∷ xs) w (suc k) le h =
    let r = fill-back xs (w * 64 + x) k (omega arith) (and_right (is_code x) (all is_code xs) h) in
    let f : 10 - k ≡ suc (10 - suc k) = omega arith in
    (r.0, r.1 ∙ low-cong (xs ++ replicate r.0 0) f refl ∙ low-one (10 - suc k) w x (xs ++ replicate r.0 0) (ltb→lt x 64 (and_left (is_code x) (all is_code xs) h)))

-- the codes come back with zeros behind them
pub words_back : (cs : List ℕ) → T (all is_code cs) → (z : ℕ) × (all_codes (words_of cs) ≡ cs ++ replicate z 0)
unfolding words_of
words_back cs h = fill-back cs 0 10 (omega arith) h

length-fill : (cs : List ℕ) (w k : ℕ) → k ≤ 10 → length (fill w k cs) ≡ (10 - k + length cs + 9) / 10
length-fill [] w k le = go (ℕ_discrete k 10)
  where
    go : Dec (k ≡ 10) → length (fill w k []) ≡ (10 - k + 0 + 9) / 10
    go (yes e) = rw e
    go (no ne) = rw (ne_eqb k 10 ne) (omega arith)
length-fill (x ∷ xs) w zero le = omega (arith, length-fill xs x 9 (omega arith))
length-fill (x ∷ xs) w (suc k) le = omega (arith, length-fill xs (w * 64 + x) k (omega arith))

pub length-words : (cs : List ℕ) → length (words_of cs) ≡ (length cs + 9) / 10
unfolding words_of
length-words cs = omega (arith, length-fill cs 0 10 (omega arith))
