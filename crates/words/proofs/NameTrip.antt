-- Names go to words and back, and numbers to digits and back. Assumes nothing.
use Prim.Native.Nat.{ℕ, zero, suc, ◌+◌, ◌-◌, ◌*◌, ◌/◌, ◌%◌, ◌^◌, ◌≤◌, ◌<◌}
use native.Mathlib.Omega.{arith}
use native.Mathlib.Nat.{pow-suc}
use native.Mathlib.Decide.{dec_lt}
use mathlib.Core.Path.{◌≡◌, refl, sym, ap, ◌∙◌}
use mathlib.Core.List.{List, [], ◌∷◌, ◌++◌, append-nil, map}
use borrow.Author.Tests.{ne_eqb, lt-ltb, le-ltb}
use lib.Dec.{T, eqb, eqb→eq, eqb_refl, ltb, ltb→lt, lt→ltb}
use lib.ListN.{length, replicate}
use Rattle.words.specs.Base.{all, take_until}
use Rattle.words.specs.Display.{code_of, in_chart, letter}
use Rattle.words.specs.Text.{low_codes}
use Rattle.words.specs.Names.{is_name_byte, is_name, pack_codes, name_word, name_of, is_name_word, is_digit, decimal, digits, numeral}
use Rattle.words.specs.NameTrip.{NameOfWord, WordOfNameIsOne, WordOfItsName, ReadOfWritten}
use Rattle.words.proofs.TestParts.{T-true, true-T, and_left, and_right, and_both}
use Rattle.words.proofs.TenCodes.{low-one, low-shift, low-cong}
use Rattle.words.proofs.TextTrip.{letters-line}
use Rattle.words.proofs.NameWord.{name-parts}
use Rattle.words.proofs.DecimalDigits.{digit-good, read-good}

-- NAMES
byte-some : (b : ℕ) → T (is_name_byte b) → 0 < code_of b
byte-some b t = ltb→lt 0 (code_of b) (and_left (ltb 0 (code_of b)) (ltb (code_of b) 45) t)

byte_low : (b : ℕ) → T (is_name_byte b) → code_of b < 45
byte_low b t = ltb→lt (code_of b) 45 (and_right (ltb 0 (code_of b)) (ltb (code_of b) 45) t)

name_in : (n : List ℕ) → T (all is_name_byte n) → T (all in_chart n)
name_in [] t = tt
name_in (b ∷ bs) t =
    let l = byte_low b (and_left (is_name_byte b) (all is_name_byte bs) t) in
    and_both (in_chart b) (all in_chart bs) (lt→ltb (code_of b) 64 (omega arith)) (name_in bs (and_right (is_name_byte b) (all is_name_byte bs) t))

-- the codes of a word are those of the letters packed into it, then zeros
pack-back : (n : List ℕ) (w k : ℕ) → k ≤ 10 → length n ≤ k → T (all is_name_byte n)
    → low_codes 10 (pack_codes w k n) [] ≡ low_codes (10 - k) w (map code_of n ++ replicate (k - length n) 0)
pack-back [] w k le h t =
    let f : 10 ≡ 10 - k + k = omega arith in
    let g : k ≡ k - 0 = omega arith in
    low-cong [] f refl ∙ low-shift k (10 - k) w [] ∙ ap (low_codes (10 - k) w) (append-nil (replicate k 0) ∙ ap (λ (j : ℕ). replicate j 0) g)
pack-back (b ∷ bs) w zero le h t = absurd (omega arith)
pack-back (b ∷ bs) w (suc k) le h t =
    let one = and_left (is_name_byte b) (all is_name_byte bs) t in
    let low = byte_low b one in
    let f : 10 - k ≡ suc (10 - suc k) = omega arith in
    let rest : List ℕ = map code_of bs ++ replicate (k - length bs) 0 in
    let d : suc k - 1 ≡ k = omega arith in
    let g : k - length bs ≡ suc k - suc (length bs) = omega arith in
    ap (λ (j : ℕ). low_codes 10 (pack_codes (w * 64 + code_of b) j bs) []) d
    ∙ pack-back bs (w * 64 + code_of b) k (omega arith) (omega arith) (and_right (is_name_byte b) (all is_name_byte bs) t)
    ∙ low-cong rest f refl
    ∙ low-one (10 - suc k) w (code_of b) rest (omega arith)
    ∙ ap (λ (j : ℕ). low_codes (10 - suc k) w (code_of b ∷ (map code_of bs ++ replicate j 0))) g

until-zeros : (n : List ℕ) (z : ℕ) → T (all is_name_byte n) → take_until (eqb 0) (map code_of n ++ replicate (suc z) 0) ≡ map code_of n
until-zeros [] z t = refl
until-zeros (b ∷ bs) z t =
    let some = byte-some b (and_left (is_name_byte b) (all is_name_byte bs) t) in
    rw (ne_eqb 0 (code_of b) (λ e. omega arith)) (ap {B = List ℕ} (λ r. code_of b ∷ r) (until-zeros bs z (and_right (is_name_byte b) (all is_name_byte bs) t)))

pub name-of-word : NameOfWord
unfolding name_of name_word
name-of-word n e =
    let p = name-parts n e in
    let f : 10 - length n ≡ suc (9 - length n) = omega arith in
    ap (λ (r : List ℕ). map letter (take_until (eqb 0) r)) (pack-back n 0 10 (omega arith) (omega arith) p.1 ∙ ap (λ (j : ℕ). map code_of n ++ replicate j 0) f)
    ∙ ap (map letter) (until-zeros n (9 - length n) p.1)
    ∙ letters-line n (name_in n p.1)

pub word-of-name-is-one : WordOfNameIsOne
unfolding is_name_word
word-of-name-is-one n e = rw (name-of-word n e, e) (T-true (eqb (name_word n) (name_word n)) (eqb_refl (name_word n)))

pub word-of-its-name : WordOfItsName
unfolding is_name_word
word-of-its-name w e = eqb→eq (name_word (name_of w)) w (and_right (is_name (name_of w)) (eqb (name_word (name_of w)) w) (true-T (is_name_word w) e))

-- NUMBERS
module _ (k n : ℕ) (r : List ℕ) where
  -- the two ways that digits go on
  digits-one : n < 10 → digits (suc k) n r ≡ (48 + n) ∷ r
  digits-one h = rw (lt-ltb n 10 h)

  digits-on : 10 ≤ n → digits (suc k) n r ≡ digits k (n / 10) ((48 + n % 10) ∷ r)
  digits-on h = rw (le-ltb n 10 h)

decimal-digits : (k n : ℕ) (r : List ℕ) → n < 10 ^ k → decimal 0 (digits k n r) ≡ decimal n r
decimal-digits zero n r h = let e : 0 ≡ n = omega arith in ap (λ (m : ℕ). decimal m r) e
decimal-digits (suc k) n r h = go (dec_lt n 10) (decimal-digits k (n / 10) ((48 + n % 10) ∷ r))
  where
    go : Dec (n < 10) → (n / 10 < 10 ^ k → decimal 0 (digits k (n / 10) ((48 + n % 10) ∷ r)) ≡ decimal (n / 10) ((48 + n % 10) ∷ r))
        → decimal 0 (digits (suc k) n r) ≡ decimal n r
    go (yes l) more =
        let e : 0 * 10 + (48 + n - 48) ≡ n = omega arith in
        ap (decimal 0) (digits-one k n r l) ∙ ap (λ (m : ℕ). decimal m r) e
    go (no l) more =
        let few : n / 10 < 10 ^ k = omega (arith, rw (pow-suc 10 k) at h) in
        let e : n / 10 * 10 + (48 + n % 10 - 48) ≡ n = omega arith in
        ap (decimal 0) (digits-on k n r (omega arith)) ∙ more few ∙ ap (λ (m : ℕ). decimal m r) e

digit-is : (n : ℕ) → n < 10 → T (is_digit (48 + n))
digit-is n h = true-T (is_digit (48 + n)) (digit-good (48 + n) (omega arith) (omega arith))

all_digits : (k n : ℕ) (r : List ℕ) → T (all is_digit r) → T (all is_digit (digits k n r))
all_digits zero n r t = t
all_digits (suc k) n r t = go (dec_lt n 10) (all_digits k (n / 10) ((48 + n % 10) ∷ r))
  where
    go : Dec (n < 10) → (T (all is_digit ((48 + n % 10) ∷ r)) → T (all is_digit (digits k (n / 10) ((48 + n % 10) ∷ r)))) → T (all is_digit (digits (suc k) n r))
    go (yes l) more = rw (digits-one k n r l) (and_both (is_digit (48 + n)) (all is_digit r) (digit-is n l) t)
    go (no l) more = rw (digits-on k n r (omega arith)) (more (and_both (is_digit (48 + n % 10)) (all is_digit r) (digit-is (n % 10) (omega arith)) t))

length_digits : (k j n : ℕ) (r : List ℕ) → n < 10 ^ suc j → length (digits k n r) ≤ suc j + length r
length_digits zero j n r h = omega arith
length_digits (suc k) j n r h = go j (dec_lt n 10) h (λ i. length_digits k i (n / 10) ((48 + n % 10) ∷ r))
  where
    go : (j : ℕ) → Dec (n < 10) → n < 10 ^ suc j → ((i : ℕ) → n / 10 < 10 ^ suc i → length (digits k (n / 10) ((48 + n % 10) ∷ r)) ≤ suc i + suc (length r))
        → length (digits (suc k) n r) ≤ suc j + length r
    go j (yes l) h more = rw (digits-one k n r l) (omega arith)
    go zero (no l) h more = absurd (omega arith)
    go (suc j) (no l) h more =
        let few : n / 10 < 10 ^ suc j = omega (arith, rw (pow-suc 10 (suc j)) at h) in
        rw (digits-on k n r (omega arith)) (omega (arith, more j few))

pub read-of-written : ReadOfWritten
unfolding numeral
read-of-written n some h =
    let is : n ≡ decimal 0 (digits 20 n []) = sym (decimal-digits 20 n [] (omega arith)) in
    let few : length (digits 20 n []) ≤ 6 = omega (arith, length_digits 20 5 n [] (omega arith)) in
    sym (read-good (digits 20 n []) few (T-true (all is_digit (digits 20 n [])) (all_digits 20 n [] tt)) n is h)
