-- Row 5 of a card, what it is written as being what is written, is word by word a test of bit fields. Assumes nothing.
--   used-..                 unused bytes taken away
--   numbers-..              rising numbers that are entries
--   further-read            further history words that pass are written so
--   further-written         and those that are written so pass
--   form-words              row 5 of a card is `word_tests`; form-met, form-spare
use Rattle.std.specs.Prelude.{if◌then◌else◌}
use Prim.Native.Nat.{ℕ, zero, suc, ◌+◌, ◌-◌, ◌*◌, ◌/◌, ◌%◌, ◌^◌, ◌≤◌, ◌<◌, min}
use native.Mathlib.Omega.{arith}
use mathlib.Core.Path.{◌≡◌, refl, sym, ap, ap₂, ◌∙◌, subst}
use mathlib.Core.Bool.{Bool, true, false, ◌&&◌, not}
use mathlib.Core.List.{List, [], ◌∷◌}
use mathlib.Core.Option.{some}
use lib.Dec.{eqb, ltb, leb}
use lib.ListN.{length, get_or, take, drop, length-take, length-drop}
use lib.Seq.{length-take-le}
use borrow.Author.Tests.{eq-eqb, ne_eqb, eqb-true, le-leb, leb-true, leb-false, not-true}
use Rattle.words.specs.Base.{all, all_of, same, is_nil, place_from}
use Rattle.words.proofs.TestParts.{T-true, true-T, same-eq, same_refl}
use Rattle.library.specs.Image.{bit, further_words, head_words}
use Rattle.library.specs.Check.{is_last_word, threes, used, rising, ok_byte, first_activates, Fields, fields_of, form_tests, ok_form}
use Rattle.library.specs.WordForm.{ok_number, ok_numbers, bytes_in, ok_full, ok_last, ok_further, first_tests, word_tests, FormByWord, two_words, FormMet, FormSpare}
use Rattle.library.proofs.CardWithin.{Pass, all_pass, placed-within}

pub and_left : (a b : Bool) → (a && b) ≡ true → a ≡ true
and_left true b e = refl
and_left false b e = e

pub and_right : (a b : Bool) → (a && b) ≡ true → b ≡ true
and_right true b e = e
and_right false b e = absurd (let z : ◌≡◌ {A = ℕ} 0 1 = cc in omega arith)

pub and_both : (a b : Bool) → a ≡ true → b ≡ true → (a && b) ≡ true
and_both a b p q = rw (p, q)

pub nil_is : (l : List ℕ) → is_nil l ≡ true → l ≡ []
nil_is [] e = refl
nil_is (x ∷ l) e = absurd (let z : ◌≡◌ {A = ℕ} 0 1 = cc in omega arith)

pub pass_all : (bs : List Bool) → Pass bs → all_of bs ≡ true
pass_all [] p = refl
pass_all (b ∷ bs) p = and_both b (all_of bs) p.0 (pass_all bs p.1)

-- UNUSED BYTES
module _ (x : ℕ) (xs : List ℕ) where
  pub used-more : is_nil (used xs) ≡ false → used (x ∷ xs) ≡ x ∷ used xs
  used-more e = rw e (go (eqb x 0))
    where
      go : (b : Bool) → (if b && false then [] else (x ∷ used xs)) ≡ x ∷ used xs
      go true = refl
      go false = refl

  pub used-some : eqb x 0 ≡ false → used (x ∷ xs) ≡ x ∷ used xs
  used-some e = rw e

  pub used-none : eqb x 0 ≡ true → is_nil (used xs) ≡ true → used (x ∷ xs) ≡ []
  used-none e n = rw (e, n)

  -- only what is used of the rest counts
  pub used-like : (ys : List ℕ) → used xs ≡ used ys → used (x ∷ xs) ≡ used (x ∷ ys)
  used-like ys e = ap (λ (r : List ℕ). if eqb x 0 && is_nil r then [] else (x ∷ r)) e

-- the word of three bytes of which the last may be unused
module _ (a b c : ℕ) where
  abbrev three : List ℕ
  three = a ∷ b ∷ c ∷ []

  pub last_word_lem : is_nil (used three) ≡ false → further_words (used three) ≡ (2 ^ 59 + a * 2 ^ 36 + b * 2 ^ 18 + c) ∷ []
  last_word_lem n = of_c (eqb c 0) refl
    where
      after : (x : ℕ) (xs ys : List ℕ) → used xs ≡ ys → is_nil ys ≡ false → used (x ∷ xs) ≡ x ∷ ys
      after x xs ys e m = used-more x xs (ap is_nil e ∙ m) ∙ ap {B = List ℕ} (λ r. x ∷ r) e

      says_so : (ys : List ℕ) (w : ℕ) → used three ≡ ys → further_words ys ≡ w ∷ [] → w ≡ 2 ^ 59 + a * 2 ^ 36 + b * 2 ^ 18 + c
          → further_words (used three) ≡ (2 ^ 59 + a * 2 ^ 36 + b * 2 ^ 18 + c) ∷ []
      says_so ys w e f g = ap further_words e ∙ f ∙ ap {B = List ℕ} (λ v. v ∷ []) g

      of-a : b ≡ 0 → c ≡ 0 → used (b ∷ c ∷ []) ≡ [] → (z : Bool) → eqb a 0 ≡ z → further_words (used three) ≡ (2 ^ 59 + a * 2 ^ 36 + b * 2 ^ 18 + c) ∷ []
      of-a q r u true p = absurd (let z : is_nil (used three) ≡ true = ap is_nil (used-none a (b ∷ c ∷ []) p (ap is_nil u)) in let y : ◌≡◌ {A = ℕ} 0 1 = cc in omega arith)
      of-a q r u false p = says_so (a ∷ []) (2 ^ 59 + a * 2 ^ 36) (used-some a (b ∷ c ∷ []) p ∙ ap {B = List ℕ} (λ t. a ∷ t) u) refl (omega arith)

      of-b : c ≡ 0 → used (c ∷ []) ≡ [] → (z : Bool) → eqb b 0 ≡ z → further_words (used three) ≡ (2 ^ 59 + a * 2 ^ 36 + b * 2 ^ 18 + c) ∷ []
      of-b r u true q = of-a (eqb-true b 0 q) r (used-none b (c ∷ []) q (ap is_nil u)) (eqb a 0) refl
      of-b r u false q =
          says_so (a ∷ b ∷ []) (2 ^ 59 + a * 2 ^ 36 + b * 2 ^ 18)
          (after a (b ∷ c ∷ []) (b ∷ []) (used-some b (c ∷ []) q ∙ ap {B = List ℕ} (λ t. b ∷ t) u) refl) refl (omega arith)

      of_c : (z : Bool) → eqb c 0 ≡ z → further_words (used three) ≡ (2 ^ 59 + a * 2 ^ 36 + b * 2 ^ 18 + c) ∷ []
      of_c true r = of-b (eqb-true c 0 r) (used-none c [] r refl) (eqb b 0) refl
      of_c false r =
          says_so (a ∷ b ∷ c ∷ []) (2 ^ 59 + a * 2 ^ 36 + b * 2 ^ 18 + c)
          (after a (b ∷ c ∷ []) (b ∷ c ∷ []) (after b (c ∷ []) (c ∷ []) (used-some c [] r) refl) refl) refl refl

  -- three bytes ahead of others that are used, and ahead of none
  pub used-ahead : (xs : List ℕ) → is_nil (used xs) ≡ false → used (a ∷ b ∷ c ∷ xs) ≡ a ∷ b ∷ c ∷ used xs
  used-ahead xs n =
      let u : used (c ∷ xs) ≡ c ∷ used xs = used-more c xs n in
      let v : used (b ∷ c ∷ xs) ≡ b ∷ c ∷ used xs = used-more b (c ∷ xs) (ap is_nil u) ∙ ap {B = List ℕ} (λ t. b ∷ t) u in
      used-more a (b ∷ c ∷ xs) (ap is_nil v) ∙ ap {B = List ℕ} (λ t. a ∷ t) v

  pub used-alone : (xs : List ℕ) → used xs ≡ [] → used (a ∷ b ∷ c ∷ xs) ≡ used three
  used-alone xs e = used-like a (b ∷ c ∷ xs) (b ∷ c ∷ []) (used-like b (c ∷ xs) (c ∷ []) (used-like c xs [] e))

  few_words : (z : Bool) → is_nil (used three) ≡ z → length (further_words (used three)) ≤ 1
  few_words true e = let u : length (further_words (used three)) ≡ 0 = ap (λ (l : List ℕ). length (further_words l)) (nil_is (used three) e) in omega arith
  few_words false e = let u : length (further_words (used three)) ≡ 1 = ap length (last_word_lem e) in omega arith

  pub one_word : length (further_words (used three)) ≤ 1
  one_word = few_words (is_nil (used three)) refl

pub further-length : (bs : List ℕ) → length (further_words bs) ≡ (length bs + 2) / 3
further-length [] = refl
further-length (a ∷ []) = refl
further-length (a ∷ b ∷ []) = refl
further-length (a ∷ b ∷ c ∷ r) = let e : length (further_words r) ≡ (length r + 2) / 3 = further-length r in omega arith

-- NUMBERS
module _ (directory : List ℕ) where
  pub numbers-join : (n : ℕ) (bs : List ℕ) → rising n bs ≡ true → all (ok_byte directory) bs ≡ true → ok_numbers directory n bs ≡ true
  numbers-join n [] p q = refl
  numbers-join n (b ∷ bs) p q =
      and_both (ok_number directory n b) (ok_numbers directory (b % 2 ^ 16) bs)
      (and_both (leb n (b % 2 ^ 16)) (ok_byte directory b) (and_left (leb n (b % 2 ^ 16)) (rising (b % 2 ^ 16) bs) p) (and_left (ok_byte directory b) (all (ok_byte directory) bs) q))
      (numbers-join (b % 2 ^ 16) bs (and_right (leb n (b % 2 ^ 16)) (rising (b % 2 ^ 16) bs) p) (and_right (ok_byte directory b) (all (ok_byte directory) bs) q))

  pub numbers-rise : (n : ℕ) (bs : List ℕ) → ok_numbers directory n bs ≡ true → rising n bs ≡ true
  numbers-rise n [] p = refl
  numbers-rise n (b ∷ bs) p =
      and_both (leb n (b % 2 ^ 16)) (rising (b % 2 ^ 16) bs)
      (and_left (leb n (b % 2 ^ 16)) (ok_byte directory b) (and_left (ok_number directory n b) (ok_numbers directory (b % 2 ^ 16) bs) p))
      (numbers-rise (b % 2 ^ 16) bs (and_right (ok_number directory n b) (ok_numbers directory (b % 2 ^ 16) bs) p))

  pub numbers-entries : (n : ℕ) (bs : List ℕ) → ok_numbers directory n bs ≡ true → all (ok_byte directory) bs ≡ true
  numbers-entries n [] p = refl
  numbers-entries n (b ∷ bs) p =
      and_both (ok_byte directory b) (all (ok_byte directory) bs)
      (and_right (leb n (b % 2 ^ 16)) (ok_byte directory b) (and_left (ok_number directory n b) (ok_numbers directory (b % 2 ^ 16) bs) p))
      (numbers-entries (b % 2 ^ 16) bs (and_right (ok_number directory n b) (ok_numbers directory (b % 2 ^ 16) bs) p))

  numbers-cut : (n a b c : ℕ) (r : List ℕ) → ok_numbers directory n (a ∷ b ∷ c ∷ r) ≡ (ok_numbers directory n (a ∷ b ∷ c ∷ []) && ok_numbers directory (c % 2 ^ 16) r)
  numbers-cut n a b c r = regroup (ok_number directory n a) (ok_number directory (a % 2 ^ 16) b) (ok_number directory (b % 2 ^ 16) c) (ok_numbers directory (c % 2 ^ 16) r)
    where
      regroup : (x y z t : Bool) → (x && (y && (z && t))) ≡ ((x && (y && (z && true))) && t)
      regroup false y z t = refl
      regroup true false z t = refl
      regroup true true false t = refl
      regroup true true true t = refl

  -- FURTHER WORDS
  abbrev pub raw : List ℕ → List ℕ
  raw us = used (threes us)

  abbrev high : ℕ → ℕ
  high w = w / 2 ^ 36 % 2 ^ 18

  abbrev mid : ℕ → ℕ
  mid w = w / 2 ^ 18 % 2 ^ 18

  abbrev low : ℕ → ℕ
  low w = w % 2 ^ 18

  low-number : (w : ℕ) → w % 2 ^ 18 % 2 ^ 16 ≡ w % 2 ^ 16
  low-number w = omega arith

  -- words and their bytes that say each other
  abbrev pub Said : ℕ → List ℕ → Type 0
  Said n us = (ok_numbers directory n (raw us) ≡ true) × (further_words (raw us) ≡ us)

  last-read : (n w : ℕ) → ok_last directory n w ≡ true → Said n (w ∷ [])
  unfolding ok_last
  last-read n w e =
      let a : ℕ = w / 2 ^ 36 % 2 ^ 18 in
      let b : ℕ = w / 2 ^ 18 % 2 ^ 18 in
      let c : ℕ = w % 2 ^ 18 in
      let top : w / 2 ^ 54 ≡ 32 = eqb-true (w / 2 ^ 54) 32 (and_left (eqb (w / 2 ^ 54) 32) (not (is_nil (used (bytes_in w))) && ok_numbers directory n (used (bytes_in w))) e) in
      let rest : (not (is_nil (used (bytes_in w))) && ok_numbers directory n (used (bytes_in w))) ≡ true = and_right (eqb (w / 2 ^ 54) 32) (not (is_nil (used (bytes_in w))) && ok_numbers directory n (used (bytes_in w))) e in
      let some-used : is_nil (used (bytes_in w)) ≡ false = not-true (is_nil (used (bytes_in w))) (and_left (not (is_nil (used (bytes_in w)))) (ok_numbers directory n (used (bytes_in w))) rest) in
      let same : 2 ^ 59 + a * 2 ^ 36 + b * 2 ^ 18 + c ≡ w = omega arith in
      (and_right (not (is_nil (used (bytes_in w)))) (ok_numbers directory n (used (bytes_in w))) rest, last_word_lem a b c some-used ∙ ap {B = List ℕ} (λ x. x ∷ []) same)

  not-nil : (us : List ℕ) (v : ℕ) (vs : List ℕ) → further_words us ≡ v ∷ vs → is_nil us ≡ false
  not-nil [] v vs e = absurd (let z : ◌≡◌ {A = ℕ} 0 1 = cc in omega arith)
  not-nil (u ∷ us) v vs e = refl

  full-read : (n w v : ℕ) (us : List ℕ) → ok_full directory n w ≡ true → Said (w % 2 ^ 16) (v ∷ us) → Said n (w ∷ v ∷ us)
  unfolding ok_full
  full-read n w v us e s =
      let a : ℕ = w / 2 ^ 36 % 2 ^ 18 in
      let b : ℕ = w / 2 ^ 18 % 2 ^ 18 in
      let c : ℕ = w % 2 ^ 18 in
      let r : List ℕ = raw (v ∷ us) in
      let top : w / 2 ^ 54 ≡ 0 = eqb-true (w / 2 ^ 54) 0 (and_left (eqb (w / 2 ^ 54) 0) (ok_numbers directory n (bytes_in w)) e) in
      let n-r : is_nil r ≡ false = not-nil r v us s.1 in
      let u : raw (w ∷ v ∷ us) ≡ a ∷ b ∷ c ∷ r = used-ahead a b c (threes (v ∷ us)) n-r in
      let later : ok_numbers directory (c % 2 ^ 16) r ≡ true = ap (λ (k : ℕ). ok_numbers directory k r) (low-number w) ∙ s.0 in
      let same : 0 + a * 2 ^ 36 + b * 2 ^ 18 + c ≡ w = omega arith in (
        ap (ok_numbers directory n) u ∙ numbers-cut n a b c r ∙ and_both (ok_numbers directory n (bytes_in w)) (ok_numbers directory (c % 2 ^ 16) r) (and_right (eqb (w / 2 ^ 54) 0) (ok_numbers directory n (bytes_in w)) e) later,
        ap further_words u ∙ ap {B = List ℕ} (λ (z : Bool). (bit z 59 + a * 2 ^ 36 + b * 2 ^ 18 + c) ∷ further_words r) n-r ∙ ap₂ {C = List ℕ} ◌∷◌ same s.1,
      )

  pub further-read : (n : ℕ) (us : List ℕ) → ok_further directory n us ≡ true → Said n us
  further-read n [] e = (refl, refl)
  further-read n (w ∷ []) e = last-read n w e
  further-read n (w ∷ v ∷ us) e =
      full-read n w v us (and_left (ok_full directory n w) (ok_further directory (w % 2 ^ 16) (v ∷ us)) e)
      (further-read (w % 2 ^ 16) (v ∷ us) (and_right (ok_full directory n w) (ok_further directory (w % 2 ^ 16) (v ∷ us)) e))

  first_of : (x y : ℕ) (xs ys : List ℕ) → x ∷ xs ≡ y ∷ ys → x ≡ y
  first_of x y xs ys e = cc

  rest_of : (x y : ℕ) (xs ys : List ℕ) → x ∷ xs ≡ y ∷ ys → xs ≡ ys
  rest_of x y xs ys e = cc

  last_written : (n w : ℕ) → Said n (w ∷ []) → ok_last directory n w ≡ true
  unfolding ok_last
  last_written n w s =
      let a : ℕ = w / 2 ^ 36 % 2 ^ 18 in
      let b : ℕ = w / 2 ^ 18 % 2 ^ 18 in
      let c : ℕ = w % 2 ^ 18 in
      let some-used : is_nil (used (bytes_in w)) ≡ false = not-nil (used (bytes_in w)) w [] s.1 in
      let same : 2 ^ 59 + a * 2 ^ 36 + b * 2 ^ 18 + c ≡ w = first_of _ _ _ _ (sym (last_word_lem a b c some-used) ∙ s.1) in
      and_both (eqb (w / 2 ^ 54) 32) (not (is_nil (used (bytes_in w))) && ok_numbers directory n (used (bytes_in w))) (eq-eqb (w / 2 ^ 54) 32 (omega arith))
      (and_both (not (is_nil (used (bytes_in w)))) (ok_numbers directory n (used (bytes_in w))) (ap not some-used) s.0)

  full-written : (n w v : ℕ) (us : List ℕ) → Said n (w ∷ v ∷ us) → (ok_full directory n w ≡ true) × Said (w % 2 ^ 16) (v ∷ us)
  unfolding ok_full
  full-written n w v us s = go (is_nil (raw (v ∷ us))) refl
    where
      go : (z : Bool) → is_nil (raw (v ∷ us)) ≡ z → (ok_full directory n w ≡ true) × Said (w % 2 ^ 16) (v ∷ us)
      go true z =
          let short : length (further_words (used (high w ∷ mid w ∷ low w ∷ []))) ≤ 1 = one_word (high w) (mid w) (low w) in
          let long : length (further_words (used (high w ∷ mid w ∷ low w ∷ []))) ≡ suc (suc (length us)) = ap (λ (l : List ℕ). length (further_words l)) (sym (used-alone (high w) (mid w) (low w) (threes (v ∷ us)) (nil_is (raw (v ∷ us)) z))) ∙ ap length s.1 in
          absurd (omega arith)
      go false z =
          let u : raw (w ∷ v ∷ us) ≡ high w ∷ mid w ∷ low w ∷ raw (v ∷ us) = used-ahead (high w) (mid w) (low w) (threes (v ∷ us)) z in
          let all-numbers : (ok_numbers directory n (bytes_in w) && ok_numbers directory (low w % 2 ^ 16) (raw (v ∷ us))) ≡ true = sym (numbers-cut n (high w) (mid w) (low w) (raw (v ∷ us))) ∙ ap (ok_numbers directory n) (sym u) ∙ s.0 in
          let written : (bit (is_nil (raw (v ∷ us))) 59 + high w * 2 ^ 36 + mid w * 2 ^ 18 + low w) ∷ further_words (raw (v ∷ us)) ≡ w ∷ v ∷ us = ap further_words (sym u) ∙ s.1 in
          let same : 0 + high w * 2 ^ 36 + mid w * 2 ^ 18 + low w ≡ w = ap (λ (y : Bool). bit y 59 + high w * 2 ^ 36 + mid w * 2 ^ 18 + low w) (sym z) ∙ first_of _ _ _ _ written in (
            and_both (eqb (w / 2 ^ 54) 0) (ok_numbers directory n (bytes_in w)) (eq-eqb (w / 2 ^ 54) 0 (omega arith)) (and_left (ok_numbers directory n (bytes_in w)) (ok_numbers directory (low w % 2 ^ 16) (raw (v ∷ us))) all-numbers),
            (
              ap (λ (k : ℕ). ok_numbers directory k (raw (v ∷ us))) (sym (low-number w)) ∙ and_right (ok_numbers directory n (bytes_in w)) (ok_numbers directory (low w % 2 ^ 16) (raw (v ∷ us))) all-numbers,
              rest_of _ _ _ _ written,
            ),
          )

  pub further-written : (n : ℕ) (us : List ℕ) → Said n us → ok_further directory n us ≡ true
  further-written n [] s = refl
  further-written n (w ∷ []) s = last_written n w s
  further-written n (w ∷ v ∷ us) s =
      let t : (ok_full directory n w ≡ true) × Said (w % 2 ^ 16) (v ∷ us) = full-written n w v us s in
      and_both (ok_full directory n w) (ok_further directory (w % 2 ^ 16) (v ∷ us)) t.0 (further-written (w % 2 ^ 16) (v ∷ us) t.1)

-- A CARD'S WORDS: those up to the first with bit 59
abbrev pub Ended : List ℕ → Type 0
Ended [] = ⊥
Ended (w ∷ []) = (2 ^ 59 ≤ w) × (w < 2 ^ 60)
Ended (w ∷ v ∷ us) = (w < 2 ^ 59) × Ended (v ∷ us)

ended-more : (w : ℕ) (us : List ℕ) → w < 2 ^ 59 → Ended us → Ended (w ∷ us)
ended-more w [] h e = absurd e
ended-more w (v ∷ us) h e = (h, e)

heads-end : (n : ℕ) (ws : List ℕ) (k : ℕ) → ((i : ℕ) → get_or ws i 0 < 2 ^ 60) → place_from is_last_word (suc n) ws ≡ some k
    → (j : ℕ) × ((k ≡ n + suc j) × Ended (take (suc j) ws))
heads-end n [] k h e = absurd (let z : ◌≡◌ {A = ℕ} 0 1 = cc in omega arith)
heads-end n (w ∷ ws) k h e = go (is_last_word w) refl (heads-end (suc n) ws k (λ i. h (suc i))) e
  where
    go : (b : Bool) → is_last_word w ≡ b → (place_from is_last_word (suc (suc n)) ws ≡ some k → (j : ℕ) × ((k ≡ suc n + suc j) × Ended (take (suc j) ws)))
        → (if b then some (suc n) else place_from is_last_word (suc (suc n)) ws) ≡ some k → (j : ℕ) × ((k ≡ n + suc j) × Ended (take (suc j) (w ∷ ws)))
    go true b on e = let z : suc n ≡ k = cc in (0, (omega arith, (leb-true (2 ^ 59) w b, h 0)))
    go false b on e =
        let r : (j : ℕ) × ((k ≡ suc n + suc j) × Ended (take (suc j) ws)) = on e in
        let z : k ≡ suc n + suc r.0 = r.1.0 in
        (suc r.0, (omega arith, ended-more w (take (suc r.0) ws) (leb-false (2 ^ 59) w b) r.1.1))

used-first : (x : ℕ) (xs : List ℕ) → first_activates (used (x ∷ xs)) ≡ true → used (x ∷ xs) ≡ x ∷ used xs
used-first x xs e = of-x (eqb x 0) refl
  where
    of-rest : eqb x 0 ≡ true → (z : Bool) → is_nil (used xs) ≡ z → used (x ∷ xs) ≡ x ∷ used xs
    of-rest p true q = absurd (let y : first_activates (used (x ∷ xs)) ≡ false = ap first_activates (used-none x xs p q) in let z : ◌≡◌ {A = ℕ} 0 1 = cc in omega arith)
    of-rest p false q = used-more x xs q

    of-x : (z : Bool) → eqb x 0 ≡ z → used (x ∷ xs) ≡ x ∷ used xs
    of-x true p = of-rest p (is_nil (used xs)) refl
    of-x false p = used-some x xs p

-- a word above its three lowest fields, and those above its spare bits
fields : (w : ℕ) → w ≡ w / 2 ^ 54 * 2 ^ 54 + w / 2 ^ 36 % 2 ^ 18 * 2 ^ 36 + w / 2 ^ 18 % 2 ^ 18 * 2 ^ 18 + w % 2 ^ 18
fields w =
    let a : w ≡ w / 2 ^ 18 * 2 ^ 18 + w % 2 ^ 18 = omega arith in
    let b : w / 2 ^ 18 ≡ w / 2 ^ 36 * 2 ^ 18 + w / 2 ^ 18 % 2 ^ 18 = omega arith in
    let c : w / 2 ^ 36 ≡ w / 2 ^ 54 * 2 ^ 18 + w / 2 ^ 36 % 2 ^ 18 = omega arith in
    omega arith

upper : (w : ℕ) → w / 2 ^ 54 ≡ w / 2 ^ 59 * 32 + w / 2 ^ 58 % 2 * 16 + w / 2 ^ 54 % 16
upper w =
    let a : w / 2 ^ 54 ≡ w / 2 ^ 58 * 16 + w / 2 ^ 54 % 16 = omega arith in
    let b : w / 2 ^ 58 ≡ w / 2 ^ 59 * 2 + w / 2 ^ 58 % 2 = omega arith in
    omega arith

abbrev of_fields : Bool → Bool → ℕ → ℕ
of_fields end act w = bit end 59 + bit act 58 + w / 2 ^ 36 % 2 ^ 18 * 2 ^ 36 + w / 2 ^ 18 % 2 ^ 18 * 2 ^ 18 + w % 2 ^ 18

first_word : (w : ℕ) (end act : Bool) → w / 2 ^ 54 % 16 ≡ 0 → w / 2 ^ 59 ≡ bit end 0 → w / 2 ^ 58 % 2 ≡ bit act 0 → of_fields end act w ≡ w
first_word w true true p q r = omega (arith, fields w, upper w)
first_word w true false p q r = omega (arith, fields w, upper w)
first_word w false true p q r = omega (arith, fields w, upper w)
first_word w false false p q r = omega (arith, fields w, upper w)

spare-zero : (w : ℕ) (end act : Bool) → of_fields end act w ≡ w → w / 2 ^ 54 % 16 ≡ 0
spare-zero w true true p = let z : w / 2 ^ 54 ≡ 48 = omega (arith, fields w) in rw z
spare-zero w true false p = let z : w / 2 ^ 54 ≡ 32 = omega (arith, fields w) in rw z
spare-zero w false true p = let z : w / 2 ^ 54 ≡ 16 = omega (arith, fields w) in rw z
spare-zero w false false p = let z : w / 2 ^ 54 ≡ 0 = omega (arith, fields w) in rw z

module _ (directory : List ℕ) (w : ℕ) (us : List ℕ) (ended : Ended (w ∷ us)) where
  abbrev hist : List ℕ
  hist = used (w % 2 ^ 18 ∷ threes us)

  abbrev act : Bool
  act = eqb (w / 2 ^ 58 % 2) 1

  -- row 5 but for the text's end, on the contents and word by word
  abbrev contents : List Bool
  contents =
      ltb 0 (w / 2 ^ 18 % 2 ^ 18)
      ∷ first_activates hist
      ∷ rising 1 hist
      ∷ all (ok_byte directory) hist
      ∷ leb (length hist) 64
      ∷ same (head_words act (w / 2 ^ 36 % 2 ^ 18) (w / 2 ^ 18 % 2 ^ 18) hist) (w ∷ us) ∷ []

  abbrev by_word : List Bool
  by_word = leb (length (w ∷ us)) 22 ∷ all_of (first_tests directory w) ∷ ok_further directory (w % 2 ^ 16) us ∷ []

  contents-by-word : Pass contents → Pass by_word
  contents-by-word p =
      let x : ℕ = w % 2 ^ 18 in
      let bs : List ℕ = raw directory us in
      let h : hist ≡ x ∷ bs = used-first x (threes us) p.1.0 in
      let numbers : ok_numbers directory 1 (x ∷ bs) ≡ true = ap (ok_numbers directory 1) (sym h) ∙ numbers-join directory 1 hist p.1.1.0 p.1.1.1.0 in
      let later : ok_numbers directory (w % 2 ^ 16) bs ≡ true = ap (λ (n : ℕ). ok_numbers directory n bs) (sym (low-number directory w)) ∙ and_right (ok_number directory 1 x) (ok_numbers directory (x % 2 ^ 16) bs) numbers in
      let written : head_words act (w / 2 ^ 36 % 2 ^ 18) (w / 2 ^ 18 % 2 ^ 18) (x ∷ bs) ≡ w ∷ us =
      ap (head_words act (w / 2 ^ 36 % 2 ^ 18) (w / 2 ^ 18 % 2 ^ 18)) (sym h) ∙ same-eq _ (w ∷ us) (true-T _ p.1.1.1.1.1.0) in
      let rest : further_words bs ≡ us = rest_of directory _ _ _ _ written in
      let first : of_fields (is_nil bs) act w ≡ w = first_of directory _ _ _ _ written in
      let long : suc (length bs) ≤ 64 = leb-true (suc (length bs)) 64 (ap (λ (l : List ℕ). leb (length l) 64) (sym h) ∙ p.1.1.1.1.0) in
      let many : length us ≡ (length bs + 2) / 3 = ap length (sym rest) ∙ further-length bs in
      let bit16 : x / 2 ^ 16 % 2 ≡ 1 = eqb-true _ _ (ap first_activates (sym h) ∙ p.1.0) in (
        le-leb (suc (length us)) 22 (omega arith),
        (
          pass_all (first_tests directory w) (eq-eqb _ _ (spare-zero w (is_nil bs) act first), (p.0, (eq-eqb (w / 2 ^ 16 % 2) 1 (omega arith), (and_left (ok_number directory 1 x) (ok_numbers directory (x % 2 ^ 16) bs) numbers, tt)))),
          (further-written directory (w % 2 ^ 16) us (later, rest), tt),
        ),
      )

  by-word-contents : Pass by_word → Pass contents
  by-word-contents p =
      let x : ℕ = w % 2 ^ 18 in
      let bs : List ℕ = raw directory us in
      let q : Pass (first_tests directory w) = all_pass (first_tests directory w) p.1.0 in
      let s : Said directory (w % 2 ^ 16) us = further-read directory (w % 2 ^ 16) us p.1.1.0 in
      let bit16 : w / 2 ^ 16 % 2 ≡ 1 = eqb-true _ _ q.1.1.0 in
      let h : hist ≡ x ∷ bs = used-some x (threes us) (ne_eqb x 0 (λ e. omega arith)) in
      let later : ok_numbers directory (x % 2 ^ 16) bs ≡ true = ap (λ (n : ℕ). ok_numbers directory n bs) (low-number directory w) ∙ s.0 in
      let numbers : ok_numbers directory 1 hist ≡ true = ap (ok_numbers directory 1) h ∙ and_both (ok_number directory 1 x) (ok_numbers directory (x % 2 ^ 16) bs) q.1.1.1.0 later in
      let few : suc (length us) ≤ 22 = leb-true (suc (length us)) 22 p.0 in
      let many : length us ≡ (length bs + 2) / 3 = ap length (sym s.1) ∙ further-length bs in
      let first : of_fields (is_nil bs) act w ≡ w =
      first_word w (is_nil bs) act (eqb-true _ _ q.0) (end-bit us ended s.1) (act-bit (w / 2 ^ 58 % 2) (omega arith)) in
      let written : head_words act (w / 2 ^ 36 % 2 ^ 18) (w / 2 ^ 18 % 2 ^ 18) hist ≡ w ∷ us =
      ap (head_words act (w / 2 ^ 36 % 2 ^ 18) (w / 2 ^ 18 % 2 ^ 18)) h ∙ ap₂ {C = List ℕ} ◌∷◌ first s.1 in (
        q.1.0,
        (
          ap first_activates h ∙ eq-eqb (x / 2 ^ 16 % 2) 1 (omega arith),
          (
            numbers-rise directory 1 hist numbers,
            (
              numbers-entries directory 1 hist numbers,
              (
                ap (λ (l : List ℕ). leb (length l) 64) h ∙ le-leb (suc (length bs)) 64 (omega arith),
                (ap (λ (l : List ℕ). same l (w ∷ us)) written ∙ T-true _ (same_refl (w ∷ us)), tt),
              ),
            ),
          ),
        ),
      )
    where
      act-bit : (m : ℕ) → m < 2 → m ≡ bit (eqb m 1) 0
      act-bit zero h = refl
      act-bit (suc zero) h = refl
      act-bit (suc (suc m)) h = absurd (omega arith)

      end-bit : (us : List ℕ) → Ended (w ∷ us) → further_words (raw directory us) ≡ us → w / 2 ^ 59 ≡ bit (is_nil (raw directory us)) 0
      end-bit [] e f = omega arith
      end-bit (v ∷ us) e f =
          let z : w / 2 ^ 59 ≡ 0 = omega arith in
          z ∙ ap (λ (b : Bool). bit b 0) (sym (not-nil directory (raw directory (v ∷ us)) v us f))

-- both ways
pub equally : (a b : Bool) → (a ≡ true → b ≡ true) → (b ≡ true → a ≡ true) → a ≡ b
equally true b f g = sym (f refl)
equally false true f g = g refl
equally false false f g = refl

module _ (directory : List ℕ) (w : ℕ) (ws : List ℕ) (j : ℕ) (ended : Ended (w ∷ take j ws)) (inside : j ≤ length ws) where
  abbrev f : Fields
  f = fields_of (w ∷ ws) (suc j)

  text-length : length f.text ≡ min (w / 2 ^ 36 % 2 ^ 18) (length ws - j)
  text-length = length-take (w / 2 ^ 36 % 2 ^ 18) (drop j ws) ∙ ap (min (w / 2 ^ 36 % 2 ^ 18)) (length-drop j ws)

  form-tests : Pass (form_tests directory f) → Pass (word_tests directory (w ∷ ws) (suc j))
  form-tests p =
      let t : Pass (by_word directory w (take j ws) ended) = contents-by-word directory w (take j ws) ended (p.0, (p.1.0, (p.1.1.0, (p.1.1.1.0, (p.1.1.1.1.0, (p.1.1.1.1.1.0, tt)))))) in
      let n : length (take j ws) ≡ j = length-take-le j ws inside in
      let fits : length f.text ≡ w / 2 ^ 36 % 2 ^ 18 = eqb-true _ _ p.1.1.1.1.1.1.0 in
      let m : length f.text ≡ min (w / 2 ^ 36 % 2 ^ 18) (length ws - j) = text-length in
      let few : suc (length (take j ws)) ≤ 22 = leb-true _ _ t.0 in
      (le-leb (suc j) 22 (omega arith), (le-leb (w / 2 ^ 36 % 2 ^ 18) (suc (length ws) - suc j) (omega arith), (t.1.0, (t.1.1.0, tt))))

  word-tests : Pass (word_tests directory (w ∷ ws) (suc j)) → Pass (form_tests directory f)
  word-tests p =
      let n : length (take j ws) ≡ j = length-take-le j ws inside in
      let few : suc j ≤ 22 = leb-true _ _ p.0 in
      let fits : w / 2 ^ 36 % 2 ^ 18 ≤ suc (length ws) - suc j = leb-true _ _ p.1.0 in
      let m : length f.text ≡ min (w / 2 ^ 36 % 2 ^ 18) (length ws - j) = text-length in
      let t : Pass (contents directory w (take j ws) ended) = by-word-contents directory w (take j ws) ended (le-leb (suc (length (take j ws))) 22 (omega arith), (p.1.1.0, (p.1.1.1.0, tt))) in
      (t.0, (t.1.0, (t.1.1.0, (t.1.1.1.0, (t.1.1.1.1.0, (t.1.1.1.1.1.0, (eq-eqb (length f.text) (w / 2 ^ 36 % 2 ^ 18) (omega arith), tt)))))))

  form-here : ok_form directory f ≡ all_of (word_tests directory (w ∷ ws) (suc j))
  form-here =
      equally (ok_form directory f) (all_of (word_tests directory (w ∷ ws) (suc j)))
      (λ e. pass_all (word_tests directory (w ∷ ws) (suc j)) (form-tests (all_pass (form_tests directory f) e)))
      (λ e. pass_all (form_tests directory f) (word-tests (all_pass (word_tests directory (w ∷ ws) (suc j)) e)))

pub form-words : FormByWord
form-words directory [] k h p = absurd (let z : ◌≡◌ {A = ℕ} 0 1 = cc in omega arith)
form-words directory (w ∷ ws) k h p =
    let e : (j : ℕ) × ((k ≡ 0 + suc j) × Ended (take (suc j) (w ∷ ws))) = heads-end 0 (w ∷ ws) k h p in
    let is : k ≡ 0 + suc e.0 = e.1.0 in
    let b : (1 ≤ k) × (k < 1 + suc (length ws)) = placed-within is_last_word 1 (w ∷ ws) k p in
    let s : k ≡ suc e.0 = omega arith in
    subst (λ (n : ℕ). ok_form directory (fields_of (w ∷ ws) n) ≡ all_of (word_tests directory (w ∷ ws) n)) (sym s) (form-here directory w ws e.0 e.1.1 (omega arith))

-- IT IS MET, and none of its hypotheses is spare
two-words : (i : ℕ) → get_or two_words i 0 < 2 ^ 60
two-words zero = omega arith
two-words (suc zero) = omega arith
two-words (suc (suc i)) = omega arith

pub form-met : FormMet
unfolding ok_full ok_last
form-met = record { words = two-words; place = refl; passes = tt }

pub form-spare : FormSpare
unfolding FormSpare ok_full ok_last
form-spare = tt
