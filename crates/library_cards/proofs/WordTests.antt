-- The tests of a card's words, one law for each way out of the code. Assumes nothing.
--   number-..      a byte's number
--   bytes-..       a byte, then those after it
--   full-.., last-..   a further history word
--   words-..       a card with so many words ahead of its text
--   single-..      one whose first word has bit 59
--   text-..        where the text starts of a card that passes row 5
use Rattle.std.specs.Prelude.{None, Some, if◌then◌else◌}
use Prim.Native.Nat.{ℕ, zero, suc, ◌+◌, ◌-◌, ◌/◌, ◌%◌, ◌^◌, ◌≤◌, ◌<◌}
use native.Mathlib.Omega.{arith}
use native.Mathlib.Numerals.{add-one}
use mathlib.Core.Path.{◌≡◌, refl, sym, ap, ◌∙◌, subst}
use mathlib.Core.Bool.{Bool, true, false, ◌&&◌, not}
use mathlib.Core.List.{List, [], ◌∷◌}
use mathlib.Core.Option.{some}
use lib.Dec.{eqb, leb}
use lib.ListN.{length, get_or, take, drop, length-drop}
use lib.Seq.{drop-cons, get_or-drop}
use borrow.Author.Tests.{eq-eqb, ne_eqb, le-leb, lt-leb, leb-true}
use Rattle.words.proofs.TestParts.{and-true}
use Rattle.words.specs.Base.{all_of, is_nil, place_from}
use Rattle.library.specs.Check.{is_last_word, used, ok_byte}
use Rattle.library_tables.specs.Found.{found, Sized}
use Rattle.library_cards.specs.Found.{text_if, text_found}
use Rattle.library.specs.WordForm.{ok_number, ok_numbers, bytes_in, ok_full, ok_last, ok_further, first_tests, word_tests}
use Rattle.library.proofs.FirstPlace.{place_here}
use Rattle.library_tables.proofs.FirstFault.{found_some, found_none}
use Rattle.library.proofs.FormByWord.{and_left, used-none, used-some, used-more, form-words}
use Rattle.library.proofs.CardWithin.{first-at}

pub never : false ≡ true → ⊥
never e = let z : ◌≡◌ {A = ℕ} 0 1 = cc in omega arith

module _ (directory : List ℕ) where
  module _ (n b : ℕ) where
    pub number-low : b % 2 ^ 16 < n → ok_number directory n b ≡ false
    number-low h = rw (lt-leb n (b % 2 ^ 16) h)

    pub number-above : 0 < n → ok_number directory n b ≡ true → 0 < b % 2 ^ 16
    number-above h e = let z : n ≤ b % 2 ^ 16 = leb-true n (b % 2 ^ 16) (and_left (leb n (b % 2 ^ 16)) (ok_byte directory b) e) in omega arith

  -- a byte that fails, and one that passes, ahead of others
  module _ (n b : ℕ) (bs : List ℕ) where
    pub bytes-fail : ok_number directory n b ≡ false → ok_numbers directory n (b ∷ bs) ≡ false
    bytes-fail e = ap (λ (t : Bool). t && ok_numbers directory (b % 2 ^ 16) bs) e

    pub bytes_on : ok_number directory n b ≡ true → ok_numbers directory n (b ∷ bs) ≡ ok_numbers directory (b % 2 ^ 16) bs
    bytes_on e = ap (λ (t : Bool). t && ok_numbers directory (b % 2 ^ 16) bs) e

  pub bytes-end : (n b : ℕ) → ok_numbers directory n (b ∷ []) ≡ ok_number directory n b
  bytes-end n b = and-true (ok_number directory n b)

  -- the same of bytes that are used
  module _ (n b : ℕ) (bs : List ℕ) (more : b ≡ 0 → ⊥) where
    used-is : used (b ∷ bs) ≡ b ∷ used bs
    used-is = used-some b bs (ne_eqb b 0 more)

    pub used-fail : ok_number directory n b ≡ false → ok_numbers directory n (used (b ∷ bs)) ≡ false
    used-fail e = ap (ok_numbers directory n) used-is ∙ bytes-fail n b (used bs) e

    pub used-on : ok_number directory n b ≡ true → ok_numbers directory n (used (b ∷ bs)) ≡ ok_numbers directory (b % 2 ^ 16) (used bs)
    used-on e = ap (ok_numbers directory n) used-is ∙ bytes_on n b (used bs) e

  pub used-end : (n b : ℕ) → b ≡ 0 → ok_numbers directory n (used (b ∷ [])) ≡ true
  used-end n b e = ap (ok_numbers directory n) (used-none b [] (eq-eqb b 0 e) refl)

  pub used-last : (n b : ℕ) → (b ≡ 0 → ⊥) → ok_numbers directory n (used (b ∷ [])) ≡ ok_number directory n b
  used-last n b h = ap (ok_numbers directory n) (used-is n b [] h) ∙ bytes-end n b

  -- an unused byte ahead of the last: then the last is unused too
  pub used-gap : (n b c : ℕ) → 0 < n → b ≡ 0 → ok_numbers directory n (used (b ∷ c ∷ [])) ≡ eqb c 0
  used-gap n b c h e = go (eqb c 0) refl
    where
      go : (z : Bool) → eqb c 0 ≡ z → ok_numbers directory n (used (b ∷ c ∷ [])) ≡ eqb c 0
      go true z = ap (ok_numbers directory n) (used-none b (c ∷ []) (eq-eqb b 0 e) (ap is_nil (used-none c [] z refl))) ∙ sym z
      go false z =
          let low : b % 2 ^ 16 < n = omega arith in
          ap (ok_numbers directory n) (used-more b (c ∷ []) (ap is_nil (used-some c [] z))) ∙ bytes-fail n b (used (c ∷ [])) (number-low n b low) ∙ sym z

  module _ (n w : ℕ) where
    pub full-top : (w / 2 ^ 54 ≡ 0 → ⊥) → ok_full directory n w ≡ false
    unfolding ok_full
    full-top h = ap (λ (t : Bool). t && ok_numbers directory n (bytes_in w)) (ne_eqb (w / 2 ^ 54) 0 h)

    pub full-bytes : w / 2 ^ 54 ≡ 0 → ok_full directory n w ≡ ok_numbers directory n (bytes_in w)
    unfolding ok_full
    full-bytes h = ap (λ (t : Bool). t && ok_numbers directory n (bytes_in w)) (eq-eqb (w / 2 ^ 54) 0 h)

    abbrev some_ok : Bool
    some_ok = not (is_nil (used (bytes_in w))) && ok_numbers directory n (used (bytes_in w))

    pub last-top : (w / 2 ^ 54 ≡ 32 → ⊥) → ok_last directory n w ≡ false
    unfolding ok_last
    last-top h = ap (λ (t : Bool). t && some_ok) (ne_eqb (w / 2 ^ 54) 32 h)

    module _ (top : w / 2 ^ 54 ≡ 32) where
      last-is : ok_last directory n w ≡ some_ok
      unfolding ok_last
      last-is = ap (λ (t : Bool). t && some_ok) (eq-eqb (w / 2 ^ 54) 32 top)

      pub last-fail : ok_number directory n (w / 2 ^ 36 % 2 ^ 18) ≡ false → ok_last directory n w ≡ false
      last-fail e = last-is ∙ go (w / 2 ^ 36 % 2 ^ 18) (w / 2 ^ 18 % 2 ^ 18 ∷ w % 2 ^ 18 ∷ []) e
        where
          go : (a : ℕ) (xs : List ℕ) → ok_number directory n a ≡ false → (not (is_nil (used (a ∷ xs))) && ok_numbers directory n (used (a ∷ xs))) ≡ false
          go a xs f = pick (eqb a 0 && is_nil (used xs))
            where
              pick : (z : Bool) → (not (is_nil (if z then [] else (a ∷ used xs))) && ok_numbers directory n (if z then [] else (a ∷ used xs))) ≡ false
              pick true = refl
              pick false = bytes-fail n a (used xs) f

      pub last_on : 0 < n → ok_number directory n (w / 2 ^ 36 % 2 ^ 18) ≡ true
          → ok_last directory n w ≡ ok_numbers directory (w / 2 ^ 36 % 2 ^ 18 % 2 ^ 16) (used (w / 2 ^ 18 % 2 ^ 18 ∷ w % 2 ^ 18 ∷ []))
      last_on h e = last-is ∙ go (w / 2 ^ 36 % 2 ^ 18) (w / 2 ^ 18 % 2 ^ 18 ∷ w % 2 ^ 18 ∷ []) e
        where
          go : (a : ℕ) (xs : List ℕ) → ok_number directory n a ≡ true
              → (not (is_nil (used (a ∷ xs))) && ok_numbers directory n (used (a ∷ xs))) ≡ ok_numbers directory (a % 2 ^ 16) (used xs)
          go a xs f =
              let z : 0 < a % 2 ^ 16 = number-above n a h f in
              ap (λ (l : List ℕ). not (is_nil l) && ok_numbers directory n l) (used-is n a xs (λ q. omega arith)) ∙ bytes_on n a (used xs) f

-- the tests of a card's words, in terms of the image
module _ (directory ws : List ℕ) (at k : ℕ) (some : 0 < k) (inside : at + k ≤ length ws) where
  abbrev w : ℕ
  w = get_or ws at 0

  abbrev further : List ℕ
  further = take (at + k - (at + 1)) (drop (at + 1) ws)

  further_same : drop 1 (take k (drop at ws)) ≡ further
  further_same = go k some inside
    where
      go : (k : ℕ) → 0 < k → at + k ≤ length ws → drop 1 (take k (drop at ws)) ≡ take (at + k - (at + 1)) (drop (at + 1) ws)
      go zero s i = absurd (omega arith)
      go (suc j) s i =
          let h : at < length ws = omega arith in
          let n : j ≡ at + suc j - (at + 1) = omega arith in
          ap (λ (l : List ℕ). drop 1 (take (suc j) l)) (drop-cons ws at 0 h) ∙ ap (λ (m : ℕ). take m (drop (suc at) ws)) n ∙ ap (λ (m : ℕ). take (at + suc j - (at + 1)) (drop m ws)) (sym (add-one at))

  abbrev tests_of : ℕ → ℕ → List ℕ → Bool
  tests_of v n l = leb k 22 && (leb (v / 2 ^ 36 % 2 ^ 18) n && (all_of (first_tests directory v) && (ok_further directory (v % 2 ^ 16) l && true)))

  words_are : all_of (word_tests directory (drop at ws) k) ≡ tests_of w (length ws - at - k) further
  words_are =
      ap (λ (v : ℕ). tests_of v (length (drop at ws) - k) (drop 1 (take k (drop at ws)))) (first-at ws at)
      ∙ ap (λ (n : ℕ). tests_of w (n - k) (drop 1 (take k (drop at ws)))) (length-drop at ws)
      ∙ ap (tests_of w (length ws - at - k)) further_same

  module _ (few : k ≤ 22) where
    module _ (fits : w / 2 ^ 36 % 2 ^ 18 ≤ length ws - at - k) where
      rest-are : all_of (word_tests directory (drop at ws) k) ≡ (all_of (first_tests directory w) && (ok_further directory (w % 2 ^ 16) further && true))
      rest-are =
          words_are ∙ ap (λ (t : Bool). t && (leb (w / 2 ^ 36 % 2 ^ 18) (length ws - at - k) && (all_of (first_tests directory w) && (ok_further directory (w % 2 ^ 16) further && true)))) (le-leb k 22 few)
          ∙ ap (λ (t : Bool). t && (all_of (first_tests directory w) && (ok_further directory (w % 2 ^ 16) further && true))) (le-leb (w / 2 ^ 36 % 2 ^ 18) (length ws - at - k) fits)

      pub words-further : all_of (first_tests directory w) ≡ true → all_of (word_tests directory (drop at ws) k) ≡ ok_further directory (w % 2 ^ 16) further
      words-further e = rest-are ∙ ap (λ (t : Bool). t && (ok_further directory (w % 2 ^ 16) further && true)) e ∙ and-true (ok_further directory (w % 2 ^ 16) further)

-- a card with one word ahead of its text: no history words follow
module _ (directory ws : List ℕ) (at : ℕ) (inside : at < length ws) where
  abbrev v : ℕ
  v = get_or ws at 0

  pub single-place : 2 ^ 59 ≤ v → found (place_from is_last_word 1 (drop at ws)) ≡ Some 1
  single-place h = ap found (place_here is_last_word 1 ws at inside (le-leb (2 ^ 59) v h))

-- where the text starts of the card at a place
module _ (directory ws : List ℕ) (at : ℕ) where
  pub text-none : found (place_from is_last_word 1 (drop at ws)) ≡ None → None ≡ text_found directory ws at
  unfolding text_found
  text-none e = sym (ap (text_if directory ws at) (found_none (place_from is_last_word 1 (drop at ws)) e))

  module _ (s : Sized ws) (k : ℕ) (e : found (place_from is_last_word 1 (drop at ws)) ≡ Some k) (b : Bool) (is : b ≡ all_of (word_tests directory (drop at ws) k)) where
    text-some : text_found directory ws at ≡ (if b then Some (at + k) else None)
    unfolding text_found
    text-some =
        let p : place_from is_last_word 1 (drop at ws) ≡ some k = found_some (place_from is_last_word 1 (drop at ws)) k e in
        ap (text_if directory ws at) p
        ∙ ap (λ (t : Bool). if t then Some (at + k) else None) (form-words directory (drop at ws) k (λ i. subst (λ (v : ℕ). v < 2 ^ 60) (sym (get_or-drop at ws i 0)) (s.words (at + i))) p ∙ sym is)

    pub text-there : b ≡ true → Some (at + k) ≡ text_found directory ws at
    text-there q = sym (text-some ∙ ap (λ (t : Bool). if t then Some (at + k) else None) q)

    pub text-not : b ≡ false → None ≡ text_found directory ws at
    text-not q = sym (text-some ∙ ap (λ (t : Bool). if t then Some (at + k) else None) q)
