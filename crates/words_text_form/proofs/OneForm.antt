-- Words are text where their codes are in the one right form. Assumes nothing.
use Rattle.std.specs.Prelude.{if◌then◌else◌}
use Prim.Native.Nat.{ℕ, zero, suc, ◌+◌, ◌/◌, ◌%◌, ◌≤◌}
use native.Mathlib.Omega.{arith}
use mathlib.Core.Path.{◌≡◌, refl, sym, ap, ap₂, ◌∙◌, subst}
use mathlib.Core.Bool.{Bool, true, false, ◌&&◌, not}
use mathlib.Core.List.{List, [], ◌∷◌, map}
use borrow.Author.Tests.{ne_eqb, eq-eqb}
use lib.Dec.{T, eqb, leb, ltb→lt, lt→ltb, leb→le, le→leb, T_not}
use lib.ListN.{length, get_or, replicate, length-map}
use Rattle.words.specs.Base.{all, same, is_nil, is_word}
use Rattle.words.specs.Display.{code_of, in_chart, letter, blank}
use Rattle.words.specs.Text.{trim, gap, compress, words_of, low_codes, all_codes, columns_of, text_words, says, is_text}
use Rattle.words_text_form.specs.Form.{start, after, count, may_end, ends_full, in_form}
use Rattle.words.proofs.TestParts.{T-true, true-T, and_left, and_right, and_both, all_append, same_refl, bool_iff}
use Rattle.words.proofs.ChartBothWays.{code-letter}
use Rattle.words.proofs.TrimmedLine.{ends_well, well-trim, all-trim}
use Rattle.words.proofs.CompressedLine.{is_code, codes-gaps, codes-compress}
use Rattle.words.proofs.TenCodes.{words_back}
use Rattle.words.proofs.TextTrip.{says-in-chart, text-short, written-says, codes-line, codes-written}
use Rattle.words.proofs.SixtyBits.{text-is_word}
use Rattle.words_text_form.proofs.FormSound.{Whole, whole}
use Rattle.words_text_form.proofs.FormTaken.{taken, full-written}
use Rattle.words_text_form.proofs.FormWords.{fill-at, same-text-words}

-- CODES
codes-low : (n w : ℕ) (r : List ℕ) → T (all is_code r) → T (all is_code (low_codes n w r))
codes-low zero w r t = t
codes-low (suc n) w r t = codes-low n (w / 64) (w % 64 ∷ r) (and_both (is_code (w % 64)) (all is_code r) (lt→ltb (w % 64) 64 (omega arith)) t)

pub codes_all : (ws : List ℕ) → T (all is_code (all_codes ws))
codes_all [] = tt
codes_all (w ∷ ws) = codes-low 10 w (all_codes ws) (codes_all ws)

codes-columns : (cs : List ℕ) → T (all is_code cs) → T (all is_code (columns_of cs))
codes-columns [] t = tt
codes-columns (zero ∷ []) t = tt
codes-columns (zero ∷ zero ∷ r) t = tt
codes-columns (zero ∷ suc zero ∷ r) t = codes-columns r t
codes-columns (zero ∷ suc (suc y) ∷ r) t =
    all_append is_code (replicate (1 + suc (suc y)) gap) (columns_of r) (codes-gaps (1 + suc (suc y))) (codes-columns r (and_right (is_code (suc (suc y))) (all is_code r) t))
codes-columns (suc c ∷ r) t =
    and_both (is_code (suc c)) (all is_code (columns_of r)) (and_left (is_code (suc c)) (all is_code r) t) (codes-columns r (and_right (is_code (suc c)) (all is_code r) t))

-- THE LINE OF CODES THAT END WELL
codes-back : (l : List ℕ) → T (all is_code l) → map code_of (map letter l) ≡ l
codes-back [] t = refl
codes-back (c ∷ l) t =
    ap₂ {C = List ℕ} ◌∷◌ (code-letter c (ltb→lt c 64 (and_left (is_code c) (all is_code l) t))) (codes-back l (and_right (is_code c) (all is_code l) t))

blank-code : code_of blank ≡ gap
unfolding code_of
blank-code = refl

not-blank : (c : ℕ) → T (is_code c) → T (not (eqb c gap)) → letter c ≡ blank → ⊥
not-blank c t n e =
    let is : c ≡ gap = sym (code-letter c (ltb→lt c 64 t)) ∙ ap code_of e ∙ blank-code in
    T_not (eqb c gap) n (true-T (eqb c gap) (eq-eqb c gap is))

trim-none : (l : List ℕ) → T (all is_code l) → T (ends_well l) → trim (map letter l) ≡ map letter l
trim-none [] t w = refl
trim-none (c ∷ []) t w = rw (ne_eqb (letter c) blank (not-blank c (and_left (is_code c) true t) w))
trim-none (c ∷ d ∷ r) t w = go (eqb (letter c) blank) (trim-none (d ∷ r) (and_right (is_code c) (all is_code (d ∷ r)) t) w)
  where
    go : (b : Bool) → trim (map letter (d ∷ r)) ≡ map letter (d ∷ r)
        → (if b && is_nil (trim (map letter (d ∷ r))) then [] else (letter c ∷ trim (map letter (d ∷ r)))) ≡ letter c ∷ map letter (d ∷ r)
    go true e = rw e
    go false e = rw e

-- a whole line's words say it
module _ (ws : List ℕ) (w : Whole (all_codes ws)) where
  columns-back : map code_of (trim (says ws)) ≡ columns_of (all_codes ws)
  unfolding says
  columns-back =
      let l : List ℕ = columns_of (all_codes ws) in
      let t : T (all is_code l) = codes-columns (all_codes ws) (codes_all ws) in
      ap (map code_of) (trim-none l t w.well) ∙ codes-back l t

  pub whole_length : length (says ws) ≡ count start (all_codes ws)
  unfolding says
  whole_length = length-map (columns_of (all_codes ws)) letter ∙ sym w.many

  written-codes : (j : ℕ) → get_or (all_codes (text_words (says ws))) j 0 ≡ get_or (all_codes ws) j 0
  unfolding text_words
  written-codes j =
      let cs : List ℕ = map code_of (trim (says ws)) in
      let b = words_back (compress cs) (codes-written (says ws) (says-in-chart ws)) in
      ap (λ (r : List ℕ). get_or r j 0) b.1
      ∙ fill-at (compress cs) b.0 j
      ∙ ap (λ (r : List ℕ). get_or (compress r) j 0) columns-back
      ∙ sym (fill-at (compress (columns_of (all_codes ws))) w.fill j)
      ∙ ap (λ (r : List ℕ). get_or r j 0) (sym w.codes)

full-text : (l : List ℕ) → T (ends_full (text_words l))
unfolding text_words
full-text l = full-written (map code_of (trim l))

-- FORM TO TEXT
module _ (ws : List ℕ) where
  pub form-text : T (all is_word ws) → T (ends_full ws) → T (may_end (after start (all_codes ws))) → count start (all_codes ws) ≤ 80 → is_text ws ≡ true
  unfolding is_text
  form-text h f t n =
      let w = whole (all_codes ws) (codes_all ws) t in
      let e : text_words (says ws) ≡ ws = same-text-words (text_words (says ws)) ws (text-is_word (says ws) (says-in-chart ws)) h (full-text (says ws)) f (written-codes ws w) in
      T-true (leb (length (says ws)) 80 && same (text_words (says ws)) ws)
      (and_both (leb (length (says ws)) 80) (same (text_words (says ws)) ws) (le→leb (length (says ws)) 80 (omega (arith, whole_length ws w))) (rw e (same_refl ws)))

-- TEXT TO FORM
taken-line : (l : List ℕ) → T (all in_chart l) → T (may_end (after start (all_codes (text_words l))))
unfolding text_words words_of
taken-line l t = go (map code_of (trim l)) (well-trim l t) (codes-line (trim l) (all-trim in_chart l t))
  where
    go : (cs : List ℕ) → T (ends_well cs) → T (all is_code cs) → T (may_end (after start (all_codes (words_of (compress cs)))))
    go [] w t = tt
    go (x ∷ xs) w t =
        let b = words_back (compress (x ∷ xs)) (codes-compress (x ∷ xs) t) in
        subst (λ (r : List ℕ). T (may_end (after start r))) (sym b.1) (taken b.0 x xs w)

module _ (ws : List ℕ) (e : is_text ws ≡ true) where
  pub text-words : T (all is_word ws)
  text-words = subst (λ (r : List ℕ). T (all is_word r)) (written-says ws e) (text-is_word (says ws) (says-in-chart ws))

  text-full : T (ends_full ws)
  text-full = subst (λ (r : List ℕ). T (ends_full r)) (written-says ws e) (full-text (says ws))

  text-ends : T (may_end (after start (all_codes ws)))
  text-ends =
      subst (λ (r : List ℕ). T (may_end (after start (all_codes r)))) (written-says ws e) (taken-line (says ws) (true-T (all in_chart (says ws)) (says-in-chart ws)))

  text-columns : count start (all_codes ws) ≤ 80
  text-columns =
      omega (arith, leb→le (length (says ws)) 80 (text-short ws e), whole_length ws (whole (all_codes ws) (codes_all ws) text-ends))

pub form-is-text : (ws : List ℕ) → in_form ws ≡ is_text ws
unfolding in_form
form-is-text ws = bool_iff (in_form ws) (is_text ws) forth back
  where
    forth : T (((all is_word ws && ends_full ws) && may_end (after start (all_codes ws))) && leb (count start (all_codes ws)) 80) → T (is_text ws)
    forth t =
        let abc = and_left ((all is_word ws && ends_full ws) && may_end (after start (all_codes ws))) (leb (count start (all_codes ws)) 80) t in
        let ab = and_left (all is_word ws && ends_full ws) (may_end (after start (all_codes ws))) abc in
        true-T (is_text ws)
        (form-text ws (and_left (all is_word ws) (ends_full ws) ab) (and_right (all is_word ws) (ends_full ws) ab)
        (and_right (all is_word ws && ends_full ws) (may_end (after start (all_codes ws))) abc)
        (leb→le (count start (all_codes ws)) 80 (and_right ((all is_word ws && ends_full ws) && may_end (after start (all_codes ws))) (leb (count start (all_codes ws)) 80) t)))

    back : T (is_text ws) → T (((all is_word ws && ends_full ws) && may_end (after start (all_codes ws))) && leb (count start (all_codes ws)) 80)
    back t =
        let e = T-true (is_text ws) t in
        and_both ((all is_word ws && ends_full ws) && may_end (after start (all_codes ws))) (leb (count start (all_codes ws)) 80)
        (and_both (all is_word ws && ends_full ws) (may_end (after start (all_codes ws))) (and_both (all is_word ws) (ends_full ws) (text-words ws e) (text-full ws e)) (text-ends ws e))
        (le→leb (count start (all_codes ws)) 80 (text-columns ws e))
