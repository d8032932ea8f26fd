-- Text goes to words and back. Assumes nothing.
use Prim.Native.Nat.{ℕ, zero, suc, ◌*◌, ◌≤◌, ◌<◌}
use native.Mathlib.Omega.{arith}
use native.Mathlib.Decide.{dec_lt}
use mathlib.Core.Path.{◌≡◌, refl, ap, ap₂, ◌∙◌}
use mathlib.Core.Bool.{true, ◌&&◌}
use mathlib.Core.List.{List, [], ◌∷◌, map}
use lib.Dec.{T, leb, le→leb, lt→ltb}
use lib.ListN.{length, replicate, length-map}
use Rattle.words.specs.Base.{all, same}
use Rattle.words.specs.Display.{code_of, in_chart, letter}
use Rattle.words.specs.Text.{trim, compress, words_of, columns_of, all_codes, text_words, says, is_text}
use Rattle.words.specs.TextTrip.{LetterOfCode, CodeOfLetter, SaysWritten, WrittenIsText, WrittenFits, TrimmedTheSame, WrittenSays}
use Rattle.words.proofs.TestParts.{T-true, true-T, and_left, and_right, and_both, same_refl, same-eq}
use Rattle.words.proofs.ChartBothWays.{code-letter, letter-code, letter-outside, blank-in}
use Rattle.words.proofs.TrimmedLine.{length-trim, all-trim, trim-trim, well-trim}
use Rattle.words.proofs.CompressedLine.{is_code, columns-compress, length-compress, codes-compress}
use Rattle.words.proofs.TenCodes.{words_back, length-words}

pub letter-of-code : LetterOfCode
letter-of-code b e = letter-code b (true-T (in_chart b) e)

pub code-of-letter : CodeOfLetter
code-of-letter = code-letter

pub columns-zeros : (z : ℕ) → columns_of (replicate z 0) ≡ []
columns-zeros zero = refl
columns-zeros (suc zero) = refl
columns-zeros (suc (suc z)) = refl

pub codes-line : (l : List ℕ) → T (all in_chart l) → T (all is_code (map code_of l))
codes-line [] t = tt
codes-line (x ∷ xs) t =
    and_both (in_chart x) (all is_code (map code_of xs)) (and_left (in_chart x) (all in_chart xs) t) (codes-line xs (and_right (in_chart x) (all in_chart xs) t))

pub letters-line : (l : List ℕ) → T (all in_chart l) → map letter (map code_of l) ≡ l
letters-line [] t = refl
letters-line (x ∷ xs) t =
    ap₂ {C = List ℕ} ◌∷◌ (letter-code x (and_left (in_chart x) (all in_chart xs) t)) (letters-line xs (and_right (in_chart x) (all in_chart xs) t))

says-words : (l : List ℕ) → T (all in_chart l) → says (text_words l) ≡ trim l
unfolding says text_words
says-words l t =
    let u = all-trim in_chart l t in
    let cs : List ℕ = map code_of (trim l) in
    let back = words_back (compress cs) (codes-compress cs (codes-line (trim l) u)) in
    ap (λ (r : List ℕ). map letter (columns_of r)) back.1
    ∙ ap (map letter) (columns-compress (replicate back.0 0) (columns-zeros back.0) cs (well-trim l t))
    ∙ letters-line (trim l) u

pub says-written : SaysWritten
says-written l e = says-words l (true-T (all in_chart l) e)

-- whatever words say is of the set
letter-in : (c : ℕ) → T (in_chart (letter c))
letter-in c = go (dec_lt c 64)
  where
    go : Dec (c < 64) → T (in_chart (letter c))
    go (yes h) = rw (code-letter c h) (lt→ltb c 64 h)
    go (no h) = rw (letter-outside c (omega arith)) blank-in

letters-in : (cs : List ℕ) → T (all in_chart (map letter cs))
letters-in [] = tt
letters-in (c ∷ cs) = and_both (in_chart (letter c)) (all in_chart (map letter cs)) (letter-in c) (letters-in cs)

pub says-in-chart : (ws : List ℕ) → all in_chart (says ws) ≡ true
unfolding says
says-in-chart ws = T-true (all in_chart (says ws)) (letters-in (columns_of (all_codes ws)))

pub trimmed-the-same : TrimmedTheSame
unfolding text_words
trimmed-the-same l = ap (λ (r : List ℕ). words_of (compress (map code_of r))) (trim-trim l)

-- the codes of a line, as they are written
pub codes-written : (l : List ℕ) → all in_chart l ≡ true → T (all is_code (compress (map code_of (trim l))))
codes-written l e = codes-compress (map code_of (trim l)) (codes-line (trim l) (all-trim in_chart l (true-T (all in_chart l) e)))

pub length-written : (l : List ℕ) → length (compress (map code_of (trim l))) ≤ 2 * length l
length-written l =
    let n : length (map code_of (trim l)) ≡ length (trim l) = length-map (trim l) code_of in
    omega (arith, length-compress (map code_of (trim l)), length-trim l)

pub written-fits : WrittenFits
unfolding text_words
written-fits l h = omega (arith, length-words (compress (map code_of (trim l))), length-written l)

pub written-is-text : WrittenIsText
unfolding is_text
written-is-text l e h =
    let s = says-words l (true-T (all in_chart l) e) in
    rw s (T-true (leb (length (trim l)) 80 && same (text_words (trim l)) (text_words l))
    (and_both (leb (length (trim l)) 80) (same (text_words (trim l)) (text_words l))
    (le→leb (length (trim l)) 80 (omega (arith, length-trim l)))
    (rw (trimmed-the-same l) (same_refl (text_words l)))))

-- what is_text says of words
pub text-short : (ws : List ℕ) → is_text ws ≡ true → T (leb (length (says ws)) 80)
unfolding is_text
text-short ws e = and_left (leb (length (says ws)) 80) (same (text_words (says ws)) ws) (true-T (is_text ws) e)

pub written-says : WrittenSays
unfolding is_text
written-says ws e = same-eq (text_words (says ws)) ws (and_right (leb (length (says ws)) 80) (same (text_words (says ws)) ws) (true-T (is_text ws) e))
