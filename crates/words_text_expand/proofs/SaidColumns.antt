-- The columns that codes say, one code at a time, are the columns of the codes. Assumes nothing.
use Prim.Native.Nat.{ℕ, zero, suc, ◌+◌, ◌-◌, ◌*◌, ◌/◌, ◌%◌, ◌^◌, ◌≤◌, ◌<◌}
use native.Mathlib.Omega.{arith}
use mathlib.Core.Path.{◌≡◌, refl, sym, ap, ◌∙◌, subst}
use mathlib.Core.Bool.{Bool, true, false}
use mathlib.Core.List.{List, [], ◌∷◌, ◌++◌, map, append_assoc, append-nil}
use borrow.Author.Tests.{ne_eqb}
use lib.Dec.{leb→le}
use lib.ListN.{length, get_or, take, drop, replicate, length-append}
use lib.Seq.{length-take-le}
use Rattle.words.specs.Base.{all, is_word}
use Rattle.words.specs.Display.{letter, blank}
use Rattle.words.specs.Text.{gap, low_codes, all_codes, columns_of, says, is_text}
use Rattle.words_text_expand.specs.Saying.{code_says, ahead_after, codes_say, state_after, word_says, word_ahead}
use Rattle.words_text_expand.specs.declared.say.Ahead.{Ahead}
use Rattle.words_text_expand.specs.declared.say.Ahead.TheVariants.{Alone, Past}
use Rattle.words.proofs.TestParts.{T-true}
use Rattle.words.proofs.TrimmedLine.{blank-letter}
use Rattle.words.proofs.TextTrip.{text-short}
use Rattle.words_text_expand.proofs.ColumnsBehind.{same-beyond, Placed}
use Rattle.words.proofs.AllPass.{passes, stops}
use Rattle.words_text_form.proofs.OneForm.{text-words}
use Rattle.words_text_form.proofs.TopCodes.{top_codes, top-word, word-parted}

-- THE COLUMNS OF CODES
letters-gaps : (n : ℕ) (r : List ℕ) → map letter (replicate n gap ++ r) ≡ replicate n blank ++ map letter r
letters-gaps zero r = refl
letters-gaps (suc n) r = λ t. blank-letter t ∷ letters-gaps n r t

past-none : (cs : List ℕ) → codes_say Past cs ≡ []
past-none [] = refl
past-none (c ∷ cs) = past-none cs

codes-say : (cs : List ℕ) → codes_say Alone cs ≡ map letter (columns_of cs)
unfolding letter
codes-say [] = refl
codes-say (zero ∷ []) = refl
codes-say (zero ∷ zero ∷ r) = past-none r
codes-say (zero ∷ suc zero ∷ r) = λ t. 58 ∷ codes-say r t
codes-say (zero ∷ suc (suc y) ∷ r) =
    let e : suc (suc y) + 1 ≡ 1 + suc (suc y) = omega arith in
    rw (ne_eqb (suc (suc y)) 0 (λ q. omega arith), ne_eqb (suc (suc y)) 1 (λ q. omega arith), e)
    (ap (λ (q : List ℕ). replicate (1 + suc (suc y)) blank ++ q) (codes-say r) ∙ sym (letters-gaps (1 + suc (suc y)) (columns_of r)))
codes-say (suc c ∷ r) = rw (ne_eqb (suc c) 0 (λ q. omega arith)) (λ t. letter (suc c) ∷ codes-say r t)

pub says-codes : (ws : List ℕ) → codes_say Alone (all_codes ws) ≡ says ws
unfolding says
says-codes ws = codes-say (all_codes ws)

-- CODES IN TWO PARTS
say-append : (p : Ahead) (a b : List ℕ) → codes_say p (a ++ b) ≡ codes_say p a ++ codes_say (state_after p a) b
say-append p [] b = refl
say-append p (c ∷ a) b =
    ap (λ (r : List ℕ). code_says p c ++ r) (say-append (ahead_after p c) a b)
    ∙ sym (append_assoc (code_says p c) (codes_say (ahead_after p c) a) (codes_say (state_after (ahead_after p c) a) b))

-- d is c with columns put up to at, and ys are to come: together they are all
pub record Toward (all c d ys : List ℕ) (at : ℕ) : Type 0 where
  pub long : length d ≡ length c
  pub fits : at + length ys ≤ length c
  pub owed : take at d ++ ys ≡ all
  pub rest : drop at d ≡ drop at c

pub toward-fits : (all c d xs ys : List ℕ) (at : ℕ) → Toward all c d (xs ++ ys) at → at + length xs ≤ length d
toward-fits all c d xs ys at t = omega (arith, t.fits, t.long, length-append xs ys)

pub toward-more : (all c d e xs ys : List ℕ) (at r : ℕ) → length e ≡ length d → Placed xs d at e r → Toward all c d (xs ++ ys) at → Toward all c e ys r
toward-more all c d e xs ys at r l p t = record {
  long = l ∙ t.long;
  fits = omega (arith, p.0, t.fits, length-append xs ys);
  owed = ap (λ (q : List ℕ). q ++ ys) p.1.0 ∙ append_assoc (take at d) xs ys ∙ t.owed;
  rest = p.1.1 ∙ same-beyond c d at (length xs) r p.0 t.rest;
}

toward-end : (all c d : List ℕ) (at : ℕ) → Toward all c d [] at → take at d ≡ all
toward-end all c d at t = sym (append-nil (take at d)) ∙ t.owed

-- ONE CODE MORE
-- k codes of the word are said, and w has the others at its top
pub record SaidWord (word : ℕ) (p₀ : Ahead) (at₀ : ℕ) (c d : List ℕ) (w : ℕ) (p : Ahead) (at k : ℕ) : Type 0 where
  pub few : k ≤ 10
  pub below : w < 2 ^ 60
  pub start : at₀ ≤ length c
  pub place : state_after p (top_codes (10 - k) w) ≡ word_ahead p₀ word
  pub toward : Toward (take at₀ c ++ word_says p₀ word) c d (codes_say p (top_codes (10 - k) w)) at

pub word-start : (word : ℕ) (p : Ahead) (at : ℕ) (c : List ℕ) → word < 2 ^ 60 → at + length (word_says p word) ≤ length c → SaidWord word p at c c word p at 0
unfolding word_says word_ahead
word-start word p at c h l = record {
  few = omega arith;
  below = h;
  start = omega arith;
  place = ap (state_after p) (top-word word h);
  toward = record {
    long = refl;
    fits = subst (λ (r : List ℕ). at + length (codes_say p r) ≤ length c) (sym (top-word word h)) l;
    owed = ap (λ (r : List ℕ). take at c ++ codes_say p r) (top-word word h);
    rest = refl;
  };
}

module _ (word : ℕ) (p₀ : Ahead) (at₀ : ℕ) (c d : List ℕ) (w : ℕ) (p : Ahead) (at k : ℕ) (said : SaidWord word p₀ at₀ c d w p at k) (h : k < 10) where
  later : List ℕ
  later = top_codes (10 - (k + 1)) (w % 2 ^ 54 * 64)

  next : w / 2 ^ 54 ∷ later ≡ top_codes (10 - k) w
  unfolding later
  next = let e : suc (10 - (k + 1)) ≡ 10 - k = omega arith in ap (λ (i : ℕ). top_codes i w) e

  toward-next : Toward (take at₀ c ++ word_says p₀ word) c d (code_says p (w / 2 ^ 54) ++ codes_say (ahead_after p (w / 2 ^ 54)) later) at
  toward-next = rw (sym (ap (codes_say p) next)) at said.toward

  pub code_fits : at + length (code_says p (w / 2 ^ 54)) ≤ length d
  code_fits = toward-fits (take at₀ c ++ word_says p₀ word) c d (code_says p (w / 2 ^ 54)) (codes_say (ahead_after p (w / 2 ^ 54)) later) at toward-next

  pub word_more : (e : List ℕ) (x : Ahead) (r : ℕ) → length e ≡ length d
      → (r ≡ at + length (code_says p (w / 2 ^ 54))) × ((take r e ≡ take at d ++ code_says p (w / 2 ^ 54)) × ((drop r e ≡ drop r d) × (x ≡ ahead_after p (w / 2 ^ 54))))
      → SaidWord word p₀ at₀ c e (w % 2 ^ 54 * 64) x r (k + 1)
  unfolding later
  word_more e x r l s = record {
    few = omega arith;
    below = omega arith;
    start = said.start;
    place = ap (λ (y : Ahead). state_after y later) s.1.1.1 ∙ ap (state_after p) next ∙ said.place;
    toward =
        subst (λ (y : Ahead). Toward (take at₀ c ++ word_says p₀ word) c e (codes_say y later) r) (sym s.1.1.1)
        (toward-more (take at₀ c ++ word_says p₀ word) c d e (code_says p (w / 2 ^ 54)) (codes_say (ahead_after p (w / 2 ^ 54)) later) at r l (s.0, (s.1.0, s.1.1.0)) toward-next);
  }

pub word_end : (word : ℕ) (p₀ : Ahead) (at₀ : ℕ) (c d : List ℕ) (w : ℕ) (p : Ahead) (at k : ℕ) → SaidWord word p₀ at₀ c d w p at k → 10 ≤ k
    → (at ≡ at₀ + length (word_says p₀ word)) × ((take at d ≡ take at₀ c ++ word_says p₀ word) × ((drop at d ≡ drop at c) × (p ≡ word_ahead p₀ word)))
word_end word p₀ at₀ c d w p at k said h =
    let all : List ℕ = take at₀ c ++ word_says p₀ word in
    let e : 10 - k ≡ 0 = omega arith in
    let t : Toward all c d [] at = subst (λ (i : ℕ). Toward all c d (codes_say p (top_codes i w)) at) e said.toward in
    let a : take at d ≡ all = toward-end all c d at t in
    let q : p ≡ state_after p (top_codes (10 - k) w) = ap (λ (i : ℕ). state_after p (top_codes i w)) (sym e) in
    let n : length (take at d) ≡ at = length-take-le at d (omega (arith, t.fits, t.long)) in
    let m : length (take at₀ c) ≡ at₀ = length-take-le at₀ c said.start in
    (omega (arith, ap length a, length-append (take at₀ c) (word_says p₀ word)), (a, (t.rest, q ∙ said.place)))

-- ONE WORD MORE
-- the words up to i are said
pub record SaidText (ws c d : List ℕ) (p : Ahead) (at i : ℕ) : Type 0 where
  pub inside : i ≤ length ws
  pub long : length c ≡ 80
  pub words : all is_word (drop i ws) ≡ true
  pub toward : Toward (says ws) c d (codes_say p (all_codes (drop i ws))) at

pub text-start : (ws c : List ℕ) → is_text ws ≡ true → length c ≡ 80 → SaidText ws c c Alone 0 0
text-start ws c h l = record {
  inside = omega arith;
  long = l;
  words = T-true (all is_word ws) (text-words ws h);
  toward = record {
    long = refl;
    fits = omega (arith, ap length (says-codes ws), leb→le (length (says ws)) 80 (text-short ws h));
    owed = says-codes ws;
    rest = refl;
  };
}

module _ (ws c d : List ℕ) (p : Ahead) (at i : ℕ) (said : SaidText ws c d p at i) (h : i < length ws) where
  rest : List ℕ
  rest = all_codes (drop (i + 1) ws)

  parted : codes_say p (all_codes (drop i ws)) ≡ word_says p (get_or ws i 0) ++ codes_say (word_ahead p (get_or ws i 0)) rest
  unfolding word_says word_ahead rest
  parted = ap (codes_say p) (word-parted ws i h) ∙ say-append p (low_codes 10 (get_or ws i 0) []) (all_codes (drop (i + 1) ws))

  toward-word : Toward (says ws) c d (word_says p (get_or ws i 0) ++ codes_say (word_ahead p (get_or ws i 0)) rest) at
  toward-word = subst (λ (r : List ℕ). Toward (says ws) c d r at) parted said.toward

  word-is : is_word (get_or ws i 0) ≡ true
  word-is = go (is_word (get_or ws i 0)) refl
    where
      go : (b : Bool) → is_word (get_or ws i 0) ≡ b → b ≡ true
      go true e = refl
      go false e = sym (stops is_word ws i h e) ∙ said.words

  pub word_fits : at + length (word_says p (get_or ws i 0)) ≤ length d
  word_fits = toward-fits (says ws) c d (word_says p (get_or ws i 0)) (codes_say (word_ahead p (get_or ws i 0)) rest) at toward-word

  pub text-more : (e : List ℕ) (x : Ahead) (r : ℕ) → length e ≡ length d
      → (r ≡ at + length (word_says p (get_or ws i 0))) × ((take r e ≡ take at d ++ word_says p (get_or ws i 0)) × ((drop r e ≡ drop r d) × (x ≡ word_ahead p (get_or ws i 0))))
      → SaidText ws c e x r (i + 1)
  unfolding rest
  text-more e x r l s = record {
    inside = omega arith;
    long = said.long;
    words = passes is_word ws i h word-is ∙ said.words;
    toward =
        subst (λ (y : Ahead). Toward (says ws) c e (codes_say y rest) r) (sym s.1.1.1)
        (toward-more (says ws) c d e (word_says p (get_or ws i 0)) (codes_say (word_ahead p (get_or ws i 0)) rest) at r l (s.0, (s.1.0, s.1.1.0)) toward-word);
  }
