-- A text walked code by code: what is known after each code and each word. Assumes nothing.
use Rattle.std.specs.Prelude.{if◌then◌else◌}
use Prim.Native.Nat.{ℕ, suc, ◌+◌, ◌-◌, ◌*◌, ◌/◌, ◌%◌, ◌^◌, ◌≤◌, ◌<◌}
use native.Mathlib.Omega.{arith}
use mathlib.Core.Path.{◌≡◌, refl, sym, ap, ◌∙◌}
use mathlib.Core.Bool.{Bool, true, false, ◌&&◌, not}
use mathlib.Core.List.{List, [], ◌∷◌, ◌++◌}
use borrow.Author.Tests.{lt-ltb, le-ltb}
use lib.Dec.{eqb, ltb, leb, leb→le}
use lib.ListN.{length, get_or, drop, drop_of_length-le}
use Rattle.words.specs.Base.{all, is_word}
use Rattle.words.specs.Text.{low_codes, all_codes, says, is_text}
use Rattle.words_text_form.specs.Form.{start, pair_or_end, step, columns_in, after, count, may_end, after_word, count_word, ends_full, in_form}
use Rattle.words_text_form.proofs.TopCodes.{top_codes, top-word, word-parted}
use Rattle.words.proofs.TextTrip.{text-short, written-says, written-fits}
use Rattle.words.proofs.AllPass.{passes, stops, passed-all}
use Rattle.words_text_form.proofs.OneForm.{form-is-text}

-- CODES IN TWO PARTS
after-append : (s : ℕ) (a b : List ℕ) → after s (a ++ b) ≡ after (after s a) b
after-append s [] b = refl
after-append s (c ∷ a) b = after-append (step s c) a b

count-append : (s : ℕ) (a b : List ℕ) → count s (a ++ b) ≡ count s a + count (after s a) b
count-append s [] b = omega arith
count-append s (c ∷ a) b = omega (arith, count-append (step s c) a b)

-- ONE WORD MORE
module _ (ws : List ℕ) (i s x : ℕ) (inside : i < length ws) (new : x ≡ after_word s (get_or ws i 0)) where
  pub after_more : after x (all_codes (drop (i + 1) ws)) ≡ after s (all_codes (drop i ws))
  unfolding after_word
  after_more =
      ap (λ (y : ℕ). after y (all_codes (drop (i + 1) ws))) new
      ∙ sym (after-append s (low_codes 10 (get_or ws i 0) []) (all_codes (drop (i + 1) ws)))
      ∙ ap (after s) (sym (word-parted ws i inside))

  pub count-more : (n m : ℕ) → m ≡ n + count_word s (get_or ws i 0) → m + count x (all_codes (drop (i + 1) ws)) ≡ n + count s (all_codes (drop i ws))
  unfolding after_word count_word
  count-more n m e =
      omega (
        arith,
        ap (count s) (word-parted ws i inside),
        count-append s (low_codes 10 (get_or ws i 0) []) (all_codes (drop (i + 1) ws)),
        ap (λ (y : ℕ). count y (all_codes (drop (i + 1) ws))) new,
      )

module _ (ws : List ℕ) (i s : ℕ) (out : length ws ≤ i) where
  pub after-done : after s (all_codes (drop i ws)) ≡ s
  after-done = rw (drop_of_length-le ws out)

  pub count-done : count s (all_codes (drop i ws)) ≡ 0
  count-done = rw (drop_of_length-le ws out)

-- THE LAST WORD
pub last_word_lem : (ws : List ℕ) → 0 < length ws → ends_full ws ≡ not (eqb (get_or ws (length ws - 1) 0) 0)
last_word_lem [] h = absurd (omega arith)
last_word_lem (w ∷ []) h = refl
last_word_lem (w ∷ v ∷ r) h =
    let e : suc (suc (length r) - 1) ≡ suc (suc (length r)) - 1 = omega arith in
    last_word_lem (v ∷ r) (omega arith) ∙ ap (λ (i : ℕ). not (eqb (get_or (w ∷ v ∷ r) i 0) 0)) e

pub no_word : (ws : List ℕ) → length ws ≡ 0 → ends_full ws ≡ true
no_word [] e = refl
no_word (w ∷ ws) e = absurd (omega arith)

-- THE ANSWER
-- 80 columns give at most 16 words
text-few : (ws : List ℕ) → is_text ws ≡ true → length ws ≤ 16
text-few ws e =
    let n : length (says ws) ≤ 80 = leb→le (length (says ws)) 80 (text-short ws e) in
    omega (arith, ap length (written-says ws e), written-fits (says ws) n)

pub long-text : (ws : List ℕ) → 16 < length ws → is_text ws ≡ false
long-text ws h = go (is_text ws) refl
  where
    go : (c : Bool) → is_text ws ≡ c → c ≡ false
    go true e = absurd (omega (arith, text-few ws e))
    go false e = refl

module _ (ws : List ℕ) where
  pub not-words : all is_word ws ≡ false → is_text ws ≡ false
  unfolding in_form
  not-words e = sym (form-is-text ws) ∙ rw e

  pub not_full : ends_full ws ≡ false → is_text ws ≡ false
  unfolding in_form
  not_full e = sym (form-is-text ws) ∙ rw e (go (all is_word ws))
    where
      go : (b : Bool) → (((b && false) && may_end (after start (all_codes ws))) && leb (count start (all_codes ws)) 80) ≡ false
      go true = refl
      go false = refl

  pub in-form : (s n : ℕ) → all is_word ws ≡ true → ends_full ws ≡ true → s ≡ after start (all_codes ws) → n ≡ count start (all_codes ws) → (may_end s && leb n 80) ≡ is_text ws
  unfolding in_form
  in-form s n h f p q = (λ t. may_end (p t) && leb (q t) 80) ∙ sym (rw (h, f)) ∙ form-is-text ws

-- ONE CODE MORE
module _ (w s k : ℕ) (h : k < 10) where
  next : suc (10 - (k + 1)) ≡ 10 - k
  next = omega arith

  after_next : after (step s (w / 2 ^ 54)) (top_codes (10 - (k + 1)) (w % 2 ^ 54 * 64)) ≡ after s (top_codes (10 - k) w)
  after_next = ap (λ (i : ℕ). after s (top_codes i w)) next

  count_next : columns_in s (w / 2 ^ 54) + count (step s (w / 2 ^ 54)) (top_codes (10 - (k + 1)) (w % 2 ^ 54 * 64)) ≡ count s (top_codes (10 - k) w)
  count_next = ap (λ (i : ℕ). count s (top_codes i w)) next

few-columns : (s c : ℕ) → c < 64 → columns_in s c ≤ 64
few-columns s c h = go (ltb s pair_or_end) (eqb c 0) (ltb c 2)
  where
    go : (a b d : Bool) → (if a then (if b then 0 else 1) else if d then c else suc c) ≤ 64
    go true true d = omega arith
    go true false d = omega arith
    go false b true = omega arith
    go false b false = omega arith

-- k codes of the word are walked, w has the others at its top, and v holds what may follow
pub record Walked (word state columns w v n k : ℕ) : Type 0 where
  pub few : k ≤ 10
  pub below : w < 2 ^ 60
  pub bound : n ≤ columns + 64 * k
  pub field : v % 6 ≡ 0
  pub last : v < 60
  pub place : after (v / 6) (top_codes (10 - k) w) ≡ after_word (state / 6) word
  pub sum : n + count (v / 6) (top_codes (10 - k) w) ≡ columns + count_word (state / 6) word

pub walked_start : (word state columns : ℕ) → word < 2 ^ 60 → state % 6 ≡ 0 → state < 60 → Walked word state columns word state columns 0
unfolding after_word count_word
walked_start word state columns h f l = record {
  few = omega arith;
  below = h;
  bound = omega arith;
  field = f;
  last = l;
  place = ap (after (state / 6)) (top-word word h);
  sum = ap (λ (r : List ℕ). columns + count (state / 6) r) (top-word word h);
}

module _ (word state columns w v n k : ℕ) (walked : Walked word state columns w v n k) where
  top_below : w / 2 ^ 54 < 64
  top_below = omega (arith, walked.below)

  pub columns-few : (d : ℕ) → d ≡ columns_in (v / 6) (w / 2 ^ 54) → d ≤ 64
  columns-few d e = omega (arith, few-columns (v / 6) (w / 2 ^ 54) top_below)

  pub walked_more : (x d : ℕ) → k < 10 → (x ≡ 6 * step (v / 6) (w / 2 ^ 54)) × (x < 60) → d ≡ columns_in (v / 6) (w / 2 ^ 54)
      → Walked word state columns (w % 2 ^ 54 * 64) x (n + d) (k + 1)
  walked_more x d h new more =
      let rest : List ℕ = top_codes (10 - (k + 1)) (w % 2 ^ 54 * 64) in
      let is : x / 6 ≡ step (v / 6) (w / 2 ^ 54) = omega (arith, new.0) in
      record {
        few = omega arith;
        below = omega arith;
        bound = omega (arith, walked.bound, columns-few d more);
        field = omega (arith, new.0);
        last = new.1;
        place = ap (λ (y : ℕ). after y rest) is ∙ after_next w (v / 6) k h ∙ walked.place;
        sum = omega (arith, ap (λ (y : ℕ). count y rest) is, count_next w (v / 6) k h, walked.sum);
      }

  pub walked_all : 10 ≤ k → (v ≡ 6 * after_word (state / 6) word) × ((v < 60) × ((n ≡ columns + count_word (state / 6) word) × (n ≤ columns + 640)))
  walked_all h =
      let e : 10 - k ≡ 0 = omega arith in
      let a : v / 6 ≡ after (v / 6) (top_codes (10 - k) w) = ap (λ (i : ℕ). after (v / 6) (top_codes i w)) (sym e) in
      let c : count (v / 6) (top_codes (10 - k) w) ≡ 0 = ap (λ (i : ℕ). count (v / 6) (top_codes i w)) e in
      (omega (arith, walked.field, a ∙ walked.place), (walked.last, (omega (arith, walked.sum), omega (arith, walked.few, walked.bound))))

-- the words up to i are walked
pub record Walking (ws : List ℕ) (v n i : ℕ) : Type 0 where
  pub inside : i ≤ length ws
  pub short : length ws ≤ 16
  pub bound : n ≤ 640 * i
  pub field : v % 6 ≡ 0
  pub last : v < 60
  pub full : ends_full ws ≡ true
  pub words : all is_word (drop i ws) ≡ all is_word ws
  pub place : after (v / 6) (all_codes (drop i ws)) ≡ after start (all_codes ws)
  pub sum : n + count (v / 6) (all_codes (drop i ws)) ≡ count start (all_codes ws)

pub walking_start : (ws : List ℕ) → length ws ≤ 16 → ends_full ws ≡ true → Walking ws (6 * start) 0 0
walking_start ws h f = record {
  inside = omega arith;
  short = h;
  bound = omega arith;
  field = refl;
  last = omega arith;
  full = f;
  words = refl;
  place = refl;
  sum = omega arith;
}

module _ (ws : List ℕ) (v n i : ℕ) (walking : Walking ws v n i) where
  pub walking-stop : i < length ws → 2 ^ 60 ≤ get_or ws i 0 → is_text ws ≡ false
  walking-stop h l = not-words ws (sym walking.words ∙ stops is_word ws i h (le-ltb (get_or ws i 0) (2 ^ 60) l))

  pub walking-more : (x m : ℕ) → i < length ws → get_or ws i 0 < 2 ^ 60
      → (x ≡ 6 * after_word (v / 6) (get_or ws i 0)) × ((x < 60) × ((m ≡ n + count_word (v / 6) (get_or ws i 0)) × (m ≤ n + 640)))
      → Walking ws x m (i + 1)
  walking-more x m h l e =
      let is : x / 6 ≡ after_word (v / 6) (get_or ws i 0) = omega (arith, e.0) in
      record {
        inside = omega arith;
        short = walking.short;
        bound = omega (arith, e.1.1.1, walking.bound);
        field = omega (arith, e.0);
        last = e.1.0;
        full = walking.full;
        words = passes is_word ws i h (lt-ltb (get_or ws i 0) (2 ^ 60) l) ∙ walking.words;
        place = after_more ws i (v / 6) (x / 6) h is ∙ walking.place;
        sum = count-more ws i (v / 6) (x / 6) h is n m e.1.1.0 ∙ walking.sum;
      }

  pub walking-end : length ws ≤ i → (may_end (v / 6) && leb n 80) ≡ is_text ws
  walking-end h =
      in-form ws (v / 6) n (sym walking.words ∙ passed-all is_word ws i h) walking.full (sym (after-done ws i (v / 6) h) ∙ walking.place)
      (omega (arith, count-done ws i (v / 6) h, walking.sum))
