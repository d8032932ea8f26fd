-- Cards as they stand in an image, each place from the one before it. Assumes nothing.
--   text_at_lem, text-beyond, text-here, text-on   where a card's text starts
--   line-outside, line_read, line_taken   a line in its columns
--   places-more, places-end           the cards from a place on
use Rattle.std.specs.Prelude.{◌⊎◌, Option, None, Some, unwrap_or, if◌then◌else◌}
use Rattle.std.proofs.Common.{inl, inr}
use Prim.Native.Nat.{ℕ, zero, suc, ◌+◌, ◌-◌, ◌/◌, ◌%◌, ◌^◌, ◌≤◌, ◌<◌}
use native.Mathlib.Omega.{arith}
use native.Mathlib.Numerals.{add-one}
use mathlib.Core.Path.{◌≡◌, refl, sym, ap, ◌∙◌}
use mathlib.Core.Bool.{Bool, true, false}
use mathlib.Core.List.{List, [], ◌∷◌, ◌++◌}
use borrow.Author.Tests.{lt-ltb, le-ltb, le-leb, lt-leb, ltb-true, ltb-false}
use lib.Dec.{ltb, leb, leb→le}
use lib.ListN.{length, get_or, take, drop, length-append, length-drop, drop_of_length-le}
use lib.Seq.{drop-cons, take_at}
use Rattle.words.specs.Text.{says, is_text, text_words, words_of}
use Rattle.words_text_expand.specs.Answers.{expanding, expand_into}
use Rattle.words.proofs.TestParts.{true-T}
use Rattle.library.specs.Check.{is_last_word}
use Rattle.library_image.specs.Places.{text_from, text_at, next_at, text_of, line_in, line_into, places_from, places_in}

-- WHERE A TEXT STARTS
module _ (ws : List ℕ) (i : ℕ) where
  pub text_at_lem : i < length ws → text_at ws i ≡ text_from i (drop i ws)
  unfolding text_at
  text_at_lem h = rw (lt-ltb i (length ws) h)

  pub text-beyond : length ws ≤ i → text_at ws i ≡ length ws
  unfolding text_at
  text-beyond h = rw (le-ltb i (length ws) h)

module _ (ws : List ℕ) (i : ℕ) (h : i < length ws) where
  pub text-here : 2 ^ 59 ≤ get_or ws i 0 → text_at ws i ≡ i + 1
  text-here l = text_at_lem ws i h ∙ rw (drop-cons ws i 0 h, le-leb (2 ^ 59) (get_or ws i 0) l, add-one i)

  on-from : get_or ws i 0 < 2 ^ 59 → text_from i (drop i ws) ≡ text_from (i + 1) (drop (i + 1) ws)
  on-from l = rw (drop-cons ws i 0 h, lt-leb (2 ^ 59) (get_or ws i 0) l, add-one i)

  pub text-on : get_or ws i 0 < 2 ^ 59 → text_at ws i ≡ text_at ws (i + 1)
  text-on l = go (ltb (i + 1) (length ws)) refl
    where
      go : (b : Bool) → ltb (i + 1) (length ws) ≡ b → text_at ws i ≡ text_at ws (i + 1)
      go true e = text_at_lem ws i h ∙ on-from l ∙ sym (text_at_lem ws (i + 1) (ltb-true (i + 1) (length ws) e))
      go false e =
          let far : length ws ≤ i + 1 = ltb-false (i + 1) (length ws) e in
          let last : text_from (i + 1) (drop (i + 1) ws) ≡ i + 1 = rw (drop_of_length-le ws far) in
          text_at_lem ws i h ∙ on-from l ∙ last ∙ omega arith ∙ sym (text-beyond ws (i + 1) far)

-- it is past the card's first word, and inside
text-past : (i : ℕ) (ws : List ℕ) → (i ≤ text_from i ws) × (text_from i ws ≤ i + length ws)
text-past i [] = (omega arith, omega arith)
text-past i (w ∷ ws) = go (is_last_word w) (text-past (suc i) ws)
  where
    go : (b : Bool) → (suc i ≤ text_from (suc i) ws) × (text_from (suc i) ws ≤ suc i + length ws)
        → (i ≤ (if b then suc i else text_from (suc i) ws)) × ((if b then suc i else text_from (suc i) ws) ≤ i + suc (length ws))
    go true h = (omega arith, omega arith)
    go false h = (omega arith, omega arith)

-- A LINE
abbrev Lined : List ℕ → List ℕ → List ℕ → ℕ → List ℕ → Type 0
Lined said line ws n end = (n ≤ length end) × ((n ≡ length said) × (end ≡ said ++ drop (length said) line))

lined-some : (said line ws end : List ℕ) (n : ℕ) → n ≡ length said → end ≡ said ++ drop (length said) line → Lined said line ws n end
lined-some said line ws end n k x =
    let long : length end ≡ length said + length (drop (length said) line) = ap length x ∙ length-append said (drop (length said) line) in
    (omega arith, (k, x))

lined : (ws line end : List ℕ) → end ≡ expand_into ws line → Lined (text_of ws) line ws (unwrap_or (expanding ws) 0) end
unfolding expanding expand_into
lined ws line end is = go (is_text ws) is
  where
    go : (b : Bool) → end ≡ elim (if b then Some (length (says ws)) else None) [ Some k ↦ says ws ++ drop k line | None ↦ line ]
        → Lined (if b then says ws else []) line ws (unwrap_or (if b then Some (length (says ws)) else None) 0) end
    go true x = lined-some (says ws) line ws end _ refl x
    go false x = lined-some [] line ws end 0 refl x

text-none : text_of [] ≡ []
unfolding is_text says text_words words_of
text-none = refl

-- a line in its columns: none past the end or with no words, else that of the words
module _ (ws line end : List ℕ) (from to : ℕ) where
  abbrev Said : ℕ → Type 0
  Said n = (n ≤ length end) × ((n ≡ length (line_in ws from to)) × (end ≡ line_into ws from to line))

  abbrev words : List ℕ
  words = take (to - from) (drop from ws)

  pub line-outside : (to < from) ⊎ (length ws < to) → end ≡ line → Said 0
  unfolding line_in line_into
  line-outside (inr h) e = rw (lt-leb to (length ws) h) (omega arith, (refl, e))
  line-outside (inl h) e = go (leb to (length ws))
    where
      go : (b : Bool) → (0 ≤ length end) × ((0 ≡ length (if b then text_of words else [])) × (end ≡ (if b then text_of words else []) ++ drop (length (if b then text_of words else [])) line))
      go true =
          let z : to - from ≡ 0 = omega arith in
          let n : text_of words ≡ [] = ap (λ (k : ℕ). text_of (take k (drop from ws))) z ∙ text-none in
          rw n (omega arith, (refl, e))
      go false = (omega arith, (refl, e))

  pub line_read : to ≤ length ws → (part : List ℕ) → part ≡ words → (n : ℕ) → n ≡ unwrap_or (expanding part) 0 → end ≡ expand_into part line → Said n
  unfolding line_in line_into
  line_read h part is n r x =
      let m : n ≡ unwrap_or (expanding words) 0 = r ∙ ap (λ (l : List ℕ). unwrap_or (expanding l) 0) is in
      let y : end ≡ expand_into words line = x ∙ ap (λ (l : List ℕ). expand_into l line) is in
      rw (le-leb to (length ws) h, m) (lined words line end y)

  pub line_taken : (n : ℕ) → n ≡ length (line_in ws from to) → end ≡ line_into ws from to line → take n end ≡ line_in ws from to
  unfolding line_into
  line_taken n k x = ap (take n) x ∙ take_at (line_in ws from to) (drop (length (line_in ws from to)) line) n (sym k)

-- THE NEXT CARD
pub bound-over : (t k n : ℕ) → t ≤ n → t ≤ (if leb (t + k) n then t + k else n)
bound-over t k n h = go (leb (t + k) n)
  where
    go : (b : Bool) → t ≤ (if b then t + k else n)
    go true = omega arith
    go false = h

module _ (ws : List ℕ) (at : ℕ) (inside : at < length ws) where
  pub text-inside : (at < text_at ws at) × (text_at ws at ≤ length ws)
  text-inside =
      let b = go (is_last_word (get_or ws at 0)) (text-past (suc at) (drop (suc at) ws)) in
      rw (text_at_lem ws at inside, drop-cons ws at 0 inside) (b.0, omega (arith, b.1, length-drop (suc at) ws))
    where
      go : (b : Bool) → (suc at ≤ text_from (suc at) (drop (suc at) ws)) × (text_from (suc at) (drop (suc at) ws) ≤ suc at + length (drop (suc at) ws))
          → (at < (if b then suc at else text_from (suc at) (drop (suc at) ws)))
          × ((if b then suc at else text_from (suc at) (drop (suc at) ws)) ≤ suc at + length (drop (suc at) ws))
      go true h = (omega arith, omega arith)
      go false h = (h.0, h.1)

  pub next-inside : (at < next_at ws at) × (next_at ws at ≤ length ws)
  unfolding next_at
  next-inside = go (leb (text_at ws at + get_or ws at 0 / 2 ^ 36 % 2 ^ 18) (length ws)) refl
    where
      end : ℕ
      end = text_at ws at + get_or ws at 0 / 2 ^ 36 % 2 ^ 18

      go : (b : Bool) → leb (text_at ws at + get_or ws at 0 / 2 ^ 36 % 2 ^ 18) (length ws) ≡ b
          → (at < (if b then text_at ws at + get_or ws at 0 / 2 ^ 36 % 2 ^ 18 else length ws)) × ((if b then text_at ws at + get_or ws at 0 / 2 ^ 36 % 2 ^ 18 else length ws) ≤ length ws)
      go true e = let l = leb→le (text_at ws at + get_or ws at 0 / 2 ^ 36 % 2 ^ 18) (length ws) (true-T _ e) in (omega (arith, text-inside.0), l)
      go false e = (inside, omega arith)

-- CARDS IN ORDER: no more turns are needed than words are left
places-fuel : (ws : List ℕ) (j k at : ℕ) → length ws - at ≤ j → length ws - at ≤ k → places_from j ws at ≡ places_from k ws at
places-fuel ws zero zero at p q = refl
places-fuel ws zero (suc k) at p q = let h : length ws ≤ at = omega arith in rw (le-ltb at (length ws) h)
places-fuel ws (suc j) zero at p q = let h : length ws ≤ at = omega arith in rw (le-ltb at (length ws) h)
places-fuel ws (suc j) (suc k) at p q = go (ltb at (length ws)) refl (λ h. places-fuel ws j k (next_at ws at) (omega (arith, next-inside ws at h)) (omega (arith, next-inside ws at h)))
  where
    go : (b : Bool) → ltb at (length ws) ≡ b → (at < length ws → places_from j ws (next_at ws at) ≡ places_from k ws (next_at ws at))
        → (if b then (at ∷ places_from j ws (next_at ws at)) else []) ≡ (if b then (at ∷ places_from k ws (next_at ws at)) else [])
    go true e on = ap {B = List ℕ} (λ r. at ∷ r) (on (ltb-true at (length ws) e))
    go false e on = refl

module _ (ws : List ℕ) (at : ℕ) where
  pub places-more : at < length ws → places_in ws at ≡ at ∷ places_in ws (next_at ws at)
  unfolding places_in
  places-more h =
      let e : length ws - at ≡ suc (length ws - suc at) = omega arith in
      rw (e, lt-ltb at (length ws) h)
      (ap {B = List ℕ} (λ r. at ∷ r)
      (places-fuel ws (length ws - suc at) (length ws - next_at ws at) (next_at ws at) (omega (arith, next-inside ws at h)) (omega arith)))

  pub places-end : length ws ≤ at → places_in ws at ≡ []
  unfolding places_in
  places-end h = let e : length ws - at ≡ 0 = omega arith in rw e
