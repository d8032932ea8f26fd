-- A name's word from its letters, and a word's letters. Assumes nothing.
use Rattle.std.specs.Prelude.{if◌then◌else◌}
use Prim.Native.Nat.{ℕ, zero, suc, ◌+◌, ◌-◌, ◌*◌, ◌/◌, ◌%◌, ◌^◌, ◌≤◌, ◌<◌}
use native.Mathlib.Omega.{arith}
use native.Mathlib.Numerals.{add-one}
use mathlib.Core.Path.{◌≡◌, refl, sym, ap, ◌∙◌, subst}
use mathlib.Core.Bool.{Bool, true, false, ◌&&◌, not}
use mathlib.Core.List.{List, [], ◌∷◌, ◌++◌, map}
use borrow.Author.Tests.{lt-ltb, le-ltb, le-leb, lt-leb, eq-eqb, ne_eqb}
use lib.Dec.{T, eqb, ltb, leb, leb→le}
use lib.ListN.{length, get_or, take, drop, set, drop_of_length-le, length-drop, take-append-drop}
use lib.Seq.{drop-cons, take-suc, take-suc-set, take-length}
use Rattle.words.specs.Base.{all, is_nil, take_until}
use Rattle.words.specs.Display.{code_of, letter}
use Rattle.words.specs.Text.{low_codes}
use Rattle.words.specs.Names.{is_name_byte, is_name, pack_codes, name_word, name_of, is_name_word}
use Rattle.words.specs.Spelt.{word_of_name, name_length, name_into}
use Rattle.words.proofs.TestParts.{true-T, and_left, and_right}
use Rattle.words.proofs.ChartBothWays.{code-letter}
use Rattle.words.proofs.Powers.{power_in}
use Rattle.words.proofs.CodeAtPlace.{word_at, length-low}

-- A NAME OR NONE
name-if : (n : List ℕ) (c : Bool) → 0 < length n → length n ≤ 9 → all is_name_byte n ≡ c → is_name n ≡ c
unfolding is_name
name-if [] c some few e = absurd (omega arith)
name-if (b ∷ bs) c some few e = rw (le-leb (suc (length bs)) 9 few) e

pub name-parts : (n : List ℕ) → is_name n ≡ true → (length n ≤ 9) × T (all is_name_byte n)
unfolding is_name
name-parts n e =
    let t = true-T (is_name n) e in
    let few = and_right (not (is_nil n)) (leb (length n) 9) (and_left (not (is_nil n) && leb (length n) 9) (all is_name_byte n) t) in
    (leb→le (length n) 9 few, and_right (not (is_nil n) && leb (length n) 9) (all is_name_byte n) t)

none_of : (n : List ℕ) → is_name n ≡ false → word_of_name n ≡ 0
unfolding word_of_name
none_of n e = rw e

pub no-letters : (n : List ℕ) → length n ≡ 0 → 0 ≡ word_of_name n
unfolding is_name
no-letters [] e = sym (none_of [] refl)
no-letters (b ∷ bs) e = absurd (omega arith)

pub many-none : (n : List ℕ) → 9 < length n → is_name n ≡ false
unfolding is_name
many-none [] h = absurd (omega arith)
many-none (b ∷ bs) h = rw (lt-leb (suc (length bs)) 9 h)

pub many-letters : (n : List ℕ) → 9 < length n → 0 ≡ word_of_name n
many-letters n h = sym (none_of n (many-none n h))

pub other_none : (n : List ℕ) → all is_name_byte n ≡ false → is_name n ≡ false
unfolding is_name
other_none n e = rw e (go (not (is_nil n) && leb (length n) 9))
  where
    go : (c : Bool) → (c && false) ≡ false
    go true = refl
    go false = refl

pub other-letter : (n : List ℕ) → all is_name_byte n ≡ false → 0 ≡ word_of_name n
other-letter n e = sym (none_of n (other_none n e))

pub letter-low : (b c : ℕ) → c ≡ code_of b → c ≤ 0 → is_name_byte b ≡ false
letter-low b c e h = rw (← e, le-ltb 0 c h)

pub letter-high : (b c : ℕ) → c ≡ code_of b → 45 ≤ c → is_name_byte b ≡ false
letter-high b c e h = rw (← e, le-ltb c 45 h, lt-ltb 0 c (omega arith))

pub letter-good : (b c : ℕ) → c ≡ code_of b → 0 < c → c < 45 → is_name_byte b ≡ true
letter-good b c e p h = rw (← e, lt-ltb 0 c p, lt-ltb c 45 h)

-- ITS WORD
pub pack-more : (n : List ℕ) (w i c : ℕ) → i < length n → c ≡ code_of (get_or n i 0)
    → pack_codes (w * 64 + c) (10 - (i + 1)) (drop (i + 1) n) ≡ pack_codes w (10 - i) (drop i n)
pack-more n w i c h e =
    let k : 10 - i - 1 ≡ 10 - suc i = omega arith in
    rw (e, add-one i, drop-cons n i 0 h) (ap (λ (j : ℕ). pack_codes (w * 64 + code_of (get_or n i 0)) j (drop (suc i) n)) (sym k))

pub pack-end : (n : List ℕ) (w i : ℕ) → 0 < length n → length n ≤ 9 → length n ≤ i → all is_name_byte (drop i n) ≡ all is_name_byte n
    → pack_codes w (10 - i) (drop i n) ≡ pack_codes 0 10 n → w * 64 ^ (10 - i) ≡ word_of_name n
unfolding word_of_name name_word
pack-end n w i some few over good e =
    let yes : is_name n ≡ true = name-if n true some few (sym good ∙ rw (drop_of_length-le n over)) in
    rw yes (rw (drop_of_length-le n over) at e)

-- w has the first i letters of n
pub record Packed (n : List ℕ) (w i : ℕ) : Type 0 where
  pub inside : i ≤ length n
  pub below : w < 64 ^ i
  pub good : all is_name_byte (drop i n) ≡ all is_name_byte n
  pub owed : pack_codes w (10 - i) (drop i n) ≡ pack_codes 0 10 n

-- none left: the word so far, shifted to its place, whose value is x
pub packed-end : (n : List ℕ) (w i x : ℕ) → Packed n w i → length n ≤ i → i < 10 → x ≡ (if ltb (10 - i) 10 then 64 ^ (10 - i) else 0) → w * x ≡ word_of_name n
packed-end n w zero x p over few is = let z : w * 0 ≡ 0 = omega arith in ap (λ (y : ℕ). w * y) is ∙ z ∙ no-letters n (omega arith)
packed-end n w (suc i) x p over few is =
    let e : x ≡ 64 ^ (10 - suc i) = power_in (10 - suc i) is (omega arith) in
    rw e (pack-end n w (suc i) (omega (arith, p.inside)) (omega arith) over p.good p.owed)

-- A WORD'S LETTERS
abbrev cut : List ℕ → List ℕ
cut cs = map letter (take_until (eqb 0) cs)

module _ (w i c : ℕ) (few : i < 10) (is : c ≡ w / 64 ^ (9 - i) % 64) where
  code_is : get_or (low_codes 10 w []) i 0 ≡ c
  code_is = word_at w i [] few ∙ sym is

  inside : i < length (low_codes 10 w [])
  inside = omega (arith, length-low 10 w [])

-- what is left of a word's letters from place i on is what is left of its codes
abbrev pub codes_left : ℕ → ℕ → Type 0
codes_left w i = drop i (name_of w) ≡ cut (drop i (low_codes 10 w []))

pub left-start : (w : ℕ) → codes_left w 0
unfolding name_of
left-start w = refl

module _ (w i c : ℕ) (few : i < 10) (is : c ≡ w / 64 ^ (9 - i) % 64) (l : codes_left w i) where
  left-codes : drop i (name_of w) ≡ cut (c ∷ drop (suc i) (low_codes 10 w []))
  left-codes = rw (drop-cons (low_codes 10 w []) i 0 (inside w i c few is), code_is w i c few is) at l

  pub left-none : c ≡ 0 → length (name_of w) ≤ i
  left-none z = let e : length (drop i (name_of w)) ≡ 0 = ap length (rw z at left-codes) in omega (arith, length-drop i (name_of w))

  module _ (some : c ≡ 0 → ⊥) where
    left_one : drop i (name_of w) ≡ letter c ∷ cut (drop (suc i) (low_codes 10 w []))
    left_one = rw (ne_eqb 0 c (λ e. some (sym e))) at left-codes

    pub left-inside : i < length (name_of w)
    left-inside = omega (arith, ap length left_one, length-drop i (name_of w))

    left-parts : get_or (name_of w) i 0 ∷ drop (suc i) (name_of w) ≡ letter c ∷ cut (drop (suc i) (low_codes 10 w []))
    left-parts = sym (drop-cons (name_of w) i 0 left-inside) ∙ left_one

    left-letter : get_or (name_of w) i 0 ≡ letter c
    left-letter = ap (λ (r : List ℕ). get_or r 0 0) left-parts

    pub left-code : c ≡ code_of (get_or (name_of w) i 0)
    left-code = sym (ap code_of left-letter ∙ code-letter c (omega arith))

    pub left-more : codes_left w (i + 1)
    left-more = rw add-one (ap (drop 1) left-parts)

    -- the letter is put behind those that were
    pub left-put : (d : List ℕ) → i < length d → take i d ≡ take i (name_of w) → take (i + 1) (set d i (letter c)) ≡ take (i + 1) (name_of w)
    left-put d room e = rw (add-one, take-suc-set d i (letter c) room, take-suc (name_of w) i 0 left-inside, left-letter, e)

  pub left-some : i < length (name_of w) → c ≡ 0 → ⊥
  left-some h z = omega (arith, left-none z)

-- WHERE A WORD IS A NAME'S
pub unnamed : (w : ℕ) → is_name (name_of w) ≡ false → 0 ≡ name_length w
unfolding name_length is_name_word
unnamed w e = rw e

pub unmade : (w : ℕ) → (word_of_name (name_of w) ≡ w → ⊥) → 0 ≡ name_length w
unfolding name_length is_name_word word_of_name
unmade w h = go (is_name (name_of w)) h
  where
    go : (c : Bool) → ((if c then name_word (name_of w) else 0) ≡ w → ⊥) → 0 ≡ (if c && eqb (name_word (name_of w)) w then length (name_of w) else 0)
    go true n = rw (ne_eqb (name_word (name_of w)) w n)
    go false n = refl

zero-none : length (name_of 0) ≡ 0
unfolding name_of
zero-none = refl

-- the letters of a word that they make again: a name's, or none where the word is 0
pub made : (w : ℕ) → word_of_name (name_of w) ≡ w → length (name_of w) ≡ name_length w
unfolding name_length is_name_word word_of_name
made w e = go (is_name (name_of w)) e
  where
    go : (c : Bool) → (if c then name_word (name_of w) else 0) ≡ w → length (name_of w) ≡ (if c && eqb (name_word (name_of w)) w then length (name_of w) else 0)
    go true q = rw (eq-eqb (name_word (name_of w)) w q)
    go false q = ap (λ (v : ℕ). length (name_of v)) (sym q) ∙ zero-none

pub named-most : (w : ℕ) → (name_length w ≤ 9) × (name_length w ≤ length (name_of w))
unfolding name_length is_name_word
named-most w = go (is_name (name_of w)) refl (eqb (name_word (name_of w)) w)
  where
    go : (c : Bool) → is_name (name_of w) ≡ c → (d : Bool)
        → ((if c && d then length (name_of w) else 0) ≤ 9) × ((if c && d then length (name_of w) else 0) ≤ length (name_of w))
    go true e true = ((name-parts (name_of w) e).0, omega arith)
    go true e false = (omega arith, omega arith)
    go false e d = (omega arith, omega arith)

-- as many letters put as the name has, and the rest as it was
pub named-into : (w n : ℕ) (t d : List ℕ) → n ≡ name_length w → take n t ≡ take n (name_of w) → drop n t ≡ drop n d → t ≡ name_into w d
unfolding name_length name_into
named-into w n t d e front back = go (is_name_word w) e
  where
    go : (c : Bool) → n ≡ (if c then length (name_of w) else 0) → t ≡ (if c then (name_of w ++ drop (length (name_of w)) d) else d)
    go true is = sym (take-append-drop n t) ∙ rw (front, back, is, take-length (name_of w))
    go false is = subst (λ (m : ℕ). drop m t ≡ drop m d) is back
