-- A card's name, a point and a number written one after another. Assumes nothing.
--   name-few, name-taken, name-inside                    the letters of a word
--   too_short, put-pointed        the bytes in their space
use Rattle.std.specs.Prelude.{if◌then◌else◌, Ok, Err}
use Prim.Native.Nat.{ℕ, suc, ◌+◌, ◌-◌, ◌≤◌, ◌<◌}
use native.Mathlib.Omega.{arith}
use native.Mathlib.Numerals.{add-one}
use mathlib.Core.Path.{◌≡◌, refl, sym, ap, ◌∙◌}
use mathlib.Core.Bool.{Bool, true, false, ◌&&◌, not}
use mathlib.Core.List.{List, [], ◌∷◌, ◌++◌, append_assoc}
use borrow.Author.Tests.{le-leb, lt-leb}
use borrow.Rule.Slice.PartMut.{put_mid, post_of, mid_of, mid_len}
use lib.Dec.{T, eqb, leb, leb→le}
use lib.ListN.{length, get_or, take, drop, set, length-append, length-drop}
use lib.Seq.{take_at, drop_at, drop-drop, drop-cons, set_at}
use Rattle.words.specs.Base.{all, is_nil}
use Rattle.words.specs.Names.{is_name_byte, is_name, name_word, name_of, is_name_word, numeral, right_justified}
use Rattle.words.specs.Spelt.{name_length, name_into, number_into}
use Rattle.words.proofs.TestParts.{and_left, and_right, true-T}
use Rattle.keeper_card.specs.Naming.{in_space}
use Rattle.keeper_card.specs.Parts.{Answers, word_name, pointed}
use Rattle.keeper_card.specs.declared.ShowRefused.TheVariants.{Space}

-- A WORD'S LETTERS, no more than nine
pub name-few : (w : ℕ) → is_name_word w ≡ true → length (name_of w) ≤ 9
unfolding is_name_word is_name
name-few w q =
    let n : List ℕ = name_of w in
    let is : T (is_name n) = and_left (is_name n) (eqb (name_word n) w) (true-T (is_name_word w) q) in
    leb→le (length n) 9 (and_right (not (is_nil n)) (leb (length n) 9) (and_left (not (is_nil n) && leb (length n) 9) (all is_name_byte n) is))

pub name-taken : (w r : ℕ) (before after : List ℕ) → r ≡ name_length w → after ≡ name_into w before → (r ≤ 9) × (take r after ≡ word_name w)
unfolding name_length name_into word_name
name-taken w r before after e f = go (is_name_word w) refl e f
  where
    go : (b : Bool) → is_name_word w ≡ b → r ≡ (if b then length (name_of w) else 0) → after ≡ (if b then (name_of w ++ drop (length (name_of w)) before) else before)
        → (r ≤ 9) × (take r after ≡ (if b then name_of w else []))
    go true q e f = (omega (arith, name-few w q), ap (take r) f ∙ take_at (name_of w) (drop (length (name_of w)) before) r (sym e))
    go false q e f = (omega arith, ap (λ (k : ℕ). take k after) e)

pub name-inside : (w r : ℕ) (before after : List ℕ) → r ≡ name_length w → after ≡ name_into w before → r ≤ length after
unfolding name_length name_into
name-inside w r before after e f = go (is_name_word w) e f
  where
    go : (b : Bool) → r ≡ (if b then length (name_of w) else 0) → after ≡ (if b then (name_of w ++ drop (length (name_of w)) before) else before) → r ≤ length after
    go true e f = omega (arith, ap length f, length-append (name_of w) (drop (length (name_of w)) before))
    go false e f = omega arith

-- THE BYTES
number-whole : (n : ℕ) (f : List ℕ) → length f ≡ length (numeral n) → number_into n f ≡ numeral n
unfolding number_into right_justified
number-whole n f e =
    let l : length (numeral n) ≤ length f = omega arith in
    let z : length f - length (numeral n) ≡ 0 = omega arith in
    rw (le-leb (length (numeral n)) (length f) l, z)

module _ (name out : List ℕ) (seq k : ℕ) (digits : k ≡ length (numeral seq)) where
  abbrev p : ℕ
  p = length name

  pub pointed-long : length (pointed name seq) ≡ p + 1 + k
  pointed-long = length-append name (46 ∷ numeral seq) ∙ omega arith

  pub too_short : length out < p + 1 + k → Answers (in_space (length out) (length (pointed name seq)) (pointed name seq)) (Err Space) out out
  too_short h =
      let l : length out < length (pointed name seq) = omega (arith, pointed-long) in
      rw (lt-leb (length (pointed name seq)) (length out) l) (refl, refl)

  module _ (fits : p + 1 + k ≤ length out) where
    pub put-pointed : (y z : List ℕ) → y ≡ name ++ drop (0 + p) out → z ≡ number_into seq (mid_of (p + 1) (p + 1 + k - (p + 1)) (set y p 46))
        → put_mid (p + 1) (p + 1 + k - (p + 1)) (set y p 46) z ≡ pointed name seq ++ drop (length (pointed name seq)) out
    put-pointed y z ey ez =
        let q : p < length out = omega arith in
        let zp : 0 + p ≡ p = omega arith in
        let d : p + 1 + k - (p + 1) ≡ k = omega arith in
        let front : List ℕ = name ++ (46 ∷ []) in
        let long : length front ≡ p + 1 = length-append name (46 ∷ []) in
        let m : set y p 46 ≡ front ++ drop (p + 1) out =
        ap (λ (l : List ℕ). set l p 46) (ey ∙ ap (λ (n : ℕ). name ++ drop n out) zp ∙ ap (λ (l : List ℕ). name ++ l) (drop-cons out p 0 q)) ∙ set_at name (get_or out p 0) (drop (suc p) out) 46 p refl
        ∙ sym (append_assoc name (46 ∷ []) (drop (suc p) out)) ∙ ap (λ (n : ℕ). front ++ drop n out) (sym (add-one p)) in
        let ml : length (set y p 46) ≡ length out = ap length m ∙ length-append front (drop (p + 1) out) ∙ omega (arith, long, length-drop (p + 1) out) in
        let inside : p + 1 + k ≤ length (set y p 46) = omega arith in
        let num : z ≡ numeral seq = ez ∙ number-whole seq (mid_of (p + 1) (p + 1 + k - (p + 1)) (set y p 46)) (mid_len (p + 1) (p + 1 + k) (set y p 46) inside ∙ d ∙ digits) in
        let a : take (p + 1) (set y p 46) ≡ front = ap (take (p + 1)) m ∙ take_at front (drop (p + 1) out) (p + 1) long in
        let b : post_of (p + 1) (p + 1 + k - (p + 1)) (set y p 46) ≡ drop (length (pointed name seq)) out =
        ap (λ (n : ℕ). drop n (drop (p + 1) (set y p 46))) d ∙ ap (λ (l : List ℕ). drop k (drop (p + 1) l)) m ∙ ap (drop k) (drop_at front (drop (p + 1) out) (p + 1) long)
        ∙ drop-drop k (p + 1) out ∙ ap (λ (n : ℕ). drop n out) (sym pointed-long) in
        (λ i. a i ++ (num i ++ b i)) ∙ simp append_assoc

    pub pointed-answers : (z : List ℕ) → z ≡ pointed name seq ++ drop (length (pointed name seq)) out
        → Answers (in_space (length out) (length (pointed name seq)) (pointed name seq)) (Ok (p + 1 + k)) out z
    pointed-answers z e =
        let l : length (pointed name seq) ≤ length out = omega (arith, pointed-long) in
        rw (le-leb (length (pointed name seq)) (length out) l) (ap Ok (sym pointed-long), e)
