-- Whether a history has 64 bytes is read off its heads: their count, and the third byte of the last.
use Prim.Native.Nat.{ℕ, suc, ◌+◌, ◌-◌, ◌*◌, ◌/◌, ◌%◌, ◌≤◌, ◌<◌}
use native.Mathlib.Omega.{arith}
use mathlib.Core.Path.{◌≡◌, refl, sym, ap, ◌∙◌}
use mathlib.Core.Bool.{Bool, true, false, not}
use mathlib.Core.List.{List, [], ◌∷◌, ◌++◌, map, append_assoc}
use lib.Dec.{eqb, leb}
use lib.ListN.{length, drop, get_or, length-append, length-map}
use lib.Seq.{get_or-drop, get_or_at}
use borrow.Author.Tests.{eqb-true, eqb-false, le-leb, lt-leb}
use Rattle.library.specs.Library.{Card}
use Rattle.library.specs.Yanks.{active}
use Rattle.library.specs.Image.{byte_bits, further_words, head_words, card_words}
use Rattle.run.specs.CardHeads.{own_byte, text_of, heads_of, heads_len, Fits, FullAny}
use Rattle.run.specs.ByteMarks.{last_with}
use Rattle.run.proofs.Heads.{heads-len}
use Rattle.run.proofs.GapSteps.{last-second, last-third, last-full}
use Rattle.run.proofs.Growing.{Grown, grow-heads, sound-bits, sound-all}

-- three bytes to a further word
further-least : (bs : List ℕ) → length bs ≤ 3 * length (further_words bs)
further-least [] = omega arith
further-least (a ∷ []) = omega arith
further-least (a ∷ b ∷ []) = omega arith
further-least (a ∷ b ∷ c ∷ r) = let h : length r ≤ 3 * length (further_words r) = further-least r in omega arith

further-most : (bs : List ℕ) → 3 * length (further_words bs) ≤ length bs + 2
further-most [] = omega arith
further-most (a ∷ []) = omega arith
further-most (a ∷ b ∷ []) = omega arith
further-most (a ∷ b ∷ c ∷ r) = let h : 3 * length (further_words r) ≤ length r + 2 = further-most r in omega arith

-- a word whose third byte is unused takes one more, a full one asks for another word
open-word : (x l : ℕ) → l % 262144 ≡ 0 → length (last_with x l) ≡ 1
open-word x l p = go (eqb (l / 262144 % 262144) 0) refl
  where
    go : (b : Bool) → eqb (l / 262144 % 262144) 0 ≡ b → length (last_with x l) ≡ 1
    go true e = ap length (last-second x l p (eqb-true (l / 262144 % 262144) 0 e))
    go false e = ap length (last-third x l p (eqb-false (l / 262144 % 262144) 0 e))

full-word : (x l : ℕ) → (l % 262144 ≡ 0 → ⊥) → length (last_with x l) ≡ 2
full-word x l p = ap length (last-full x l p)

module _ (w : List ℕ) (at heads : ℕ) where
  module _ (yk : ℕ → Bool) (c : Card) (rest : List ℕ) (here : drop at w ≡ card_words yk c ++ rest) (f : Fits c) (long : heads ≡ heads_len c) where
    abbrev bytes : List ℕ
    bytes = map (byte_bits yk) c.later

    count : length bytes ≡ length c.later
    count = length-map c.later (byte_bits yk)

    heads-are : heads ≡ suc (length (further_words bytes))
    unfolding heads_of
    heads-are = long ∙ sym (heads-len yk c)

    grown : Grown 0 (heads_of yk c) (head_words (active yk c) (length (text_of c)) c.seq (byte_bits yk (own_byte c) ∷ (bytes ++ (0 ∷ []))))
    unfolding heads_of
    grown =
        grow-heads (active yk c) 0 (length (text_of c)) c.seq (byte_bits yk (own_byte c)) bytes f.count f.below
        (sound-bits yk (own_byte c) f.first) (sound-all yk c.later f.later)

    front-is : heads ≡ length grown.front + 1
    front-is = long ∙ sym (heads-len yk c) ∙ ap length grown.was ∙ length-append grown.front (grown.last ∷ [])

    more-is : suc (length (further_words (bytes ++ (0 ∷ [])))) ≡ length grown.front + length (last_with 0 grown.last)
    more-is = ap length grown.now ∙ length-append grown.front (last_with 0 grown.last)

    last-read : get_or w (at + heads - 1) 0 ≡ grown.last
    unfolding card_words heads_of
    last-read =
        let k : at + heads - 1 ≡ at + length grown.front = let h : heads ≡ length grown.front + 1 = front-is in omega arith in
        let all : drop at w ≡ grown.front ++ (grown.last ∷ (text_of c ++ rest)) =
        here ∙ append_assoc (heads_of yk c) (text_of c) rest ∙ ap (λ (t : List ℕ). t ++ (text_of c ++ rest)) grown.was
        ∙ append_assoc grown.front (grown.last ∷ []) (text_of c ++ rest) in
        ap (λ (n : ℕ). get_or w n 0) k ∙ sym (get_or-drop at w (length grown.front) 0) ∙ ap (λ (t : List ℕ). get_or t (length grown.front) 0) all
        ∙ get_or_at grown.front grown.last (text_of c ++ rest) 0 (length grown.front) refl

    few : heads < 22 → length c.later < 63
    few h =
        let a : length bytes ≤ 3 * length (further_words bytes) = further-least bytes in
        let b : length bytes ≡ length c.later = count in
        let d : heads ≡ suc (length (further_words bytes)) = heads-are in
        omega arith

    some_left : get_or w (at + heads - 1) 0 % 262144 ≡ 0 → length c.later < 63
    some_left z =
        let one : length (last_with 0 grown.last) ≡ 1 = open-word 0 grown.last (ap (λ (n : ℕ). n % 262144) (sym last-read) ∙ z) in
        let a : length (bytes ++ (0 ∷ [])) ≤ 3 * length (further_words (bytes ++ (0 ∷ []))) = further-least (bytes ++ (0 ∷ [])) in
        let a1 : length (bytes ++ (0 ∷ [])) ≡ length bytes + 1 = length-append bytes (0 ∷ []) in
        let a2 : 3 * length (further_words bytes) ≤ length bytes + 2 = further-most bytes in
        let b : length bytes ≡ length c.later = count in
        let d : heads ≡ suc (length (further_words bytes)) = heads-are in
        let e : heads ≡ length grown.front + 1 = front-is in
        let g : suc (length (further_words (bytes ++ (0 ∷ [])))) ≡ length grown.front + length (last_with 0 grown.last) = more-is in
        let s : length c.later ≤ 63 = f.short in
        omega arith

    none_left : 22 ≤ heads → (get_or w (at + heads - 1) 0 % 262144 ≡ 0 → ⊥) → 63 ≤ length c.later
    none_left h z =
        let two : length (last_with 0 grown.last) ≡ 2 = full-word 0 grown.last (λ y. z (ap (λ (n : ℕ). n % 262144) last-read ∙ y)) in
        let a : 3 * length (further_words (bytes ++ (0 ∷ []))) ≤ length (bytes ++ (0 ∷ [])) + 2 = further-most (bytes ++ (0 ∷ [])) in
        let a1 : length (bytes ++ (0 ∷ [])) ≡ length bytes + 1 = length-append bytes (0 ∷ []) in
        let b : length bytes ≡ length c.later = count in
        let d : heads ≡ suc (length (further_words bytes)) = heads-are in
        let e : heads ≡ length grown.front + 1 = front-is in
        let g : suc (length (further_words (bytes ++ (0 ∷ [])))) ≡ length grown.front + length (last_with 0 grown.last) = more-is in
        omega arith

  pub full-few : heads < 22 → FullAny w at heads false
  full-few h yk c rest here f long = sym (lt-leb 63 (length c.later) (few yk c rest here f long h))

  pub full-by_last : 22 ≤ heads → FullAny w at heads (not (eqb (get_or w (at + heads - 1) 0 % 262144) 0))
  full-by_last h yk c rest here f long = go (eqb (get_or w (at + heads - 1) 0 % 262144) 0) refl
    where
      go : (b : Bool) → eqb (get_or w (at + heads - 1) 0 % 262144) 0 ≡ b → not b ≡ leb 63 (length c.later)
      go true e = sym (lt-leb 63 (length c.later) (some_left yk c rest here f long (eqb-true _ 0 e)))
      go false e = sym (le-leb 63 (length c.later) (none_left yk c rest here f long h (eqb-false _ 0 e)))
