-- A card's heads say how many they are, and give back each field that was written.
use Rattle.std.specs.Prelude.{if◌then◌else◌, Some, None, position}
use Rattle.std.specs.List.{position_or_len}
use Rattle.std.proofs.Common.{cond, nat_lt}
use Rattle.std.proofs.lemmas.Bool.Decides.{nat_tests}
use Prim.Native.Nat.{ℕ, suc, ◌+◌, ◌*◌, ◌/◌, ◌%◌, ◌^◌, ◌≤◌, ◌<◌}
use native.Mathlib.Omega.{arith}
use native.Mathlib.Numerals.{add-one}
use mathlib.Core.Path.{◌≡◌, refl, ap, ◌∙◌}
use mathlib.Core.Bool.{Bool, true, false}
use mathlib.Core.List.{List, [], ◌∷◌, ◌++◌, map}
use lib.Dec.{leb}
use lib.ListN.{length, drop, get_or, drop_of_length-le}
use lib.Seq.{drop-cons}
use borrow.Author.Tests.{le-leb, lt-leb}
use Rattle.library.specs.Each.{Each}
use Rattle.library.specs.Library.{Byte, Card}
use Rattle.library.specs.Image.{bit, byte_bits, further_words, head_words}
use Rattle.run.specs.CardHeads.{head_word, heads_of, heads_len, FitsByte, head_len}

module _ (w : List ℕ) (i : ℕ) where
  pub len-end : i < length w → 2 ^ 59 ≤ get_or w i 0 → head_len (drop i w) ≡ 1
  unfolding head_len
  len-end h b = rw (drop-cons w i 0 h, le-leb (2 ^ 59) (get_or w i 0) b)

  pub len_more : i < length w → get_or w i 0 < 2 ^ 59 → head_len (drop i w) ≡ suc (head_len (drop (i + 1) w))
  unfolding head_len
  len_more h b = rw (drop-cons w i 0 h, lt-leb (2 ^ 59) (get_or w i 0) b, add-one i)

-- the first word with bit 59 ends a history, which else goes to the end
pub len-first : (xs : List ℕ) → head_len xs ≡ cond (nat_lt (position_or_len (leb (2 ^ 59)) xs) (length xs)) (position_or_len (leb (2 ^ 59)) xs + 1) (length xs)
unfolding head_len
len-first [] = refl
len-first (x ∷ xs) = go (leb (2 ^ 59) x) refl (len-first xs)
  where
    go : (b : Bool) → leb (2 ^ 59) x ≡ b → head_len xs ≡ cond (nat_lt (position_or_len (leb (2 ^ 59)) xs) (length xs)) (position_or_len (leb (2 ^ 59)) xs + 1) (length xs) → head_len (x ∷ xs) ≡ cond (nat_lt (position_or_len (leb (2 ^ 59)) (x ∷ xs)) (length (x ∷ xs))) (position_or_len (leb (2 ^ 59)) (x ∷ xs) + 1) (length (x ∷ xs))
    go true e h = rw e (grind (arith, nat_tests))
    go false e h = rw e (grind (arith, nat_tests, h))

pub len-some : (xs : List ℕ) (i : ℕ) → position (leb (2 ^ 59)) xs ≡ Some i → (head_len xs ≡ i + 1) × (i < length xs)
len-some xs i e = grind (arith, nat_tests, len-first xs)

pub len-none : (xs : List ℕ) → position (leb (2 ^ 59)) xs ≡ None → head_len xs ≡ length xs
len-none xs e = grind (arith, nat_tests, len-first xs)

abbrev pub Raw : List ℕ → Type 0
Raw bs = Each (λ b. b < 2 ^ 18) bs

-- a byte as bits
pub bits_below : (yk : ℕ → Bool) (b : Byte) → FitsByte b → byte_bits yk b < 2 ^ 18
bits_below yk b f = go (yk b.number) b.activating
  where
    go : (x y : Bool) → bit x 17 + bit y 16 + b.number < 2 ^ 18
    go true true = omega arith
    go true false = omega arith
    go false true = omega arith
    go false false = omega arith

pub bits-number : (yk : ℕ → Bool) (b : Byte) → FitsByte b → byte_bits yk b % 2 ^ 16 ≡ b.number
bits-number yk b f = go (yk b.number) b.activating
  where
    go : (x y : Bool) → (bit x 17 + bit y 16 + b.number) % 2 ^ 16 ≡ b.number
    go true true = omega arith
    go true false = omega arith
    go false true = omega arith
    go false false = omega arith

pub bits-raw : (yk : ℕ → Bool) (bs : List Byte) → Each FitsByte bs → Raw (map (byte_bits yk) bs)
bits-raw yk [] f = tt
bits-raw yk (b ∷ bs) f = (bits_below yk b f.0, bits-raw yk bs f.1)

-- the length of the head words does not know yanks
pub further-len : (p q : ℕ → Bool) (bs : List Byte) → length (further_words (map (byte_bits p) bs)) ≡ length (further_words (map (byte_bits q) bs))
further-len p q [] = refl
further-len p q (a ∷ []) = refl
further-len p q (a ∷ b ∷ []) = refl
further-len p q (a ∷ b ∷ c ∷ r) = ap suc (further-len p q r)

pub heads-len : (yk : ℕ → Bool) (c : Card) → length (heads_of yk c) ≡ heads_len c
unfolding heads_of heads_len
heads-len yk c = ap suc (further-len yk (λ n. false) c.later)

-- the end of the history is found
further-read : (a : ℕ) (bs rest : List ℕ) → Raw (a ∷ bs) → head_len (further_words (a ∷ bs) ++ rest) ≡ length (further_words (a ∷ bs))
unfolding head_len
further-read a [] rest f = let l : a < 2 ^ 18 = f.0 in rw (le-leb (2 ^ 59) (2 ^ 59 + a * 2 ^ 36) (omega arith))
further-read a (b ∷ []) rest f = rw (le-leb (2 ^ 59) (2 ^ 59 + a * 2 ^ 36 + b * 2 ^ 18) (omega arith))
further-read a (b ∷ c ∷ []) rest f = rw (le-leb (2 ^ 59) (2 ^ 59 + a * 2 ^ 36 + b * 2 ^ 18 + c) (omega arith))
further-read a (b ∷ c ∷ (d ∷ r)) rest f =
    let l : a < 2 ^ 18 = f.0 in
    let m : b < 2 ^ 18 = f.1.0 in
    let n : c < 2 ^ 18 = f.1.1.0 in
    rw (lt-leb (2 ^ 59) (0 + a * 2 ^ 36 + b * 2 ^ 18 + c) (omega arith)) (ap suc (further-read d r rest f.1.1.1))

pub heads-read : (act : Bool) (count seq b : ℕ) (bs rest : List ℕ) → count < 2 ^ 18 → seq < 2 ^ 18 → b < 2 ^ 18 → Raw bs
    → head_len (head_words act count seq (b ∷ bs) ++ rest) ≡ length (head_words act count seq (b ∷ bs))
unfolding head_len
heads-read act count seq b [] rest p q s f = go act
  where
    go : (x : Bool) → (if leb (2 ^ 59) (head_word true x count seq b) then 1 else (suc (head_len rest))) ≡ 1
    go true = rw (le-leb (2 ^ 59) (head_word true true count seq b) (omega arith))
    go false = rw (le-leb (2 ^ 59) (head_word true false count seq b) (omega arith))
heads-read act count seq b (d ∷ r) rest p q s f = go act ∙ ap suc (further-read d r rest f)
  where
    go : (x : Bool)
        → (if leb (2 ^ 59) (head_word false x count seq b) then 1 else (suc (head_len (further_words (d ∷ r) ++ rest)))) ≡ suc
        (head_len (further_words (d ∷ r) ++ rest))
    go true = rw (lt-leb (2 ^ 59) (head_word false true count seq b) (omega arith))
    go false = rw (lt-leb (2 ^ 59) (head_word false false count seq b) (omega arith))

-- the fields
module _ (t seq b : ℕ) (lt : t < 2 ^ 18) (ls : seq < 2 ^ 18) (lb : b < 2 ^ 18) where
  pub byte-back : (x y : Bool) → head_word x y t seq b % 2 ^ 18 ≡ b
  byte-back true true = omega arith
  byte-back true false = omega arith
  byte-back false true = omega arith
  byte-back false false = omega arith

  pub seq-back : (x y : Bool) → head_word x y t seq b / 2 ^ 18 % 2 ^ 18 ≡ seq
  seq-back true true = omega arith
  seq-back true false = omega arith
  seq-back false true = omega arith
  seq-back false false = omega arith

  pub count-back : (x y : Bool) → head_word x y t seq b / 2 ^ 36 % 2 ^ 18 ≡ t
  count-back true true = omega arith
  count-back true false = omega arith
  count-back false true = omega arith
  count-back false false = omega arith

  pub act-back : (x y : Bool) → head_word x y t seq b / 2 ^ 58 % 2 ≡ bit y 0
  act-back true true = omega arith
  act-back true false = omega arith
  act-back false true = omega arith
  act-back false false = omega arith
