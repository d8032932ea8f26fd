-- The head of a card, raised, is the head with its bytes raised, whatever they are.
use Prim.Native.Nat.{ℕ, suc, ◌+◌, ◌*◌, ◌/◌, ◌%◌, ◌^◌, ◌≤◌, ◌<◌}
use native.Mathlib.Omega.{arith}
use mathlib.Core.Path.{◌≡◌, refl, ap, ◌∙◌}
use mathlib.Core.Bool.{Bool, true, false}
use mathlib.Core.List.{List, [], ◌∷◌, ◌++◌, map}
use lib.ListN.{length}
use Rattle.library.specs.Image.{bit, further_words, head_words}
use Rattle.library.proofs.FieldsBack.{Raw}
use Rattle.library.specs.CardWords.{further_len, card_len}
use Rattle.library_yanks_bits.proofs.Histories.{last-len, more-len}
use Rattle.library_yanks_bits.proofs.Cards.{one-len, many-len}
use Rattle.library_raise.specs.Raised.{byte_raised, word_raised, own_raised, further_raised, card_raised}
use Rattle.library_raise.proofs.ByteRaised.{raise-unused}
use Rattle.library_raise.proofs.FurtherRaised.{last-raised, more-raised}
use Rattle.library_raise.proofs.CardRaised.{one-raised, many-raised}

-- A WORD of three bytes
abbrev word_of : Bool → ℕ → ℕ → ℕ → ℕ
word_of e p q r = bit e 59 + p * 2 ^ 36 + q * 2 ^ 18 + r

module _ (n p q r : ℕ) (lp : p < 2 ^ 18) (lq : q < 2 ^ 18) (lr : r < 2 ^ 18) where
  word-raised : (e : Bool) → word_raised n (word_of e p q r) ≡ word_of e (byte_raised n p) (byte_raised n q) (byte_raised n r)
  unfolding word_raised
  word-raised e = λ i. above e i + byte_raised n (first e i) * 2 ^ 36 + byte_raised n (second e i) * 2 ^ 18 + byte_raised n (third e i)
    where
      above : (e : Bool) → word_of e p q r / 2 ^ 54 * 2 ^ 54 ≡ bit e 59
      above true = omega arith
      above false = omega arith

      first : (e : Bool) → word_of e p q r / 2 ^ 36 % 2 ^ 18 ≡ p
      first true = omega arith
      first false = omega arith

      second : (e : Bool) → word_of e p q r / 2 ^ 18 % 2 ^ 18 ≡ q
      second true = omega arith
      second false = omega arith

      third : (e : Bool) → word_of e p q r % 2 ^ 18 ≡ r
      third true = omega arith
      third false = omega arith

-- FURTHER WORDS
module _ (n : ℕ) (rest : List ℕ) where
  pub record RaisedFurther (b : ℕ) (bs : List ℕ) : Type 0 where
    pub words : further_raised n (further_words (b ∷ bs) ++ rest) ≡ further_words (map (byte_raised n) (b ∷ bs)) ++ rest
    pub long : further_len (further_words (b ∷ bs) ++ rest) ≡ length (further_words (map (byte_raised n) (b ∷ bs)))

  zeroed : byte_raised n 0 ≡ 0
  zeroed = raise-unused n 0 refl

  -- the last word, however it is written, has bytes that are raised by themselves
  last_one : (p q r p' q' r' x : ℕ) → p < 2 ^ 18 → q < 2 ^ 18 → r < 2 ^ 18 → byte_raised n p ≡ p' → byte_raised n q ≡ q' → byte_raised n r ≡ r'
      → x ≡ word_of true p q r → (further_raised n (x ∷ rest) ≡ word_of true p' q' r' ∷ rest) × (further_len (x ∷ rest) ≡ 1)
  last_one p q r p' q' r' x lp lq lr ep eq er is =
      let h : 2 ^ 59 ≤ x = omega arith in
      let e : word_raised n x ≡ word_of true p' q' r' = ap (word_raised n) is ∙ word-raised n p q r lp lq lr true ∙ (λ j. word_of true (ep j) (eq j) (er j)) in
      (last-raised n x rest h ∙ (λ j. e j ∷ rest), last-len x rest h)

  pub further-raised : (b : ℕ) (bs : List ℕ) → Raw (b ∷ bs) → RaisedFurther b bs
  further-raised a [] f =
      let t = last_one a 0 0 (byte_raised n a) 0 0 (2 ^ 59 + a * 2 ^ 36) f.0.1 (omega arith) (omega arith) refl zeroed zeroed (omega arith) in
      record { words = t.0 ∙ (λ j. one_byte j ∷ rest); long = t.1 }
    where
      one_byte : word_of true (byte_raised n a) 0 0 ≡ 2 ^ 59 + byte_raised n a * 2 ^ 36
      one_byte = omega arith
  further-raised a (b ∷ []) f =
      let t = last_one a b 0 (byte_raised n a) (byte_raised n b) 0 (2 ^ 59 + a * 2 ^ 36 + b * 2 ^ 18) f.0.1 f.1.0.1 (omega arith) refl refl zeroed
      (omega arith) in
      record { words = t.0 ∙ (λ j. two_bytes j ∷ rest); long = t.1 }
    where
      two_bytes : word_of true (byte_raised n a) (byte_raised n b) 0 ≡ 2 ^ 59 + byte_raised n a * 2 ^ 36 + byte_raised n b * 2 ^ 18
      two_bytes = omega arith
  further-raised a (b ∷ c ∷ []) f =
      let t = last_one a b c (byte_raised n a) (byte_raised n b) (byte_raised n c) (word_of true a b c) f.0.1 f.1.0.1 f.1.1.0.1 refl refl refl refl in
      record { words = t.0; long = t.1 }
  further-raised a (b ∷ c ∷ (d ∷ r)) f =
      let la : a < 2 ^ 18 = f.0.1 in
      let lb : b < 2 ^ 18 = f.1.0.1 in
      let lc : c < 2 ^ 18 = f.1.1.0.1 in
      let x : ℕ = word_of false a b c in
      let xs : List ℕ = further_words (d ∷ r) ++ rest in
      let h : x < 2 ^ 59 = omega arith in
      let t = further-raised d r f.1.1.1 in
      record {
        words = more-raised n x xs h ∙ (λ j. word-raised n a b c la lb lc false j ∷ t.words j);
        long = more-len x xs h ∙ ap suc t.long;
      }

-- THE HEAD
abbrev head_word : Bool → Bool → ℕ → ℕ → ℕ → ℕ
head_word end act count seq b = bit end 59 + bit act 58 + count * 2 ^ 36 + seq * 2 ^ 18 + b

pub record RaisedHead (n : ℕ) (act : Bool) (t seq : ℕ) (raw rest : List ℕ) : Type 0 where
  pub words : card_raised n (head_words act t seq raw ++ rest) ≡ head_words act t seq (map (byte_raised n) raw) ++ rest
  pub long : card_len (head_words act t seq raw ++ rest) ≡ length (head_words act t seq (map (byte_raised n) raw)) + t

module _ (n t seq b : ℕ) (lt : t < 2 ^ 18) (ls : seq < 2 ^ 18) (lb : b < 2 ^ 18) where
  own-raised : (x y : Bool) → own_raised n (head_word x y t seq b) ≡ head_word x y t seq (byte_raised n b)
  own-raised x y = ap (λ (k : ℕ). head_word x y t seq b / 2 ^ 18 * 2 ^ 18 + byte_raised n k) (byte x y) ∙ front x y (byte_raised n b)
    where
      byte : (x y : Bool) → head_word x y t seq b % 2 ^ 18 ≡ b
      byte true true = omega arith
      byte true false = omega arith
      byte false true = omega arith
      byte false false = omega arith

      front : (x y : Bool) (k : ℕ) → head_word x y t seq b / 2 ^ 18 * 2 ^ 18 + k ≡ head_word x y t seq k
      front true true k = omega arith
      front true false k = omega arith
      front false true k = omega arith
      front false false k = omega arith

  count : (x y : Bool) → head_word x y t seq b / 2 ^ 36 % 2 ^ 18 ≡ t
  count true true = omega arith
  count true false = omega arith
  count false true = omega arith
  count false false = omega arith

  ends : (y : Bool) → (2 ^ 59 ≤ head_word true y t seq b) × (head_word false y t seq b < 2 ^ 59)
  ends true = (omega arith, omega arith)
  ends false = (omega arith, omega arith)

  pub head-raised : (act : Bool) (bs rest : List ℕ) → Raw bs → RaisedHead n act t seq (b ∷ bs) rest
  head-raised act [] rest f =
      let x : ℕ = head_word true act t seq b in
      let h : 2 ^ 59 ≤ x = (ends act).0 in
      let k : x / 2 ^ 36 % 2 ^ 18 ≡ t = count true act in
      let l : card_len (x ∷ rest) ≡ 1 + x / 2 ^ 36 % 2 ^ 18 = one-len x rest h in
      record { words = one-raised n x rest h ∙ (λ j. own-raised true act j ∷ rest); long = l ∙ ap (λ (m : ℕ). 1 + m) k }
  head-raised act (c ∷ cs) rest f =
      let x : ℕ = head_word false act t seq b in
      let xs : List ℕ = further_words (c ∷ cs) ++ rest in
      let h : x < 2 ^ 59 = (ends act).1 in
      let k : x / 2 ^ 36 % 2 ^ 18 ≡ t = count false act in
      let u = further-raised n rest c cs f in
      let l : card_len (x ∷ xs) ≡ 1 + further_len xs + x / 2 ^ 36 % 2 ^ 18 = many-len x xs h in
      record {
        words = many-raised n x xs h ∙ (λ j. own-raised false act j ∷ u.words j);
        long = l ∙ (λ j. 1 + u.long j + k j) ∙ omega arith;
      }
