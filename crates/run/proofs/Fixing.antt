-- A byte of a card, settled, is that byte under the new flags, and says what it says in the model.
use Rattle.std.specs.Prelude.{if◌then◌else◌}
use Prim.Native.Nat.{ℕ, ◌+◌, ◌*◌, ◌/◌, ◌%◌, ◌^◌, ◌<◌}
use native.Mathlib.Omega.{arith}
use mathlib.Core.Path.{◌≡◌, ap, ◌∙◌}
use mathlib.Core.Bool.{Bool, true, false}
use Rattle.library.specs.Library.{Byte}
use Rattle.library.specs.Image.{bit, byte_bits}
use Rattle.library_yanks_bits.specs.SettledBits.{fix_byte, fix_word, say_byte, say_word}
use Rattle.library_yanks_bits.proofs.Fixing.{say-off, say-on}
use Rattle.run.specs.CardHeads.{FitsByte}
use Rattle.run.proofs.Heads.{bits-number}

module _ (yk new : ℕ → Bool) (x : Byte) (f : FitsByte x) where
  pub fix_is : fix_byte new (byte_bits yk x) ≡ byte_bits new x
  unfolding fix_byte
  fix_is =
      let n : byte_bits yk x % 65536 ≡ x.number = bits-number yk x f in
      (λ i. bit (new (n i)) 17 + byte_bits yk x % 131072) ∙ go (yk x.number) x.activating (bit (new x.number) 17)
    where
      go : (p q : Bool) (k : ℕ) → k + (bit p 17 + bit q 16 + x.number) % 131072 ≡ k + bit q 16 + x.number
      go true true k = omega arith
      go true false k = omega arith
      go false true k = omega arith
      go false false k = omega arith

pub say-is : (new : ℕ → Bool) (so : Bool) (x : Byte) → FitsByte x
    → say_byte (bit so 0) (byte_bits new x) ≡ bit (if new x.number then so else x.activating) 0
say-is new so x f = go (new x.number) x.activating
  where
    go : (p q : Bool) → say_byte (bit so 0) (bit p 17 + bit q 16 + x.number) ≡ bit (if p then so else q) 0
    go true true = say-off (bit so 0) (2 ^ 17 + 2 ^ 16 + x.number) (λ e. omega arith) (omega arith)
    go true false = say-off (bit so 0) (2 ^ 17 + 0 + x.number) (λ e. omega arith) (omega arith)
    go false true = say-on (bit so 0) (0 + 2 ^ 16 + x.number) (λ e. omega arith) (omega arith) ∙ omega arith
    go false false = say-on (bit so 0) (0 + 0 + x.number) (λ e. omega arith) (omega arith) ∙ omega arith

pub fix-zero : (new : ℕ → Bool) → new 0 ≡ false → fix_byte new 0 ≡ 0
unfolding fix_byte
fix-zero new e = ap (λ (b : Bool). bit b 17 + 0) e

pub fix-below : (new : ℕ → Bool) (b : ℕ) → fix_byte new b < 2 ^ 18
unfolding fix_byte
fix-below new b = go (new (b % 65536))
  where
    go : (p : Bool) → bit p 17 + b % 131072 < 2 ^ 18
    go true = omega arith
    go false = omega arith

-- a further word
abbrev pub word_of : Bool → ℕ → ℕ → ℕ → ℕ
word_of e p q r = bit e 59 + p * 2 ^ 36 + q * 2 ^ 18 + r

module _ (p q r : ℕ) (lp : p < 2 ^ 18) (lq : q < 2 ^ 18) (lr : r < 2 ^ 18) where
  pub first_of : (e : Bool) → word_of e p q r / 2 ^ 36 % 2 ^ 18 ≡ p
  first_of true = omega arith
  first_of false = omega arith

  pub second-of : (e : Bool) → word_of e p q r / 2 ^ 18 % 2 ^ 18 ≡ q
  second-of true = omega arith
  second-of false = omega arith

  pub third_of : (e : Bool) → word_of e p q r % 2 ^ 18 ≡ r
  third_of true = omega arith
  third_of false = omega arith

  pub end_of : (e : Bool) → word_of e p q r / 2 ^ 54 * 2 ^ 54 ≡ bit e 59
  end_of true = omega arith
  end_of false = omega arith

  pub word-fixed : (new : ℕ → Bool) (e : Bool) → fix_word new (word_of e p q r) ≡ word_of e (fix_byte new p) (fix_byte new q) (fix_byte new r)
  unfolding fix_word
  word-fixed new e = λ i. end_of e i + fix_byte new (first_of e i) * 2 ^ 36 + fix_byte new (second-of e i) * 2 ^ 18 + fix_byte new (third_of e i)

  pub word-said : (so : ℕ) (e : Bool) → say_word so (word_of e p q r) ≡ say_byte (say_byte (say_byte so p) q) r
  unfolding say_word
  word-said so e = λ i. say_byte (say_byte (say_byte so (first_of e i)) (second-of e i)) (third_of e i)
