-- A history with one byte more has the same words but for its last: it takes the byte, or one word is added.
use Rattle.std.specs.Prelude.{if◌then◌else◌}
use Rattle.std.specs.Int.{from_bool}
use Prim.Native.Nat.{ℕ, ◌+◌, ◌-◌, ◌*◌, ◌/◌, ◌%◌, ◌^◌, ◌<◌}
use native.Mathlib.Omega.{arith}
use mathlib.Core.Path.{◌≡◌, refl, sym, ap, ◌∙◌}
use mathlib.Core.Bool.{Bool, true, false}
use mathlib.Core.List.{List, [], ◌∷◌, ◌++◌, map}
use lib.Dec.{eqb}
use borrow.Author.Tests.{eqb-true, eqb-false}
use Rattle.library.specs.Each.{Each}
use Rattle.library.specs.Library.{Byte}
use Rattle.library.specs.Yanks.{last_says}
use Rattle.library.specs.Image.{bit, byte_bits, further_words, head_words}
use Rattle.run.specs.CardHeads.{head_word, FitsByte}
use Rattle.run.specs.ByteMarks.{byte_of, last_with}
use Rattle.run.proofs.Heads.{bits_below}
use Rattle.run.proofs.GapSteps.{last-second, last-third, last-full}

-- a byte that is one, and fits
abbrev pub Sound : ℕ → Type 0
Sound b = (0 < b) × (b < 2 ^ 18)

-- the words end in one word, and with the byte x more they end in what last_with makes of it
pub record Grown (x : ℕ) (old new : List ℕ) : Type 0 where
  pub front : List ℕ
  pub last : ℕ
  pub was : old ≡ front ++ (last ∷ [])
  pub now : new ≡ front ++ last_with x last

two-path : {a b c d : ℕ} → a ≡ b → c ≡ d → ◌≡◌ {A = List ℕ} (a ∷ c ∷ []) (b ∷ d ∷ [])
two-path p q = λ i. p i ∷ q i ∷ []

pub grow-further : (x a : ℕ) (bs : List ℕ) → Each Sound (a ∷ bs) → Grown x (further_words (a ∷ bs)) (further_words (a ∷ (bs ++ (x ∷ []))))
grow-further x a [] f =
    let l : a < 2 ^ 18 = f.0.1 in
    record { front = []; last = 2 ^ 59 + a * 2 ^ 36; was = refl; now = sym (last-second x (2 ^ 59 + a * 2 ^ 36) (omega arith) (omega arith)) }
grow-further x a (b ∷ []) f =
    let l : a < 2 ^ 18 = f.0.1 in
    let m : b < 2 ^ 18 = f.1.0.1 in
    let n : 0 < b = f.1.0.0 in
    record {
      front = [];
      last = 2 ^ 59 + a * 2 ^ 36 + b * 2 ^ 18;
      was = refl;
      now = sym
          (last-third x (2 ^ 59 + a * 2 ^ 36 + b * 2 ^ 18) (omega arith) (λ z. omega arith));
    }
grow-further x a (b ∷ c ∷ []) f =
    let l : a < 2 ^ 18 = f.0.1 in
    let m : b < 2 ^ 18 = f.1.0.1 in
    let n : 0 < c = f.1.1.0.0 in
    let o : c < 2 ^ 18 = f.1.1.0.1 in
    record {
      front = [];
      last = 2 ^ 59 + a * 2 ^ 36 + b * 2 ^ 18 + c;
      was = refl;
      now = two-path (omega arith) refl ∙ sym (last-full x (2 ^ 59 + a * 2 ^ 36 + b * 2 ^ 18 + c) (λ z. omega arith));
    }
grow-further x a (b ∷ c ∷ d ∷ r) f =
    let g = grow-further x d r f.1.1.1 in
    record {
      front = (0 + a * 2 ^ 36 + b * 2 ^ 18 + c) ∷ g.front;
      last = g.last;
      was = ap {B = List ℕ} (λ t. (0 + a * 2 ^ 36 + b * 2 ^ 18 + c) ∷ t) g.was;
      now = ap {B = List ℕ} (λ t. (0 + a * 2 ^ 36 + b * 2 ^ 18 + c) ∷ t) g.now;
    }

pub grow-heads : (act : Bool) (x count seq b : ℕ) (bs : List ℕ) → count < 2 ^ 18 → seq < 2 ^ 18 → Sound b → Each Sound bs
    → Grown x (head_words act count seq (b ∷ bs)) (head_words act count seq (b ∷ (bs ++ (x ∷ []))))
grow-heads act x count seq b [] p q s f =
    record {
      front = [];
      last = head_word true act count seq b;
      was = refl;
      now = two-path (go act) refl ∙ sym
          (last-full x (head_word true act count seq b) (differs act));
    }
  where
    go : (y : Bool) → head_word false y count seq b ≡ head_word true y count seq b % 576460752303423488
    go true = omega arith
    go false = omega arith

    differs : (y : Bool) → head_word true y count seq b % 262144 ≡ 0 → ⊥
    differs true z = omega arith
    differs false z = omega arith
grow-heads act x count seq b (d ∷ r) p q s f =
    let g = grow-further x d r f in
    record {
      front = head_word false act count seq b ∷ g.front;
      last = g.last;
      was = ap {B = List ℕ} (λ t. head_word false act count seq b ∷ t) g.was;
      now = ap {B = List ℕ} (λ t. head_word false act count seq b ∷ t) g.now;
    }

pub says-append : (yk : ℕ → Bool) (so : Bool) (bs : List Byte) (x : Byte)
    → last_says yk so (bs ++ (x ∷ [])) ≡ (if yk x.number then (last_says yk so bs) else x.activating)
says-append yk so [] x = refl
says-append yk so (b ∷ bs) x = says-append yk (if yk b.number then so else b.activating) bs x

pub map-append : (f : Byte → ℕ) (bs : List Byte) (x : Byte) → map f (bs ++ (x ∷ [])) ≡ map f bs ++ (f x ∷ [])
map-append f [] x = refl
map-append f (b ∷ bs) x = ap {B = List ℕ} (λ t. f b ∷ t) (map-append f bs x)

pub sound-bits : (yk : ℕ → Bool) (b : Byte) → FitsByte b → Sound (byte_bits yk b)
sound-bits yk b f = (let l : 0 < b.number = f.0 in omega arith, bits_below yk b f)

pub sound-all : (yk : ℕ → Bool) (bs : List Byte) → Each FitsByte bs → Each Sound (map (byte_bits yk) bs)
sound-all yk [] f = tt
sound-all yk (b ∷ bs) f = (sound-bits yk b f.0, sound-all yk bs f.1)

-- the bits of the byte that is added, whose set is not yanked
pub byte-is : (yk : ℕ → Bool) (n : ℕ) (on : Bool) → yk n ≡ false → byte_bits yk (byte_of n on) ≡ from_bool on * 65536 + n
byte-is yk n on e = ap (λ (b : Bool). bit b 17 + bit on 16 + n) e ∙ go on
  where
    go : (b : Bool) → 0 + bit b 16 + n ≡ from_bool b * 65536 + n
    go true = omega arith
    go false = omega arith

-- the activity bit is set
pub act-set : (end act : Bool) (count seq b : ℕ) (on : Bool) → count < 2 ^ 18 → seq < 2 ^ 18 → b < 2 ^ 18
    → head_word end act count seq b - head_word end act count seq b / 2 ^ 58 % 2 * 2 ^ 58 + from_bool on * 2 ^ 58 ≡ head_word end on count seq b
act-set true true count seq b true p q s = omega arith
act-set true false count seq b true p q s = omega arith
act-set false true count seq b true p q s = omega arith
act-set false false count seq b true p q s = omega arith
act-set true true count seq b false p q s = omega arith
act-set true false count seq b false p q s = omega arith
act-set false true count seq b false p q s = omega arith
act-set false false count seq b false p q s = omega arith
