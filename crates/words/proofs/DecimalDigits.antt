-- Decimal numbers read and written, one digit at a time. Assumes nothing.
use Rattle.std.specs.Prelude.{if◌then◌else◌}
use Prim.Native.Nat.{ℕ, zero, suc, ◌+◌, ◌-◌, ◌*◌, ◌^◌, ◌≤◌, ◌<◌}
use native.Mathlib.Omega.{arith}
use native.Mathlib.Numerals.{add-one}
use native.Mathlib.Nat.{pow-suc}
use mathlib.Core.Path.{◌≡◌, refl, sym, ap, ap₂, ◌∙◌}
use mathlib.Core.Bool.{true, false, ◌&&◌}
use mathlib.Core.List.{List, ◌++◌, append-nil}
use borrow.Author.Tests.{lt-ltb, le-leb, lt-leb}
use lib.Dec.{ltb}
use lib.ListN.{length, take, drop, replicate, drop_of_length-le}
use Rattle.words.specs.Base.{all}
use Rattle.words.specs.Display.{blank}
use Rattle.words.specs.Names.{is_digit, decimal, is_number, number_read, digits, numeral, right_justified}
use Rattle.words.specs.Spelt.{number_fits, number_into}

-- READ
pub digit_low : (b : ℕ) → b < 48 → is_digit b ≡ false
digit_low b h = rw (lt-leb 48 b h)

pub digit-high : (b : ℕ) → 57 < b → is_digit b ≡ false
digit-high b h = rw (lt-leb b 57 h, le-leb 48 b (omega arith))

pub digit-good : (b : ℕ) → 48 ≤ b → b ≤ 57 → is_digit b ≡ true
digit-good b h l = rw (le-leb 48 b h, le-leb b 57 l)

pub decimal-end : (ds : List ℕ) (n i : ℕ) → length ds ≤ i → decimal n (drop i ds) ≡ n
decimal-end ds n i h = rw (drop_of_length-le ds h)

pub below_more : (n i d : ℕ) → n < 10 ^ i → d < 10 → n * 10 + d < 10 ^ (i + 1)
below_more n i d h l = rw (add-one, pow-suc 10 i) (omega arith)

-- n has the first i digits of ds
pub record Reads (ds : List ℕ) (n i : ℕ) : Type 0 where
  pub inside : i ≤ length ds
  pub below : n < 10 ^ i
  pub good : all is_digit (drop i ds) ≡ all is_digit ds
  pub owed : decimal n (drop i ds) ≡ decimal 0 ds

none_read : (ds : List ℕ) → is_number ds ≡ false → 0 ≡ number_read ds
unfolding number_read
none_read ds e = rw e

pub read-long : (ds : List ℕ) → 6 < length ds → 0 ≡ number_read ds
unfolding is_number
read-long ds h = let e : is_number ds ≡ false = rw (lt-leb (length ds) 6 h) in none_read ds e

pub read-other : (ds : List ℕ) → length ds ≤ 6 → all is_digit ds ≡ false → 0 ≡ number_read ds
unfolding is_number
read-other ds h q = let e : is_number ds ≡ false = rw (le-leb (length ds) 6 h, q) in none_read ds e

module _ (ds : List ℕ) (few : length ds ≤ 6) (good : all is_digit ds ≡ true) (n : ℕ) (is : n ≡ decimal 0 ds) where
  pub read-large : 262143 < n → 0 ≡ number_read ds
  unfolding is_number
  read-large h =
      let p : 0 < n = omega arith in
      let e : is_number ds ≡ false = rw (le-leb (length ds) 6 few, good, ← is, lt-ltb 0 n p, lt-leb n 262143 h) in none_read ds e

  pub read-good : n ≤ 262143 → n ≡ number_read ds
  unfolding is_number number_read
  read-good h = rw (le-leb (length ds) 6 few, good, ← is, le-leb n 262143 h) (go n)
    where
      go : (m : ℕ) → m ≡ (if ltb 0 m && true then m else 0)
      go zero = refl
      go (suc m) = rw (lt-ltb 0 (suc m) (omega arith))

-- WRITTEN
-- the digits still to be put ahead of those that are put, from i + 1 on
abbrev pub digits_read : List ℕ → ℕ → ℕ → List ℕ
digits_read d m i = digits (i + 1) m (drop (i + 1) d)

pub digits-start : (n : ℕ) (d : List ℕ) → length d ≡ 20 → digits_read d n 19 ≡ numeral n
unfolding numeral
digits-start n d e = let out : length d ≤ 20 = omega arith in ap (digits 20 n) (drop_of_length-le d out)

-- d holds the digits behind i, and m is the number that is left
pub record Writes (n : ℕ) (d : List ℕ) (m i : ℕ) : Type 0 where
  pub inside : i ≤ 19
  pub long : length d ≡ 20
  pub below : m < 10 ^ (i + 1)
  pub owed : digits_read d m i ≡ numeral n

-- RIGHT JUSTIFIED
module _ (n : ℕ) (d : List ℕ) where
  pub too-narrow : length d < length (numeral n) → (false ≡ number_fits n (length d)) × (d ≡ number_into n d)
  unfolding number_into
  too-narrow h = let e = lt-leb (length (numeral n)) (length d) h in (sym e, rw e)

  pub wide_enough : (t : List ℕ) → length (numeral n) ≤ length d → t ≡ replicate (length d - length (numeral n)) blank ++ numeral n
      → (true ≡ number_fits n (length d)) × (t ≡ number_into n d)
  unfolding number_into right_justified
  wide_enough t h q = let e = le-leb (length (numeral n)) (length d) h in (sym e, rw e q)

  -- blanks put at the field's front make e of it, and the digits behind them t
  pub justified : (e t p : List ℕ) (gap : ℕ) → p ≡ numeral n → length p ≤ length d → gap ≡ length d - length p → length e ≡ length d
      → take gap e ≡ replicate gap blank → t ≡ take gap e ++ p ++ drop (gap + length p) e → (true ≡ number_fits n (length d)) × (t ≡ number_into n d)
  justified e t p gap is fits g long front q =
      let out : length e ≤ gap + length p = omega arith in
      wide_enough t (rw is at fits)
      (q ∙ ap (λ (r : List ℕ). take gap e ++ p ++ r) (drop_of_length-le e out) ∙ append-nil (take gap e ++ p)
      ∙ ap₂ ◌++◌ (front ∙ ap (λ (j : ℕ). replicate j blank) (g ∙ ap (λ (r : List ℕ). length d - length r) is)) is)
