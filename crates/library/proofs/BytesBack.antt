-- A history's bytes, written with their flags, give back numbers and flags, and pass row 5.
use Rattle.std.specs.Prelude.{if◌then◌else◌}
use Prim.Native.Nat.{ℕ, ◌+◌, ◌/◌, ◌%◌, ◌^◌, ◌<◌}
use native.Mathlib.Omega.{arith}
use mathlib.Core.Path.{◌≡◌, refl, ap, ◌∙◌}
use mathlib.Core.Bool.{Bool, true, false, not, ◌&&◌}
use mathlib.Core.List.{List, [], ◌∷◌, map}
use lib.Dec.{T, eqb, leb, le→leb}
use lib.ListN.{length}
use Rattle.words.specs.Base.{all}
use Rattle.words.proofs.TestParts.{and_both}
use Rattle.library.specs.Each.{Each}
use Rattle.library.specs.Library.{Byte, name_at, purged}
use Rattle.library.specs.Image.{bit, byte_bits}
use Rattle.library.specs.Sound.{is_entry, never_falls}
use Rattle.library.specs.Check.{byte_of, rising, ok_byte}
use Rattle.library.proofs.EntryNames.{is-named}
use Rattle.library.proofs.FieldsBack.{Raw}

-- A BYTE: its number and its flag come back, and it has 18 bits, not all zero
abbrev pub Low : Byte → Type 0
Low b = (0 < b.number) × (b.number < 2 ^ 16)

module _ (yk : ℕ → Bool) where
  pub number-back : (b : Byte) → Low b → byte_bits yk b % 2 ^ 16 ≡ b.number
  number-back b h = go (yk b.number) b.activating h.1
    where
      go : (x y : Bool) → b.number < 2 ^ 16 → (bit x 17 + bit y 16 + b.number) % 2 ^ 16 ≡ b.number
      go true true l = omega arith
      go true false l = omega arith
      go false true l = omega arith
      go false false l = omega arith

  pub flag-back : (b : Byte) → Low b → eqb (byte_bits yk b / 2 ^ 16 % 2) 1 ≡ b.activating
  flag-back b h = ap (λ (k : ℕ). eqb k 1) (odd (yk b.number) b.activating h.1) ∙ one b.activating
    where
      odd : (x y : Bool) → b.number < 2 ^ 16 → (bit x 17 + bit y 16 + b.number) / 2 ^ 16 % 2 ≡ (if y then 1 else 0)
      odd true true l = omega arith
      odd true false l = omega arith
      odd false true l = omega arith
      odd false false l = omega arith

      one : (y : Bool) → eqb (if y then 1 else 0) 1 ≡ y
      one true = refl
      one false = refl

  raw-byte : (b : Byte) → Low b → (0 < byte_bits yk b) × (byte_bits yk b < 2 ^ 18)
  raw-byte b h = go (yk b.number) b.activating h.0 h.1
    where
      go : (x y : Bool) → 0 < b.number → b.number < 2 ^ 16 → (0 < bit x 17 + bit y 16 + b.number) × (bit x 17 + bit y 16 + b.number < 2 ^ 18)
      go true true p l = (omega arith, omega arith)
      go true false p l = (omega arith, omega arith)
      go false true p l = (omega arith, omega arith)
      go false false p l = (omega arith, omega arith)

  -- A HISTORY
  pub raw-bytes : (bs : List Byte) → Each Low bs → Raw (map (byte_bits yk) bs)
  raw-bytes [] h = tt
  raw-bytes (b ∷ bs) h = (raw-byte b h.0, raw-bytes bs h.1)

  pub bytes_back : (bs : List Byte) → Each Low bs → map byte_of (map (byte_bits yk) bs) ≡ bs
  bytes_back [] h = refl
  bytes_back (b ∷ bs) h =
      let n = number-back b h.0 in
      let f = flag-back b h.0 in
      let r = bytes_back bs h.1 in
      λ i. record { number = n i; activating = f i } ∷ r i

  pub rising-back : (n : ℕ) (bs : List Byte) → Each Low bs → rising n (map (byte_bits yk) bs) ≡ never_falls n bs
  rising-back n [] h = refl
  rising-back n (b ∷ bs) h =
      ap (λ (k : ℕ). leb n k && rising k (map (byte_bits yk) bs)) (number-back b h.0)
      ∙ ap (λ (c : Bool). leb n b.number && c) (rising-back b.number bs h.1)

  pub bytes-named : (directory : List ℕ) (bs : List Byte) → Each Low bs → Each (λ b. T (is_entry directory b.number)) bs → T (all (ok_byte directory) (map (byte_bits yk) bs))
  bytes-named directory [] l h = tt
  bytes-named directory (b ∷ bs) l h =
      let q = is-named directory b.number h.0 in
      let inside : T (leb b.number (length directory)) = le→leb b.number (length directory) q.within in
      and_both (ok_byte directory (byte_bits yk b)) (all (ok_byte directory) (map (byte_bits yk) bs))
      (rw (number-back b l.0) (and_both (leb b.number (length directory)) (not (eqb (name_at directory b.number) purged)) inside q.named))
      (bytes-named directory bs l.1 h.1)
