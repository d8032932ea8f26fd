-- What unpacking answers of bytes that it accepts, and how many words stand in eight bytes each.
--   words as eight bytes  eights_count
--   unpacking             answer-whole, answer-last, Accepted, accepted
use Rattle.std.specs.Prelude.{Result, Ok, Err, if◌then◌else◌}
use mathlib.Core.Path.{◌≡◌, refl, ap}
use mathlib.Core.Bool.{Bool, true, false, not}
use mathlib.Core.List.{List}
use Prim.Native.Nat.{ℕ, zero, suc, ◌-◌, ◌%◌, ◌≤◌}
use native.Mathlib.Omega.{arith}
use lib.Dec.{ltb}
use lib.ListN.{length, get_or, drop}
use borrow.Author.Tests.{ltb-false, le-ltb}
use Rattle.words_packing.specs.Pack.{is_packed_length, has_tail, unpacked_length, unpacking, words_from}
use Rattle.words_packing.specs.declared.PackingRefused.{PackingRefused}
use Rattle.words_packing.specs.declared.PackingRefused.TheVariants.{Length, Tail, Space}

-- as many words as eighths
pub eights_count : (k : ℕ) (bs : List ℕ) → length (words_from k bs) ≡ k
eights_count zero bs = refl
eights_count (suc k) bs = ap suc (eights_count k (drop 8 bs))

-- UNPACKING
module _ (bs : List ℕ) (room : ℕ) where
  pub answer-whole : length bs % 15 ≡ 0 → unpacked_length (length bs) ≤ room → Ok (unpacked_length (length bs)) ≡ unpacking bs room
  unfolding unpacking
  answer-whole h g = rw (h, le-ltb room (unpacked_length (length bs)) g)

  pub answer-last : length bs % 15 ≡ 8 → unpacked_length (length bs) ≤ room → get_or bs (length bs - 1) 0 % 16 ≡ 0 → Ok (unpacked_length (length bs)) ≡ unpacking bs room
  unfolding unpacking
  answer-last h g t = rw (h, le-ltb room (unpacked_length (length bs)) g, t)

-- what an answer of done says of the bytes
pub record Accepted (bs : List ℕ) (room n : ℕ) : Type 0 where
  pub count : n ≡ unpacked_length (length bs)
  pub right : is_packed_length (length bs) ≡ true
  pub tail : has_tail bs ≡ false
  pub fits : unpacked_length (length bs) ≤ room

pub accepted : (bs : List ℕ) (room n : ℕ) → unpacking bs room ≡ Ok n → Accepted bs room n
unfolding unpacking
accepted bs room n e = ways (is_packed_length (length bs)) (ltb room (unpacked_length (length bs))) (has_tail bs) refl refl refl e
  where
    answer : Bool → Bool → Bool → Result ℕ PackingRefused
    answer r s t = if not r then Err Length else if s then Err Space else if t then Err Tail else Ok (unpacked_length (length bs))

    ways : (r s t : Bool) → is_packed_length (length bs) ≡ r → ltb room (unpacked_length (length bs)) ≡ s → has_tail bs ≡ t → answer r s t ≡ Ok n → Accepted bs room n
    ways false s t er es et d = absurd (let z : ◌≡◌ {A = ℕ} 0 1 = cc in omega arith)
    ways true true t er es et d = absurd (let z : ◌≡◌ {A = ℕ} 0 1 = cc in omega arith)
    ways true false true er es et d = absurd (let z : ◌≡◌ {A = ℕ} 0 1 = cc in omega arith)
    ways true false false er es et d = record { count = cc; right = er; tail = et; fits = ltb-false room (unpacked_length (length bs)) es }
