-- Names by the words that are read of them: a word is 0 where there is no name. Assumes nothing.
--   two tests                                      and_left, and_right, and-false
--   a number above 0, or 0                         picked, not-picked
--   a name's word is 0 where there is none         is_name_lem, no_name, name-word
use Rattle.std.specs.Prelude.{if◌then◌else◌}
use mathlib.Core.Path.{◌≡◌, refl}
use mathlib.Core.Bool.{Bool, true, false, ◌&&◌}
use mathlib.Core.List.{List, [], ◌∷◌}
use Prim.Native.Nat.{ℕ, ◌+◌, ◌-◌, ◌*◌, ◌<◌}
use native.Mathlib.Nat.{mul-pos, one-le-pow, zero-lt-suc}
use native.Mathlib.Omega.{arith}
use borrow.Author.Tests.{ltb-true}
use lib.Dec.{leb}
use lib.ListN.{length}
use Rattle.words.specs.Display.{code_of}
use Rattle.words.specs.Names.{is_name_byte, is_name, pack_codes, name_word}
use Rattle.words.specs.Spelt.{word_of_name}

pub and_left : (a b : Bool) → a && b ≡ true → a ≡ true
and_left true b e = refl
and_left false b e = e

pub and_right : (a b : Bool) → a && b ≡ true → b ≡ true
and_right true b e = e
and_right false b e = absurd (let z : ◌≡◌ {A = ℕ} 0 1 = cc in omega arith)

pack-positive : (w k : ℕ) (bs : List ℕ) → 0 < w → 0 < pack_codes w k bs
pack-positive w k [] h = mul-pos h (one-le-pow k 64 (zero-lt-suc 63))
pack-positive w k (b ∷ bs) h = pack-positive (w * 64 + code_of b) (k - 1) bs (omega arith)

name-positive : (n : List ℕ) → is_name n ≡ true → 0 < name_word n
unfolding is_name name_word
name-positive [] e = absurd (let z : ◌≡◌ {A = ℕ} 0 1 = cc in omega arith)
name-positive (x ∷ xs) e =
    let first : is_name_byte x ≡ true = and_left _ _ (and_right (leb (length (x ∷ xs)) 9) _ e) in
    pack-positive (0 * 64 + code_of x) 9 xs (omega (arith, ltb-true 0 (code_of x) (and_left _ _ first)))

-- a test picks a number above 0, or 0
module _ (t : Bool) (n : ℕ) (above : t ≡ true → 0 < n) where
  pub picked : ((if t then n else 0) ≡ 0 → ⊥) → t ≡ true
  picked = by-test t
    where
      by-test : (t : Bool) → ((if t then n else 0) ≡ 0 → ⊥) → t ≡ true
      by-test true other = refl
      by-test false other = absurd (other refl)

  pub not-picked : (if t then n else 0) ≡ 0 → t ≡ false
  not-picked = by-test t above
    where
      by-test : (t : Bool) → (t ≡ true → 0 < n) → (if t then n else 0) ≡ 0 → t ≡ false
      by-test true high e = absurd (omega (arith, high refl))
      by-test false high e = refl

module _ (n : List ℕ) where
  pub is_name_lem : (word_of_name n ≡ 0 → ⊥) → is_name n ≡ true
  unfolding word_of_name
  is_name_lem = picked (is_name n) (name_word n) (name-positive n)

  pub no_name : word_of_name n ≡ 0 → is_name n ≡ false
  unfolding word_of_name
  no_name = not-picked (is_name n) (name_word n) (name-positive n)

  pub name-word : is_name n ≡ true → word_of_name n ≡ name_word n
  unfolding word_of_name
  name-word is = rw is

pub and-false : (a : Bool) → a && false ≡ false
and-false true = refl
and-false false = refl
