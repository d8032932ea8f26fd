-- The word of an entry is 0 outside the directory, and else the word that stands there. Assumes nothing.
use Prim.Native.Nat.{ℕ, ◌+◌, ◌≤◌, ◌<◌}
use native.Mathlib.Omega.{arith}
use mathlib.Core.Path.{◌≡◌}
use mathlib.Core.List.{List}
use borrow.Author.Tests.{lt-ltb, le-ltb, ne_eqb}
use lib.ListN.{get_or}
use Rattle.library.specs.Check.{directory_count}
use Rattle.keeper_card.specs.Parts.{entry_word}

module _ (ws : List ℕ) (n : ℕ) where
  pub word_none : n ≡ 0 → 0 ≡ entry_word ws n
  unfolding entry_word
  word_none e = rw e

  module _ (k : ℕ) (e : k ≡ directory_count ws) where
    pub word-past : k < n → 0 ≡ entry_word ws n
    unfolding entry_word
    word-past h =
        let lt : directory_count ws < n = rw e at h in
        let ne : n ≡ 0 → ⊥ = λ z. omega (arith, z) in
        rw (ne_eqb n 0 ne, lt-ltb (directory_count ws) n lt)

    pub word_in : (v : ℕ) → (n ≡ 0 → ⊥) → n ≤ k → v ≡ get_or ws (n + 1) 0 → v ≡ entry_word ws n
    unfolding entry_word
    word_in v ne h is =
        let le : n ≤ directory_count ws = rw e at h in
        rw (ne_eqb n 0 ne, le-ltb (directory_count ws) n le) is
