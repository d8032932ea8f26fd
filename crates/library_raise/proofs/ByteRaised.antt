-- A used byte has its number raised, and an unused one stays.
use Prim.Native.Nat.{ℕ, ◌+◌, ◌*◌, ◌/◌, ◌%◌}
use mathlib.Core.Path.{◌≡◌}
use borrow.Author.Tests.{eq-eqb, ne_eqb}
use Rattle.library_raise.specs.Raised.{byte_raised}

module _ (n b : ℕ) where
  pub raise-unused : b ≡ 0 → byte_raised n b ≡ 0
  unfolding byte_raised
  raise-unused e = rw (eq-eqb b 0 e)

  pub raise-used : (b ≡ 0 → ⊥) → byte_raised n b ≡ b / 65536 * 65536 + (b % 65536 + n) % 65536
  unfolding byte_raised
  raise-used d = rw (ne_eqb b 0 d)
