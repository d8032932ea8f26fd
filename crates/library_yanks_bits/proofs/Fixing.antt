-- What a byte says of activity is read off its bits.
use Prim.Native.Nat.{ℕ, ◌/◌, ◌≤◌, ◌<◌}
use mathlib.Core.Path.{◌≡◌}
use borrow.Author.Tests.{eq-eqb, ne_eqb, le-leb, lt-leb}
use Rattle.library_yanks_bits.specs.SettledBits.{say_byte}

module _ (so b : ℕ) where
  pub say-none : b ≡ 0 → say_byte so b ≡ so
  unfolding say_byte
  say-none e = rw (eq-eqb b 0 e)

  pub say-off : (b ≡ 0 → ⊥) → 131072 ≤ b → say_byte so b ≡ so
  unfolding say_byte
  say-off d h = rw (ne_eqb b 0 d, le-leb 131072 b h)

  pub say-on : (b ≡ 0 → ⊥) → b < 131072 → say_byte so b ≡ b / 65536
  unfolding say_byte
  say-on d h = rw (ne_eqb b 0 d, lt-leb 131072 b h)
