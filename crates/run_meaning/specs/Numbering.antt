-- CODE. The cards of a unit, numbered one after another.
--   number_after
use Rattle.std.specs.Prelude.{ℕ, ◌+◌, ltb, if◌then◌else◌}

-- the largest number of a card is 262,143; past any number it stays
unfoldable pub number_after : ℕ → ℕ
number_after seq = if ltb 262143 seq then seq else (seq + 1)
