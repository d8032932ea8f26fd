-- CODE. The place of a name that two directories have, or none.
--   or_none
use Rattle.std.specs.Prelude.{ℕ}
use Rattle.std.proofs.Math.Option.{Option, none, some}

-- a place, or 0 for none: word 0 of an image is the header's
abbrev pub or_none : Option ℕ → ℕ
or_none none = 0
or_none (some p) = p
