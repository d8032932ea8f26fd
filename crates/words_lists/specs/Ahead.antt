-- CODE. The elements ahead of a place.
--   ahead_of   the nearest first
use Rattle.std.specs.Prelude.{ℕ, zero, suc, List, [], ◌∷◌, get_or}

abbrev pub ahead_of : ℕ → List ℕ → List ℕ
ahead_of zero xs = []
ahead_of (suc n) xs = get_or xs n 0 ∷ ahead_of n xs
