-- CODE. The first key of a list that stands twice.
--   twice_from, first_twice
use Rattle.std.specs.Prelude.{ℕ, suc, List, [], ◌∷◌, if◌then◌else◌}
use Rattle.words.specs.Base.{member}

-- where the first key stands that is among those ahead of it; how many keys there are where none is
abbrev pub twice_from : List ℕ → List ℕ → ℕ
twice_from ahead [] = 0
twice_from ahead (k ∷ ks) = let later = suc (twice_from (k ∷ ahead) ks) in if member k ahead then 0 else later

abbrev pub first_twice : List ℕ → ℕ
first_twice ks = twice_from [] ks
