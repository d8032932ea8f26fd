-- CODE. The sum over the space that a call was lent.
--     mixed     one number more
--     sum_from, sum_of     all of them, from 0
--     halves    a word counts as its low 32 bits and then its high 32 bits
-- Assumes nothing.
use Rattle.std.specs.Prelude.{ℕ, ◌+◌, ◌*◌, ◌/◌, ◌%◌, List, [], ◌∷◌}

abbrev pub mixed : ℕ → ℕ → ℕ
mixed sum x = (sum * 65599 + x) % 4294967291

unfoldable pub sum_from : ℕ → List ℕ → ℕ
sum_from sum [] = sum
sum_from sum (x ∷ s) = sum_from (mixed sum x) s

abbrev pub sum_of : List ℕ → ℕ
sum_of s = sum_from 0 s

unfoldable pub halves : List ℕ → List ℕ
halves [] = []
halves (w ∷ s) = w % 4294967296 ∷ w / 4294967296 ∷ halves s
