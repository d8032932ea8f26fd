-- CODE. The numbers of a case.
--     little    the number that four bytes give, the lowest first
--     four_at    the one at a place
--     head_of    a case's head: the op, the room and the lengths of the two blobs
-- Assumes nothing.
use Rattle.std.specs.Prelude.{ℕ, ◌+◌, ◌*◌, List, get_or}
use Rattle.cases_sums.specs.declared.Head.{Head}

abbrev pub little : ℕ → ℕ → ℕ → ℕ → ℕ
little a b c d = a + 256 * b + 65536 * c + 16777216 * d

abbrev pub four_at : List ℕ → ℕ → ℕ
four_at s at = little (get_or s at 0) (get_or s (at + 1) 0) (get_or s (at + 2) 0) (get_or s (at + 3) 0)

abbrev pub head_of : List ℕ → Head
head_of s = record { op = get_or s 0 0; room = four_at s 1; first = four_at s 5; second = four_at s 9 }
