-- CODE. One list over another from a place on.
--   put_at   where it fits
--   over    nothing where it reaches beyond the end
use Rattle.std.specs.Prelude.{ℕ, ◌+◌, List, ◌++◌, leb, length, take, drop, if◌then◌else◌}

abbrev pub put_at : {A : Type 0} → ℕ → List A → List A → List A
put_at at xs ys = take at ys ++ xs ++ drop (at + length xs) ys

unfoldable pub over : {A : Type 0} → ℕ → List A → List A → List A
over at xs ys = if leb (at + length xs) (length ys) then put_at at xs ys else ys
