-- CODE. A stream line by line, as the line finder goes over it (RULES, "Lines").
--   line_of, after_line     the first line of what is left, and what is left after it
--   line_after             where the next line starts
use Rattle.std.specs.Prelude.{ℕ, ◌+◌, ◌^◌, List, ltb, if◌then◌else◌}
use Rattle.words.specs.Base.{take_until, beyond}
use Rattle.words_lines.specs.Directive.{is_end}

-- the first line of what is left of a stream, and what is left after it
unfoldable pub line_of : List ℕ → List ℕ
line_of s = take_until is_end s

unfoldable pub after_line : List ℕ → List ℕ
after_line s = beyond is_end s

-- where the line after one of k bytes at a place starts; a place beyond 2^62, past any stream (19), stays where it is
unfoldable pub line_after : ℕ → ℕ → ℕ
line_after at k = if ltb (2 ^ 62) at then at else at + k + 1
