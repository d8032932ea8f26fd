-- PROMISE. Where a stream may be parted between lines (RULES, "Lines"): after a byte 10.
--   ends_line, LinesAppend
use Rattle.std.specs.Prelude.{ℕ, ◌≡◌, Bool, true, List, [], ◌∷◌, ◌++◌, T}
use Rattle.words_lines.specs.Directive.{is_end, lines}

-- nothing, or bytes of which the last ends a line
abbrev pub ends_line : List ℕ → Bool
ends_line [] = true
ends_line (b ∷ []) = is_end b
ends_line (b ∷ c ∷ bs) = ends_line (c ∷ bs)

-- the lines of a stream that is parted there are those of its parts
abbrev pub LinesAppend : Type 0
LinesAppend = (x y : List ℕ) → T (ends_line x) → lines (x ++ y) ≡ lines x ++ lines y
