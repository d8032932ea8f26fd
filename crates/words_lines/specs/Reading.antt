-- CODE. The names of a field of parameters, one by one (RULES, "Directives").
--   next_name
use Rattle.std.specs.Prelude.{ℕ, ◌+◌, Option, Some, None, List, ltb, length, drop, if◌then◌else◌}
use Rattle.words.specs.Base.{take_until}
use Rattle.words.specs.Spelt.{word_of_name}
use Rattle.words_lines.specs.Directive.{is_comma}
use Rattle.words_lines.specs.declared.NameAt.{NameAt}

-- the parameter at a place as a name's word, 0 where it is no name, and the place of the next; past the field's end none
unfoldable pub next_name : List ℕ → ℕ → Option NameAt
next_name f at =
    let p : List ℕ = take_until is_comma (drop at f) in
    if ltb (length f) at then None else Some (record { word = word_of_name p; next = at + (length p + 1) })
