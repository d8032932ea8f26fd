-- CODE. Where a search of a line stops: at the bytes that part lines, names and parameters (RULES, "Lines", "Directives").
--   stops_at
use Rattle.std.specs.Prelude.{ℕ, Bool, not, eqb}
use Rattle.words.specs.Display.{blank, point}
use Rattle.words_lines.specs.Directive.{is_end, ends_name, is_comma}
use Rattle.words_lines.specs.declared.Stop.{Stop}
use Rattle.words_lines.specs.declared.Stop.TheVariants.{Line, Name, Parameter, Blank, NonBlank, Point}

abbrev pub stops_at : Stop → ℕ → Bool
stops_at Line b = is_end b
stops_at Name b = ends_name b
stops_at Parameter b = is_comma b
stops_at Blank b = eqb blank b
stops_at NonBlank b = not (eqb b blank)
stops_at Point b = eqb point b
