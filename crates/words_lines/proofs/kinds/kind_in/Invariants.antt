-- The rows passed do not have the name, so its kind is that of the rows from here on.
use Rattle.std.proofs.Common.{◌≡◌, map, eqb, drop}
use Rattle.words.specs.Base.{split}
use Rattle.words.specs.Display.{blank}
use Rattle.words_lines.specs.Directive.{kind_in}
use Rattle.words_lines.proofs.kinds.kind_in.Given as goal

abbrev pub invariant-loop-names : goal.invariant-loop-names
invariant-loop-names l = kind_in l.name (map (λ r. record { kind = r.1; names = split (eqb blank) r.0.now }) (drop l.names-index l.table)) ≡ kind_in l.name (map (λ r. record { kind = r.1; names = split (eqb blank) r.0.now }) l.table)
