-- Each row's fault is the answer; where the rows ahead have none, the counts and lengths are allowed.
use mathlib.Core.Path.{sym, ap, ◌∙◌}
use Rattle.library.specs.Check.{row1}
use Rattle.library.specs.Refused.{refused_at}
use Rattle.library.specs.declared.Fault.TheVariants.{Size}
use Rattle.library_tables.proofs.TableCounts.{sized}
use Rattle.library_tables.proofs.FirstFault.{refused-on}
use Rattle.library_tables.proofs.first.table_rows.Goals as goal

pub name_fault-requires-clause-sized : goal.name_fault-requires-clause-sized
name_fault-requires-clause-sized c =
    let ws = c.args.image.now in
    sized ws (refused-on Size (row1 ws) (ap (refused_at Size) (sym c.size_fault.ensures) ∙ sym c.refuse.ensures ∙ c.in_ok-refuse.was))
