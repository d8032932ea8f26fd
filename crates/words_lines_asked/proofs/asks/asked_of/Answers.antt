-- Clean parameters ask as they stand, others as if there were none.
use mathlib.Core.Path.{sym, ◌∙◌}
use Rattle.words_lines.specs.Directive.{field, asked}
use Rattle.words_lines_asked.proofs.DirectiveAsks.{asks-spoilt}
use Rattle.words_lines_asked.proofs.asks.asked_of.Goals as goal

pub returns-then-is_clean : goal.returns-then-is_clean
unfolding asked
returns-then-is_clean c =
    let clean = sym c.is_clean.ensures ∙ c.if-is_clean.true in
    rw (clean, ← c.kind_of_line-kind.ensures, ← c.field_of.ensures) c.asks_of.ensures

pub returns : goal.returns
unfolding asked
returns c =
    let k = c.kind_of_line-kind in
    let spoilt = sym c.is_clean.ensures ∙ c.if-is_clean.false in
    rw (spoilt, ← k.ensures) (c.asks_of-2.ensures ∙ asks-spoilt k.result (field c.args.line.now))
