-- `form::step` is right because a code's fields hold what may follow it. Assumes nothing.
use Rattle.std.proofs.Common.{arith}
use Rattle.words_text_form.proofs.FormTable.{next-held}
use Rattle.words_text_form.proofs.form.step.Goals as goal

pub invariant_of-result : goal.invariant_of-result
invariant_of-result c =
    let s = c.args.s in
    let held = next-held s.place c.args.c c.fields_of.result s.in_sixes s.in_fields c.requires c.fields_of.ensures in
    record { in_sixes = omega (arith, held.0); in_fields = held.1 }

pub returns : goal.returns
returns c =
    let s = c.args.s in
    (next-held s.place c.args.c c.fields_of.result s.in_sixes s.in_fields c.requires c.fields_of.ensures).0
