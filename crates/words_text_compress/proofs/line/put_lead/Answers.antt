-- `line::put_lead` is right because a leading blank is its own code, and any other first column is left to the rest. Assumes nothing.
use Rattle.std.proofs.Common.{arith, ◌≡◌, ◌<◌, length, get_or}
use Rattle.std.proofs.lemmas.Grind.{common_steps}
use Rattle.words.specs.Display.{code_of}
use Rattle.words.specs.Text.{gap}
use Rattle.words.proofs.ChartBothWays.{blank-code, code-blank}
use Rattle.words_text_compress.proofs.SqueezedLine.{lead-empty, lead-other, lead-gap}
use Rattle.words_text_compress.proofs.line.put_lead.Goals as goal

pub returns-then-is_empty-clause-line_after : goal.returns-then-is_empty-clause-line_after
returns-then-is_empty-clause-line_after c = lead-empty c.args.line.now (grind (arith, common_steps))

pub returns-then-line-eq-BLANK-clause-line_after : goal.returns-then-line-eq-BLANK-clause-line_after
returns-then-line-eq-BLANK-clause-line_after c =
    let l = c.args.line.now in
    let one = c.put_one.ensures in
    let some : 0 < length l = grind (arith, common_steps) in
    let e : code_of (get_or l 0 0) ≡ gap = blank-code (get_or l 0 0) c.if-line-eq-BLANK.true in
    rw one.value (lead-gap l c.put_one.new.codes some e (rw one.value at one.codes_after))

pub returns-clause-line_after : goal.returns-clause-line_after
returns-clause-line_after c =
    let l = c.args.line.now in
    lead-other l (λ e. c.if-line-eq-BLANK.false (code-blank (get_or l 0 0) e))
