-- The length of the input is tested first. Assumes nothing.
use Rattle.compile_file.proofs.ProgramWrites.{program-over, program-within}
use Rattle.compile_file.proofs.program.Goals as goal

pub returns-then-input-gt-MOST : goal.returns-then-input-gt-MOST
returns-then-input-gt-MOST c = record { value = (program-over c.args.input.now _ c.args.out.now _ c.if-input-gt-MOST.true c.put_refused.ensures).0; out_after = (program-over c.args.input.now _ c.args.out.now _ c.if-input-gt-MOST.true c.put_refused.ensures).1 }

pub returns : goal.returns
returns c = record { value = (program-within c.args.input.now _ c.args.out.now _ c.if-input-gt-MOST.false c.put_packed.ensures).0; out_after = (program-within c.args.input.now _ c.args.out.now _ c.if-input-gt-MOST.false c.put_packed.ensures).1 }
