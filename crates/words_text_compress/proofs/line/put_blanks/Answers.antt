-- `line::put_blanks` is right because a run above 64 is one of 64 and the rest. Assumes nothing.
use native.Mathlib.Omega.{arith}
use Rattle.words_text_compress.proofs.CodesBehind.{Put, put_as, put_then, blanks-short, blanks-long}
use Rattle.words.specs.Text.{blanks}
use Rattle.words_text_compress.proofs.line.put_blanks.Goals as goal

pub returns-then-n-le-RUN : goal.returns-then-n-le-RUN
returns-then-n-le-RUN c =
    let a = c.args in
    let p : Put (blanks a.n) a.codes.now a.at c.put_run.new.codes c.put_run.result = put_as _ _ a.codes.now _ a.at _ (blanks-short a.n c.if-n-le-RUN.true) (c.put_run.ensures.value, c.put_run.ensures.codes_after) in
    record { value = p.0; codes_after = p.1 }

pub returns : goal.returns
returns c =
    let a = c.args in
    let p : Put (blanks a.n) a.codes.now a.at c.put_run-2.new.codes c.put_run-2.result =
    put_as _ _ a.codes.now _ a.at _ (blanks-long a.n c.if-n-le-RUN.false (omega arith))
    (put_then _ _ a.codes.now _ _ a.at _ _ (c.put_two-next.ensures.value, c.put_two-next.ensures.codes_after) (c.put_run-2.ensures.value, c.put_run-2.ensures.codes_after))
    in
    record { value = p.0; codes_after = p.1 }
