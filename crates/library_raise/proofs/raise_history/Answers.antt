use mathlib.Core.Path.{◌≡◌, ◌∙◌}
use native.Mathlib.Omega.{arith}
use lib.ListN.{length}
use Rattle.library_raise.proofs.FurtherRaised.{going_more, going_end, going-none}
use Rattle.library_raise.proofs.raise_history.Goals as goal

pub returns-then-x-ge-LAST : goal.returns-then-x-ge-LAST
returns-then-x-ge-LAST c =
    let a = c.args in
    let l = c.loop-i in
    let t = going_end a.n a.w.now a.from l.w l.i l.invariant (omega arith) c.if-x-ge-LAST.true in
    record { lower_bound = (omega arith, omega arith); value = t.at; w_after = rw c.raise_word.ensures t.words }

pub loop-i-preserved : goal.loop-i-preserved
loop-i-preserved c =
    let a = c.args in
    let l = c.loop-i in
    rw c.raise_word.ensures (going_more a.n a.w.now a.from l.w l.i l.invariant (omega arith) c.if-x-ge-LAST.false)

pub returns : goal.returns
returns c =
    let a = c.args in
    let l = c.loop-i in
    let z : length l.w ≡ l.i = omega arith in
    let t = going-none a.n a.w.now a.from l.w l.i l.invariant (omega arith) in
    record { lower_bound = (omega arith, omega arith); value = z ∙ t.at; w_after = t.words }
