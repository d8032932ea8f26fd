use mathlib.Core.Path.{◌≡◌, ◌∙◌}
use native.Mathlib.Omega.{arith}
use lib.ListN.{length}
use Rattle.library.specs.Image.{bit}
use Rattle.library_yanks_bits.specs.SettledBits.{flagged}
use Rattle.library_yanks_bits.proofs.Histories.{tell-more, tell-end, tell_none}
use Rattle.library_yanks_bits.proofs.settle_history.Goals as goal

pub returns-then-x-ge-LAST : goal.returns-then-x-ge-LAST
returns-then-x-ge-LAST c =
    let a = c.args in
    let l = c.loop-i in
    let t = tell-end (flagged a.f.now) a.w.now a.from (bit a.so0 0) l.w l.i (bit l.so 0) l.invariant (omega arith) c.if-x-ge-LAST.true in
    record { bounds = (omega arith, omega arith); at = t.at; says = rw (c.say_word-so.ensures, c.fix_word-y.ensures) t.says; w_after = rw c.fix_word-y.ensures t.words }

pub loop-i-preserved : goal.loop-i-preserved
loop-i-preserved c =
    let a = c.args in
    let l = c.loop-i in
    rw (c.say_word-so.ensures, c.fix_word-y.ensures)
    (tell-more (flagged a.f.now) a.w.now a.from (bit a.so0 0) l.w l.i (bit l.so 0) l.invariant (omega arith) c.if-x-ge-LAST.false)

pub returns : goal.returns
returns c =
    let a = c.args in
    let l = c.loop-i in
    let z : length l.w ≡ l.i = omega arith in
    let t = tell_none (flagged a.f.now) a.w.now a.from (bit a.so0 0) l.w l.i (bit l.so 0) l.invariant (omega arith) in
    record { bounds = (omega arith, omega arith); at = z ∙ t.at; says = t.says; w_after = t.words }
