-- The three tests of `ok_target`, of the name's number. Assumes nothing.
use native.Mathlib.Omega.{arith}
use Rattle.library_check.proofs.Naming.{name-lower}
use Rattle.library_check.proofs.yanks.name_ok.Goals as goal
use Rattle.library_check.proofs.yanks.name_ok.Goals.{then-n-gt0, else-n-gt0}

pub returns-then-n-own : goal.returns-then-n-own
returns-then-n-own c =
    let a = c.args in
    elim c.if-n-gt0.branch [
      | then-n-gt0 w ↦ name-lower a.directory.now.names.now a.list.now.names.now a.own a.w c.number-n.result c.number-n.ensures (omega arith) (omega arith) c.number.result c.number.ensures
      | else-n-gt0 w ↦ absurd (omega arith)
    ]
