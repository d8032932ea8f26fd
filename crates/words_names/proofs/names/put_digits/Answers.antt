use native.Mathlib.Omega.{arith}
use Rattle.words.proofs.DecimalDigits.{digits-start}
use Rattle.words_names.proofs.names.put_digits.Goals as goal

pub loop-m-init : goal.loop-m-init
loop-m-init c = record { inside = omega arith; long = c.requires; below = omega arith; owed = digits-start c.args.n c.args.space.now c.requires }
