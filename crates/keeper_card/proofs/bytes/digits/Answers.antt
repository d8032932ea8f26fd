-- The power of ten that a number reaches says how many digits it has.
use native.Mathlib.Omega.{arith}
use Rattle.keeper_card.proofs.DigitCount.{digits-reach, digit-zero}
use Rattle.keeper_card.proofs.bytes.digits.Goals as goal

pub returns-in-Some : goal.returns-in-Some
returns-in-Some c =
    let e = c.in-Some.ensures in
    (omega (arith, e.bound), digits-reach c.args.n c.in-Some.tens e.power_le e.next_power_gt e.bound)

pub returns-in-None : goal.returns-in-None
returns-in-None c = (omega arith, digit-zero c.args.n c.in-None.ensures.none)
