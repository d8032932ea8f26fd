-- `names::code_in` is right because a shift by six bits a place brings a code to the lowest place. Assumes nothing.
use Prim.Native.Nat.{ℕ, ◌-◌, ◌/◌, ◌%◌}
use mathlib.Core.Path.{ap}
use Rattle.words.proofs.Powers.{bits-power}
use Rattle.words_names.proofs.names.code_in.Goals as goal

pub returns : goal.returns
returns c = ap (λ (p : ℕ). c.args.word / p % 64) (bits-power (9 - c.args.place))
