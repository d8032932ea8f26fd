-- `codes::power` is right because a shift by six bits is a factor of 64. Assumes nothing.
use Rattle.std.specs.Prelude.{if◌then◌else◌}
use Prim.Native.Nat.{◌^◌}
use mathlib.Core.Path.{sym, ap, ◌∙◌}
use mathlib.Core.Bool.{Bool}
use native.Mathlib.Omega.{arith}
use borrow.Author.Tests.{lt-ltb}
use Rattle.words.proofs.Powers.{shifted}
use Rattle.words.proofs.codes.power.Goals as goal

pub returns : goal.returns
returns c =
    let k = c.args.k in
    shifted k (omega arith) ∙ sym (ap (λ (b : Bool). if b then 64 ^ k else 0) (lt-ltb k 10 (omega arith)))
