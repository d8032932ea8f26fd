-- Past the end a flag is 0.
use mathlib.Core.Path.{◌≡◌, refl, sym, ap, ◌∙◌}
use mathlib.Core.Bool.{not}
use lib.Dec.{eqb}
use Prim.Native.Nat.{ℕ}
use lib.ListN.{get_or, get_or-eq_default}
use borrow.Author.Tests.{le-ltb}
use Rattle.library_yanks_bits.specs.SettledBits.{flagged}
use Rattle.run.proofs.fixes.is_flagged.Goals as goal

pub returns-then-n-flags : goal.returns-then-n-flags
unfolding flagged
returns-then-n-flags c = refl

pub returns-else-n-flags : goal.returns-else-n-flags
unfolding flagged
returns-else-n-flags c = le-ltb _ _ c.if-n-flags.false ∙ sym (ap (λ (k : ℕ). not (eqb k 0)) (get_or-eq_default c.args.flags.now 0 c.if-n-flags.false))
