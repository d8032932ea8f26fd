-- Each word is settled and speaks after those before it; the history ends at the word with bit 59.
use Rattle.library.specs.Image.{bit}
use Rattle.library_yanks_bits.specs.SettledBits.{flagged}
use Rattle.library_yanks_bits.proofs.Histories.{Telling}
use Rattle.library_yanks_bits.proofs.settle_history.Given as goal

abbrev pub invariant-loop-i : goal.invariant-loop-i
invariant-loop-i l = Telling (flagged l.f) l.initial.w l.from (bit l.so0 0) l.w l.i (bit l.so 0)
