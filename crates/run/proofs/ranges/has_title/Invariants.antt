-- The walk goes from card to card, and the answer for what is left is the answer for the range.
use Prim.Native.Nat.{◌-◌, ◌≤◌}
use Rattle.run.proofs.TitleWalk.{Rests}
use Rattle.run.proofs.ranges.has_title.Given as goal

abbrev pub invariant-loop : goal.invariant-loop
invariant-loop l = (l.at ≤ 400000) × Rests l.w l.decks l.from l.n l.at (l.n - l.counter)
