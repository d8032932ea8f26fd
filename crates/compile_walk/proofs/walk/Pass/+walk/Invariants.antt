-- Each card is passed over, written, refused, or opens a called deck with one level less; what is left of the walk gives the same. Assumes nothing.
use Prim.Native.Nat.{◌-◌}
use mathlib.Core.Path.{◌≡◌}
use lib.ListN.{length}
use Rattle.compile_walk.specs.TableView.{shown_in, table_view}
use Rattle.compile_walk.specs.Steps.{run_at}
use Rattle.compile_walk.proofs.walk.Pass.+walk.Given as goal

abbrev pub decreases-walk : goal.decreases-walk
decreases-walk l = l.depth

abbrev pub invariant-loop-at : goal.invariant-loop-at
invariant-loop-at l =
    run_at l.self.writes (table_view l.self.image.now l.self.table.now) l.fn.depth (shown_in l.self.image.now l.fn.cards.from l.fn.cards.to) l.fn.so_far.lines l.fn.so_far.calls l.initial.out
    ≡ run_at l.self.writes (table_view l.self.image.now l.self.table.now) l.depth (shown_in l.self.image.now l.at l.cards.to) l.counts.lines l.counts.calls l.out

abbrev pub decreases-loop-at : goal.decreases-loop-at
decreases-loop-at l = length l.self.image.now - l.at
