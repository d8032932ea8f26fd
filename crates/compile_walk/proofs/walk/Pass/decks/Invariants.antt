-- The rows that are left give the same.
use lib.ListN.{length}
use mathlib.Core.Path.{◌≡◌}
use Rattle.compile_walk.specs.TableView.{table_view}
use Rattle.compile_walk.specs.Steps.{decks_of}
use Rattle.compile_walk.proofs.walk.Pass.decks.Given as goal

abbrev pub invariant-loop-rows : goal.invariant-loop-rows
invariant-loop-rows l =
    decks_of l.self.writes (table_view l.self.image.now l.self.table.now) (table_view l.self.image.now l.chosen) 0 0 l.initial.out
    ≡ decks_of l.self.writes (table_view l.self.image.now l.self.table.now) (table_view l.self.image.now l.rows) l.counts.lines l.counts.calls l.out

abbrev pub decreases-loop-rows : goal.decreases-loop-rows
decreases-loop-rows l = length l.rows
