-- The invariant: the rest of the stream, obeyed in what the arrays now hold, goes as the whole stream goes from the start.
use Prim.Native.Nat.{◌+◌, ◌-◌}
use lib.ListN.{length}
use Rattle.run.specs.Streamed.{in_arrays}
use Rattle.run.proofs.Streaming.{Going, Goes}
use Rattle.run.proofs.streams.obey_stream.Given as goal

abbrev pub invariant-loop-at : goal.invariant-loop-at
invariant-loop-at l = Going l.w l.dir l.names l.decks l.flags l.d (length l.initial.names) (length l.initial.decks) (length l.initial.flags) l.at l.n (length l.stream) × Goes (in_arrays l.initial.w l.initial.dir l.initial.names l.initial.decks l.initial.flags) l.initial.d l.stream (in_arrays l.w l.dir l.names l.decks l.flags) l.d l.n l.at

abbrev pub decreases-loop-at : goal.decreases-loop-at
decreases-loop-at l = length l.stream + 1 - l.at
