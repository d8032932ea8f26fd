-- A line that fits stands in its own stretch, with the owner's name from the directory.
use Prim.Native.Nat.{ℕ}
use mathlib.Core.Path.{ap, ◌∙◌}
use Rattle.compile_walk.specs.Lines.{line_for}
use Rattle.compile_walk.proofs.LineRoom.{put_full, put-counted, put_written}
use Rattle.compile_walk.proofs.walk.Pass.put.Goals as goal
use Rattle.compile_walk.proofs.walk.Pass.put.Goals.{then-self, else-self}

pub returns-then-out-lines : goal.returns-then-out-lines
returns-then-out-lines c = let a = c.args in rw c.halt.ensures (put_full a.self.now.writes _ a.so_far.lines a.so_far.calls a.out.now c.if-out-lines.true)

pub returns : goal.returns
returns c =
    let a = c.args in
    elim c.if-self.branch [
      | then-self w ↦ rw w.out-is (put_written a.self.now.writes _ a.so_far.lines a.so_far.calls a.out.now _ c.if-out-lines.false w.if-self.true (w.put_line.ensures ∙ ap (λ (n : ℕ). line_for a.line.now n a.c.seq) w.word_at-name.ensures))
      | else-self w ↦ rw w.out-is (put-counted a.self.now.writes _ a.so_far.lines a.so_far.calls a.out.now c.if-out-lines.false w.if-self.false)
    ]
