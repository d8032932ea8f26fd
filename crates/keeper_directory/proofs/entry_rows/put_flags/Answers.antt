-- The words lent are those up to the first deck card. Assumes nothing.
use mathlib.Core.Path.{ap, ◌∙◌}
use Prim.Native.Nat.{ℕ}
use lib.ListN.{length}
use Rattle.library_yanks.specs.Bytes.{part}
use Rattle.library_yanks.specs.Flags.{settled_flags}
use Rattle.keeper_directory.proofs.entry_rows.put_flags.Goals as goal

pub slice_bounds-settle-count : goal.slice_bounds-settle-count
slice_bounds-settle-count c = c.deck_end-end.ensures.upper_bound.1 c.requires

pub returns : goal.returns
returns c =
    let a = c.args in
    c.settle.ensures ∙ ap (λ (n : ℕ). settled_flags a.directory.now (part a.from n a.image.now) (length a.flags.now)) c.deck_end-end.ensures.value
