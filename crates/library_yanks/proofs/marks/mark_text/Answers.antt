-- The line is that of the words.
use mathlib.Core.Path.{ap, ◌∙◌}
use mathlib.Core.List.{List}
use Prim.Native.Nat.{ℕ}
use Rattle.library_yanks.specs.Flags.{names_in, marked}
use Rattle.library_image.proofs.CardPlaces.{line_taken}
use Rattle.library_yanks.proofs.marks.mark_text.Goals as goal

pub returns : goal.returns
returns c =
    let a = c.args in
    let e = c.line_of-n.ensures in
    c.mark_line.ensures ∙ ap (λ (l : List ℕ). marked a.index.now.names.now (names_in l) a.flags.now) (line_taken _ _ _ _ _ _ e.value e.line_after)
