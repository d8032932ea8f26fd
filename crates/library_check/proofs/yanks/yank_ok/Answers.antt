-- The line is what the words say. Assumes nothing.
use Rattle.library_image.proofs.CardPlaces.{line_taken}
use Rattle.library_check.proofs.Naming.{yank-same}
use Rattle.library_check.proofs.yanks.yank_ok.Goals as goal

pub returns : goal.returns
returns c =
    let a = c.args in
    let e = c.line_of-n.ensures in
    yank-same a.directory.now.names.now a.list.now.names.now a.c.owner _ c.yank_line_ok.result _ c.yank_line_ok.ensures (line_taken _ _ _ _ _ _ e.value e.line_after)
