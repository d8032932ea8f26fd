use Rattle.library_index.proofs.NameTree.{walk_start}
use Rattle.library_index.proofs.names.walk.Goals as goal

pub loop-at-init : goal.loop-at-init
loop-at-init c = let a = c.args in walk_start a.directory.now a.ways.now a.n a.w _ c.start_of-rest.ensures
