use Rattle.merge_names.proofs.CommonName.{numbered}
use Rattle.merge_names.proofs.is_shared.Goals as goal

pub returns-then-w-ne-PURGED : goal.returns-then-w-ne-PURGED
returns-then-w-ne-PURGED c = rw c.number.ensures (numbered c.args.first.now.names.now c.args.w c.if-w-ne-PURGED.true)
