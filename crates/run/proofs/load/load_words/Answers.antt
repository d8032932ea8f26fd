-- Each part of the image is copied over the beginning of its array, which has room for it.
use Prim.Native.Nat.{◌+◌}
use native.Mathlib.Omega.{arith}
use mathlib.Core.Path.{◌∙◌}
use Rattle.run.proofs.Loading.{copied-part, copied-rest}
use Rattle.run.proofs.load.load_words.Goals as goal

pub returns : goal.returns
returns c =
    let a = c.args in
    let pre = c.requires in record { w_after = c.put-3.ensures ∙ copied-rest a.old.now a.w.now (2 + a.n + a.k) pre.1.0; dir_after = c.put.ensures ∙ copied-part a.old.now a.dir.now 2 a.n (omega arith) pre.1.1.0; names_after = c.put-2.ensures ∙ copied-part a.old.now a.names.now (2 + a.n) a.k pre.0 pre.1.1.1 }
