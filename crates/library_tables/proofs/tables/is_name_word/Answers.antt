-- A word is a name's where the name has letters. Assumes nothing.
use mathlib.Core.Path.{sym, ap, ◌∙◌}
use Prim.Native.Nat.{ℕ}
use mathlib.Core.Bool.{not}
use lib.Dec.{eqb}
use Rattle.library_tables.proofs.TableWords.{name-word}
use Rattle.library_tables.proofs.tables.is_name_word.Goals as goal

pub returns : goal.returns
returns c = ap (λ (n : ℕ). not (eqb n 0)) c.name_of_word.ensures.value ∙ sym (name-word c.args.w)
