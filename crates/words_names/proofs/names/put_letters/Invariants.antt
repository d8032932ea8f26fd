-- `names::put_letters` is right because the letters put are always the name's first. Assumes nothing.
use Prim.Native.Nat.{◌≤◌}
use mathlib.Core.Path.{◌≡◌}
use lib.ListN.{length, take, drop}
use Rattle.words.specs.Names.{name_of}
use Rattle.words.proofs.NameWord.{codes_left}
use Rattle.words_names.proofs.names.put_letters.Given as goal

abbrev pub invariant-loop-i : goal.invariant-loop-i
invariant-loop-i l = (l.i ≤ l.n) × ((length l.name ≡ 9) × (codes_left l.word l.i × ((take l.i l.name ≡ take l.i (name_of l.word)) × (drop l.i l.name ≡ drop l.i l.initial.name))))
