-- `names::name_length` is right because the word so far, packed with the letters that the codes left have, is always the word of all its letters. Assumes nothing.
use Prim.Native.Nat.{◌≤◌}
use Rattle.words.specs.Names.{name_of}
use Rattle.words.proofs.NameWord.{Packed, codes_left}
use Rattle.words_names.proofs.names.name_length.Given as goal

abbrev pub invariant-loop-i : goal.invariant-loop-i
invariant-loop-i l = (l.i ≤ 10) × (codes_left l.word l.i × Packed (name_of l.word) l.w l.i)
