-- The flags of the names of a YANK line, one name after another. Assumes nothing.
--   mark_set                   one flag
--   names-yank, names-other    the names of a line
use Prim.Native.Nat.{ℕ}
use mathlib.Core.Path.{◌≡◌, refl, sym}
use mathlib.Core.Bool.{true, false}
use mathlib.Core.List.{List, [], map}
use borrow.Author.Tests.{ne_eqb}
use lib.ListN.{set}
use Rattle.words.specs.Spelt.{word_of_name}
use Rattle.words_lines.specs.Directive.{directive, params, field}
use Rattle.words_lines.specs.declared.Line.{Line}
use Rattle.words_lines.specs.declared.Line.TheVariants.{Text, Skipped, Deck as DeckLine·, Comdeck, Ident, Insert, Before, Delete, Restore, Yank as YankLine, Outside, Long, Malformed, NotCarried}
use Rattle.words_lines.proofs.FieldNames.{names_from, yank-names}
use Rattle.library.specs.Yanks.{is_yank}
use Rattle.library.proofs.AnyAndAll.{no_true}
use Rattle.library_yanks.specs.Flags.{names_in, mark}

-- ONE FLAG
pub mark_set : (flags : List ℕ) (n : ℕ) → (n ≡ 0 → ⊥) → set flags n 1 ≡ mark flags n
mark_set flags n z = rw (ne_eqb n 0 z)

-- THE NAMES OF A LINE
yank-is : (x : Line) → is_yank x ≡ true → x ≡ YankLine
yank-is YankLine e = refl
yank-is Text e = no_true e
yank-is Skipped e = no_true e
yank-is (DeckLine· w) e = no_true e
yank-is (Comdeck w) e = no_true e
yank-is (Ident w) e = no_true e
yank-is (Insert r) e = no_true e
yank-is (Before r) e = no_true e
yank-is (Delete a b) e = no_true e
yank-is (Restore a b) e = no_true e
yank-is Outside e = no_true e
yank-is Long e = no_true e
yank-is Malformed e = no_true e
yank-is NotCarried e = no_true e

pub names-yank : (l : List ℕ) → is_yank (directive l) ≡ true → names_in l ≡ map word_of_name (params (field l))
unfolding names_in names_from
names-yank l e = rw e (sym (yank-names l (yank-is (directive l) e)))

pub names-other : (l : List ℕ) → is_yank (directive l) ≡ false → names_in l ≡ []
unfolding names_in
names-other l e = rw e
