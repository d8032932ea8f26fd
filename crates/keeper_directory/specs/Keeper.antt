-- MEANING. What the keeper of libraries is shown (RULES, "Directory", "Decks", "When a card is active").
--   an entry         deck_byte, deck_kind, purged_or, entry_kind, yank_mark, entry_row, rows_up_to, entry_rows
--   what is shown    listed, listing
use Rattle.std.specs.Prelude.{ℕ, zero, suc, Bool, true, false, List, [], ◌∷◌, ◌++◌, eqb, length, if◌then◌else◌}
use Rattle.words.specs.Base.{byte}
use Rattle.words.specs.Display.{blank}
use Rattle.words.specs.Names.{left_justified}
use Rattle.library.specs.Library.{Deck, Library, purged, name_at}
use Rattle.library.specs.Yanks.{yanked}
use Rattle.library.specs.Check.{check}
use Rattle.keeper_card.specs.Naming.{entry_name, Showing, in_space, of_checked}

-- AN ENTRY: what it is, D a normal deck, C a common deck, S a set, P purged
abbrev pub deck_byte : Bool → ℕ
deck_byte false = byte "D"
deck_byte true = byte "C"

abbrev pub deck_kind : ℕ → List Deck → ℕ
deck_kind n [] = byte "S"
deck_kind n (d ∷ ds) = let later : ℕ = deck_kind n ds in if eqb d.number n then deck_byte d.common else later

abbrev pub purged_or : ℕ → ℕ → ℕ
purged_or w kind = if eqb w purged then byte "P" else kind

unfoldable pub entry_kind : Library → ℕ → ℕ
entry_kind l n = purged_or (name_at l.directory n) (deck_kind n l.decks)

-- Y where it is yanked
abbrev pub yank_mark : Bool → ℕ
yank_mark true = byte "Y"
yank_mark false = blank

-- a row of 11 bytes, and the rows of the first n entries, of which the first is 1
unfoldable pub entry_row : Library → ℕ → List ℕ
entry_row l n = left_justified 9 (entry_name l.directory n) ++ (entry_kind l n ∷ yank_mark (yanked l 0 n) ∷ [])

abbrev pub rows_up_to : (ℕ → List ℕ) → ℕ → List ℕ
rows_up_to row zero = []
rows_up_to row (suc n) = rows_up_to row n ++ row (suc n)

abbrev pub entry_rows : Library → List ℕ
entry_rows l = rows_up_to (entry_row l) (length l.directory)

-- WHAT IS SHOWN: the directory, with the count of its entries
abbrev pub listed : ℕ → Library → Showing
listed room l = in_space room (length l.directory) (entry_rows l)

unfoldable pub listing : List ℕ → ℕ → Showing
listing image room = of_checked (listed room) (check image)
