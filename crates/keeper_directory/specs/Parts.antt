-- CODE. What the parts of the keeper's functions answer.
--   a row                row_bytes, row_at, RowsOf
--   the kinds of decks   kind_put, kinds_of, Kinds
use Rattle.std.specs.Prelude.{ℕ, ◌-◌, ◌*◌, ◌≡◌, Bool, List, [], ◌∷◌, ◌++◌, length, get_or, drop, set}
use Rattle.words.specs.Names.{left_justified}
use Rattle.library.specs.Library.{Library, deck_line}
use Rattle.library.specs.Check.{Stored, good, check, directory_count}
use Rattle.library.specs.Asked.{deck_line_of}
use Rattle.library_yanks.specs.Bytes.{flagged}
use Rattle.library_check.specs.Walks.{Spans}
use Rattle.library.specs.declared.DeckLine.{DeckLine}
use Rattle.library.specs.declared.DeckLine.TheVariants.{NotDeck, BadDeck, Deck, Common}
use Rattle.keeper_card.specs.Parts.{word_name}
use Rattle.keeper_directory.specs.Keeper.{entry_rows, purged_or, yank_mark}

-- A ROW from an entry's word, its kind and its flag
unfoldable pub row_bytes : ℕ → ℕ → Bool → List ℕ
row_bytes w kind yk = left_justified 9 (word_name w) ++ (purged_or w kind ∷ yank_mark yk ∷ [])

unfoldable pub row_at : List ℕ → List ℕ → List ℕ → ℕ → List ℕ
row_at directory kinds flags n = row_bytes (get_or directory (n - 1) 0) (get_or kinds n 0) (flagged flags n)

-- the rows of an image that the check accepts, ahead of what stood behind them
abbrev pub RowsOf : List ℕ → List ℕ → List ℕ → Type 0
RowsOf ws before after = (l : Library) → check ws ≡ good l → after ≡ entry_rows l ++ drop (directory_count ws * 11) before

-- THE KINDS of decks, each at its deck card
abbrev pub kind_put : List ℕ → ℕ → DeckLine → List ℕ
kind_put kinds n NotDeck = kinds
kind_put kinds n BadDeck = kinds
kind_put kinds n (Deck w) = set kinds n 68
kind_put kinds n (Common w) = set kinds n 67

abbrev pub kinds_of : List Stored → List ℕ → List ℕ
kinds_of [] kinds = kinds
kinds_of (s ∷ ss) kinds = kinds_of ss (kind_put kinds s.card.owner (deck_line_of (deck_line s.card.line)))

abbrev pub Kinds : List ℕ → ℕ → List ℕ → List ℕ → Type 0
Kinds ws from before after = (directory : List ℕ) (ss : List Stored) → Spans directory ws from (length ws) ss → after ≡ kinds_of ss before
