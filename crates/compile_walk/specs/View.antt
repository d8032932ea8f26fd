-- MEANING. What a compile file sees of a library (RULES, "The compile file"): its decks, each with its active cards, and nothing else.
--   the view     Shown, DeckView, shown_card, shown, view_decks, view
--   the choice   full_choice
use Rattle.std.specs.Prelude.{ℕ, Bool, List, [], ◌∷◌, if◌then◌else◌}
use Rattle.library.specs.Library.{Card, Deck, Library, name_at}
use Rattle.library.specs.Yanks.{active, yanked}

-- an active card as it is printed: its line, its owner's number and name, its sequence number
pub record Shown : Type 0 where
  pub line : List ℕ
  pub owner : ℕ
  pub name : ℕ
  pub seq : ℕ

pub record DeckView : Type 0 where
  pub name : ℕ
  pub common : Bool
  pub lines : List Shown

abbrev pub shown_card : List ℕ → Card → Shown
shown_card directory c = record { line = c.line; owner = c.owner; name = name_at directory c.owner; seq = c.seq }

abbrev pub shown : (ℕ → Bool) → List ℕ → List Card → List Shown
shown yk directory [] = []
shown yk directory (c ∷ cs) =
    let rest = shown yk directory cs in
    if active yk c then (shown_card directory c ∷ rest) else rest

abbrev pub view_decks : (ℕ → ℕ → Bool) → List ℕ → List Deck → List DeckView
view_decks yk directory [] = []
view_decks yk directory (d ∷ ds) =
    record { name = name_at directory d.number; common = d.common; lines = shown (yk d.number) directory d.cards }
    ∷ view_decks yk directory ds

unfoldable pub view : Library → List DeckView
view l = view_decks (yanked l) l.directory l.decks

-- the full file is of the decks that are not common, in the library's order
abbrev pub full_choice : List DeckView → List DeckView
full_choice [] = []
full_choice (d ∷ ds) = let rest = full_choice ds in if d.common then rest else (d ∷ rest)
