-- PROMISE. Libraries that are the same but for lines of cards that are not active (RULES, "The compile file"). A deck card is active, so its line is the same.
--   lists side by side     Pairwise
--   cards, decks           LikeCard, LikeDeck
--   libraries              Alike
use Rattle.std.specs.Prelude.{ℕ, ◌≡◌, Bool, List, [], ◌∷◌, T}
use Rattle.library.specs.Library.{Card, Deck, Library}
use Rattle.library.specs.Yanks.{active, yanked}

abbrev pub Pairwise : {A : Type 0} → (A → A → Type 0) → List A → List A → Type 0
Pairwise R [] [] = Unit {0}
Pairwise R [] (y ∷ ys) = ⊥
Pairwise R (x ∷ xs) [] = ⊥
Pairwise R (x ∷ xs) (y ∷ ys) = R x y × Pairwise R xs ys

-- the same identifier and history; the same text too where c is active, yk being what is yanked in its deck
pub record LikeCard (yk : ℕ → Bool) (c d : Card) : Type 0 where
  pub seq : d.seq ≡ c.seq
  pub owner : d.owner ≡ c.owner
  pub later : d.later ≡ c.later
  pub line : T (active yk c) → d.line ≡ c.line

pub record LikeDeck (yk : ℕ → ℕ → Bool) (d e : Deck) : Type 0 where
  pub number : e.number ≡ d.number
  pub common : e.common ≡ d.common
  pub line : e.line ≡ d.line
  pub cards : Pairwise (LikeCard (yk d.number)) d.cards e.cards

pub record Alike (l m : Library) : Type 0 where
  pub directory : m.directory ≡ l.directory
  pub yanks : Pairwise (LikeCard (yanked l 0)) l.yanks m.yanks
  pub decks : Pairwise (LikeDeck (yanked l)) l.decks m.decks
