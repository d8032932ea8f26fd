-- CODE. Where a card stands among cards, and in their words (RULES, "Cards"), by its owner and its sequence number.
--   among cards   index_of
--   in words      named_at, CardRun, Found, Finds
use Rattle.std.specs.Prelude.{ℕ, suc, ◌+◌, ◌/◌, ◌%◌, ◌^◌, ◌≡◌, Bool, ◌&&◌, List, [], ◌∷◌, ◌++◌, eqb, length, take, drop, get_or, if◌then◌else◌}
use Rattle.library.specs.Each.{Each}
use Rattle.library.specs.Library.{Card}
use Rattle.library.specs.Image.{cards_words}
use Rattle.run_meaning.specs.Step.{is_card_of}
use Rattle.run.specs.CardHeads.{Fits}
use Rattle.run.specs.declared.seek.Place.{Place}

-- how many cards stand ahead of the first with this owner and number: all of them where there is none
unfoldable pub index_of : ℕ → ℕ → List Card → ℕ
index_of o s [] = 0
index_of o s (c ∷ cs) = if is_card_of o s c then 0 else suc (index_of o s cs)

-- the first word of a card has this number and this owner
abbrev pub named_at : List ℕ → ℕ → ℕ → ℕ → Bool
named_at w at o s = eqb (get_or w at 0 / 2 ^ 18 % 2 ^ 18) s && eqb (get_or w at 0 % 2 ^ 16) o

-- the words from `from` up to `to` are those of the cards
pub record CardRun (w : List ℕ) (from to : ℕ) (yk : ℕ → Bool) (cs : List Card) (rest : List ℕ) : Type 0 where
  pub words : drop from w ≡ cards_words yk cs ++ rest
  pub end : from + length (cards_words yk cs) ≡ to
  pub fit : Each Fits cs

-- the card's index, and the word it begins at; the end where there is none
pub record Found (from : ℕ) (yk : ℕ → Bool) (cs : List Card) (o s : ℕ) (r : Place) : Type 0 where
  pub index : r.index ≡ index_of o s cs
  pub at : r.at ≡ from + length (cards_words yk (take (index_of o s cs) cs))

abbrev pub Finds : List ℕ → ℕ → ℕ → ℕ → ℕ → Place → Type 0
Finds w from to o s r = (yk : ℕ → Bool) (cs : List Card) (rest : List ℕ) → CardRun w from to yk cs rest → Found from yk cs o s r
