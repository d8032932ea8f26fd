-- CODE. A library as one list, the stream of its cards: where a spot of it stands there, and what is seen of the stream.
--   the search             index_by
--   where a spot stands    ahead, Stood, flat, FoundAs
--   where text goes        HasPlace, flat_place
--   a range                between
--   deck cards             deck_numbers, is_deck_card
use Rattle.std.specs.Prelude.{ℕ, zero, suc, ◌+◌, ◌-◌, ◌≤◌, ◌<◌, ◌≡◌, Bool, ◌&&◌, List, [], ◌∷◌, map, eqb, length, take, drop, if◌then◌else◌}
use Rattle.std.proofs.Math.Option.{Option, none, some}
use Rattle.words.specs.Base.{member}
use Rattle.library.specs.Library.{Card, Deck, Library, parts, stream}
use Rattle.run_meaning.specs.Step.{Spot}

-- how many cards stand ahead of the first that passes: all of them where none does
abbrev pub index_by : (Card → Bool) → List Card → ℕ
index_by is [] = 0
index_by is (c ∷ cs) = let later : ℕ = suc (index_by is cs) in if is c then 0 else later

-- how many cards stand ahead of part p
abbrev pub ahead : List (List Card) → ℕ → ℕ
ahead [] p = 0
ahead (cs ∷ ps) zero = 0
ahead (cs ∷ ps) (suc p) = length cs + ahead ps p

-- part p has a card i
abbrev pub Stood : List (List Card) → ℕ → ℕ → Type 0
Stood [] p i = ⊥
Stood (cs ∷ ps) zero i = i < length cs
Stood (cs ∷ ps) (suc p) i = Stood ps p i

-- the index of a spot's card in the stream
abbrev pub flat : Library → Spot → ℕ
flat l a = ahead (parts l) a.part + a.index

-- a card that is searched, of index k in the stream: found at a spot, or there is none
abbrev pub FoundAs : Library → ℕ → Option Spot → Type 0
FoundAs l k none = k ≡ length (stream l)
FoundAs l k (some a) = Stood (parts l) a.part a.index × (flat l a ≡ k)

-- deck k has a place ahead of its card i, or one at its end; how many cards of the stream are ahead of that place
abbrev pub HasPlace : List Deck → ℕ → ℕ → Type 0
HasPlace [] k i = ⊥
HasPlace (d ∷ ds) zero i = i ≤ length d.cards
HasPlace (d ∷ ds) (suc k) i = HasPlace ds k i

abbrev pub flat_place : Library → ℕ → ℕ → ℕ
flat_place l k i = ahead (parts l) (suc k) + suc i

-- the cards from index i up to index j
abbrev pub between : ℕ → ℕ → List Card → List Card
between i j cs = take (suc (j - i)) (drop i cs)

-- a deck card is told by its owner, which is a deck, and its number, which is 1
abbrev pub deck_numbers : Library → List ℕ
deck_numbers l = map (λ d. d.number) l.decks

abbrev pub is_deck_card : List ℕ → Card → Bool
is_deck_card ns c = eqb c.seq 1 && member c.owner ns
