-- A card that is found stands in a part of the library.
use Rattle.std.specs.Prelude.{if◌then◌else◌}
use Prim.Native.Nat.{ℕ, suc, ◌+◌, ◌<◌}
use native.Mathlib.Omega.{arith}
use mathlib.Core.Path.{◌≡◌, ap}
use mathlib.Core.Bool.{Bool, true, false}
use mathlib.Core.List.{List, [], ◌∷◌}
use mathlib.Core.Option.{Option, none, some}
use lib.Dec.{eqb}
use lib.ListN.{length, length-map}
use Rattle.words.specs.Base.{place_from}
use Rattle.words_lines.specs.declared.CardName.{CardName}
use Rattle.library.specs.Library.{Card, Library, deck_cards, parts, entry_of}
use Rattle.run_meaning.specs.Step.{Spot, spot_in, find_from, is_card_of, find}

-- where there is a spot, its part is below n
abbrev pub PartBelow : ℕ → Option Spot → Type 0
PartBelow n none = Unit {0}
PartBelow n (some a) = a.part < n

from-below : (is : Card → Bool) (p : ℕ) (ps : List (List Card)) → PartBelow (p + length ps) (find_from is p ps)
from-below is p [] = tt
from-below is p (cs ∷ ps) = go (place_from is 0 cs) (find_from is (suc p) ps) (from-below is (suc p) ps)
  where
    later : (o : Option Spot) → PartBelow (suc p + length ps) o → PartBelow (p + suc (length ps)) o
    later none h = tt
    later (some a) h = omega arith

    go : (i : Option ℕ) (o : Option Spot) → PartBelow (suc p + length ps) o → PartBelow (p + suc (length ps)) (spot_in p i o)
    go none o h = later o h
    go (some i) o h = omega arith

pub find-below : (l : Library) (r : CardName) → PartBelow (suc (length l.decks)) (find l r)
unfolding find
find-below l r = go (eqb (entry_of l.directory r.name) 0) (find_from is 0 (parts l)) (from-below is 0 (parts l))
  where
    is : Card → Bool
    is = is_card_of (entry_of l.directory r.name) r.seq

    count : length (parts l) ≡ suc (length l.decks)
    count = ap suc (length-map l.decks deck_cards)

    same : (o : Option Spot) → PartBelow (0 + length (parts l)) o → PartBelow (suc (length l.decks)) o
    same none h = tt
    same (some a) h = omega (arith, count)

    go : (b : Bool) (o : Option Spot) → PartBelow (0 + length (parts l)) o → PartBelow (suc (length l.decks)) (if b then none else o)
    go true o h = tt
    go false o h = same o h
