-- CODE. The keys of the cards, one after another (row 10).
--   the keys of all       Listed
--   a card by its count   first_place, Stands
use Rattle.std.specs.Prelude.{ℕ, ◌≤◌, ◌<◌, ◌≡◌, List, [], ◌∷◌, map, length, drop}
use Rattle.std.proofs.Math.Option.{Option, none, some}
use Rattle.library.specs.Check.{Stored}
use Rattle.library_check.specs.Walks.{Spans}
use Rattle.library_check.specs.Rows.{key_of}

-- THE KEYS OF ALL, whatever cards stand from a place on
abbrev pub Listed : List ℕ → ℕ → List ℕ → Type 0
Listed ws from keys = (directory : List ℕ) (ss : List Stored) → Spans directory ws from (length ws) ss → length ss ≤ 16383 → map key_of ss ≡ keys

-- A CARD BY ITS COUNT: the place of the first card, and of the one with k cards ahead of it
abbrev pub first_place : List Stored → Option ℕ
first_place [] = none
first_place (s ∷ ss) = some s.place

abbrev pub Stands : List ℕ → ℕ → ℕ → ℕ → Type 0
Stands ws from k r = (directory : List ℕ) (ss : List Stored) → Spans directory ws from (length ws) ss → k < length ss → some r ≡ first_place (drop k ss)
