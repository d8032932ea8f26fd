-- PROMISE. The yank rule has exactly one solution (RULES, "When a card is active"): higher numbers alone say whether a number is yanked.
--   what is asked of a card of YANK$$$     NamesLower
--   the theorems                           SettledSolves, SolvesUnique
use Rattle.std.specs.Prelude.{ℕ, ◌≤◌, ◌<◌, ◌≡◌, Bool, List, T}
use Rattle.words.specs.Base.{any, member}
use Rattle.library.specs.Each.{Each}
use Rattle.library.specs.Yanks.{Yank, covers, Solves, settled}

-- whatever it acts on is one of 1 to top, and lower than every number in its history
abbrev pub NamesLower : ℕ → Yank → Type 0
NamesLower top y = (n : ℕ) → T (any (covers 0 n) y.acts) → (0 < n) × (n ≤ top) × Each (λ b. n < b.number) y.bytes

-- what is settled from the top down solves the rule
abbrev pub SettledSolves : Type 0
SettledSolves = (ys : List Yank) (top : ℕ) → Each (NamesLower top) ys → Solves ys (λ n. member n (settled ys top top))

-- and any two solutions agree
abbrev pub SolvesUnique : Type 0
SolvesUnique = (ys : List Yank) (top : ℕ) → Each (NamesLower top) ys → (f g : ℕ → Bool) → Solves ys f → Solves ys g → (n : ℕ) → f n ≡ g n
