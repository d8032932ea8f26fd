-- CODE. The yank rule settled over the cards of YANK$$$ (RULES, "When a card is active"), those of the highest owner first.
--   a card     applied, apply_if
--   cards      passed, ran, no_flag
use Rattle.std.specs.Prelude.{ℕ, zero, suc, Bool, true, false, ◌&&◌, ◌||◌, List, [], ◌∷◌, eqb}
use Rattle.words.specs.Base.{any}
use Rattle.library.specs.Library.{Card, history}
use Rattle.library.specs.Yanks.{covers, targets, last_says}

-- what a card adds where it is active
abbrev pub applied : List ℕ → (ℕ → Bool) → Card → ℕ → Bool
applied directory f c j = f j || (last_says f false (history c) && any (covers 0 j) (targets directory c.line))

abbrev pub apply_if : List ℕ → (ℕ → Bool) → Card → Bool → ℕ → Bool
apply_if directory f c true = applied directory f c
apply_if directory f c false = f

-- the cards owned by n, one after another
abbrev pub passed : List ℕ → ℕ → (ℕ → Bool) → List Card → ℕ → Bool
passed directory n f [] = f
passed directory n f (c ∷ cs) = passed directory n (apply_if directory f c (eqb c.owner n)) cs

-- those owned by n, then those owned by n - 1, and so on down
abbrev pub ran : List ℕ → List Card → ℕ → (ℕ → Bool) → ℕ → Bool
ran directory ys zero f = f
ran directory ys (suc n) f = ran directory ys n (passed directory (suc n) f ys)

abbrev pub no_flag : ℕ → Bool
no_flag n = false
