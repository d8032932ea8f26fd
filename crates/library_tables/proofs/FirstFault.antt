-- A row's fault is the answer, or what comes after the row. Assumes nothing.
--   found_none, found_some   an answer read back
--   position-found, large_found   a search for a place is that of the definitions
--   refused-on               a row that does not refuse has no fault
use Prim.Native.Nat.{ℕ, suc, ◌+◌}
use native.Mathlib.Numerals.{add-one}
use mathlib.Core.Path.{◌≡◌, refl, ap, ◌∙◌}
use mathlib.Core.Bool.{Bool, true, false}
use mathlib.Core.List.{List, [], ◌∷◌}
use mathlib.Core.Option.{Option, none, some}
use Rattle.std.specs.Prelude.{None, Some, Ok, cond, if◌then◌else◌}
use Rattle.std.specs.List.{position_from}
use Rattle.words.specs.Base.{place_from}
use Rattle.library.specs.declared.Fault.{Fault}
use Rattle.library.specs.Refused.{refused_at}
use Rattle.library_tables.specs.Found.{found, not_word, large}
use borrow.Author.Tests.{le-ltb, lt-ltb, le-leb, lt-leb}
use native.Mathlib.Omega.{arith}

pub found_some : (o : Option ℕ) (k : ℕ) → found o ≡ Some k → o ≡ some k
found_some (some j) k e = let z : j ≡ k = cc in ap some z
found_some none k e = absurd cc

pub found_none : (o : Option ℕ) → found o ≡ None → o ≡ none
found_none (some j) e = absurd cc
found_none none e = refl

pub position-found : (p q : ℕ → Bool) → ((w : ℕ) → p w ≡ q w) → (n : ℕ) (ws : List ℕ) → position_from p n ws ≡ found (place_from q n ws)
position-found p q same n [] = refl
position-found p q same n (w ∷ ws) = ap (λ (b : Bool). cond b (Some n) (position_from p (n + 1) ws)) (same w) ∙ go (q w) (ap (λ (k : ℕ). position_from p k ws) (add-one n) ∙ position-found p q same (suc n) ws)
  where
    go : (b : Bool) → position_from p (n + 1) ws ≡ found (place_from q (suc n) ws)
        → cond b (Some n) (position_from p (n + 1) ws) ≡ found (if b then some n else place_from q (suc n) ws)
    go true e = refl
    go false e = e

large-word : (w : ℕ) → large w ≡ not_word w
large-word w = grind (arith, le-ltb, lt-ltb, le-leb, lt-leb)

pub large_found : (ws : List ℕ) → position_from large 0 ws ≡ found (place_from not_word 0 ws)
large_found ws = position-found large not_word large-word 0 ws

pub refused-on : (f : Fault) (o : Option ℕ) → refused_at f (found o) ≡ Ok tt → o ≡ none
refused-on f none q = refl
refused-on f (some p) q = absurd cc
