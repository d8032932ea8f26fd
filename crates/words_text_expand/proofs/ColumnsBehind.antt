-- Columns put one after the other behind those that are there. Assumes nothing.
use Prim.Native.Nat.{ℕ, ◌+◌}
use mathlib.Core.Path.{◌≡◌, sym, ap, ◌∙◌}
use mathlib.Core.List.{List, ◌++◌}
use lib.ListN.{length, take, drop}
use lib.Seq.{drop-drop}

-- what is the same from a place on is the same further on
pub same-beyond : (d e : List ℕ) (at n r : ℕ) → r ≡ at + n → drop at e ≡ drop at d → drop r e ≡ drop r d
same-beyond d e at n r h q =
    ap (λ (i : ℕ). drop i e) h ∙ sym (drop-drop n at e) ∙ ap (drop n) q ∙ drop-drop n at d ∙ ap (λ (i : ℕ). drop i d) (sym h)

-- xs put at a place of d, where e is what stands there afterwards and r the place behind them; nothing behind them has changed
abbrev pub Placed : List ℕ → List ℕ → ℕ → List ℕ → ℕ → Type 0
Placed xs d at e r = (r ≡ at + length xs) × ((take r e ≡ take at d ++ xs) × (drop r e ≡ drop r d))
