-- The row of a name in a table of decks, looked for one row after another. Assumes nothing.
--   find-reserved, find-other     YANK$$$, and any other name
--   row_here, row_on, row-end     the row of a name in the rows that are left
use Prim.Native.Nat.{ℕ, ◌-◌, ◌≤◌, ◌<◌}
use native.Mathlib.Omega.{arith}
use mathlib.Core.Path.{◌≡◌, refl, sym}
use mathlib.Core.List.{List, [], ◌∷◌}
use borrow.Author.Tests.{eq-eqb, ne_eqb}
use lib.ListN.{length, get_or, take, drop, length-drop}
use lib.Seq.{take_all}
use Rattle.std.specs.Prelude.{Err}
use Rattle.compile_walk.specs.declared.Stop.TheVariants.{NoDeck, NotCommon}
use Rattle.library.specs.Library.{reserved}
use Rattle.library_image_decks.proofs.DeckRows.{row_cons}
use Rattle.compile_walk.specs.Steps.{row_place, row_in, find_row}

pub find-reserved : (w : ℕ) (t : List ℕ) → w ≡ reserved → Err NotCommon ≡ find_row w t
unfolding find_row
find-reserved w t e = rw (eq-eqb w reserved e)

pub find-other : (w : ℕ) (t : List ℕ) → (w ≡ reserved → ⊥) → find_row w t ≡ row_in w t
unfolding find_row
find-other w t d = rw (ne_eqb w reserved d)

module _ (w : ℕ) (t : List ℕ) where
  module _ (h : 3 < length t) where
    pub row_here : get_or t 0 0 ≡ w → row_in w t ≡ row_place (get_or t 1 0) (get_or t 2 0) (get_or t 3 0)
    unfolding row_in
    row_here e = rw (row_cons t 0 h, eq-eqb w (get_or t 0 0) (sym e))

    pub row_on : (get_or t 0 0 ≡ w → ⊥) → row_in w t ≡ row_in w (take (length t - 4) (drop 4 t))
    unfolding row_in
    row_on d = rw (take_all (length t - 4) (drop 4 t) (omega (arith, length-drop 4 t)), row_cons t 0 h, ne_eqb w (get_or t 0 0) (λ e. d (sym e)))

  pub row-end : length t ≤ 3 → row_in w t ≡ Err NoDeck
  unfolding row_in
  row-end h = go t h
    where
      go : (r : List ℕ) → length r ≤ 3 → row_in w r ≡ Err NoDeck
      go [] l = refl
      go (a ∷ []) l = refl
      go (a ∷ b ∷ []) l = refl
      go (a ∷ b ∷ d ∷ []) l = refl
      go (a ∷ b ∷ d ∷ e ∷ r) l = absurd (omega arith)
