-- The rows of a table of decks are walked one after another. Assumes nothing.
use Prim.Native.Nat.{ℕ, ◌-◌, ◌≤◌, ◌<◌}
use native.Mathlib.Omega.{arith}
use mathlib.Core.Path.{◌≡◌, refl, sym, ap, ◌∙◌}
use mathlib.Core.Bool.{Bool}
use mathlib.Core.List.{List, [], ◌∷◌}
use borrow.Author.Tests.{eq-eqb, ne_eqb}
use lib.ListN.{length, get_or, take, drop, length-drop}
use lib.Seq.{take_all}
use Rattle.std.specs.Prelude.{Result, Ok, Err}
use Rattle.library_image_decks.proofs.DeckRows.{row_cons}
use Rattle.compile_walk.specs.View.{DeckView}
use Rattle.compile_walk.specs.TableView.{shown_in, row_view, table_view}
use Rattle.compile_walk.specs.declared.Counts.{Counts}
use Rattle.compile_walk.specs.declared.Halt.{Halt}
use Rattle.compile_walk.specs.Steps.{WalkState, walk_state, on_with, walk_on, run_at, deck_of, decks_of}

-- the rows behind the first
abbrev more : List ℕ → List ℕ
more rows = take (length rows - 4) (drop 4 rows)

table-row : (ws rows : List ℕ) → 3 < length rows → table_view ws rows ≡ row_view ws rows 0 ∷ table_view ws (more rows)
unfolding table_view
table-row ws rows h =
    ap (table_view ws) (row_cons rows 0 h)
    ∙ ap (λ (rs : List ℕ). row_view ws rows 0 ∷ table_view ws rs) (sym (take_all (length rows - 4) (drop 4 rows) (omega (arith, length-drop 4 rows))))

table-end : (ws rows : List ℕ) → length rows ≤ 3 → table_view ws rows ≡ []
unfolding table_view
table-end ws [] l = refl
table-end ws (a ∷ []) l = refl
table-end ws (a ∷ b ∷ []) l = refl
table-end ws (a ∷ b ∷ d ∷ []) l = refl
table-end ws (a ∷ b ∷ d ∷ e ∷ r) l = absurd (omega arith)

module _ (w : Bool) (ds : List DeckView) (ws rows : List ℕ) (l n : ℕ) (o : List ℕ) where
  pub decks-end : length rows ≤ 3 → decks_of w ds (table_view ws rows) l n o ≡ on_with l n o
  unfolding decks_of
  decks-end h = ap (λ (es : List DeckView). decks_of w ds es l n o) (table-end ws rows h)

  module _ (h : 3 < length rows) where
    abbrev on : WalkState → WalkState
    on s = walk_on s (λ l' n' o'. decks_of w ds (table_view ws (more rows)) l' n' o')

    here : decks_of w ds (table_view ws rows) l n o ≡ on (deck_of w ds (row_view ws rows 0) l n o)
    unfolding decks_of
    here = ap (λ (es : List DeckView). decks_of w ds es l n o) (table-row ws rows h)

    -- a deck that is common is passed over
    passed : get_or rows 3 0 ≡ 1 → deck_of w ds (row_view ws rows 0) l n o ≡ on_with l n o
    passed e = rw (eq-eqb (get_or rows 3 0) 1 e)

    pub decks-common : get_or rows 3 0 ≡ 1 → decks_of w ds (table_view ws rows) l n o ≡ decks_of w ds (table_view ws (more rows)) l n o
    decks-common e = here ∙ ap on (passed e)

    -- one that is not, walked
    module _ (normal : get_or rows 3 0 ≡ 1 → ⊥) (r : Result Counts Halt) (o' : List ℕ)
        (run : walk_state r o' ≡ run_at w ds 8 (shown_in ws (get_or rows 1 0) (get_or rows 2 0)) l n o) where
      deck-runs : deck_of w ds (row_view ws rows 0) l n o ≡ walk_state r o'
      deck-runs = rw (ne_eqb (get_or rows 3 0) 1 normal) (sym run)

      walked : decks_of w ds (table_view ws rows) l n o ≡ on (walk_state r o')
      walked = here ∙ ap on deck-runs

      pub decks-on : (j : Counts) → r ≡ Ok j → decks_of w ds (table_view ws rows) l n o ≡ decks_of w ds (table_view ws (more rows)) j.lines j.calls o'
      decks-on j q = walked ∙ ap (λ (a : Result Counts Halt). on (walk_state a o')) q

      pub decks-halt : (k : Halt) → r ≡ Err k → decks_of w ds (table_view ws rows) l n o ≡ walk_state (Err k) o'
      decks-halt k q = walked ∙ ap (λ (a : Result Counts Halt). on (walk_state a o')) q
