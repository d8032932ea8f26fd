-- The walk as it is carried out, card by card. Assumes nothing.
--   found-is                                              a name's deck is that of its row
--   visit-passed, visit-text, visit-stopped, visit-opened one card
--   visit-starless                                        one whose line begins with no star
--   run_past, run_end, run_on, run-halt                   the cards from a place up to another
use Rattle.std.specs.Prelude.{if◌then◌else◌, Option, Some, None, Result, Ok, Err}
use Prim.Native.Nat.{ℕ, zero, suc, ◌+◌, ◌-◌, ◌≤◌, ◌<◌}
use native.Mathlib.Omega.{arith}
use native.Mathlib.Numerals.{add-one}
use mathlib.Core.Path.{◌≡◌, refl, sym, ap, ◌∙◌}
use mathlib.Core.Bool.{Bool, true, false}
use mathlib.Core.List.{List, [], ◌∷◌}
use borrow.Author.Tests.{ltb-true, eqb-false, ne_eqb}
use lib.Dec.{eqb, ltb}
use lib.ListN.{length}
use Rattle.words_lines.specs.Directive.{call_of}
use Rattle.words_lines.specs.declared.Call.{Call}
use Rattle.words_lines.specs.declared.Call.TheVariants.{Not, Of, Malformed}
use Rattle.library.specs.Library.{reserved}
use Rattle.library.specs.declared.Seen.{Seen}
use Rattle.library_image.specs.Places.{seen_at, line_in, star_at}
use Rattle.compile_walk.specs.View.{Shown, DeckView}
use Rattle.compile_walk.specs.Walk.{not_common, common, look_in, called_deck}
use Rattle.compile_walk.specs.TableView.{shown_named, shown_of, cons_if, shown_in, table_view}
use Rattle.compile_walk.specs.declared.Stop.{Stop}
use Rattle.compile_walk.specs.declared.Stop.TheVariants.{NotCommon, Deep, Many}
use Rattle.compile_walk.specs.declared.Counts.{Counts}
use Rattle.compile_walk.specs.declared.Halt.{Halt}
use Rattle.compile_walk.specs.declared.calls.Cards.{Cards}
use Rattle.compile_walk.specs.Steps.{WalkState, walk_state, on_with, halted_at, put_of, row_in, find_row, open_found, asked_by, asked_of, walk_on, open_of, step_of, run_of, callee_at, run_at, visit_of}
use Rattle.words_lines.proofs.CallLine.{call-starless}
use Rattle.library_image.proofs.StarlessLine.{line-starless}
use Rattle.compile_walk.proofs.ActiveCards.{shown-more, shown-end, shown-past}

-- A NAME'S DECK: f is done with the cards of its row, or it is refused as the row is
module _ (ws : List ℕ) (w : ℕ) (c : Shown) (f : List Shown → WalkState) (o : List ℕ) where
  abbrev opens : Result Cards Stop → WalkState
  opens (Ok r) = f (shown_in ws r.from r.to)
  opens (Err k) = halted_at k c o

  row_is : (rows : List ℕ) → open_of c (look_in w (table_view ws rows)) f o ≡ opens (row_in w rows)
  unfolding table_view row_in
  row_is [] = refl
  row_is (n ∷ []) = refl
  row_is (n ∷ s ∷ []) = refl
  row_is (n ∷ s ∷ t ∷ []) = refl
  row_is (n ∷ s ∷ t ∷ k ∷ rows) = go (eqb w n) (eqb k 1) (row_is rows)
    where
      go : (b m : Bool) → open_of c (look_in w (table_view ws rows)) f o ≡ opens (row_in w rows)
          → open_of c (if b then (if m then common (shown_in ws s t) else not_common) else look_in w (table_view ws rows)) f o
          ≡ opens (if b then (if m then Ok (record { from = s; to = t }) else Err NotCommon) else row_in w rows)
      go true true e = refl
      go true false e = refl
      go false m e = e

  found-is : (rows : List ℕ) → open_of c (called_deck w (table_view ws rows)) f o ≡ opens (find_row w rows)
  unfolding called_deck find_row
  found-is rows = go (eqb w reserved) (row_is rows)
    where
      go : (b : Bool) → open_of c (look_in w (table_view ws rows)) f o ≡ opens (row_in w rows)
          → open_of c (if b then not_common else look_in w (table_view ws rows)) f o ≡ opens (if b then Err NotCommon else row_in w rows)
      go true e = refl
      go false e = e

-- ONE CARD: what is done of what a line asks for, with so many levels and calls inside
module _ (w : Bool) (ws rows : List ℕ) (c : Shown) (l n : ℕ) (o : List ℕ) where
  abbrev acts : ℕ → ℕ → Result (Option Cards) Stop → WalkState
  acts d m (Ok None) = put_of w c l n o
  acts d m (Ok (Some r)) = run_at w (table_view ws rows) d (shown_in ws r.from r.to) l m o
  acts d m (Err k) = halted_at k c o

  by_place : (d x : ℕ) (p : Result Cards Stop) → opens ws x c (λ cs. callee_at w (table_view ws rows) d c cs l n o) o p ≡ acts (d - 1) (n + 1) (open_found p d n)
  unfolding callee_at
  by_place d x (Err k) = refl
  by_place zero x (Ok r) = refl
  by_place (suc d) x (Ok r) = go (eqb (suc d) 0) (ltb n 4096) (suc d - 1) (n + 1) (ne_eqb (suc d) 0 (λ e. omega arith)) (omega arith) (add-one n)
    where
      go : (a b : Bool) (e m : ℕ) → a ≡ false → e ≡ d → m ≡ suc n → (if b then run_at w (table_view ws rows) d (shown_in ws r.from r.to) l (suc n) o else halted_at Many c o)
          ≡ acts e m (if a then Err Deep else if b then Ok (Some r) else Err Many)
      go true b e m z p q = absurd (let r : ◌≡◌ {A = ℕ} 0 1 = cc in omega arith)
      go false true e m z p q = rw (p, q)
      go false false e m z p q = refl

module _ (w : Bool) (ws rows : List ℕ) (d : ℕ) (c : Shown) (l n : ℕ) (o : List ℕ) where
  abbrev here_decks : List DeckView
  here_decks = table_view ws rows

  abbrev act_of : Result (Option Cards) Stop → WalkState
  act_of k = acts w ws rows c l n o (d - 1) (n + 1) k

  step-acts : (k : Call) → step_of w here_decks (callee_at w here_decks d) c k l n o ≡ act_of (asked_by rows k d n)
  unfolding step_of
  step-acts Not = refl
  step-acts Malformed = refl
  step-acts (Of x) = found-is ws x c (λ cs. callee_at w here_decks d c cs l n o) o rows ∙ by_place w ws rows c l n o d x (find_row x rows)

  visit-acts : (a : Bool) → a ≡ true → visit_of w here_decks d a c l n o ≡ act_of (asked_of rows c.line d n)
  unfolding visit_of asked_of
  visit-acts a e = ap (λ (b : Bool). visit_of w here_decks d b c l n o) e ∙ step-acts (call_of c.line)

  pub visit-passed : (a : Bool) → a ≡ false → on_with l n o ≡ visit_of w here_decks d a c l n o
  unfolding visit_of
  visit-passed a e = sym (ap (λ (b : Bool). visit_of w here_decks d b c l n o) e)

-- the same of what is seen in an image, by what its line asks for
module _ (w : Bool) (ws rows : List ℕ) (d : ℕ) (s : Seen) (l n : ℕ) (o : List ℕ) (active : s.active ≡ true) where
  module _ (line : List ℕ) (said : line ≡ line_in ws s.text s.next) where
    seen-acts : (k : Result (Option Cards) Stop) → k ≡ asked_of rows line d n → visit_of w (table_view ws rows) d s.active (shown_of ws s) l n o ≡ act_of w ws rows d (shown_of ws s) l n o k
    unfolding shown_of
    seen-acts k asked =
        visit-acts w ws rows d (shown_of ws s) l n o s.active active
        ∙ ap (act_of w ws rows d (shown_of ws s) l n o) (ap (λ (x : List ℕ). asked_of rows x d n) (sym said) ∙ sym asked)

    pub visit-text : Ok None ≡ asked_of rows line d n → (r : WalkState) → r ≡ put_of w (shown_named ws line s) l n o → r ≡ visit_of w (table_view ws rows) d s.active (shown_of ws s) l n o
    unfolding shown_of
    visit-text asked r put = put ∙ ap (λ (x : List ℕ). put_of w (shown_named ws x s) l n o) said ∙ sym (seen-acts (Ok None) asked)

    pub visit-stopped : (k : Stop) → Err k ≡ asked_of rows line d n → walk_state (Err (record { stop = k; owner = s.owner; seq = s.seq })) o ≡ visit_of w (table_view ws rows) d s.active (shown_of ws s) l n o
    unfolding shown_of
    visit-stopped k asked = sym (seen-acts (Err k) asked)

    pub visit-opened : (b : Cards) → Ok (Some b) ≡ asked_of rows line d n → (r : WalkState) → r ≡ run_at w (table_view ws rows) (d - 1) (shown_in ws b.from b.to) l (n + 1) o → r ≡ visit_of w (table_view ws rows) d s.active (shown_of ws s) l n o
    visit-opened b asked r run = run ∙ sym (seen-acts (Ok (Some b)) asked)

  -- a line that begins with no star is text
  module _ (none : star_at ws s.text ≡ false) where
    is-text : Ok None ≡ asked_of rows (line_in ws s.text s.next) d n
    unfolding asked_of
    is-text = ap (λ (k : Call). asked_by rows k d n) (call-starless (line_in ws s.text s.next) (line-starless ws s.text s.next none))

    pub visit-starless : (r : WalkState) → r ≡ put_of w (shown_of ws s) l n o → r ≡ visit_of w (table_view ws rows) d s.active (shown_of ws s) l n o
    unfolding shown_of
    visit-starless r put = visit-text (line_in ws s.text s.next) refl is-text r put

-- a deck is opened with levels and calls left
pub opened_some : (rows line : List ℕ) (d n : ℕ) (b : Cards) → Ok (Some b) ≡ asked_of rows line d n → (0 < d) × (n < 4096)
unfolding asked_of
opened_some rows line d n b e = by_call (call_of line) (sym e)
  where
    by_tests : (r : Cards) (x m : Bool) → eqb d 0 ≡ x → ltb n 4096 ≡ m → (if x then Err Deep else if m then Ok (Some r) else Err Many) ≡ Ok (Some b) → (0 < d) × (n < 4096)
    by_tests r true m p q z = absurd (let r : ◌≡◌ {A = ℕ} 0 1 = cc in omega arith)
    by_tests r false true p q z = let h = eqb-false d 0 p in (omega (arith, h), ltb-true n 4096 q)
    by_tests r false false p q z = absurd (let r : ◌≡◌ {A = ℕ} 0 1 = cc in omega arith)

    by_row : (p : Result Cards Stop) → open_found p d n ≡ Ok (Some b) → (0 < d) × (n < 4096)
    by_row (Err k) z = absurd (let r : ◌≡◌ {A = ℕ} 0 1 = cc in omega arith)
    by_row (Ok r) z = by_tests r (eqb d 0) (ltb n 4096) refl refl z

    by_call : (k : Call) → asked_by rows k d n ≡ Ok (Some b) → (0 < d) × (n < 4096)
    by_call Not z = absurd (let r : ◌≡◌ {A = ℕ} 0 1 = cc in omega arith)
    by_call Malformed z = absurd (let r : ◌≡◌ {A = ℕ} 0 1 = cc in omega arith)
    by_call (Of x) z = by_row (find_row x rows) z

-- THE CARDS FROM A PLACE UP TO ANOTHER
run-visit : (w : Bool) (ds : List DeckView) (d : ℕ) (a : Bool) (c : Shown) (cs : List Shown) (l n : ℕ) (o : List ℕ)
    → run_at w ds d (cons_if a c cs) l n o ≡ walk_on (visit_of w ds d a c l n o) (λ l' n' o'. run_at w ds d cs l' n' o')
unfolding run_of visit_of
run-visit w ds d true c cs l n o = refl
run-visit w ds d false c cs l n o = refl

module _ (w : Bool) (ds : List DeckView) (d : ℕ) (ws : List ℕ) (at to l n : ℕ) (o : List ℕ) where
  pub run_past : to ≤ at → run_at w ds d (shown_in ws at to) l n o ≡ on_with l n o
  unfolding run_of
  run_past h = ap (λ (cs : List Shown). run_at w ds d cs l n o) (shown-past ws at to h)

  pub run_end : length ws ≤ at → run_at w ds d (shown_in ws at to) l n o ≡ on_with l n o
  unfolding run_of
  run_end h = ap (λ (cs : List Shown). run_at w ds d cs l n o) (shown-end ws at to h)

  module _ (h : at < length ws) (k : at < to) (s : Seen) (is : s ≡ seen_at ws at) (r : Result Counts Halt) (o' : List ℕ)
      (e : walk_state r o' ≡ visit_of w ds d s.active (shown_of ws s) l n o) where
    here : run_at w ds d (shown_in ws at to) l n o ≡ walk_on (walk_state r o') (λ l' n' o''. run_at w ds d (shown_in ws s.next to) l' n' o'')
    here =
        ap (λ (cs : List Shown). run_at w ds d cs l n o) (shown-more ws at to h k ∙ ap (λ (q : Seen). cons_if q.active (shown_of ws q) (shown_in ws q.next to)) (sym is))
        ∙ run-visit w ds d s.active (shown_of ws s) (shown_in ws s.next to) l n o
        ∙ ap (λ (q : WalkState). walk_on q (λ l' n' o''. run_at w ds d (shown_in ws s.next to) l' n' o'')) (sym e)

    pub run_on : (j : Counts) → r ≡ Ok j → run_at w ds d (shown_in ws at to) l n o ≡ run_at w ds d (shown_in ws s.next to) j.lines j.calls o'
    run_on j q = here ∙ ap (λ (a : Result Counts Halt). walk_on (walk_state a o') (λ l'' n'' o''. run_at w ds d (shown_in ws s.next to) l'' n'' o'')) q

    pub run-halt : (k : Halt) → r ≡ Err k → run_at w ds d (shown_in ws at to) l n o ≡ walk_state (Err k) o'
    run-halt k q = here ∙ ap (λ (a : Result Counts Halt). walk_on (walk_state a o') (λ l'' n'' o''. run_at w ds d (shown_in ws s.next to) l'' n'' o'')) q
