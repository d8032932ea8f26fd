-- CODE. The walk as it is carried out: counts for lines and calls, and the space; proofs/ has that it follows Walk.antt.
--   the state       WalkState, walk_state, on_with, halted_at
--   a text card     put_of, write_of
--   a CALL          row_place, row_in, find_row, open_at, open_found, asked_by, asked_of
--   the walk        Callee, walk_on, open_of, step_of, run_of, callee_at, run_at, visit_of, deck_of, decks_of
use Rattle.std.specs.Prelude.{ℕ, zero, suc, ◌+◌, ◌*◌, ◌/◌, Bool, true, false, List, [], ◌∷◌, ◌++◌, eqb, ltb, length, take, drop, if◌then◌else◌, Option, Some, None, Result, Ok, Err}
use Rattle.words_lines.specs.Directive.{call_of}
use Rattle.words_lines.specs.declared.Call.{Call}
use Rattle.words_lines.specs.declared.Call.TheVariants.{Not, Of, Malformed}
use Rattle.library.specs.Library.{reserved}
use Rattle.compile_walk.specs.View.{Shown, DeckView}
use Rattle.compile_walk.specs.Walk.{Found, missing, not_common, common, called_deck}
use Rattle.compile_walk.specs.Lines.{line_for}
use Rattle.compile_walk.specs.declared.Stop.{Stop}
use Rattle.compile_walk.specs.declared.Stop.TheVariants.{NoDeck, NotCommon, Deep, Many, Space}
use Rattle.compile_walk.specs.declared.Counts.{Counts}
use Rattle.compile_walk.specs.declared.Halt.{Halt}
use Rattle.compile_walk.specs.declared.calls.Cards.{Cards}

-- THE STATE
pub record WalkState : Type 0 where
  pub answer : Result Counts Halt
  pub out : List ℕ

abbrev pub walk_state : Result Counts Halt → List ℕ → WalkState
walk_state a o = record { answer = a; out = o }

-- so many lines and calls so far
abbrev pub on_with : ℕ → ℕ → List ℕ → WalkState
on_with lines calls o = walk_state (Ok (record { lines = lines; calls = calls })) o

abbrev pub halted_at : Stop → Shown → List ℕ → WalkState
halted_at k c o = walk_state (Err (record { stop = k; owner = c.owner; seq = c.seq })) o

-- A TEXT CARD: its line, where it is written, in 91 bytes of the space
abbrev pub write_of : Bool → ℕ → Shown → List ℕ → List ℕ
write_of true at c o = take at o ++ (line_for c.line c.name c.seq ++ drop (at + 91) o)
write_of false at c o = o

unfoldable pub put_of : Bool → Shown → ℕ → ℕ → List ℕ → WalkState
put_of w c lines calls o = if ltb lines (length o / 91) then on_with (lines + 1) calls (write_of w (lines * 91) c o) else halted_at Space c o

-- A CALL: the row of a name
abbrev pub row_place : ℕ → ℕ → ℕ → Result Cards Stop
row_place f t k = if eqb k 1 then Ok (record { from = f; to = t }) else Err NotCommon

unfoldable pub row_in : ℕ → List ℕ → Result Cards Stop
row_in w [] = Err NoDeck
row_in w (n ∷ []) = Err NoDeck
row_in w (n ∷ f ∷ []) = Err NoDeck
row_in w (n ∷ f ∷ t ∷ []) = Err NoDeck
row_in w (n ∷ f ∷ t ∷ k ∷ rows) = let later = row_in w rows in if eqb w n then row_place f t k else later

unfoldable pub find_row : ℕ → List ℕ → Result Cards Stop
find_row w rows = if eqb w reserved then Err NotCommon else row_in w rows

-- what a line asks for, with so many levels left and so many calls opened
abbrev pub open_at : Cards → ℕ → ℕ → Result (Option Cards) Stop
open_at cards depth calls = if eqb depth 0 then Err Deep else if ltb calls 4096 then Ok (Some cards) else Err Many

abbrev pub open_found : Result Cards Stop → ℕ → ℕ → Result (Option Cards) Stop
open_found (Err k) depth calls = Err k
open_found (Ok cards) depth calls = open_at cards depth calls

abbrev pub asked_by : List ℕ → Call → ℕ → ℕ → Result (Option Cards) Stop
asked_by rows Not depth calls = Ok None
asked_by rows Malformed depth calls = Err NoDeck
asked_by rows (Of w) depth calls = open_found (find_row w rows) depth calls

unfoldable pub asked_of : List ℕ → List ℕ → ℕ → ℕ → Result (Option Cards) Stop
asked_of rows line depth calls = asked_by rows (call_of line) depth calls

-- THE WALK: what opening a called deck does is given
abbrev pub Callee : Type 0
Callee = Shown → List Shown → ℕ → ℕ → List ℕ → WalkState

abbrev pub walk_on : WalkState → (ℕ → ℕ → List ℕ → WalkState) → WalkState
walk_on s f = elim s.answer [ Ok n ↦ f n.lines n.calls s.out | Err h ↦ s ]

abbrev pub open_of : Shown → Found → (List Shown → WalkState) → List ℕ → WalkState
open_of c missing f o = halted_at NoDeck c o
open_of c not_common f o = halted_at NotCommon c o
open_of c (common cs) f o = f cs

unfoldable pub step_of : Bool → List DeckView → Callee → Shown → Call → ℕ → ℕ → List ℕ → WalkState
step_of w ds callee c Not lines calls o = put_of w c lines calls o
step_of w ds callee c Malformed lines calls o = halted_at NoDeck c o
step_of w ds callee c (Of x) lines calls o = open_of c (called_deck x ds) (λ cs. callee c cs lines calls o) o

unfoldable pub run_of : Bool → List DeckView → Callee → List Shown → ℕ → ℕ → List ℕ → WalkState
run_of w ds callee [] lines calls o = on_with lines calls o
run_of w ds callee (c ∷ cs) lines calls o =
    walk_on (step_of w ds callee c (call_of c.line) lines calls o) (λ lines' calls' o'. run_of w ds callee cs lines' calls' o')

unfoldable pub callee_at : Bool → List DeckView → ℕ → Callee
callee_at w ds zero c cs lines calls o = halted_at Deep c o
callee_at w ds (suc depth) c cs lines calls o =
    if ltb calls 4096 then run_of w ds (callee_at w ds depth) cs lines (suc calls) o else halted_at Many c o

abbrev pub run_at : Bool → List DeckView → ℕ → List Shown → ℕ → ℕ → List ℕ → WalkState
run_at w ds depth cs lines calls o = run_of w ds (callee_at w ds depth) cs lines calls o

-- a card, passed over where it is not active
unfoldable pub visit_of : Bool → List DeckView → ℕ → Bool → Shown → ℕ → ℕ → List ℕ → WalkState
visit_of w ds depth false c lines calls o = on_with lines calls o
visit_of w ds depth true c lines calls o = step_of w ds (callee_at w ds depth) c (call_of c.line) lines calls o

-- the normal decks of a list, in order
abbrev pub deck_of : Bool → List DeckView → DeckView → ℕ → ℕ → List ℕ → WalkState
deck_of w ds d lines calls o = if d.common then on_with lines calls o else run_at w ds 8 d.lines lines calls o

unfoldable pub decks_of : Bool → List DeckView → List DeckView → ℕ → ℕ → List ℕ → WalkState
decks_of w ds [] lines calls o = on_with lines calls o
decks_of w ds (d ∷ rest) lines calls o = walk_on (deck_of w ds d lines calls o) (λ lines' calls' o'. decks_of w ds rest lines' calls' o')
