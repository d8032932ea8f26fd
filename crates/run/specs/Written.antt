-- CODE. The library in work written out (RULES, "The run"; row 32).
--   the answer   after_lines, Answers, Finishes
--   a run        Begins, RunsFrom, RunsLines, RunsStream
use Rattle.std.specs.Prelude.{ℕ, ◌≡◌, List, length, Result}
use Rattle.words_lines.specs.Directive.{lines}
use Rattle.library.specs.Library.{Library}
use Rattle.library.specs.Check.{good, check}
use Rattle.run_meaning.specs.Step.{State, start}
use Rattle.run_meaning.specs.Run.{Steps, ended, steps, update, Running, fitted, from_updated, ran, run_into}
use Rattle.run.specs.Desk.{Held}
use Rattle.run.specs.Resettled.{Arrays, HeldIn}
use Rattle.run.specs.declared.desk.Desk.{Desk}
use Rattle.run_meaning.specs.declared.RunRefused.{RunRefused}

-- the answer after lines of a stream
abbrev pub after_lines : ℕ → Steps → Running
after_lines room r = from_updated (fitted room r)

pub record Answers (run : Running) (space new : List ℕ) (r : Result ℕ RunRefused) : Type 0 where
  pub answer : r ≡ ran run
  pub written : new ≡ run_into run space

abbrev pub Finishes : List ℕ → List ℕ → List ℕ → Desk → List ℕ → List ℕ → Result ℕ RunRefused → Type 0
Finishes w dir names d space new r =
    (decks flags : List ℕ) (s : State) → Held w dir names decks flags d s → Answers (after_lines (length space) (ended s)) space new r

-- A RUN: an image that the check accepted is taken up; the lines of a stream are obeyed from any state
abbrev pub Begins : List ℕ → Arrays → Desk → Type 0
Begins old a d = (l : Library) → check old ≡ good l → HeldIn a d (start l)

abbrev pub RunsFrom : Arrays → Desk → List ℕ → List ℕ → List ℕ → Result ℕ RunRefused → Type 0
RunsFrom a d bytes space new r = (s : State) → HeldIn a d s → Answers (after_lines (length space) (steps s 1 (lines bytes))) space new r

-- on an image that the check accepted: after the lines of a stream, and of a stream of any length
abbrev pub RunsLines : List ℕ → List ℕ → List ℕ → List ℕ → Result ℕ RunRefused → Type 0
RunsLines old bytes space new r =
    (l : Library) → check old ≡ good l → Answers (after_lines (length space) (steps (start l) 1 (lines bytes))) space new r

abbrev pub RunsStream : List ℕ → List ℕ → List ℕ → List ℕ → Result ℕ RunRefused → Type 0
RunsStream old bytes space new r = (l : Library) → check old ≡ good l → Answers (from_updated (update l bytes (length space))) space new r
