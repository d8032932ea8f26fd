-- CODE. A whole stream in code (RULES, "The run"), line by line, and the arrays that it is obeyed in.
--   the arrays       in_arrays
--   the lines        SaneEnd, EndedIn, ObeysStream
use Rattle.std.specs.Prelude.{ℕ, ◌≡◌, List, Result, Ok, Err}
use Rattle.words_lines.specs.Directive.{lines}
use Rattle.run_meaning.specs.Step.{State}
use Rattle.run_meaning.specs.Run.{Steps, ended, stopped, steps}
use Rattle.run.specs.Desk.{Sane}
use Rattle.run.specs.Resettled.{Arrays, HeldIn}
use Rattle.run.specs.declared.desk.Desk.{Desk}
use Rattle.run_meaning.specs.declared.RunRefused.{RunRefused}
use Rattle.run_meaning.specs.declared.RunRefused.TheVariants.{Stream as OfStream}

abbrev pub in_arrays : List ℕ → List ℕ → List ℕ → List ℕ → List ℕ → Arrays
in_arrays w dir names decks flags = record { words = w; dir = dir; names = names; decks = decks; flags = flags }

-- what keeps the code safe after the lines
abbrev pub SaneEnd : List ℕ → Result Desk RunRefused → Type 0
SaneEnd w (Ok d) = Sane w d
SaneEnd w (Err r) = Unit {0}

-- the last state is held, or the same line is refused for the same reason
abbrev pub EndedIn : Arrays → Result Desk RunRefused → Steps → Type 0
EndedIn a (Ok d) (ended t) = HeldIn a d t
EndedIn a (Err r) (stopped z m) = r ≡ OfStream z m
EndedIn a (Ok d) (stopped z m) = ⊥
EndedIn a (Err r) (ended t) = ⊥

abbrev pub ObeysStream : Arrays → Desk → List ℕ → Arrays → Result Desk RunRefused → Type 0
ObeysStream a d bytes b r = (s : State) → HeldIn a d s → EndedIn b r (steps s 1 (lines bytes))
