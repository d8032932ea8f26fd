-- MEANING. The correction run (RULES, "The run"; rows 1 to 10 and 19 to 32).
--   over lines           Steps, onward, steps
--   over a library       Updated, fitted, update
--   over images          Running, from_updated, run_checked, running
--   the answer           ran, run_into
--   the table's numbers  why_number, ran_number, ran_value
use Rattle.std.specs.Prelude.{ℕ, suc, List, [], ◌∷◌, ◌++◌, ltb, length, drop, if◌then◌else◌, Result, Ok, Err}
use Rattle.words_lines.specs.Directive.{lines}
use Rattle.library.specs.Library.{Library}
use Rattle.library.specs.Image.{encode}
use Rattle.library.specs.Check.{Checking, good, bad, check, fault_number}
use Rattle.library.specs.declared.Fault.{Fault}
use Rattle.run_meaning.specs.Step.{State, Step, went, refused, start, step}
use Rattle.run_meaning.specs.declared.Why.{Why}
use Rattle.run_meaning.specs.declared.Why.TheVariants.{Stream, Outside, Long, Malformed, NotCarried, Nowhere, Known, Unknown, NoSet, NoCard, Backwards, Barred, Limit, Space}
use Rattle.run_meaning.specs.declared.RunRefused.{RunRefused}
use Rattle.run_meaning.specs.declared.RunRefused.TheVariants.{Library as OfLibrary, Stream as OfStream}

-- the lines one after another, up to the first that is refused; n is the number of the first line
pub data Steps : Type 0 where
  ended : State → Steps
  stopped : Why → ℕ → Steps

abbrev pub onward : Step → (State → Steps) → ℕ → Steps
onward (went t) rest n = rest t
onward (refused w) rest n = stopped w n

abbrev pub steps : State → ℕ → List (List ℕ) → Steps
steps s n [] = ended s
steps s n (l ∷ ls) = onward (step s l) (λ t. steps t (suc n) ls) n

-- a library after a stream: 19, then its lines, then 32, at the very end; room is how many words the lent space has
pub data Updated : Type 0 where
  updated : Library → Updated
  not_updated : Why → ℕ → Updated

abbrev pub fitted : ℕ → Steps → Updated
fitted room (stopped w n) = not_updated w n
fitted room (ended s) = if ltb room (length (encode s.lib)) then not_updated Space 0 else updated s.lib

unfoldable pub update : Library → List ℕ → ℕ → Updated
update old stream room = if ltb 262144 (length stream) then not_updated Stream 0 else fitted room (steps (start old) 1 (lines stream))

-- an image after a stream: its check comes ahead of all of that
pub data Running : Type 0 where
  new_library : Library → Running
  bad_library : Fault → ℕ → Running
  bad_stream : Why → ℕ → Running

abbrev pub from_updated : Updated → Running
from_updated (updated l) = new_library l
from_updated (not_updated w n) = bad_stream w n

abbrev pub run_checked : Checking → List ℕ → ℕ → Running
run_checked (good l) stream room = from_updated (update l stream room)
run_checked (bad f p) stream room = bad_library f p

unfoldable pub running : List ℕ → List ℕ → ℕ → Running
running old stream room = run_checked (check old) stream room

-- THE ANSWER, and what the lent space then holds
abbrev pub ran : Running → Result ℕ RunRefused
ran (new_library l) = Ok (length (encode l))
ran (bad_library f p) = Err (OfLibrary (record { fault = f; place = p }))
ran (bad_stream w n) = Err (OfStream w n)

abbrev pub run_into : Running → List ℕ → List ℕ
run_into (new_library l) space = encode l ++ drop (length (encode l)) space
run_into (bad_library f p) space = space
run_into (bad_stream w n) space = space

-- THE TABLE'S NUMBERS: the row, and the words written or the place
abbrev pub why_number : Why → ℕ
why_number Stream = 19
why_number Outside = 20
why_number Long = 21
why_number Malformed = 22
why_number NotCarried = 23
why_number Nowhere = 24
why_number Known = 25
why_number Unknown = 26
why_number NoSet = 27
why_number NoCard = 28
why_number Backwards = 29
why_number Barred = 30
why_number Limit = 31
why_number Space = 32

abbrev pub ran_number : Result ℕ RunRefused → ℕ
ran_number (Ok n) = 0
ran_number (Err (OfLibrary f)) = fault_number f.fault
ran_number (Err (OfStream w n)) = why_number w

abbrev pub ran_value : Result ℕ RunRefused → ℕ
ran_value (Ok n) = n
ran_value (Err (OfLibrary f)) = f.place
ran_value (Err (OfStream w n)) = n
