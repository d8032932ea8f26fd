-- PROMISE. A stream cut ahead of a unit (RULES, "Units", "The run").
--   unit lines     starts_unit, begins_unit, no_units
--   the cut        and_anew, StepsCut
use Rattle.std.specs.Prelude.{ℕ, ◌+◌, ◌≡◌, Bool, false, not, List, [], ◌∷◌, ◌++◌, T, length}
use Rattle.words.specs.Base.{all, is_nil}
use Rattle.words_lines.specs.Directive.{directive}
use Rattle.run_meaning.specs.Step.{State, start}
use Rattle.run_meaning.specs.Run.{Steps, ended, stopped, steps}
use Rattle.run_meaning.specs.Units.{Role, role_of, unit_names}

-- a line that brings in a unit's name
abbrev pub starts_unit : Role → Bool
starts_unit r = not (is_nil (unit_names r))

-- the first of these lines starts a unit; none does
abbrev pub begins_unit : List (List ℕ) → Bool
begins_unit [] = false
begins_unit (l ∷ ls) = starts_unit (role_of (directive l))

abbrev pub no_units : List (List ℕ) → Bool
no_units ls = all (λ l. not (starts_unit (role_of (directive l)))) ls

-- further lines, of which n is the first one's number, from the start of a run on the library that was reached
abbrev pub and_anew : Steps → ℕ → List (List ℕ) → Steps
and_anew (ended s) n ms = steps (start s.lib) n ms
and_anew (stopped w m) n ms = stopped w m

-- all that a unit knows of what is ahead of it is the library: lines cut ahead of a unit line are run part after part
abbrev pub StepsCut : Type 0
StepsCut = (s : State) (n : ℕ) (ls ms : List (List ℕ)) → T (begins_unit ms) → steps s n (ls ++ ms) ≡ and_anew (steps s n ls) (n + length ls) ms
