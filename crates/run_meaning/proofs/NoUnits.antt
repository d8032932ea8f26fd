-- Ahead of any unit a line is skipped or refused, so lines without units leave the library as it was.
use Prim.Native.Nat.{ℕ}
use mathlib.Core.Path.{◌≡◌, refl, sym, subst}
use mathlib.Core.Bool.{not}
use mathlib.Core.List.{List, []}
use lib.Dec.{T}
use Rattle.words_lines.specs.Directive.{directive}
use Rattle.words_lines.specs.declared.Line.{Line}
use Rattle.words_lines.specs.declared.Line.TheVariants.{Text, Skipped, Deck as DeckLine·, Comdeck, Ident, Insert, Before, Delete, Restore, Yank as YankLine, Outside as LineOutside, Long as LineLong, Malformed as LineMalformed, NotCarried as LineNotCarried}
use Rattle.library.specs.Library.{Library}
use Rattle.library.proofs.EachTest.{all-each}
use Rattle.run_meaning.specs.Step.{State, start, obey, step}
use Rattle.run_meaning.specs.Run.{steps}
use Rattle.run_meaning.specs.Units.{role_of}
use Rattle.run_meaning.specs.Cut.{starts_unit, no_units}
use Rattle.run_meaning.proofs.HoldsThrough.{Went, Ended, steps-ended}

abbrev IsStart : Library → State → Type 0
IsStart old s = s ≡ start old

obey-idle : (old : Library) (l : List ℕ) (a : Line) → T (not (starts_unit (role_of a))) → Went (IsStart old) (obey (start old) l a)
obey-idle old l LineOutside t = tt
obey-idle old l LineLong t = tt
obey-idle old l LineMalformed t = tt
obey-idle old l LineNotCarried t = tt
obey-idle old l Text t = tt
obey-idle old l Skipped t = refl
obey-idle old l (DeckLine· w) t = absurd t
obey-idle old l (Comdeck w) t = absurd t
obey-idle old l (Ident w) t = absurd t
obey-idle old l YankLine t = tt
obey-idle old l (Insert r) t = tt
obey-idle old l (Before r) t = tt
obey-idle old l (Delete a b) t = tt
obey-idle old l (Restore a b) t = tt

step-idle : (old : Library) (s : State) (l : List ℕ) → T (not (starts_unit (role_of (directive l)))) → IsStart old s → Went (IsStart old) (step s l)
unfolding step
step-idle old s l t e = subst (λ (q : State). Went (IsStart old) (obey q l (directive l))) (sym e) (obey-idle old l (directive l) t)

pub steps-idle : (old : Library) (n : ℕ) (ls : List (List ℕ)) → T (no_units ls) → Ended (IsStart old) (steps (start old) n ls)
steps-idle old n ls t =
    steps-ended (λ ns. IsStart old) (λ l. T (not (starts_unit (role_of (directive l))))) (λ l. []) (λ ns s l q e. step-idle old s l q e) [] (start old) n ls
    (all-each (λ l. not (starts_unit (role_of (directive l)))) ls t) refl
