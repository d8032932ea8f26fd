-- A unit line does the same to a state as to a run's start, so lines cut ahead of it are run in parts.
use Prim.Native.Nat.{ℕ, suc, ◌+◌}
use native.Mathlib.Omega.{arith}
use native.Mathlib.Nat.{add-zero}
use mathlib.Core.Path.{◌≡◌, refl, sym, ap, ◌∙◌}
use mathlib.Core.List.{List, [], ◌∷◌, ◌++◌}
use lib.Dec.{T}
use lib.ListN.{length}
use Rattle.words_lines.specs.Directive.{directive}
use Rattle.words_lines.specs.declared.Line.{Line}
use Rattle.words_lines.specs.declared.Line.TheVariants.{Text, Skipped, Deck as DeckLine·, Comdeck, Ident, Insert, Before, Delete, Restore, Yank as YankLine, Outside as LineOutside, Long as LineLong, Malformed as LineMalformed, NotCarried as LineNotCarried}
use Rattle.run_meaning.specs.Step.{State, Step, went, refused, start, obey, step}
use Rattle.run_meaning.specs.Run.{Steps, onward, steps}
use Rattle.run_meaning.specs.Units.{role_of}
use Rattle.run_meaning.specs.Cut.{starts_unit, begins_unit, and_anew, StepsCut}

obey-anew : (s : State) (l : List ℕ) (a : Line) → T (starts_unit (role_of a)) → obey s l a ≡ obey (start s.lib) l a
obey-anew s l (DeckLine· w) t = refl
obey-anew s l (Comdeck w) t = refl
obey-anew s l (Ident w) t = refl
obey-anew s l Text t = absurd t
obey-anew s l Skipped t = absurd t
obey-anew s l YankLine t = absurd t
obey-anew s l (Insert r) t = absurd t
obey-anew s l (Before r) t = absurd t
obey-anew s l (Delete a b) t = absurd t
obey-anew s l (Restore a b) t = absurd t
obey-anew s l LineOutside t = absurd t
obey-anew s l LineLong t = absurd t
obey-anew s l LineMalformed t = absurd t
obey-anew s l LineNotCarried t = absurd t

steps-anew : (s : State) (n : ℕ) (ms : List (List ℕ)) → T (begins_unit ms) → steps s n ms ≡ steps (start s.lib) n ms
unfolding step
steps-anew s n [] t = absurd t
steps-anew s n (l ∷ ls) t = ap (λ (r : Step). onward r (λ q. steps q (suc n) ls) n) (obey-anew s l (directive l) t)

onward-anew : (r : Step) (f g : State → Steps) (n m : ℕ) (ms : List (List ℕ)) → ((t : State) → f t ≡ and_anew (g t) m ms) → onward r f n ≡ and_anew (onward r g n) m ms
onward-anew (went t) f g n m ms h = h t
onward-anew (refused w) f g n m ms h = refl

pub steps-cut : StepsCut
steps-cut s n [] ms t = ap (λ (m : ℕ). steps s m ms) (sym (add-zero n)) ∙ steps-anew s (n + 0) ms t
steps-cut s n (l ∷ ls) ms t =
    onward-anew (step s l) (λ q. steps q (suc n) (ls ++ ms)) (λ q. steps q (suc n) ls) n (n + suc (length ls)) ms
    (λ q. steps-cut q (suc n) ls ms t ∙ ap (λ (m : ℕ). and_anew (steps q (suc n) ls) m ms) (omega arith))
