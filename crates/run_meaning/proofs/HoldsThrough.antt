-- What holds of a state goes through refusals, a step, and the lines of a stream.
use Prim.Native.Nat.{ℕ, suc}
use mathlib.Core.Path.{◌≡◌, sym, subst}
use mathlib.Core.Bool.{Bool, true, false, not}
use mathlib.Core.List.{List, [], ◌∷◌, ◌++◌, append-nil, append_assoc}
use lib.Dec.{T}
use Rattle.words.proofs.TestParts.{not-not}
use Rattle.library.specs.Each.{Each}
use Rattle.library.specs.Image.{within_limits}
use Rattle.run_meaning.specs.Step.{State, Step, went, refused, refuse, limited, step, is_set, in_set}
use Rattle.run_meaning.specs.Run.{Steps, ended, stopped, onward, steps}
use Rattle.run_meaning.specs.Units.{gather}
use Rattle.run_meaning.specs.declared.Why.{Why}
use Rattle.run_meaning.specs.declared.Why.TheVariants.{Limit, Nowhere}

-- where a line was obeyed, P holds of the state after it
abbrev pub Went : (State → Type 0) → Step → Type 0
Went P (went t) = P t
Went P (refused w) = Unit {0}

-- where all lines were, P holds of the last state
abbrev pub Ended : (State → Type 0) → Steps → Type 0
Ended P (ended t) = P t
Ended P (stopped w n) = Unit {0}

pub refuse-went : (P : State → Type 0) (c : Bool) (w : Why) (r : Step) → (T (not c) → Went P r) → Went P (refuse c w r)
refuse-went P true w r h = tt
refuse-went P false w r h = h tt

pub limited-within : (P : State → Type 0) (t : State) → (T (within_limits t.lib) → P t) → Went P (limited t)
limited-within P t f = refuse-went P (not (within_limits t.lib)) Limit (went t) (λ a. f (not-not (within_limits t.lib) a))

pub limited-went : (P : State → Type 0) (t : State) → P t → Went P (limited t)
limited-went P t p = limited-within P t (λ _. p)

pub in-set-went : (P : State → Type 0) (s : State) (r : Step) → (T (is_set s.kind) → Went P r) → Went P (in_set s r)
in-set-went P s r f = refuse-went P (not (is_set s.kind)) Nowhere r (λ a. f (not-not (is_set s.kind) a))

pub onward-ended : (P Q : State → Type 0) (r : Step) (f : State → Steps) (n : ℕ) → Went P r → ((t : State) → P t → Ended Q (f t)) → Ended Q (onward r f n)
onward-ended P Q (went t) f n w h = h t w
onward-ended P Q (refused k) f n w h = tt

-- P speaks of the names so far too, those that `of` takes from each line; Q is asked of each line
module _ (P : List ℕ → State → Type 0) (Q : List ℕ → Type 0) (of : List ℕ → List ℕ)
    (one : (ns : List ℕ) (s : State) (l : List ℕ) → Q l → P ns s → Went (P (ns ++ of l)) (step s l)) where
  pub steps-ended : (ns : List ℕ) (s : State) (n : ℕ) (ls : List (List ℕ)) → Each Q ls → P ns s → Ended (P (ns ++ gather of ls)) (steps s n ls)
  steps-ended ns s n [] q p = subst (λ (m : List ℕ). P m s) (sym (append-nil ns)) p
  steps-ended ns s n (l ∷ ls) q p =
      onward-ended (P (ns ++ of l)) (P (ns ++ gather of (l ∷ ls))) (step s l) (λ t. steps t (suc n) ls) n (one ns s l q.0 p)
      (λ t w. subst (λ (m : List ℕ). Ended (P m) (steps t (suc n) ls)) (append_assoc ns (of l) (gather of ls))
      (steps-ended (ns ++ of l) t (suc n) ls q.1 w))

pub ended_is : (P : State → Type 0) (r : Steps) (s : State) → r ≡ ended s → Ended P r → P s
ended_is P r s e h = subst (Ended P) e h
