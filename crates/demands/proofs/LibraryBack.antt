-- After sets and the set that yanks each of them, the view of a library is the one from before.
use Prim.Native.Nat.{ℕ, suc, ◌+◌}
use native.Mathlib.Omega.{arith}
use mathlib.Core.Path.{◌≡◌, refl, sym, ap, ◌∙◌, subst}
use mathlib.Core.List.{List, [], ◌∷◌, ◌++◌, append_assoc}
use lib.Dec.{T}
use lib.ListN.{length, length-append}
use Rattle.library.specs.Each.{Each}
use Rattle.library.specs.Library.{Library}
use Rattle.library.specs.Yanks.{Target}
use Rattle.library.specs.Growth.{count, same_names, Growth}
use Rattle.library.specs.Sound.{Sound}
use Rattle.library.proofs.GrowthSteps.{growth-refl}
use Rattle.library.proofs.Rollback.{all_acts, OwnCard, TakesBack}
use Rattle.library.proofs.YankTargets.{names-take-back}
use Rattle.run_meaning.specs.Step.{State, start, with_entry}
use Rattle.run_meaning.specs.Run.{ended, steps}
use Rattle.run_meaning.specs.Units.{sets_of, yanked_names, is_yanking_set}
use Rattle.run_meaning.proofs.HoldsThrough.{ended_is}
use Rattle.run_meaning.proofs.YankingSet.{acts_on, Yanking, YankedBySet, yanking-ended, sets-names}
use Rattle.run_meaning.proofs.UpdateGrowth.{steps-growth, steps-decks}
use Rattle.run_meaning.proofs.SameDecks.{HasDecks}
use Rattle.run_meaning.proofs.Kept.{steps-sound}
use Rattle.compile_walk.specs.View.{view}
use Rattle.compile_walk.proofs.ViewBack.{taken_back_library, view-back}
use Rattle.demands.specs.Demands.{LibraryBack}

module _ (old : Library) (ns : List ℕ) (corrected : Library) (g : Growth old ns corrected) where
  -- the numbers of the names are those of the sets
  acts-back : (w : ℕ) (ws : List ℕ) (acts : List Target) → T (same_names ns ws) → acts ≡ acts_on (corrected.directory ++ (w ∷ [])) ws
      → TakesBack (count old) (count corrected) acts
  acts-back w ws acts same e =
      let d : corrected.directory ++ (w ∷ []) ≡ old.directory ++ (ns ++ (w ∷ [])) =
      ap (λ (x : List ℕ). x ++ (w ∷ [])) g.directory ∙ append_assoc old.directory ns (w ∷ []) in
      let c : count old + length ns ≡ count corrected = sym (ap length g.directory ∙ length-append old.directory ns) in
      subst (λ (n : ℕ). TakesBack (count old) n acts) c
      (subst (λ (ts : List Target). TakesBack (count old) (count old + length ns) ts) (sym (e ∙ ap (λ (x : List ℕ). acts_on x ws) d))
      (names-take-back old.directory ns (w ∷ []) ws g.unknown same))

  -- n: the number of the first line
  pub growth-back : Sound old → Sound corrected → length corrected.decks ≡ length old.decks
      → (n : ℕ) (ls : List (List ℕ)) → T (is_yanking_set ls) → T (same_names ns (yanked_names ls))
      → (s : State) → steps (start corrected) n ls ≡ ended s → view s.lib ≡ view old
  growth-back so sc same n ls t exact s e =
      let r : YankedBySet corrected (yanked_names ls) s = ended_is (YankedBySet corrected (yanked_names ls)) (steps (start corrected) n ls) s e (yanking-ended (start corrected) n ls t) in
      let w : ℕ = r.0 in
      let y : Yanking (with_entry corrected w) (yanked_names ls) s = r.1 in
      let lib : s.lib ≡ taken_back_library corrected w y.own = y.lib in
      let c : length (corrected.directory ++ (w ∷ [])) ≡ suc (count corrected) = length-append corrected.directory (w ∷ []) ∙ omega arith in
      ap view lib
      ∙ view-back old ns corrected w y.own g so (subst Sound lib (ended_is (λ x. Sound x.lib) (steps (start corrected) n ls) s e (steps-sound corrected sc n ls))) (subst (λ (m : ℕ). Each (OwnCard m) y.own) c y.mine)
      (acts-back w (yanked_names ls) (all_acts (corrected.directory ++ (w ∷ [])) y.own) exact y.acts) same

pub library-back : LibraryBack
unfolding LibraryBack
library-back old so n sets t s e m yanking y exact u f =
    growth-back old (sets_of sets) s.lib
    (subst (λ (ns : List ℕ). Growth old ns s.lib) (sym (sets-names sets t)) (steps-growth old [] old n sets s (growth-refl old) e))
    so (ended_is (λ x. Sound x.lib) (steps (start old) n sets) s e (steps-sound old so n sets))
    (ended_is (HasDecks (length old.decks)) (steps (start old) n sets) s e (steps-decks (length old.decks) old n sets t refl)) m yanking y exact u f
