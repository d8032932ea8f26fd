-- The library of an accepted run is a growth of the old one by the names of its units.
use Rattle.std.specs.Prelude.{if◌then◌else◌}
use Prim.Native.Nat.{ℕ}
use native.Mathlib.Omega.{arith}
use mathlib.Core.Path.{◌≡◌, refl, subst}
use mathlib.Core.Bool.{Bool, true, false, not}
use mathlib.Core.List.{List, [], ◌∷◌, ◌++◌}
use lib.Dec.{T, ltb}
use lib.ListN.{length}
use Rattle.words_lines.specs.Directive.{directive, lines}
use Rattle.library.specs.Each.{Each}
use Rattle.library.specs.Library.{Library}
use Rattle.library.specs.Image.{encode}
use Rattle.library.specs.Growth.{Growth}
use Rattle.library.proofs.EachTest.{all-each}
use Rattle.run_meaning.specs.Step.{State, start}
use Rattle.run_meaning.specs.Run.{Steps, ended, stopped, steps, updated, not_updated, fitted, update}
use Rattle.run_meaning.specs.Units.{role_of, unit_names, names_of, starts_deck, only_sets}
use Rattle.run_meaning.specs.declared.Why.{Why}
use Rattle.run_meaning.specs.declared.Why.TheVariants.{Stream, Space}
use Rattle.run_meaning.proofs.HoldsThrough.{Ended, steps-ended, ended_is}
use Rattle.run_meaning.proofs.LineGrows.{Grows, grows_start, step-grows}
use Rattle.run_meaning.proofs.SameDecks.{HasDecks, step-decks}

pub updated-is : (a b : Library) → updated a ≡ updated b → a ≡ b
updated-is a b e = cc

pub no-update : (w : Why) (n : ℕ) (l : Library) → not_updated w n ≡ updated l → ⊥
no-update w n l e = let z : ◌≡◌ {A = ℕ} 0 1 = cc in omega arith

-- the last state of an accepted run
abbrev pub EndsIn : Library → List ℕ → Library → Type 0
EndsIn old x new = (s : State) × (steps (start old) 1 (lines x) ≡ ended s) × (s.lib ≡ new)

pub update-ends : (room : ℕ) (old : Library) (x : List ℕ) (new : Library) → update old x room ≡ updated new → EndsIn old x new
unfolding update
update-ends room old x new e = size (ltb 262144 (length x)) e
  where
    fits : (s : State) (c : Bool) → steps (start old) 1 (lines x) ≡ ended s → (if c then not_updated Space 0 else updated s.lib) ≡ updated new → EndsIn old x new
    fits s true q f = absurd (no-update Space 0 new f)
    fits s false q f = (s, q, updated-is s.lib new f)

    end : (r : Steps) → steps (start old) 1 (lines x) ≡ r → fitted room r ≡ updated new → EndsIn old x new
    end (ended s) q f = fits s (ltb room (length (encode s.lib))) q f
    end (stopped w n) q f = absurd (no-update w n new f)

    size : (c : Bool) → (if c then not_updated Stream 0 else fitted room (steps (start old) 1 (lines x))) ≡ updated new → EndsIn old x new
    size true f = absurd (no-update Stream 0 new f)
    size false f = end (steps (start old) 1 (lines x)) refl f

-- what holds of the last state in terms of its library holds of the new library
pub update-holds : (P : Library → Type 0) (room : ℕ) (old : Library) (x : List ℕ) (new : Library) → update old x room ≡ updated new
    → Ended (λ s. P s.lib) (steps (start old) 1 (lines x)) → P new
update-holds P room old x new e h =
    let r : EndsIn old x new = update-ends room old x new e in
    subst P r.2 (ended_is (λ s. P s.lib) (steps (start old) 1 (lines x)) r.0 r.1 h)

pub each_line : (ls : List (List ℕ)) → Each (λ l. Unit {0}) ls
each_line [] = tt
each_line (l ∷ ls) = (tt, each_line ls)

-- GROWTH: `first` is a library that has already grown into the old one
pub steps-growth : (first : Library) (ns : List ℕ) (old : Library) (n : ℕ) (ls : List (List ℕ)) (s : State)
    → Growth first ns old → steps (start old) n ls ≡ ended s → Growth first (ns ++ names_of ls) s.lib
steps-growth first ns old n ls s g e =
    (ended_is (Grows first (ns ++ names_of ls)) (steps (start old) n ls) s e
    (steps-ended (Grows first) (λ l. Unit {0}) (λ l. unit_names (role_of (directive l))) (λ m t l q h. step-grows first m t l h) ns (start old) n ls (each_line ls)
    (grows_start first ns old g))).growth

pub update-growth : (first : Library) (ns : List ℕ) (room : ℕ) (old : Library) (x : List ℕ) (new : Library)
    → Growth first ns old → update old x room ≡ updated new → Growth first (ns ++ names_of (lines x)) new
update-growth first ns room old x new g e =
    let r : EndsIn old x new = update-ends room old x new e in
    subst (Growth first (ns ++ names_of (lines x))) r.2 (steps-growth first ns old 1 (lines x) r.0 g r.1)

-- sets add no deck
pub steps-decks : (k : ℕ) (old : Library) (n : ℕ) (ls : List (List ℕ)) → T (only_sets ls) → length old.decks ≡ k → Ended (HasDecks k) (steps (start old) n ls)
steps-decks k old n ls t h =
    steps-ended (λ m. HasDecks k) (λ l. T (not (starts_deck (role_of (directive l))))) (λ l. []) (λ m q l a b. step-decks k q l a b) [] (start old) n ls
    (all-each (λ l. not (starts_deck (role_of (directive l)))) ls t) h

pub update-decks : (k room : ℕ) (old : Library) (x : List ℕ) (new : Library) → T (only_sets (lines x)) → length old.decks ≡ k
    → update old x room ≡ updated new → length new.decks ≡ k
update-decks k room old x new t h e = update-holds (λ l. length l.decks ≡ k) room old x new e (steps-decks k old 1 (lines x) t h)
