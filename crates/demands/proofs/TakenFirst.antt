-- M5 for a set that yanks sets of the first: it acts by the same numbers there and in the merged library.
use Prim.Native.Nat.{ℕ, suc, ◌+◌, ◌≤◌, ◌<◌}
use native.Mathlib.Omega.{arith}
use mathlib.Core.Path.{◌≡◌, refl, sym, ap, ◌∙◌, subst}
use mathlib.Core.Bool.{Bool, false, ◌||◌}
use mathlib.Core.List.{List, [], ◌∷◌, ◌++◌, map, append_assoc}
use lib.ListN.{length}
use Rattle.words.proofs.TestParts.{or-false}
use Rattle.words.specs.Base.{any}
use Rattle.library.specs.Library.{Library, deck_names}
use Rattle.library.specs.Yanks.{covers, yanked_by, yanked}
use Rattle.library.proofs.SettledFlags.{yank_list, flags, yanked-rule, flags-solve}
use Rattle.run_meaning.proofs.YankingSet.{acts_on}
use Rattle.compile_walk.specs.View.{DeckView, view}
use Rattle.compile_walk.proofs.ViewBack.{taken_back_library}
use Rattle.merge_meaning.specs.Merge.{merge}
use Rattle.merge_meaning.specs.Merged.{Mergeable, raise_deck_number}
use Rattle.demands.specs.MergedFile.{raise_view}
use Rattle.demands.specs.MergedYank.{Taken}
use Rattle.merge_meaning.proofs.RaisedStaysSound.{first-high}
use Rattle.demands.proofs.MergedYankFlags.{acts-append, Ran, ran-known, ran-lower, ran-yanked, ran-solves, after_first, after-second}
use Rattle.demands.proofs.TakenViews.{own-free, active-first, active-second, view-end, view-after, turned-first, turned-second}

module _ (l m : Library) (q : Mergeable l m) (ws : List ℕ) (taken new : Library) (a : Ran l ws taken) (r : Ran (merge l m) ws new) where
  abbrev up : ℕ
  up = length l.directory

  abbrev l' : Library
  l' = taken_back_library l a.name a.own

  abbrev c' : Library
  c' = taken_back_library (merge l m) r.name r.own

  same-acts : acts_on ((l.directory ++ m.directory) ++ (r.name ∷ [])) ws ≡ acts_on l.directory ws
  same-acts =
      ap (λ (d : List ℕ). acts_on d ws) (append_assoc l.directory m.directory (r.name ∷ []))
      ∙ acts-append l.directory (m.directory ++ (r.name ∷ [])) ws (ran-known l ws taken q.first a)

  abbrev X : ℕ → ℕ → Bool
  X deck n = any (covers deck n) (acts_on l.directory ws)

  abbrev Y : ℕ → ℕ → Bool
  Y deck n = false

  high-none : (deck n : ℕ) → 0 < n → any (covers (raise_deck_number up deck) (up + n)) (acts_on ((l.directory ++ m.directory) ++ (r.name ∷ [])) ws) ≡ false
  high-none deck n pos =
      ap (any (covers (raise_deck_number up deck) (up + n))) same-acts
      ∙ first-high up (raise_deck_number up deck) n pos (l.directory ++ (a.name ∷ [])) (deck_names l') (suc up) (omega arith) (acts_on l.directory ws) (ran-lower l ws taken q.first a)

  low_same : (deck n : ℕ) → n ≤ up → any (covers deck n) (acts_on ((l.directory ++ m.directory) ++ (r.name ∷ [])) ws) ≡ X deck n
  low_same deck n le = ap (any (covers deck n)) same-acts

  second-solves : (n : ℕ) → 0 < n → flags m n ≡ (yanked_by (yank_list m) (flags m) 0 n || Y 0 n)
  second-solves n pos = flags-solve m q.second n ∙ sym (or-false (yanked_by (yank_list m) (flags m) 0 n))

  first-is : (deck n : ℕ) → n ≤ up → yanked c' deck n ≡ yanked l' deck n
  first-is deck n le =
      after_first l m q ws new r (flags l') (flags m) X Y low_same high-none (λ j h. ran-solves l ws taken q.first a j) second-solves (own-free m q.second) deck n le
      ∙ sym (ran-yanked l ws taken q.first a deck n)

  second_is : (deck n : ℕ) → 0 < n → yanked c' (raise_deck_number up deck) (up + n) ≡ yanked m deck n
  second_is deck n pos =
      after-second l m q ws new r (flags l') (flags m) X Y low_same high-none (λ j h. ran-solves l ws taken q.first a j) second-solves (own-free m q.second) deck n pos
      ∙ or-false (yanked_by (yank_list m) (flags m) deck n) ∙ sym (yanked-rule m deck n)

  seen-is : view c' ≡ view l' ++ map (raise_view up) (view m)
  unfolding view
  seen-is =
      view-after l m q r.name r.own (yanked l') (yanked m) first-is second_is
      ∙ ap (λ (ds : List DeckView). ds ++ map (raise_view up) (view m)) (sym (view-end l q.first (yanked l') a.name))

  pub taken-first : Taken l m taken m new
  taken-first =
      subst (λ (x : Library). Taken l m taken m x) (sym r.lib) (subst (λ (x : Library). Taken l m x m c') (sym a.lib) (record {
        decks = refl;
        first = active-first l m c' (yanked l') first-is;
        first_turned = turned-first l m q c' l' first-is;
        second = active-second l m c' (yanked m) second_is;
        second_turned = turned-second l m q c' m second_is;
        seen = seen-is;
      }))
