-- M5 for a set that yanks sets of the second: it acts in the merged library by their numbers raised.
use Prim.Native.Nat.{ℕ, suc, ◌+◌, ◌≤◌, ◌<◌}
use mathlib.Core.Path.{◌≡◌, refl, sym, ap, ◌∙◌, subst}
use mathlib.Core.Bool.{Bool, false, ◌||◌}
use mathlib.Core.List.{List, [], ◌∷◌, ◌++◌, map}
use lib.Dec.{T}
use lib.ListN.{length}
use Rattle.words.proofs.TestParts.{or-false}
use Rattle.words.specs.Base.{any}
use Rattle.words.specs.Names.{is_name_word}
use Rattle.library.specs.Each.{Each}
use Rattle.library.specs.Library.{Library, deck_names}
use Rattle.library.specs.Yanks.{covers, yanked_by, yanked}
use Rattle.library.specs.Growth.{count}
use Rattle.library.proofs.SettledFlags.{yank_list, flags, yanked-rule, flags-solve}
use Rattle.run_meaning.proofs.YankingSet.{acts_on}
use Rattle.compile_walk.specs.View.{DeckView, view}
use Rattle.compile_walk.proofs.ViewBack.{taken_back_library}
use Rattle.merge_meaning.specs.Merge.{merge}
use Rattle.merge_meaning.specs.Merged.{Mergeable, raise_deck_number}
use Rattle.demands.specs.MergedFile.{raise_view}
use Rattle.demands.specs.MergedYank.{Taken}
use Rattle.merge_meaning.proofs.RaisedStaysSound.{raise_target, any-raise, raise-low}
use Rattle.merge_meaning.proofs.MergedSound.{apart}
use Rattle.demands.proofs.MergedYankFlags.{acts-append, acts-raise, Ran, ran-known, ran-lower, ran-free, ran-yanked, ran-solves, after_first, after-second}
use Rattle.demands.proofs.TakenViews.{active-first, active-second, view-end, view-after, turned-first, turned-second}

module _ (l m : Library) (q : Mergeable l m) (ws : List ℕ) (names : Each (λ w. T (is_name_word w)) ws) (taken new : Library) (a : Ran m ws taken) (r : Ran (merge l m) ws new) where
  abbrev up : ℕ
  up = length l.directory

  abbrev m' : Library
  m' = taken_back_library m a.name a.own

  abbrev c' : Library
  c' = taken_back_library (merge l m) r.name r.own

  raised-acts : acts_on ((l.directory ++ m.directory) ++ (r.name ∷ [])) ws ≡ map (raise_target up) (acts_on m.directory ws)
  raised-acts =
      let e = acts-raise l.directory m.directory (apart l m q.first q.second q.apart) ws names (ran-known m ws taken q.second a) in
      acts-append (l.directory ++ m.directory) (r.name ∷ []) ws e.1 ∙ e.0

  abbrev X : ℕ → ℕ → Bool
  X deck n = false

  abbrev Y : ℕ → ℕ → Bool
  Y deck n = any (covers deck n) (acts_on m.directory ws)

  low-none : (deck n : ℕ) → n ≤ up → any (covers deck n) (acts_on ((l.directory ++ m.directory) ++ (r.name ∷ [])) ws) ≡ false
  low-none deck n le =
      ap (any (covers deck n)) raised-acts
      ∙ raise-low up deck n le (m.directory ++ (a.name ∷ [])) (deck_names m') (suc (count m)) (acts_on m.directory ws) (ran-lower m ws taken q.second a)

  high_same : (deck n : ℕ) → 0 < n → any (covers (raise_deck_number up deck) (up + n)) (acts_on ((l.directory ++ m.directory) ++ (r.name ∷ [])) ws) ≡ Y deck n
  high_same deck n pos = ap (any (covers (raise_deck_number up deck) (up + n))) raised-acts ∙ any-raise up deck n (acts_on m.directory ws)

  first-solves : (n : ℕ) → n ≤ up → flags l n ≡ (yanked_by (yank_list l) (flags l) 0 n || X 0 n)
  first-solves n le = flags-solve l q.first n ∙ sym (or-false (yanked_by (yank_list l) (flags l) 0 n))

  own-not : flags m' (suc (count m)) ≡ false
  own-not = ran-free m ws taken q.second a

  first-is : (deck n : ℕ) → n ≤ up → yanked c' deck n ≡ yanked l deck n
  first-is deck n le =
      after_first l m q ws new r (flags l) (flags m') X Y low-none high_same first-solves (λ j h. ran-solves m ws taken q.second a j) own-not deck n le
      ∙ or-false (yanked_by (yank_list l) (flags l) deck n) ∙ sym (yanked-rule l deck n)

  second_is : (deck n : ℕ) → 0 < n → yanked c' (raise_deck_number up deck) (up + n) ≡ yanked m' deck n
  second_is deck n pos =
      after-second l m q ws new r (flags l) (flags m') X Y low-none high_same first-solves (λ j h. ran-solves m ws taken q.second a j) own-not deck n pos
      ∙ sym (ran-yanked m ws taken q.second a deck n)

  seen-is : view c' ≡ view l ++ map (raise_view up) (view m')
  unfolding view
  seen-is =
      view-after l m q r.name r.own (yanked l) (yanked m') first-is second_is
      ∙ ap (λ (ds : List DeckView). view l ++ map (raise_view up) ds) (sym (view-end m q.second (yanked m') a.name))

  pub taken-second : Taken l m l taken new
  taken-second =
      subst (λ (x : Library). Taken l m l taken x) (sym r.lib) (subst (λ (x : Library). Taken l m l x c') (sym a.lib) (record {
        decks = refl;
        first = active-first l m c' (yanked l) first-is;
        first_turned = turned-first l m q c' l first-is;
        second = active-second l m c' (yanked m') second_is;
        second_turned = turned-second l m q c' m' second_is;
        seen = seen-is;
      }))
