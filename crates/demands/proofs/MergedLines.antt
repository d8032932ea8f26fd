-- M3: where both libraries compile, the merged one writes the first's lines and then the second's.
-- both have is none.
use Prim.Native.Nat.{ℕ, ◌+◌, ◌≤◌}
use native.Mathlib.Omega.{arith}
use mathlib.Core.Path.{◌≡◌, refl, sym, ap, ◌∙◌, subst}
use mathlib.Core.Bool.{Bool, not}
use mathlib.Core.List.{List, [], ◌∷◌, ◌++◌, map}
use lib.Dec.{T, T_not, not_T}
use lib.ListN.{length}
use Rattle.words.specs.Base.{member}
use Rattle.library.specs.Library.{Deck, Library, name_at}
use Rattle.library.specs.Image.{encode}
use Rattle.library.specs.Check.{good, check}
use Rattle.library.specs.Yanks.{yanked}
use Rattle.compile_walk.specs.View.{Shown, DeckView, view_decks, view, full_choice}
use Rattle.compile_walk.specs.Walk.{common, look_in, Walk, walked}
use Rattle.compile.specs.Compile.{line_room, compile_view, Compiling, of_walk, of_library, compiling}
use Rattle.merge_meaning.specs.Merge.{merge}
use Rattle.merge_meaning.specs.Merged.{Mergeable}
use Rattle.compile_walk.specs.Ends.{Ends, in_full, too_many, no_space}
use Rattle.demands.specs.MergedFile.{raise_view, FileMerged, FileInFull}
use Rattle.library.proofs.AnyAndAll.{each_member}
use Rattle.merge_meaning.proofs.NamesApart.{not_first}
use Rattle.merge_meaning.proofs.MergedSound.{names_in, real-names, apart}
use Rattle.merge_meaning.proofs.AcceptedMerge.{MergedFrom, merged-from, mergeable, merged-passes}
use Rattle.compile_walk.proofs.WalkWrites.{WritesDecks, walk-writes, writes-walk}
use Rattle.demands.proofs.InactiveText.{compile-good}
use Rattle.demands.proofs.MergedView.{view-merged}
use Rattle.demands.proofs.JoinedViews.{view_names, look-member, writes-joined}

view-names : (yk : ℕ → ℕ → Bool) (directory : List ℕ) (ds : List Deck) → view_names (view_decks yk directory ds) ≡ names_in directory ds
view-names yk directory [] = refl
view-names yk directory (d ∷ ds) = ap {B = List ℕ} (λ r. name_at directory d.number ∷ r) (view-names yk directory ds)

pub names_of : (l : Library) → view_names (view l) ≡ names_in l.directory l.decks
unfolding view
names_of l = view-names (yanked l) l.directory l.decks

module _ (l m : Library) (g : Mergeable l m) where
  -- ds and es: views of the two, or of the two after sets
  pub past_first : (ds es : List DeckView) → view_names ds ≡ names_in l.directory l.decks → view_names es ≡ names_in m.directory m.decks
      → (w : ℕ) (cs : List Shown) → look_in w es ≡ common cs → T (not (member w (view_names ds)))
  past_first ds es e f w cs h =
      let at : T (member w (names_in m.directory m.decks)) = subst (λ (ns : List ℕ). T (member w ns)) f (look-member w es cs h) in
      let q = each_member _ (names_in m.directory m.decks) w at (real-names m g.second) in
      let off : T (not (member w l.directory)) = not_first l.directory m.directory (apart l m g.first g.second g.apart) w q.1 q.0 in
      not_T (member w (view_names ds))
      (λ u. T_not (member w l.directory) off
      (each_member _ (names_in l.directory l.decks) w (subst (λ (ns : List ℕ). T (member w ns)) e u) (real-names l g.first)).0)

  -- a library that sees the one view after the other writes the lines of both
  pub writes-both : (ds es : List DeckView) → view_names ds ≡ names_in l.directory l.decks → view_names es ≡ names_in m.directory m.decks
      → (new : Library) → view new ≡ ds ++ map (raise_view (length l.directory)) es
      → (ls ms : List (List ℕ)) (n j : ℕ) → WritesDecks ds (full_choice ds) ls n → WritesDecks es (full_choice es) ms j
      → WritesDecks (view new) (full_choice (view new)) (ls ++ ms) (n + j)
  writes-both ds es e f new v ls ms n j a b =
      subst (λ (xs : List DeckView). WritesDecks xs (full_choice xs) (ls ++ ms) (n + j)) (sym v)
      (writes-joined ds es (length l.directory) (past_first ds es e f) ls ms n j a b)

-- IMAGES
of-walk : (v w : Walk) → of_walk v ≡ of_walk w → v ≡ w
of-walk v w e = ap walk_of e
  where
    walk_of : Compiling → Walk
    walk_of (of_walk x) = x
    walk_of (of_library f p) = v

pub compiled-writes : (image : List ℕ) (l : Library) → check image ≡ good l → (p : ℕ) (ls : List (List ℕ)) (n : ℕ) → compiling image p ≡ of_walk (walked ls n) → WritesDecks (view l) (full_choice (view l)) ls n
compiled-writes image l e p ls n h =
    walk-writes (view l) (line_room p) (full_choice (view l)) ls n (of-walk (compile_view p (view l)) (walked ls n) (sym (compile-good image l e p) ∙ h))

pub file-merged : FileMerged
unfolding FileMerged
file-merged first second room c e p ls n a q ms k b r =
    let h : MergedFrom first second room c = merged-from first second room c e in
    let good-c : check (encode c) ≡ good c = (merged-passes first second room c e).1 in
    let g : Mergeable h.one h.two = mergeable h in
    let w : WritesDecks (view c) (full_choice (view c)) (ls ++ ms) (n + k) =
    subst (λ (x : Library). WritesDecks (view x) (full_choice (view x)) (ls ++ ms) (n + k)) (sym h.same)
    (writes-both h.one h.two g (view h.one) (view h.two) (names_of h.one) (names_of h.two) (merge h.one h.two) (view-merged h.one h.two g) ls ms n k (compiled-writes first h.one h.first p ls n a) (compiled-writes second h.two h.second q ms k b)) in
    (compile_view r (view c), compile-good (encode c) c good-c r, writes-walk (view c) (line_room r) w)

ends-full : (room : ℕ) (ls : List (List ℕ)) (n : ℕ) (w : Walk) → Ends room ls n w → length ls ≤ room → n ≤ 4096 → w ≡ walked ls n
ends-full room ls n w (in_full a b) x y = refl
ends-full room ls n w (too_many o s lt) x y = absurd (omega arith)
ends-full room ls n w (no_space o s lt) x y = absurd (omega arith)

pub file-in-full : FileInFull
unfolding FileMerged FileInFull
file-in-full first second room c e p ls n a q ms k b r x y =
    let h = file-merged first second room c e p ls n a q ms k b r in
    h.1 ∙ ap of_walk (ends-full (line_room r) (ls ++ ms) (n + k) h.0 h.2 x y)
