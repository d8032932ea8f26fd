-- M5: on images a set that only yanks does in a merged library what it does in the one whose sets it names.
use Prim.Native.Nat.{ℕ}
use mathlib.Core.Path.{◌≡◌, sym, ap, ap₂, ◌∙◌, subst}
use mathlib.Core.List.{List, [], ◌∷◌}
use lib.Dec.{T}
use Rattle.words_lines.specs.Directive.{lines}
use Rattle.library.specs.Library.{Library}
use Rattle.library.specs.Image.{encode}
use Rattle.library.specs.Check.{good, check}
use Rattle.library.specs.Sound.{Sound}
use Rattle.library.proofs.CheckSound.{check_sound}
use Rattle.library.proofs.EncodeCheck.{encode-check}
use Rattle.library.proofs.NameAtEnd.{deck-names-append}
use Rattle.compile_walk.specs.View.{view}
use Rattle.compile_walk.proofs.ViewBack.{taken_back_library}
use Rattle.compile.specs.Compile.{line_room, compile_view}
use Rattle.run_meaning.specs.Run.{updated, update, new_library, running}
use Rattle.run_meaning.specs.Units.{yanked_names, is_yanking_set}
use Rattle.run_meaning.proofs.AcceptedRun.{RanFrom, run-from, good-is}
use Rattle.merge_meaning.specs.Merge.{merge, one_library, merging}
use Rattle.merge_meaning.specs.Merged.{Mergeable}
use Rattle.demands.specs.MergedYank.{Taken, YankFirst, YankSecond, FileFirst, FileSecond}
use Rattle.merge_meaning.proofs.AcceptedMerge.{MergedFrom, merged-from, mergeable, merged-passes}
use Rattle.compile_walk.proofs.WalkWrites.{writes-walk}
use Rattle.merge_meaning.proofs.MergedSound.{names_in}
use Rattle.demands.proofs.InactiveText.{compile-good}
use Rattle.demands.proofs.JoinedViews.{view_names}
use Rattle.demands.proofs.MergedLines.{names_of, writes-both, compiled-writes}
use Rattle.demands.proofs.MergedYankFlags.{yanked-are-names, Ran, ran-set}
use Rattle.demands.proofs.TakenFirst.{taken-first}
use Rattle.demands.proofs.TakenSecond.{taken-second}

merge-is : (a b : List ℕ) (room : ℕ) (c : Library) → merging a b room ≡ one_library c → (l m : Library) → check a ≡ good l → check b ≡ good m → Mergeable l m × (c ≡ merge l m)
merge-is a b room c e l m p q =
    let h : MergedFrom a b room c = merged-from a b room c e in
    let x : h.one ≡ l = good-is a h.one l h.first p in
    let y : h.two ≡ m = good-is b h.two m h.second q in
    let g : Mergeable h.one h.two = mergeable h in
    (subst (λ (o : Library). Mergeable o m) x (subst (λ (o : Library). Mergeable h.one o) y g), h.same ∙ ap₂ merge x y)

ran_on_lem : (image : List ℕ) (b : Library) → check image ≡ good b → (x : List ℕ) → T (is_yanking_set (lines x)) → (room : ℕ) (new : Library) → running image x room ≡ new_library new
    → Ran b (yanked_names (lines x)) new
ran_on_lem image b e x t room new u =
    let f : RanFrom image x room new = run-from image x room new u in
    ran-set b x room new (check_sound image b e) t (subst (λ (o : Library). update o x room ≡ updated new) (good-is image f.0 b f.1 e) f.2)

pub yank-first : YankFirst
unfolding YankFirst
yank-first a b room c e l m p q x t i taken u j new v =
    let g = merge-is a b room c e l m p q in
    let ok : check (encode c) ≡ good (merge l m) = (merged-passes a b room c e).1 ∙ ap good g.1 in
    taken-first l m g.0 (yanked_names (lines x)) taken new (ran_on_lem a l p x t i taken u) (ran_on_lem (encode c) (merge l m) ok x t j new v)

pub yank-second : YankSecond
unfolding YankSecond
yank-second a b room c e l m p q x t i taken u j new v =
    let g = merge-is a b room c e l m p q in
    let ok : check (encode c) ≡ good (merge l m) = (merged-passes a b room c e).1 ∙ ap good g.1 in
    taken-second l m g.0 (yanked_names (lines x)) (yanked-are-names (lines x)) taken new (ran_on_lem b m q x t i taken u) (ran_on_lem (encode c) (merge l m) ok x t j new v)

-- FILES: a set that only yanks leaves the decks' names, and what it leaves passes the check
taken-names : (b : Library) (ws : List ℕ) (new : Library) → Sound b → Ran b ws new → view_names (view new) ≡ names_in b.directory b.decks
taken-names b ws new s r =
    ap (λ (x : Library). view_names (view x)) r.lib ∙ names_of (taken_back_library b r.name r.own) ∙ deck-names-append b.directory (r.name ∷ []) b.decks s.decks

taken-good : (b : Library) (ws : List ℕ) (new : Library) → Ran b ws new → check (encode new) ≡ good new
taken-good b ws new r = encode-check new (subst Sound (sym r.lib) r.sound)

pub file-first : FileFirst
unfolding FileFirst
file-first a b room c e x t p taken u q new v i ls n f j ms k h s =
    let d : MergedFrom a b room c = merged-from a b room c e in
    let l : Library = d.one in
    let m : Library = d.two in
    let g : Mergeable l m = (merge-is a b room c e l m d.first d.second).0 in
    let ok : check (encode c) ≡ good (merge l m) = (merged-passes a b room c e).1 ∙ ap good d.same in
    let y : Ran l (yanked_names (lines x)) taken = ran_on_lem a l d.first x t p taken u in
    let z : Ran (merge l m) (yanked_names (lines x)) new = ran_on_lem (encode c) (merge l m) ok x t q new v in
    let seen : Taken l m taken m new = taken-first l m g (yanked_names (lines x)) taken new y z in (
      compile_view s (view new),
      compile-good (encode new) new (taken-good (merge l m) (yanked_names (lines x)) new z) s,
      writes-walk (view new) (line_room s)
          (writes-both l m g (view taken) (view m) (taken-names l (yanked_names (lines x)) taken g.first y) (names_of m) new seen.seen ls ms n k
          (compiled-writes (encode taken) taken (taken-good l (yanked_names (lines x)) taken y) i ls n f) (compiled-writes b m d.second j ms k h)),
    )

pub file-second : FileSecond
unfolding FileSecond
file-second a b room c e x t p taken u q new v i ls n f j ms k h s =
    let d : MergedFrom a b room c = merged-from a b room c e in
    let l : Library = d.one in
    let m : Library = d.two in
    let g : Mergeable l m = (merge-is a b room c e l m d.first d.second).0 in
    let ok : check (encode c) ≡ good (merge l m) = (merged-passes a b room c e).1 ∙ ap good d.same in
    let y : Ran m (yanked_names (lines x)) taken = ran_on_lem b m d.second x t p taken u in
    let z : Ran (merge l m) (yanked_names (lines x)) new = ran_on_lem (encode c) (merge l m) ok x t q new v in
    let seen : Taken l m l taken new = taken-second l m g (yanked_names (lines x)) (yanked-are-names (lines x)) taken new y z in (
      compile_view s (view new),
      compile-good (encode new) new (taken-good (merge l m) (yanked_names (lines x)) new z) s,
      writes-walk (view new) (line_room s)
          (writes-both l m g (view l) (view taken) (names_of l) (taken-names m (yanked_names (lines x)) taken g.second y) new seen.seen ls ms n k
          (compiled-writes a l d.first i ls n f) (compiled-writes (encode taken) taken (taken-good m (yanked_names (lines x)) taken y) j ms k h)),
    )
