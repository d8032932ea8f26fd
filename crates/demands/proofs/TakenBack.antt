-- B1 and B2: the set that yanks all sets of any number of runs brings back the view.
use Prim.Native.Nat.{ℕ}
use mathlib.Core.Path.{◌≡◌, refl, sym, ap, ◌∙◌, subst}
use mathlib.Core.List.{List, [], ◌∷◌, ◌++◌, append-nil, append_assoc}
use lib.Dec.{T}
use lib.ListN.{length}
use Rattle.words_lines.specs.Directive.{lines}
use Rattle.library.specs.Each.{Each}
use Rattle.library.specs.Library.{Library}
use Rattle.library.specs.Image.{encode}
use Rattle.library.specs.Check.{good, check}
use Rattle.library.specs.Growth.{same_names, Growth}
use Rattle.library.specs.Sound.{Sound}
use Rattle.library.proofs.CheckSound.{check_sound}
use Rattle.library.proofs.EncodeCheck.{encode-check}
use Rattle.library.proofs.GrowthSteps.{growth-refl}
use Rattle.run_meaning.specs.Run.{updated, update, new_library, running}
use Rattle.run_meaning.specs.Units.{sets_of, yanked_names, only_sets, is_yanking_set}
use Rattle.run_meaning.proofs.StepSound.{update-sound}
use Rattle.run_meaning.proofs.AcceptedRun.{RanFrom, run-from, good-is}
use Rattle.run_meaning.proofs.UpdateGrowth.{EndsIn, update-ends, update-growth, update-decks}
use Rattle.run_meaning.proofs.YankingSet.{yanking-sets, sets-names}
use Rattle.compile_walk.specs.View.{view}
use Rattle.compile.specs.Compile.{compile_view, compiling, of_walk}
use Rattle.demands.specs.Demands.{Runs, no_run, one_run, sets_in, TakenBack, B1, B2}
use Rattle.demands.proofs.InactiveText.{compile-good}
use Rattle.demands.proofs.LibraryBack.{growth-back}

-- the image that the first of two rows of runs reads is accepted
first_good : {image mid last x : List ℕ} {xs ys : List (List ℕ)} → Runs image xs mid → Runs mid (x ∷ ys) last → (old : Library) × (check image ≡ good old)
first_good {x = x} (no_run {image}) (one_run room l e r) = let q : RanFrom image x room l = run-from image x room l e in (q.0, q.1)
first_good {image = image} (one_run {stream = stream} room l e r) s = let q : RanFrom image stream room l = run-from image stream room l e in (q.0, q.1)

no-run : {image last : List ℕ} → Runs image [] last → last ≡ image
no-run no_run = refl

abbrev WroteBack : List ℕ → List ℕ → List ℕ → Type 0
WroteBack image x last = (room : ℕ) × (l : Library) × (running image x room ≡ new_library l) × (last ≡ encode l)

only-run : {image x last : List ℕ} → Runs image (x ∷ []) last → WroteBack image x last
only-run (one_run room l e r) = (room, l, e, no-run r)

-- SETS IN ANY NUMBER OF RUNS: `first` has grown into the library of `image` by units of the names ns
pub record Reached (first : Library) (names : List ℕ) (image : List ℕ) : Type 0 where
  pub now : Library
  pub accepted : check image ≡ good now
  pub growth : Growth first names now
  pub decks : length now.decks ≡ length first.decks

runs-reach : (first : Library) (ns : List ℕ) {image last : List ℕ} {xs : List (List ℕ)} → Runs image xs last → Each (λ x. T (only_sets (lines x))) xs
    → Reached first ns image → Reached first (ns ++ sets_in xs) last
runs-reach first ns {last = last} no_run h r = subst (λ (m : List ℕ). Reached first m last) (sym (append-nil ns)) r
runs-reach first ns {image = image} {last = last} (one_run {stream = x} {streams = xs} room l e rest) h r =
    let q : RanFrom image x room l = run-from image x room l e in
    let same : q.0 ≡ r.now = good-is image q.0 r.now q.1 r.accepted in
    let u : update r.now x room ≡ updated l = subst (λ (o : Library). update o x room ≡ updated l) same q.2 in
    subst (λ (m : List ℕ). Reached first m last) (append_assoc ns (sets_of (lines x)) (sets_in xs))
    (runs-reach first (ns ++ sets_of (lines x)) rest h.1 (record {
      now = l;
      accepted = encode-check l (update-sound r.now x room l (check_sound image r.now r.accepted) u);
      growth = subst (λ (m : List ℕ). Growth first (ns ++ m) l) (sym (sets-names (lines x) h.0)) (update-growth first ns room r.now x l r.growth u);
      decks = update-decks (length first.decks) room r.now x l h.0 r.decks u;
    }))

-- THE SET THAT YANKS THEM
view-after : (old : Library) (ns : List ℕ) (corrected : Library) → Sound old → Sound corrected → Growth old ns corrected → length corrected.decks ≡ length old.decks
    → (yanking : List ℕ) → T (is_yanking_set (lines yanking)) → T (same_names ns (yanked_names (lines yanking)))
    → (room : ℕ) (new : Library) → update corrected yanking room ≡ updated new → view new ≡ view old
view-after old ns corrected so sc g d yanking t exact room new u =
    let e : EndsIn corrected yanking new = update-ends room corrected yanking new u in
    ap view (sym e.2)
    ∙ growth-back old ns corrected g so sc d 1 (lines yanking) t exact e.0 e.1

answer-after : (image : List ℕ) (old : Library) → check image ≡ good old → (ns corrected yanking back : List ℕ) → Reached old ns corrected → TakenBack corrected ns yanking back
    → (room : ℕ) → compiling back room ≡ compiling image room
answer-after image old o ns corrected yanking back r t room =
    let y : WroteBack corrected yanking back = only-run t.runs in
    let q : RanFrom corrected yanking y.0 y.1 = run-from corrected yanking y.0 y.1 y.2 in
    let u : update r.now yanking y.0 ≡ updated y.1 =
    subst (λ (m : Library). update m yanking y.0 ≡ updated y.1) (good-is corrected q.0 r.now q.1 r.accepted) q.2 in
    let s : Sound r.now = check_sound corrected r.now r.accepted in
    compile-good back y.1 (ap check y.3 ∙ encode-check y.1 (update-sound r.now yanking y.0 y.1 s u)) room
    ∙ ap (λ ds. of_walk (compile_view room ds))
    (view-after old ns r.now (check_sound image old o) s r.growth r.decks yanking t.yanks t.exactly y.0 y.1 u)
    ∙ sym (compile-good image old o room)

pub taken_back : B1
unfolding B1
taken_back image streams corrected yanking back c t room =
    let o : (old : Library) × (check image ≡ good old) = first_good c.runs t.runs in
    answer-after image o.0 o.1 (sets_in streams) corrected yanking back
    (runs-reach o.0 [] c.runs c.sets (record { now = o.0; accepted = o.1; growth = growth-refl o.0; decks = refl })) t room

-- the yanking set is a set like any other
pub restored : B2
unfolding B2 B1
restored image streams corrected yanking back again last c t a room =
    taken_back corrected (yanking ∷ []) back again last
    (record { runs = t.runs; sets = (yanking-sets (lines yanking) t.yanks, tt) })
    a room
