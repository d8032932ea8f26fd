-- PROMISE. What the customer was promised, on images and streams as a caller meets them.
--   runs one after another     Runs, sets_in
--   corrections                Corrected
--   taking them back           TakenBack
--   the promises               LibraryBack, B1, B2, R6
use Rattle.std.specs.Prelude.{ℕ, ◌≡◌, List, [], ◌∷◌, T}
use Rattle.words_lines.specs.Directive.{lines}
use Rattle.library.specs.Each.{Each}
use Rattle.library.specs.Library.{Library}
use Rattle.library.specs.Image.{encode}
use Rattle.library.specs.Check.{good, check}
use Rattle.library.specs.Growth.{same_names}
use Rattle.library.specs.Alike.{Alike}
use Rattle.library.specs.Sound.{Sound}
use Rattle.run_meaning.specs.Step.{State, start}
use Rattle.run_meaning.specs.Run.{ended, steps, new_library, running}
use Rattle.run_meaning.specs.Units.{gather, sets_of, yanked_names, only_sets, is_yanking_set}
use Rattle.compile_walk.specs.View.{view}
use Rattle.compile.specs.Compile.{compiling}

-- the streams were run one after another, none refused: the first on `image`, each next on the image that the one ahead of it wrote, and the
-- last wrote `last`; each run had a space of its own
pub data Runs : List ℕ → List (List ℕ) → List ℕ → Type 0 where
  no_run : {image : List ℕ} → Runs image [] image
  one_run : {image last stream : List ℕ} {streams : List (List ℕ)} (room : ℕ) (l : Library)
      → running image stream room ≡ new_library l → Runs (encode l) streams last → Runs image (stream ∷ streams) last

-- the names of the sets on their IDENT lines
abbrev pub sets_in : List (List ℕ) → List ℕ
sets_in streams = gather (λ x. sets_of (lines x)) streams

-- correction sets, in any number of runs
pub record Corrected (image : List ℕ) (streams : List (List ℕ)) (corrected : List ℕ) : Type 0 where
  pub runs : Runs image streams corrected
  pub sets : Each (λ x. T (only_sets (lines x))) streams

-- a run of one set that only yanks, and yanks each set of these names and no other, in any order, repeated or not;
-- `*/` and END lines may stand anywhere in it
pub record TakenBack (corrected names yanking back : List ℕ) : Type 0 where
  pub runs : Runs corrected (yanking ∷ []) back
  pub yanks : T (is_yanking_set (lines yanking))
  pub exactly : T (same_names names (yanked_names (lines yanking)))

-- LibraryBack: the same as B1 below, of a sound library and the lines of streams: after the lines of sets, and those of a set that yanks each of
-- them, a compile file sees what it saw before. (So it does when that set is yanked in turn: the sets' library is then the old one.)
unfoldable pub LibraryBack : Type 0
LibraryBack = (old : Library) → Sound old
    → (n : ℕ) (sets : List (List ℕ)) → T (only_sets sets) → (s : State) → steps (start old) n sets ≡ ended s
    → (m : ℕ) (yanking : List (List ℕ)) → T (is_yanking_set yanking) → T (same_names (sets_of sets) (yanked_names yanking))
    → (t : State) → steps (start s.lib) m yanking ≡ ended t → view t.lib ≡ view old

-- B1: run correction sets in any number of runs, then one set that only yanks each of them, none refused: whatever space is lent, the full
-- compile answer is the one from before, its lines and counts or its refusal.
unfoldable pub B1 : Type 0
B1 = (image : List ℕ) (streams : List (List ℕ)) (corrected yanking back : List ℕ)
    → Corrected image streams corrected
    → TakenBack corrected (sets_in streams) yanking back
    → (room : ℕ) → compiling back room ≡ compiling image room

-- B2: yank that set in turn, not refused: the corrected compile answer is back.
unfoldable pub B2 : Type 0
B2 = (image : List ℕ) (streams : List (List ℕ)) (corrected yanking back again restored : List ℕ)
    → Corrected image streams corrected
    → TakenBack corrected (sets_in streams) yanking back
    → TakenBack back (sets_in (yanking ∷ [])) again restored
    → (room : ℕ) → compiling restored room ≡ compiling corrected room

-- R6: accepted libraries that are the same but for lines of cards that are not active have the same compile answers.
unfoldable pub R6 : Type 0
R6 = (image other : List ℕ) (l m : Library) → check image ≡ good l → check other ≡ good m → Alike l m
    → (room : ℕ) → compiling other room ≡ compiling image room
