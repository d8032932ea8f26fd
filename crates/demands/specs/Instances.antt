-- PROMISE. That B1 and B2 speak of something: the shown sets meet their hypotheses, and without any one of these the answer can be another.
--   the shown sets           deck, one, two, three
--   their images             written_by, wrote_one, ran_on, written, before, corrected, back, restored
--   B1 and B2 are met        ShownBack
--   a hypothesis left out    Attempt, Ended, run_all, differ, fails, attempts, NoneSpare
use Rattle.std.specs.Prelude.{ℕ, Bool, true, false, ◌&&◌, not, List, [], ◌∷◌, ◌++◌, map, T, eqb}
use Prim.Native.String.{String}
use Rattle.std.specs.Bool.{beq}
use Rattle.words.specs.Base.{all, same, member}
use Rattle.words_lines.specs.Directive.{lines}
use Rattle.library.specs.Library.{Library, fresh}
use Rattle.library.specs.Image.{encode}
use Rattle.run_meaning.specs.Run.{Running, new_library, bad_library, bad_stream, running}
use Rattle.run_meaning.specs.Units.{yanked_names, only_sets, is_yanking_set}
use Rattle.compile_walk.specs.Walk.{walked, halted}
use Rattle.compile.specs.Compile.{Compiling, of_walk, of_library, compiling, file_of}
use Rattle.demands.specs.Shown.{stream_of, line_a, line_a3, line_b, wrote}
use Rattle.demands.specs.Demands.{sets_in, Corrected, TakenBack}

-- THE SHOWN SETS
abbrev pub deck : List ℕ
deck = stream_of ("*DECK PUMP" ∷ " A=1" ∷ " B=2" ∷ [])

abbrev pub one : List ℕ
one = stream_of ("*IDENT ONE" ∷ "*DELETE PUMP.2" ∷ " A=3" ∷ [])

abbrev pub two : List ℕ
two = stream_of ("*/ ONE IS WRONG" ∷ "*IDENT TWO" ∷ "*YANK ONE" ∷ "*END" ∷ [])

abbrev pub three : List ℕ
three = stream_of ("*IDENT THREE" ∷ "*YANK TWO" ∷ [])

-- THEIR IMAGES: what a run wrote, and whether it wrote any
abbrev pub written_by : Running → Library
written_by (new_library l) = l
written_by (bad_library f p) = fresh
written_by (bad_stream w n) = fresh

abbrev pub wrote_one : Running → Bool
wrote_one (new_library l) = true
wrote_one (bad_library f p) = false
wrote_one (bad_stream w n) = false

abbrev pub ran_on : List ℕ → List ℕ → Running
ran_on image x = running image x 65536

abbrev pub written : List ℕ → List ℕ → List ℕ
written image x = encode (written_by (ran_on image x))

abbrev pub before : List ℕ
before = written (encode fresh) deck

abbrev pub corrected : List ℕ
corrected = written before one

abbrev pub back : List ℕ
back = written corrected two

abbrev pub restored : List ℕ
restored = written back three

-- B1 AND B2 ARE MET, and ONE changed the compile file
pub record ShownBack : Type 0 where
  pub sets : Corrected before (one ∷ []) corrected
  pub yanked : TakenBack corrected (sets_in (one ∷ [])) two back
  pub again : TakenBack back (sets_in (two ∷ [])) three restored
  pub first : T (wrote (compiling before 65520) (line_a ∷ line_b ∷ []) 0)
  pub changed : T (wrote (compiling corrected 65520) (line_a3 ∷ line_b ∷ []) 0)

-- A HYPOTHESIS LEFT OUT: streams that bring in a library, correction streams, a stream that is to take them back, and which of B1's hypotheses hold
pub record Attempt : Type 0 where
  pub first : List String
  pub streams : List (List String)
  pub yanking : List String
  pub sets : Bool  -- the streams have sets alone
  pub yanks : Bool  -- the last stream is a set that only yanks
  pub each : Bool  -- it yanks each set of the streams
  pub no_other : Bool  -- and no other

-- the runs one after another: the last image, and whether none was refused
pub record Ended : Type 0 where
  pub image : List ℕ
  pub accepted : Bool

abbrev pub run_all : List ℕ → List (List ℕ) → Ended
run_all image [] = record { image = image; accepted = true }
run_all image (x ∷ xs) =
    let r : Ended = run_all (written image x) xs in
    record { image = r.image; accepted = wrote_one (ran_on image x) && r.accepted }

abbrev pub differ : Compiling → Compiling → Bool
differ (of_walk (walked ls n)) (of_walk (walked ms k)) = not (same (file_of ls) (file_of ms) && eqb n k)
differ (of_walk (walked ls n)) (of_walk (halted k o s)) = false
differ (of_walk (walked ls n)) (of_library f p) = false
differ (of_walk (halted k o s)) b = false
differ (of_library f p) b = false

-- none is refused, the hypotheses hold or not as said, and the answer is another
abbrev pub fails : Attempt → Bool
fails a =
    let image : List ℕ = written (encode fresh) (stream_of a.first) in
    let xs : List (List ℕ) = map stream_of a.streams in
    let y : List ℕ = stream_of a.yanking in
    let r : Ended = run_all image (xs ++ (y ∷ [])) in
    r.accepted
    && beq (all (λ x. only_sets (lines x)) xs) a.sets
    && beq (is_yanking_set (lines y)) a.yanks
    && beq (all (λ w. member w (yanked_names (lines y))) (sets_in xs)) a.each
    && beq (all (λ w. member w (sets_in xs)) (yanked_names (lines y))) a.no_other
    && differ (compiling image 65520) (compiling r.image 65520)

abbrev pub attempts : List Attempt
attempts =
    -- a deck among the sets stays
    record {
      first = "*DECK PUMP" ∷ " A=1" ∷ [];
      streams = ("*IDENT ONE" ∷ "*INSERT PUMP.2" ∷ " B=2" ∷ []) ∷ ("*DECK VALVE" ∷ " C=3" ∷ []) ∷ [];
      yanking = "*IDENT TWO" ∷ "*YANK ONE" ∷ [];
      sets = false;
      yanks = true;
      each = true;
      no_other = true;
    }
    -- the last set deletes a card too
    ∷ record {
      first = "*DECK PUMP" ∷ " A=1" ∷ [];
      streams = ("*IDENT ONE" ∷ "*INSERT PUMP.2" ∷ " B=2" ∷ []) ∷ [];
      yanking = "*IDENT TWO" ∷ "*YANK ONE" ∷ "*DELETE PUMP.2" ∷ [];
      sets = true;
      yanks = false;
      each = true;
      no_other = true;
    }
    -- one of two sets is not yanked
    ∷ record {
      first = "*DECK PUMP" ∷ " A=1" ∷ [];
      streams = ("*IDENT ONE" ∷ "*INSERT PUMP.2" ∷ " B=2" ∷ "*IDENT TWO" ∷ "*INSERT PUMP.2" ∷ " C=3" ∷ []) ∷ [];
      yanking = "*IDENT THREE" ∷ "*YANK TWO" ∷ [];
      sets = true;
      yanks = true;
      each = false;
      no_other = true;
    }
    -- a set from before is yanked with them
    ∷ record {
      first = "*DECK PUMP" ∷ " A=1" ∷ "*IDENT OLD" ∷ "*INSERT PUMP.2" ∷ " B=2" ∷ [];
      streams = ("*IDENT ONE" ∷ "*INSERT PUMP.2" ∷ " C=3" ∷ []) ∷ [];
      yanking = "*IDENT TWO" ∷ "*YANK ONE,OLD" ∷ [];
      sets = true;
      yanks = true;
      each = true;
      no_other = false;
    }
    ∷ []

unfoldable pub NoneSpare : Type 0
NoneSpare = T (all fails attempts)
