-- PROMISE. That B3 speaks of something: the shown stream is cut and run part after part, and without any one of B3's hypotheses the answer can be another.
--   the stream in parts       shown_parts, refused_parts, ShownCut
--   a hypothesis left out     differ, uncut, NoneSpareCut, long_parts, SizeNeeded
use Rattle.std.specs.Prelude.{ℕ, ◌≤◌, Bool, true, ◌&&◌, not, List, [], ◌∷◌, ◌++◌, T, eqb, length, replicate}
use Rattle.words.specs.Base.{bytes, all, same}
use Rattle.library.specs.Library.{fresh}
use Rattle.library.specs.Image.{encode}
use Rattle.library.specs.Check.{fault_number}
use Rattle.run_meaning.specs.Run.{Running, new_library, bad_library, bad_stream, running, why_number}
use Rattle.demands.specs.Shown.{stream_of, three, line_a3, line_b, compile_of, wrote, refused_with}
use Rattle.demands.specs.Cut.{whole, is_cut, run_parts}

-- THE SHOWN STREAM IN PARTS, one for each of its units, the last without its byte 10; and parts of which the second is refused, in its last unit
abbrev pub shown_parts : List (List ℕ)
shown_parts =
    stream_of ("*DECK PUMP" ∷ " A=1" ∷ " B=2" ∷ [])
    ∷ stream_of ("*IDENT ONE" ∷ "*DELETE PUMP.2" ∷ " A=3" ∷ [])
    ∷ stream_of ("*IDENT TWO" ∷ "*YANK ONE" ∷ [])
    ∷ (stream_of ("*IDENT THREE" ∷ []) ++ bytes "*YANK TWO") ∷ []

abbrev pub refused_parts : List (List ℕ)
refused_parts =
    stream_of ("*DECK PUMP" ∷ " A=1" ∷ " B=2" ∷ [])
    ∷ stream_of ("*IDENT ONE" ∷ "*DELETE PUMP.2" ∷ " A=3" ∷ "*IDENT TWO" ∷ "*YANK THREE" ∷ [])
    ∷ stream_of ("*IDENT THREE" ∷ "*YANK TWO" ∷ []) ∷ []

-- they are cut as B3 asks, make up the stream of THREE, and compile to what THREE does; the refused one is refused at the whole's line
pub record ShownCut : Type 0 where
  pub cut : T (is_cut shown_parts)
  pub stream : T (same (whole shown_parts ++ (10 ∷ [])) (stream_of three))
  pub size : length (whole shown_parts) ≤ 262144
  pub compiled : T (compile_of (run_parts (encode fresh) 0 shown_parts) (λ c. wrote c (line_a3 ∷ line_b ∷ []) 0))
  pub cut_too : T (is_cut refused_parts)
  pub refused : T (refused_with (run_parts (encode fresh) 0 refused_parts) 26 8)

-- A HYPOTHESIS LEFT OUT
abbrev pub differ : Running → Running → Bool
differ (new_library l) (new_library m) = not (same (encode l) (encode m))
differ (new_library l) (bad_library f p) = true
differ (new_library l) (bad_stream w n) = true
differ (bad_library f p) (new_library m) = true
differ (bad_library f p) (bad_library g q) = not (eqb (fault_number f) (fault_number g) && eqb p q)
differ (bad_library f p) (bad_stream w n) = true
differ (bad_stream w n) (new_library m) = true
differ (bad_stream w n) (bad_library f p) = true
differ (bad_stream w n) (bad_stream v k) = not (eqb (why_number w) (why_number v) && eqb n k)

-- a part that begins with no unit line, so that its text has nowhere to go; and one that ends no line
abbrev pub uncut : List (List (List ℕ))
uncut =
    (stream_of ("*DECK PUMP" ∷ " A=1" ∷ []) ∷ stream_of (" B=2" ∷ []) ∷ [])
    ∷ ((stream_of ("*DECK PUMP" ∷ []) ++ bytes " A=1") ∷ stream_of ("*DECK VALVE" ∷ []) ∷ []) ∷ []

unfoldable pub NoneSpareCut : Type 0
NoneSpareCut = T (all (λ ps. not (is_cut ps) && differ (run_parts (encode fresh) 0 ps) (running (encode fresh) (whole ps) 65536)) uncut)

-- a cut stream of more than 262,144 bytes, which is refused as a whole: 19, not 24 at its first line
unfoldable pub long_parts : List (List ℕ)
long_parts = replicate 262144 10 ∷ stream_of ("*DECK PUMP" ∷ []) ∷ []

pub record SizeNeeded : Type 0 where
  pub cut : T (is_cut long_parts)
  pub differs : T (differ (run_parts (encode fresh) 0 long_parts) (running (encode fresh) (whole long_parts) 65536))
