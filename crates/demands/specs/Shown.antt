-- PROMISE. The shown example (RULES, "Shown example"), with shown runs of blanks and packed words (RULES, "Text", "Packing"), and a dozen cases more that pin what these leave
-- free, as one statement over one list, which is computed.
--   a case             Case, stream_of, ran_on, reads_back, gave, refused_with, answered, wrote, compile_of, programmed_to, holds
--   streams            pump, two, three, chain, chart_shown
--   compile lines      line_a, line_a3, line_b
--   the cases          cases
--   the statement      AllHold
use Rattle.std.specs.Prelude.{ℕ, Bool, false, ◌&&◌, List, [], ◌∷◌, ◌++◌, T, eqb, length, replicate, Result}
use Prim.Native.String.{String}
use Rattle.words.specs.Base.{bytes, all, same}
use Rattle.words_packing.specs.Pack.{packed, unpacked}
use Rattle.words.specs.Text.{compress, gap}
use Rattle.library.specs.Library.{fresh}
use Rattle.library.specs.Image.{encode}
use Rattle.library.specs.Check.{Checking, good, bad, check}
use Rattle.run_meaning.specs.Run.{Running, new_library, bad_library, bad_stream, running, why_number}
use Rattle.compile.specs.Compile.{Compiling, compiling, compiled, compile_into, compiled_number, compiled_first, compiled_second, program}
use Rattle.compile.specs.declared.CompileRefused.{CompileRefused}
use Rattle.compile_walk.specs.declared.Counts.{Counts}

pub data Case : Type 0 where
  gives : List String → List ℕ → Case  -- these lines, run on the fresh library, give these words, and the check reads them back
  refuses : List String → ℕ → ℕ → Case  -- these lines, run on the fresh library, are refused with this number at this line
  compiles : List String → List String → ℕ → Case  -- these lines, run on the fresh library, compile to these lines and so many calls
  halts : List String → ℕ → ℕ → ℕ → Case  -- these lines, run on the fresh library, do not compile: the number, the card's owner and number
  programs : List String → List String → Case  -- and the program writes these lines for the packed library
  inside : ℕ → List ℕ → Case  -- a run of blanks inside a line is compressed so
  leading : ℕ → List ℕ → Case  -- a run of blanks at its start
  packs : ℕ → ℕ → Case  -- so many words pack to so many bytes

abbrev pub stream_of : List String → List ℕ
stream_of [] = []
stream_of (s ∷ ss) = bytes s ++ (10 ∷ stream_of ss)

abbrev pub ran_on : List String → Running
ran_on ls = running (encode fresh) (stream_of ls) 65536

abbrev pub reads_back : Checking → List ℕ → Bool
reads_back (good l) ws = same (encode l) ws
reads_back (bad f p) ws = false

abbrev pub gave : Running → List ℕ → Bool
gave (new_library l) ws = same (encode l) ws && reads_back (check ws) ws
gave (bad_library f p) ws = false
gave (bad_stream w n) ws = false

abbrev pub refused_with : Running → ℕ → ℕ → Bool
refused_with (new_library l) k n = false
refused_with (bad_library f p) k n = false
refused_with (bad_stream w m) k n = eqb (why_number w) k && eqb m n

abbrev pub answered : Result Counts CompileRefused → ℕ → ℕ → ℕ → Bool
answered c k a b = eqb (compiled_number c) k && eqb (compiled_first c) a && eqb (compiled_second c) b

-- the file and its two counts
abbrev pub wrote : Compiling → List String → ℕ → Bool
wrote c file m = same (compile_into c []) (stream_of file) && answered (compiled c) 0 (length file) m

abbrev pub compile_of : Running → (Compiling → Bool) → Bool
compile_of (new_library l) test = test (compiling (encode l) 65520)
compile_of (bad_library f p) test = false
compile_of (bad_stream w n) test = false

abbrev pub programmed_to : Running → List ℕ → Bool
programmed_to (new_library l) file = same (program (packed (encode l))) file
programmed_to (bad_library f p) file = false
programmed_to (bad_stream w n) file = false

abbrev pub holds : Case → Bool
holds (gives ls ws) = gave (ran_on ls) ws
holds (refuses ls k n) = refused_with (ran_on ls) k n
holds (compiles ls file m) = compile_of (ran_on ls) (λ c. wrote c file m)
holds (halts ls k o n) = compile_of (ran_on ls) (λ c. answered (compiled c) k o n)
holds (programs ls file) = programmed_to (ran_on ls) (stream_of file)
holds (inside n cs) = same (compress (1 ∷ (replicate n gap ++ (2 ∷ [])))) (1 ∷ (cs ++ (2 ∷ [])))
holds (leading n cs) = same (compress (replicate n gap ++ (2 ∷ []))) (cs ++ (2 ∷ []))
holds (packs n b) = eqb (length (packed (replicate n 0))) b && same (unpacked (packed (replicate n 0))) (replicate n 0)

-- STREAMS: that of PUMP, then what TWO and THREE add
abbrev pub pump : List String
pump = "*DECK PUMP" ∷ " A=1" ∷ " B=2" ∷ "*IDENT ONE" ∷ "*DELETE PUMP.2" ∷ " A=3" ∷ []

abbrev pub two : List String
two = pump ++ ("*IDENT TWO" ∷ "*YANK ONE" ∷ [])

abbrev pub three : List String
three = two ++ ("*IDENT THREE" ∷ "*YANK TWO" ∷ [])

-- a common deck that calls another, from the first to the last of a chain; the deck P calls the first
abbrev pub chain : List String
chain =
    "*COMDECK C1" ∷ "*CALL C2" ∷ "*CD C2" ∷ "*CALL C3" ∷ "*CD C3" ∷ "*CALL C4" ∷ "*CD C4" ∷ "*CALL C5" ∷ "*CD C5" ∷ "*CALL C6"
    ∷ "*CD C6" ∷ "*CALL C7" ∷ "*CD C7" ∷ "*CALL C8" ∷ "*DECK P" ∷ "*CALL C1" ∷ []

-- every character in the order of the chart, but for the colon, which stands last
abbrev pub chart_shown : List String
chart_shown = "*DECK CHART" ∷ "ABCDEFGHIJKLMNOPQRSTUVWXYZ0123456789+-*/()$= ,.#[]%\"_!&'?<>@\\^;:" ∷ []

-- compile lines that several cases share
abbrev pub line_a : String
line_a = " A=1                                                                     PUMP            2"

abbrev pub line_a3 : String
line_a3 = " A=3                                                                     ONE             1"

abbrev pub line_b : String
line_b = " B=2                                                                     PUMP            3"

abbrev pub cases : List Case
cases =
    gives [] (0o03100503130004003147 ∷ 0o00000000000000000001 ∷ 0o31011613535353000000 ∷ [])
    -- PUMP: PUMP.2 is off, ONE.1 is on
    ∷ gives pump
    (0o03100503130004003147 ∷ 0o00000000000002000002
    ∷ 0o20251520000000000000 ∷ 0o17160500000000000000
    ∷ 0o31011613535353000000 ∷ 0o20251520000000000000
    ∷ 0o60000001000001200001 ∷ 0o47040503135520251520
    ∷ 0o00000001000002200001 ∷ 0o40000002000000000000 ∷ 0o55015434000000000000
    ∷ 0o60000001000001200002 ∷ 0o55015436000000000000
    ∷ 0o60000001000003200001 ∷ 0o55025435000000000000 ∷ [])
    -- TWO: ONE is yanked, so PUMP.2 is on, and ONE.1 off
    ∷ gives two
    (0o03100503130004003147 ∷ 0o00000000000003000002
    ∷ 0o20251520000000000000 ∷ 0o17160500000000000000 ∷ 0o24271700000000000000
    ∷ 0o31011613535353000000 ∷ 0o20251520000000000000
    ∷ 0o60000001000001200003 ∷ 0o47310116135517160500
    ∷ 0o60000001000001200001 ∷ 0o47040503135520251520
    ∷ 0o20000001000002200001 ∷ 0o40400002000000000000 ∷ 0o55015434000000000000
    ∷ 0o40000001000001600002 ∷ 0o55015436000000000000
    ∷ 0o60000001000003200001 ∷ 0o55025435000000000000 ∷ [])
    -- THREE: a YANK that is yanked itself counts no more
    ∷ gives three
    (0o03100503130004003147 ∷ 0o00000000000004000002
    ∷ 0o20251520000000000000 ∷ 0o17160500000000000000 ∷ 0o24271700000000000000 ∷ 0o24102205050000000000
    ∷ 0o31011613535353000000 ∷ 0o20251520000000000000
    ∷ 0o40000001000001600003 ∷ 0o47310116135517160500
    ∷ 0o60000001000001200004 ∷ 0o47310116135524271700
    ∷ 0o60000001000001200001 ∷ 0o47040503135520251520
    ∷ 0o00000001000002200001 ∷ 0o40000002000000000000 ∷ 0o55015434000000000000
    ∷ 0o60000001000001200002 ∷ 0o55015436000000000000
    ∷ 0o60000001000003200001 ∷ 0o55025435000000000000 ∷ [])
    -- blanks inside a line and at its start; packed words
    ∷ inside 65 (0 ∷ 0o77 ∷ 0o55 ∷ [])
    ∷ inside 66 (0 ∷ 0o77 ∷ 0o55 ∷ 0o55 ∷ [])
    ∷ inside 67 (0 ∷ 0o77 ∷ 0 ∷ 2 ∷ [])
    ∷ leading 4 (0o55 ∷ 0 ∷ 2 ∷ [])
    ∷ packs 3 23
    -- the compile example, by the library and by the program
    ∷ compiles pump (line_a3 ∷ line_b ∷ []) 0
    ∷ programs pump (line_a3 ∷ line_b ∷ [])
    -- a second DELETE adds no byte to a card that is off
    ∷ gives (pump ++ ("*IDENT TWO" ∷ "*DELETE PUMP.2" ∷ []))
    (0o03100503130004003147 ∷ 0o00000000000003000002
    ∷ 0o20251520000000000000 ∷ 0o17160500000000000000 ∷ 0o24271700000000000000
    ∷ 0o31011613535353000000 ∷ 0o20251520000000000000
    ∷ 0o60000001000001200001 ∷ 0o47040503135520251520
    ∷ 0o00000001000002200001 ∷ 0o40000002000000000000 ∷ 0o55015434000000000000
    ∷ 0o60000001000001200002 ∷ 0o55015436000000000000
    ∷ 0o60000001000003200001 ∷ 0o55025435000000000000 ∷ [])
    -- RESTORE adds an activating byte to a card that is off, and none to one that is on
    ∷ gives (pump ++ ("*IDENT TWO" ∷ "*RESTORE PUMP.2,PUMP.3" ∷ []))
    (0o03100503130004003147 ∷ 0o00000000000003000002
    ∷ 0o20251520000000000000 ∷ 0o17160500000000000000 ∷ 0o24271700000000000000
    ∷ 0o31011613535353000000 ∷ 0o20251520000000000000
    ∷ 0o60000001000001200001 ∷ 0o47040503135520251520
    ∷ 0o20000001000002200001 ∷ 0o40000002200003000000 ∷ 0o55015434000000000000
    ∷ 0o60000001000001200002 ∷ 0o55015436000000000000
    ∷ 0o60000001000003200001 ∷ 0o55025435000000000000 ∷ [])
    -- a later INSERT at a card goes ahead of the earlier one's text; a later BEFORE nearer the card; numbers run through the set
    ∷ compiles ("*DECK PUMP" ∷ " A=1" ∷ " B=2" ∷ "*IDENT ONE" ∷ "*INSERT PUMP.2" ∷ " C" ∷ " D" ∷ "*I PUMP.2" ∷ " E" ∷ "*BEFORE PUMP.3" ∷ " F" ∷ "*B,PUMP.3" ∷ " G" ∷ [])
    (line_a
    ∷ " E                                                                       ONE             3"
    ∷ " C                                                                       ONE             1"
    ∷ " D                                                                       ONE             2"
    ∷ " F                                                                       ONE             4"
    ∷ " G                                                                       ONE             5"
    ∷ line_b ∷ []) 0
    -- text after a DELETE stands after the whole range
    ∷ gives ("*DECK P" ∷ "A" ∷ "B" ∷ "*IDENT S" ∷ "*DELETE P.2,P.3" ∷ "C" ∷ [])
    (0o03100503130004003147 ∷ 0o00000000000002000002
    ∷ 0o20000000000000000000 ∷ 0o23000000000000000000
    ∷ 0o31011613535353000000 ∷ 0o20000000000000000000
    ∷ 0o60000001000001200001 ∷ 0o47040503135520000000
    ∷ 0o00000001000002200001 ∷ 0o40000002000000000000 ∷ 0o01000000000000000000
    ∷ 0o00000001000003200001 ∷ 0o40000002000000000000 ∷ 0o02000000000000000000
    ∷ 0o60000001000001200002 ∷ 0o03000000000000000000 ∷ [])
    -- a CALL two deep, a common deck without its deck card, a line past column 72 cut
    ∷ compiles ("*COMDECK C" ∷ " X" ∷ "*CALL D" ∷ "*CD D" ∷ " Y" ∷ "*DECK P" ∷ "*CA C" ∷ " ABCDEFGHIJKLMNOPQRSTUVWXYZ0123456789ABCDEFGHIJKLMNOPQRSTUVWXYZ0123456789XYZ" ∷ [])
    (" X                                                                       C               2"
    ∷ " Y                                                                       D               2"
    ∷ " ABCDEFGHIJKLMNOPQRSTUVWXYZ0123456789ABCDEFGHIJKLMNOPQRSTUVWXYZ012345678 P               3" ∷ []) 2
    -- eight calls deep, and nine
    ∷ compiles (chain ++ ("*CD C8" ∷ " X" ∷ [])) (" X                                                                       C8              2" ∷ []) 8
    ∷ halts (chain ++ ("*CD C8" ∷ "*CALL C9" ∷ "*CD C9" ∷ " X" ∷ [])) 42 9 2
    -- a CALL of no deck, and of one that is not common
    ∷ halts (pump ++ ("*DECK Q" ∷ "*CALL C" ∷ [])) 40 3 2
    ∷ halts (pump ++ ("*DECK Q" ∷ "*CALL PUMP" ∷ [])) 41 3 2
    -- a name is looked up in its own library's directory, and nowhere else
    ∷ refuses (pump ++ ("*IDENT TWO" ∷ "*YANK THREE" ∷ [])) 26 8
    ∷ refuses (pump ++ ("*IDENT TWO" ∷ "*YANK PUMP" ∷ [])) 27 8
    ∷ refuses (pump ++ ("*IDENT TWO" ∷ "*DELETE PUMP.1" ∷ [])) 30 8
    -- a correction outside a set
    ∷ refuses ("*DECK P" ∷ "*INSERT P.1" ∷ []) 24 2
    -- the chart: every character has its code, the colon 0001, and is read back; any other byte has none
    ∷ gives chart_shown
    (0o03100503130004003147 ∷ 0o00000000000001000002
    ∷ 0o03100122240000000000
    ∷ 0o31011613535353000000 ∷ 0o03100122240000000000
    ∷ 0o60000002000001200001 ∷ 0o47040503135503100122 ∷ 0o24000000000000000000
    ∷ 0o60000007000002200001
    ∷ 0o01020304050607101112 ∷ 0o13141516172021222324 ∷ 0o25262730313233343536 ∷ 0o37404142434445464750
    ∷ 0o51525354555657606162 ∷ 0o63646566677071727374 ∷ 0o75767700010000000000 ∷ [])
    ∷ compiles chart_shown ("ABCDEFGHIJKLMNOPQRSTUVWXYZ0123456789+-*/()$= ,.#[]%\"_!&'?<>@\\^;:         CHART           2" ∷ []) 0
    ∷ refuses ("*DECK P" ∷ "A" ∷ "a" ∷ []) 20 3
    ∷ []

unfoldable pub AllHold : Type 0
AllHold = T (all holds cases)
