-- MEANING. The compile file of a library, and what the program writes (RULES, "The compile file", "The compile program").
--   over a view          line_room, compile_chosen, compile_view
--   over images          Compiling, compile_checked, compiling
--   the answer           compiled, file_of, compile_into
--   the table's numbers  stop_number, compiled_number, compiled_first, compiled_second
--   the program          refused_line, card_place, program_of, program_space, after_unpacking, program
use Rattle.std.specs.Prelude.{ℕ, ◌*◌, ◌/◌, List, [], ◌∷◌, ◌++◌, ltb, length, drop, if◌then◌else◌, Result, Ok, Err}
use Rattle.words.specs.Base.{bytes}
use Rattle.words.specs.Display.{blank}
use Rattle.words.specs.Names.{numeral}
use Rattle.words_packing.specs.Pack.{unpacking, unpacked, packing_number}
use Rattle.words_packing.specs.declared.PackingRefused.{PackingRefused}
use Rattle.library.specs.Check.{Checking, good, bad, check, fault_number}
use Rattle.library.specs.declared.Fault.{Fault}
use Rattle.compile_walk.specs.View.{DeckView, view, full_choice}
use Rattle.compile_walk.specs.Walk.{Walk, walked, halted, walk_decks}
use Rattle.compile_walk.specs.declared.Stop.{Stop}
use Rattle.compile_walk.specs.declared.Stop.TheVariants.{NoDeck, NotCommon, Deep, Many, Space}
use Rattle.compile_walk.specs.declared.Counts.{Counts}
use Rattle.compile.specs.declared.CompileRefused.{CompileRefused}
use Rattle.compile.specs.declared.CompileRefused.TheVariants.{Library as OfLibrary, Card as OfCard}

-- a space of so many bytes holds so many lines
abbrev pub line_room : ℕ → ℕ
line_room room = room / 91

-- called decks are looked up in the whole view; what is written is the choice, of which the full file is one
abbrev pub compile_chosen : ℕ → List DeckView → List DeckView → Walk
compile_chosen room ds chosen = walk_decks ds (line_room room) chosen [] 0

abbrev pub compile_view : ℕ → List DeckView → Walk
compile_view room ds = compile_chosen room ds (full_choice ds)

-- an image: the check, then the walk, in the order of writing
pub data Compiling : Type 0 where
  of_walk : Walk → Compiling
  of_library : Fault → ℕ → Compiling

abbrev pub compile_checked : ℕ → Checking → Compiling
compile_checked room (good l) = of_walk (compile_view room (view l))
compile_checked room (bad f p) = of_library f p

unfoldable pub compiling : List ℕ → ℕ → Compiling
compiling image room = compile_checked room (check image)

-- THE ANSWER, and what the lent space then holds
abbrev pub compiled : Compiling → Result Counts CompileRefused
compiled (of_walk (walked ls n)) = Ok (record { lines = length ls; calls = n })
compiled (of_walk (halted k o s)) = Err (OfCard (record { stop = k; owner = o; seq = s }))
compiled (of_library f p) = Err (OfLibrary (record { fault = f; place = p }))

abbrev pub file_of : List (List ℕ) → List ℕ
file_of [] = []
file_of (l ∷ ls) = l ++ file_of ls

abbrev pub compile_into : Compiling → List ℕ → List ℕ
compile_into (of_walk (walked ls n)) space = file_of ls ++ drop (length (file_of ls)) space
compile_into (of_walk (halted k o s)) space = space
compile_into (of_library f p) space = space

-- THE TABLE'S NUMBERS: the row; then lines and calls, or the place, or the card's owner and number
abbrev pub stop_number : Stop → ℕ
stop_number NoDeck = 40
stop_number NotCommon = 41
stop_number Deep = 42
stop_number Many = 43
stop_number Space = 44

abbrev pub compiled_number : Result Counts CompileRefused → ℕ
compiled_number (Ok n) = 0
compiled_number (Err (OfLibrary r)) = fault_number r.fault
compiled_number (Err (OfCard h)) = stop_number h.stop

abbrev pub compiled_first : Result Counts CompileRefused → ℕ
compiled_first (Ok n) = n.lines
compiled_first (Err (OfLibrary r)) = r.place
compiled_first (Err (OfCard h)) = h.owner

abbrev pub compiled_second : Result Counts CompileRefused → ℕ
compiled_second (Ok n) = n.calls
compiled_second (Err (OfLibrary r)) = 0
compiled_second (Err (OfCard h)) = h.seq

-- THE PROGRAM: packed words in, and out the file, of 720 lines of 91 bytes at most, or REFUSED, the number and the place, with a blank between and byte 10 at the end
abbrev pub refused_line : ℕ → List ℕ → List ℕ
refused_line n place = bytes "REFUSED " ++ (numeral n ++ (blank ∷ (place ++ (10 ∷ []))))

abbrev pub card_place : ℕ → ℕ → List ℕ
card_place o s = numeral o ++ (blank ∷ numeral s)

abbrev pub program_of : Compiling → List ℕ
program_of (of_walk (walked ls n)) = file_of ls
program_of (of_walk (halted k o s)) = refused_line (stop_number k) (card_place o s)
program_of (of_library f p) = refused_line (fault_number f) (numeral p)

abbrev pub program_space : ℕ
program_space = 720 * 91

abbrev pub after_unpacking : Result ℕ PackingRefused → List ℕ → List ℕ
after_unpacking (Ok n) ws = program_of (compiling ws program_space)
after_unpacking (Err e) ws = refused_line (packing_number (Err e)) (numeral 0)

-- 52 is ahead of 50; 30,720 bytes hold 4,096 words
unfoldable pub program : List ℕ → List ℕ
program input = if ltb 30720 (length input) then refused_line 52 (numeral 0) else after_unpacking (unpacking input 4096) (unpacked input)
