-- PROMISE. That M1 to M5 speak of something, and of no more than they should: small merges with their answers, made by hand, and a computed case for each hypothesis left out.
--   images                made, after, accepted, merged_image, file, answer
--   two libraries         ships, boats
--   merges                Given, image_of, Merge, merge_holds, merge_cases, MergesHold
--   M1                    library_in, library_from, check_of, none_shared, nameless, tall, asked_of, same_bits, spare_tests, MergeSpare
--   M2                    stretches, numbers_test, NumbersSpare
--   M3                    caller, valve, times, busy, busier, calls, file_tests, FileSpare
--   M5                    one, two, yanks_one, yanks_two, gave, met_tests, YankMet, left, right, served, hull_too, reaches, spare_yank, YankSpare
use Rattle.std.specs.Prelude.{ℕ, zero, suc, ◌+◌, ◌-◌, ◌*◌, ◌^◌, Bool, true, false, ◌&&◌, not, List, [], ◌∷◌, ◌++◌, T, eqb, length, drop, replicate}
use Prim.Native.String.{String}
use Rattle.std.proofs.Math.Option.{Option, none, some}
use Rattle.words.specs.Base.{all, same}
use Rattle.words_lines.specs.Directive.{lines}
use Rattle.library.specs.Library.{Library, deck_names, fresh, purged, reserved}
use Rattle.library.specs.Yanks.{yanked}
use Rattle.library.specs.Image.{header, counts, encode, within_limits}
use Rattle.library.specs.Counts.{within_counts}
use Rattle.library.specs.Check.{Checking, good, bad, check, checked, checked_number}
use Rattle.run_meaning.specs.Units.{is_yanking_set}
use Rattle.compile.specs.Compile.{compiling, compiled, compiled_number, compiled_second, compile_into}
use Rattle.library_raise.specs.Raised.{raised_words}
use Rattle.merge_meaning.specs.Merge.{merge, shared_name, Merging, merging, merged, merged_number, merged_value, merged_which, merge_into}
use Rattle.merge_meaning.specs.Merged.{yank_words, deck_words}
use Rattle.demands.specs.Shown.{stream_of}
use Rattle.demands.specs.Instances.{wrote_one, ran_on, written}

-- IMAGES: what lines give, run on the fresh library; what they give on another, and whether they are accepted there; the merge; the compile file and its number
abbrev pub made : List String → List ℕ
made ls = written (encode fresh) (stream_of ls)

abbrev pub after : List ℕ → List String → List ℕ
after image ls = written image (stream_of ls)

abbrev pub accepted : List ℕ → List String → Bool
accepted image ls = wrote_one (ran_on image (stream_of ls))

abbrev pub merged_image : List ℕ → List ℕ → List ℕ
merged_image a b = merge_into (merging a b 65536) []

abbrev pub file : List ℕ → List ℕ
file image = compile_into (compiling image 65520) []

abbrev pub answer : List ℕ → ℕ
answer image = compiled_number (compiled (compiling image 65520))

-- TWO LIBRARIES with a yank in the one, and a yanked yank in the other
abbrev pub ships : List String
ships = "*DECK PUMP" ∷ " A=1" ∷ " B=2" ∷ "*IDENT ONE" ∷ "*DELETE PUMP.2" ∷ " A=3" ∷ "*IDENT TWO" ∷ "*YANK ONE" ∷ []

abbrev pub boats : List String
boats =
    "*COMDECK VALVE" ∷ " C=4" ∷ "*DECK HULL" ∷ " D=5" ∷ "*CALL VALVE" ∷ "*IDENT SET" ∷ "*DELETE HULL.2" ∷ " D=6"
    ∷ "*IDENT BACK" ∷ "*YANK SET" ∷ "*IDENT AGAIN" ∷ "*YANK BACK" ∷ []

-- MERGES: two images and a space of so many words; the row, the words written or the place, which library, and what is written
pub data Given : Type 0 where
  ran : List String → Given  -- what these lines give, run on the fresh library
  words : List ℕ → Given  -- these words
  entries : ℕ → ℕ → Given  -- so many purged entries, after so many of the name A

abbrev pub image_of : Given → List ℕ
image_of (ran ls) = made ls
image_of (words ws) = ws
image_of (entries n k) = header ∷ ((k + n) * 2 ^ 18 + 1) ∷ (replicate k 0o01000000000000000000 ++ (replicate n purged ++ (reserved ∷ [])))

pub record Merge : Type 0 where
  pub first : Given
  pub second : Given
  pub room : ℕ
  pub number : ℕ
  pub value : ℕ
  pub which : ℕ
  pub gives : List ℕ

abbrev pub merge_holds : Merge → Bool
merge_holds c =
    let r : Merging = merging (image_of c.first) (image_of c.second) c.room in
    let space : List ℕ = replicate c.room 9 in
    eqb (merged_number (merged r)) c.number && eqb (merged_value (merged r)) c.value && eqb (merged_which (merged r)) c.which
    && same (merge_into r space) (c.gives ++ drop (length c.gives) space)

abbrev pub merge_cases : List Merge
merge_cases =
    -- yanks and yanked yanks in both
    record {
      first = ran ships;
      second = ran boats;
      room = 44;
      number = 0;
      value = 44;
      which = 0;
      gives = 0o03100503130004003147 ∷ 0o00000000000010000004 ∷ 0o20251520000000000000 ∷ 0o17160500000000000000 ∷ 0o24271700000000000000 ∷ 0o26011426050000000000 ∷ 0o10251414000000000000 ∷ 0o23052400000000000000 ∷ 0o02010313000000000000 ∷ 0o01070111160000000000 ∷ 0o31011613535353000000 ∷ 0o20251520000000000000 ∷ 0o26011426050000000000 ∷ 0o10251414000000000000 ∷ 0o60000001000001200003 ∷ 0o47310116135517160500 ∷ 0o40000001000001600007 ∷ 0o47310116135523052400 ∷ 0o60000001000001200010 ∷ 0o47310116135502010313 ∷ 0o60000001000001200001 ∷ 0o47040503135520251520 ∷ 0o20000001000002200001 ∷ 0o40400002000000000000 ∷ 0o55015434000000000000 ∷ 0o40000001000001600002 ∷ 0o55015436000000000000 ∷ 0o60000001000003200001 ∷ 0o55025435000000000000 ∷ 0o60000002000001200004 ∷ 0o47031715040503135526 ∷ 0o01142605000000000000 ∷ 0o60000001000002200004 ∷ 0o55035437000000000000 ∷ 0o60000001000001200005 ∷ 0o47040503135510251414 ∷ 0o00000001000002200005 ∷ 0o40000006000000000000 ∷ 0o55045440000000000000 ∷ 0o60000001000001200006 ∷ 0o55045441000000000000 ∷ 0o60000002000003200005 ∷ 0o47030114145526011426 ∷ 0o05000000000000000000 ∷ [];
    }
    -- and the other way round
    ∷ record {
      first = ran boats;
      second = ran ships;
      room = 46;
      number = 0;
      value = 44;
      which = 0;
      gives = 0o03100503130004003147 ∷ 0o00000000000010000004 ∷ 0o26011426050000000000 ∷ 0o10251414000000000000 ∷ 0o23052400000000000000 ∷ 0o02010313000000000000 ∷ 0o01070111160000000000 ∷ 0o20251520000000000000 ∷ 0o17160500000000000000 ∷ 0o24271700000000000000 ∷ 0o31011613535353000000 ∷ 0o26011426050000000000 ∷ 0o10251414000000000000 ∷ 0o20251520000000000000 ∷ 0o40000001000001600004 ∷ 0o47310116135523052400 ∷ 0o60000001000001200005 ∷ 0o47310116135502010313 ∷ 0o60000001000001200010 ∷ 0o47310116135517160500 ∷ 0o60000002000001200001 ∷ 0o47031715040503135526 ∷ 0o01142605000000000000 ∷ 0o60000001000002200001 ∷ 0o55035437000000000000 ∷ 0o60000001000001200002 ∷ 0o47040503135510251414 ∷ 0o00000001000002200002 ∷ 0o40000003000000000000 ∷ 0o55045440000000000000 ∷ 0o60000001000001200003 ∷ 0o55045441000000000000 ∷ 0o60000002000003200002 ∷ 0o47030114145526011426 ∷ 0o05000000000000000000 ∷ 0o60000001000001200006 ∷ 0o47040503135520251520 ∷ 0o20000001000002200006 ∷ 0o40400007000000000000 ∷ 0o55015434000000000000 ∷ 0o40000001000001600007 ∷ 0o55015436000000000000 ∷ 0o60000001000003200006 ∷ 0o55025435000000000000 ∷ [];
    }
    -- histories of four bytes and more, raised word by word
    ∷ record {
      first = ran ships;
      second = ran ("*DECK RIG" ∷ " E=7" ∷ "*IDENT M1" ∷ "*DELETE RIG.2" ∷ "*IDENT M2" ∷ "*RESTORE RIG.2" ∷ "*IDENT M3" ∷ "*DELETE RIG.2" ∷ "*IDENT M4" ∷ "*RESTORE RIG.2" ∷ "*IDENT M5" ∷ "*YANK M3" ∷ []);
      room = 33;
      number = 0;
      value = 33;
      which = 0;
      gives = 0o03100503130004003147 ∷ 0o00000000000011000003 ∷ 0o20251520000000000000 ∷ 0o17160500000000000000 ∷ 0o24271700000000000000 ∷ 0o22110700000000000000 ∷ 0o15340000000000000000 ∷ 0o15350000000000000000 ∷ 0o15360000000000000000 ∷ 0o15370000000000000000 ∷ 0o15400000000000000000 ∷ 0o31011613535353000000 ∷ 0o20251520000000000000 ∷ 0o22110700000000000000 ∷ 0o60000001000001200003 ∷ 0o47310116135517160500 ∷ 0o60000001000001200011 ∷ 0o47310116135515360000 ∷ 0o60000001000001200001 ∷ 0o47040503135520251520 ∷ 0o20000001000002200001 ∷ 0o40400002000000000000 ∷ 0o55015434000000000000 ∷ 0o40000001000001600002 ∷ 0o55015436000000000000 ∷ 0o60000001000003200001 ∷ 0o55025435000000000000 ∷ 0o60000001000001200004 ∷ 0o47040503135522110700 ∷ 0o20000001000002200004 ∷ 0o00000005200006400007 ∷ 0o40200010000000000000 ∷ 0o55055442000000000000 ∷ [];
    }
    -- purged entries stay in place, and are no common name
    ∷ record {
      first = words (0o03100503130004003147 ∷ 0o00000000000002000001 ∷ 0o00000000000000000020 ∷ 0o21000000000000000000 ∷ 0o31011613535353000000 ∷ []);
      second = words (0o03100503130004003147 ∷ 0o00000000000003000001 ∷ 0o00000000000000000020 ∷ 0o00000000000000000020 ∷ 0o22000000000000000000 ∷ 0o31011613535353000000 ∷ []);
      room = 8;
      number = 0;
      value = 8;
      which = 0;
      gives = 0o03100503130004003147 ∷ 0o00000000000005000001 ∷ 0o00000000000000000020 ∷ 0o21000000000000000000 ∷ 0o00000000000000000020 ∷ 0o00000000000000000020 ∷ 0o22000000000000000000 ∷ 0o31011613535353000000 ∷ [];
    }
    -- no room for one word
    ∷ record {
      first = ran ships;
      second = ran boats;
      room = 43;
      number = 32;
      value = 0;
      which = 0;
      gives = [];
    }
    -- a name that both have: the second's first such word
    ∷ record {
      first = words (0o03100503130004003147 ∷ 0o00000000000002000001 ∷ 0o01000000000000000000 ∷ 0o02000000000000000000 ∷ 0o31011613535353000000 ∷ []);
      second = words (0o03100503130004003147 ∷ 0o00000000000003000001 ∷ 0o03000000000000000000 ∷ 0o02000000000000000000 ∷ 0o01000000000000000000 ∷ 0o31011613535353000000 ∷ []);
      room = 5;
      number = 37;
      value = 3;
      which = 2;
      gives = [];
    }
    -- a deck and a set of one name; and 37 comes ahead of 32
    ∷ record {
      first = ran ships;
      second = ran ("*DECK HULL" ∷ " D=5" ∷ "*IDENT PUMP" ∷ "*DELETE HULL.2" ∷ []);
      room = 0;
      number = 37;
      value = 3;
      which = 2;
      gives = [];
    }
    -- the first's rows come ahead of the second's
    ∷ record {
      first = words (0o03100503130004003147 ∷ 0o00000000000000000001 ∷ []);
      second = words (0o03100503130004003147 ∷ []);
      room = 0;
      number = 1;
      value = 2;
      which = 1;
      gives = [];
    }
    -- the second's own row
    ∷ record {
      first = ran ships;
      second = words (0o03100503130004003147 ∷ 0o00000000000000000001 ∷ 0o31011613535353000000 ∷ 0o00000000000000000000 ∷ []);
      room = 0;
      number = 5;
      value = 3;
      which = 2;
      gives = [];
    }
    -- too many entries, and no room either
    ∷ record {
      first = entries 1000 0;
      second = entries 24 0;
      room = 0;
      number = 31;
      value = 0;
      which = 0;
      gives = [];
    }
    -- the fresh library on either side gives the other one, in a space for exactly its words; in one word less it does not
    ∷ record { first = ran []; second = ran ships; room = length (made ships); number = 0; value = length (made ships); which = 0; gives = made ships }
    ∷ record { first = ran ships; second = ran []; room = length (made ships); number = 0; value = length (made ships); which = 0; gives = made ships }
    ∷ record { first = ran []; second = ran ships; room = length (made ships) - 1; number = 32; value = 0; which = 0; gives = [] }
    -- and a name that both have
    ∷ record {
      first = entries 1000 1;
      second = entries 24 1;
      room = 0;
      number = 37;
      value = 2;
      which = 2;
      gives = [];
    }
    ∷ []

unfoldable pub MergesHold : Type 0
MergesHold = T (all merge_holds merge_cases)

-- M1: each thing that `Mergeable` asks. A common name; too many entries; a first or a second library with an entry that is no name: the merged image is refused by the check
abbrev pub library_in : Checking → Library
library_in (good l) = l
library_in (bad f p) = fresh

abbrev pub library_from : Given → Library
library_from g = library_in (check (image_of g))

abbrev pub check_of : Library → ℕ
check_of l = checked_number (checked (check (encode l)))

abbrev pub none_shared : Library → Library → Bool
none_shared l m = is_none (shared_name l m)
  where
    is_none : Option ℕ → Bool
    is_none none = true
    is_none (some p) = false

abbrev pub nameless : Library
nameless = record { directory = 0 ∷ []; yanks = []; decks = [] }

-- a card with 65 bytes in its history
abbrev pub tall : Library
tall = record { directory = 0o01000000000000000000 ∷ []; yanks = record { line = []; seq = 1; owner = 1; later = replicate 64 (record { number = 1; activating = true }) } ∷ []; decks = [] }

-- what holds of the two, each as said: the first sound, the second sound, no common name, within the limits
abbrev pub asked_of : Library → Library → List Bool
asked_of l m = eqb (check_of l) 0 ∷ eqb (check_of m) 0 ∷ none_shared l m ∷ within_limits (merge l m) ∷ []

abbrev pub same_bits : List Bool → List Bool → Bool
same_bits [] [] = true
same_bits [] (b ∷ bs) = false
same_bits (a ∷ bs) [] = false
same_bits (true ∷ cs) (b ∷ bs) = b && same_bits cs bs
same_bits (false ∷ cs) (b ∷ bs) = not b && same_bits cs bs

abbrev pub spare_tests : List Bool
spare_tests =
    -- all four: it is sound
    (same_bits (true ∷ true ∷ true ∷ true ∷ []) (asked_of (library_from (ran ships)) (library_from (ran boats))) && eqb (check_of (merge (library_from (ran ships)) (library_from (ran boats)))) 0)
    ∷ (same_bits (true ∷ true ∷ false ∷ true ∷ []) (asked_of (library_from (ran ships)) (library_from (ran ships))) && eqb (check_of (merge (library_from (ran ships)) (library_from (ran ships)))) 4)
    ∷ (same_bits (true ∷ true ∷ true ∷ false ∷ []) (asked_of (library_from (entries 1000 0)) (library_from (entries 24 0))) && eqb (check_of (merge (library_from (entries 1000 0)) (library_from (entries 24 0)))) 3)
    ∷ (same_bits (false ∷ true ∷ true ∷ true ∷ []) (asked_of nameless fresh) && eqb (check_of (merge nameless fresh)) 4)
    ∷ (same_bits (true ∷ false ∷ true ∷ true ∷ []) (asked_of fresh nameless) && eqb (check_of (merge fresh nameless)) 4)
    -- the limits are not told from the counts where a history is too long
    ∷ (within_counts 1 1 1 (length (encode tall)) && not (within_limits (merge tall fresh)) && not (within_limits (merge fresh tall))) ∷ []

unfoldable pub MergeSpare : Type 0
MergeSpare = T (all (λ b. b) spare_tests)

-- M2: numbers past the first's directory are the second's: 3 + 4 is BACK, which is yanked there, and 7 of the first is nothing. With a common name a YANK of the second
-- names the first's set, so that its own is yanked no more, and the words are others
abbrev pub stretches : Library → Library → List ℕ
stretches l m =
    (header ∷ (counts l + counts m - 1) ∷ ((l.directory ++ m.directory) ++ (deck_names l ++ drop 1 (deck_names m))))
    ++ ((yank_words l ++ raised_words (length l.directory) (yank_words m)) ++ (deck_words l ++ raised_words (length l.directory) (deck_words m)))

abbrev pub numbers_test : Bool
numbers_test =
    let l : Library = library_from (ran ships) in
    let m : Library = library_from (ran boats) in
    yanked (merge l m) 0 (3 + 4) && not (yanked l 0 7) && yanked m 0 4 && yanked (merge l m) 0 2 && yanked l 0 2 && same (encode (merge l m)) (stretches l m)
    && not (yanked (merge l l) 0 (3 + 2)) && not (same (encode (merge l l)) (stretches l l))

unfoldable pub NumbersSpare : Type 0
NumbersSpare = T numbers_test

-- M3: it is met; each of the two has to compile, since a CALL that answered 40 may find a deck of the other; the lines have to fit; and the calls of both may be too many
abbrev pub caller : List ℕ
caller = made ("*DECK PUMP" ∷ " A=1" ∷ "*CALL VALVE" ∷ [])

abbrev pub valve : List ℕ
valve = made ("*COMDECK VALVE" ∷ " C=4" ∷ [])

-- a deck of 13 calls, each of 13, each of 13 of an empty deck: 2,379 calls and no line
abbrev pub times : ℕ → String → List String → List String
times zero s ss = ss
times (suc n) s ss = s ∷ times n s ss

abbrev pub busy : List ℕ
busy = made ("*COMDECK A" ∷ "*COMDECK B" ∷ times 13 "*CALL A" ("*COMDECK C" ∷ times 13 "*CALL B" ("*DECK D" ∷ times 13 "*CALL C" [])))

abbrev pub busier : List ℕ
busier = made ("*COMDECK E" ∷ "*COMDECK F" ∷ times 13 "*CALL E" ("*COMDECK G" ∷ times 13 "*CALL F" ("*DECK H" ∷ times 13 "*CALL G" [])))

abbrev pub calls : List ℕ → ℕ
calls image = compiled_second (compiled (compiling image 65520))

abbrev pub file_tests : List Bool
file_tests =
    (let a : List ℕ = made ships in
    let b : List ℕ = made boats in
    let c : List ℕ = merged_image a b in
    eqb (answer a) 0 && eqb (answer b) 0 && eqb (answer c) 0 && same (file c) (file a ++ file b) && eqb (length (file c)) 364
    && eqb (calls a) 0 && eqb (calls b) 1 && eqb (calls c) 1
    && eqb (compiled_number (compiled (compiling c 363))) 44)
    ∷ (eqb (answer caller) 40 && eqb (answer valve) 0 && eqb (answer (merged_image caller valve)) 0 && eqb (length (file (merged_image caller valve))) 182)
    ∷ (eqb (answer (merged_image valve caller)) 0 && eqb (length (file (merged_image valve caller))) 182)
    ∷ (let a : List ℕ = busy in
    let b : List ℕ = busier in
    eqb (answer a) 0 && eqb (calls a) 2379 && eqb (answer b) 0 && eqb (calls b) 2379 && eqb (answer (merged_image a b)) 43) ∷ []

unfoldable pub FileSpare : Type 0
FileSpare = T (all (λ b. b) file_tests)

-- M5: it is met by a set of either library, which changes that library's file
abbrev pub one : List ℕ
one = made ("*DECK PUMP" ∷ " A=1" ∷ "*IDENT ONE" ∷ "*DELETE PUMP.2" ∷ " A=3" ∷ [])

abbrev pub two : List ℕ
two = made ("*DECK HULL" ∷ " D=5" ∷ "*IDENT TWO" ∷ "*DELETE HULL.2" ∷ " D=6" ∷ [])

abbrev pub yanks_one : List String
yanks_one = "*IDENT U" ∷ "*YANK ONE" ∷ []

abbrev pub yanks_two : List String
yanks_two = "*IDENT U" ∷ "*YANK TWO" ∷ []

-- the lines are accepted on this library, and give this file
abbrev pub gave : List ℕ → List String → List ℕ → Bool
gave image ls ws = accepted image ls && eqb (answer (after image ls)) 0 && not (eqb (length ws) 0) && same (file (after image ls)) ws

abbrev pub met_tests : List Bool
met_tests =
    is_yanking_set (lines (stream_of yanks_one)) ∷ is_yanking_set (lines (stream_of yanks_two))
    ∷ gave (merged_image one two) yanks_one (file (after one yanks_one) ++ file two)
    ∷ gave (merged_image one two) yanks_two (file one ++ file (after two yanks_two))
    ∷ accepted one yanks_one ∷ accepted two yanks_two
    ∷ not (same (file (after one yanks_one)) (file one)) ∷ not (same (file (after two yanks_two)) (file two)) ∷ []

unfoldable pub YankMet : Type 0
YankMet = T (all (λ b. b) met_tests)

-- and not by a set that does more. In the merged library the cards of YANK$$$ of the second stand between the first's and the set's own, so a range over both
-- switches off a YANK of the second, and the card that it had brought back is gone
abbrev pub left : List ℕ
left = made ("*DECK P" ∷ "P2" ∷ "P3" ∷ "*IDENT S" ∷ "*DELETE P.2" ∷ "*IDENT T" ∷ "*YANK S" ∷ [])

abbrev pub right : List ℕ
right = made ("*DECK Q" ∷ "Q2" ∷ "Q3" ∷ "*IDENT V" ∷ "*DELETE Q.2" ∷ "*IDENT W" ∷ "*YANK V" ∷ [])

abbrev pub served : List ℕ
served = made ("*COMDECK VALVE" ∷ " C=4" ∷ "*IDENT ONE" ∷ "*INSERT VALVE.2" ∷ " C=5" ∷ [])

abbrev pub hull_too : List String
hull_too = "*DECK HULL" ∷ []

abbrev pub reaches : List String
reaches = "*IDENT U" ∷ "*YANK T" ∷ "*DELETE T.1,U.1" ∷ []

abbrev pub spare_yank : List Bool
spare_yank =
    not (is_yanking_set (lines (stream_of reaches)))
    ∷ accepted left reaches ∷ accepted (merged_image left right) reaches
    ∷ eqb (answer (after left reaches)) 0 ∷ eqb (answer right) 0
    ∷ not (same (file (after (merged_image left right) reaches)) (file (after left reaches) ++ file right))
    ∷ eqb (length (file (after left reaches) ++ file right)) 364 ∷ eqb (length (file (after (merged_image left right) reaches))) 273
    -- nor where the other library does not compile: its CALL finds a deck of the one
    ∷ accepted served yanks_one ∷ eqb (answer (after served yanks_one)) 0 ∷ eqb (answer caller) 40 ∷ accepted (merged_image served caller) yanks_one
    ∷ eqb (answer (after (merged_image served caller) yanks_one)) 0
    -- and it may be refused in the merged library where the other has its name, or where it is no set that only yanks
    ∷ accepted one yanks_one ∷ not (accepted (merged_image one (made ("*DECK U" ∷ []))) yanks_one) ∷ accepted one hull_too ∷ not (accepted (merged_image one two) hull_too) ∷ []

unfoldable pub YankSpare : Type 0
YankSpare = T (all (λ b. b) spare_yank)
