-- PROMISE. M5: a set that only yanks, run on a merged library, does there what it does in the library whose sets it names, and nothing to the other (RULES, "The merge").
-- A number that is looked up in the wrong one of two directories would switch off cards of the other library (RULES, "Slips to avoid").
--   what such a set leaves    turned, Taken
--   its cards                 YankFirst, YankSecond
--   the compile file          FileFirst, FileSecond
--   when it is accepted       only_limits, AllowedFirst, AllowedSecond
use Rattle.std.specs.Prelude.{ℕ, ◌+◌, ◌≡◌, Bool, true, false, ◌||◌, not, List, ◌++◌, map, T, eqb, length}
use Rattle.std.specs.Bool.{beq}
use Rattle.words_lines.specs.Directive.{lines}
use Rattle.library.specs.Each.{Each}
use Rattle.library.specs.Library.{Card, Library, entry_of}
use Rattle.library.specs.Yanks.{active, yanked}
use Rattle.library.specs.Image.{encode}
use Rattle.library.specs.Check.{good, check}
use Rattle.library.specs.Sound.{SoundCard}
use Rattle.run_meaning.specs.Run.{Running, new_library, bad_library, bad_stream, running, why_number}
use Rattle.run_meaning.specs.Units.{sets_of, is_yanking_set}
use Rattle.compile_walk.specs.View.{view}
use Rattle.compile_walk.specs.Walk.{Walk, walked}
use Rattle.compile_walk.specs.Ends.{Ends}
use Rattle.compile.specs.Compile.{line_room, of_walk, compiling}
use Rattle.library_raise.specs.RaisedCards.{raise_card}
use Rattle.merge_meaning.specs.Merge.{merge, one_library, merging}
use Rattle.merge_meaning.specs.Merged.{raise_deck_number}
use Rattle.demands.specs.MergedFile.{raise_view}

-- whether a card of a deck (0: YANK$$$) is active in one of two libraries and not in the other
abbrev pub turned : Library → Library → ℕ → Card → Bool
turned old new deck c = not (beq (active (yanked old deck) c) (active (yanked new deck) c))

-- l and m are merged, and `new` comes of that by a set; `one` and `two` are what l and m come to. The decks' cards are those of the merged library. A card of l is
-- as active in `new` as in `one`, and so it is turned where it is turned from l to `one`; one of m likewise, under its raised number; in YANK$$$ and in every
-- deck. A compile file sees what it sees of `one`, and then what it sees of `two`
pub record Taken (l m one two new : Library) : Type 0 where
  pub decks : new.decks ≡ (merge l m).decks
  pub first : (deck : ℕ) (c : Card) → SoundCard l.directory c → active (yanked new deck) c ≡ active (yanked one deck) c
  pub first_turned : (deck : ℕ) (c : Card) → SoundCard l.directory c → turned (merge l m) new deck c ≡ turned l one deck c
  pub second : (deck : ℕ) (c : Card) → SoundCard m.directory c
      → active (yanked new (raise_deck_number (length l.directory) deck)) (raise_card (length l.directory) c) ≡ active (yanked two deck) c
  pub second_turned : (deck : ℕ) (c : Card) → SoundCard m.directory c
      → turned (merge l m) new (raise_deck_number (length l.directory) deck) (raise_card (length l.directory) c) ≡ turned m two deck c
  pub seen : view new ≡ view one ++ map (raise_view (length l.directory)) (view two)

-- M5: a set that only yanks, accepted on the first alone and on the merged library: the second's cards are as they were
unfoldable pub YankFirst : Type 0
YankFirst = (a b : List ℕ) (room : ℕ) (c : Library) → merging a b room ≡ one_library c
    → (l m : Library) → check a ≡ good l → check b ≡ good m
    → (x : List ℕ) → T (is_yanking_set (lines x))
    → (p : ℕ) (taken : Library) → running a x p ≡ new_library taken
    → (q : ℕ) (new : Library) → running (encode c) x q ≡ new_library new → Taken l m taken m new

-- or on the second alone: the first's cards are as they were
unfoldable pub YankSecond : Type 0
YankSecond = (a b : List ℕ) (room : ℕ) (c : Library) → merging a b room ≡ one_library c
    → (l m : Library) → check a ≡ good l → check b ≡ good m
    → (x : List ℕ) → T (is_yanking_set (lines x))
    → (p : ℕ) (taken : Library) → running b x p ≡ new_library taken
    → (q : ℕ) (new : Library) → running (encode c) x q ≡ new_library new → Taken l m l taken new

-- so the file is the one library's with those sets taken back, and the other's as it was, in their order
unfoldable pub FileFirst : Type 0
FileFirst = (a b : List ℕ) (room : ℕ) (c : Library) → merging a b room ≡ one_library c
    → (x : List ℕ) → T (is_yanking_set (lines x))
    → (p : ℕ) (taken : Library) → running a x p ≡ new_library taken
    → (q : ℕ) (new : Library) → running (encode c) x q ≡ new_library new
    → (i : ℕ) (ls : List (List ℕ)) (n : ℕ) → compiling (encode taken) i ≡ of_walk (walked ls n)
    → (j : ℕ) (ms : List (List ℕ)) (k : ℕ) → compiling b j ≡ of_walk (walked ms k)
    → (r : ℕ) → (w : Walk) × (compiling (encode new) r ≡ of_walk w) × Ends (line_room r) (ls ++ ms) (n + k) w

unfoldable pub FileSecond : Type 0
FileSecond = (a b : List ℕ) (room : ℕ) (c : Library) → merging a b room ≡ one_library c
    → (x : List ℕ) → T (is_yanking_set (lines x))
    → (p : ℕ) (taken : Library) → running b x p ≡ new_library taken
    → (q : ℕ) (new : Library) → running (encode c) x q ≡ new_library new
    → (i : ℕ) (ls : List (List ℕ)) (n : ℕ) → compiling a i ≡ of_walk (walked ls n)
    → (j : ℕ) (ms : List (List ℕ)) (k : ℕ) → compiling (encode taken) j ≡ of_walk (walked ms k)
    → (r : ℕ) → (w : Walk) × (compiling (encode new) r ≡ of_walk w) × Ends (line_room r) (ls ++ ms) (n + k) w

-- and a set that only yanks, accepted on the one library, is accepted on the merged one too where the other lacks its name, or is refused for a limit (31) or for the space (32) alone
abbrev pub only_limits : Running → Bool
only_limits (new_library l) = true
only_limits (bad_library f p) = false
only_limits (bad_stream w n) = eqb (why_number w) 31 || eqb (why_number w) 32

unfoldable pub AllowedFirst : Type 0
AllowedFirst = (a b : List ℕ) (room : ℕ) (c : Library) → merging a b room ≡ one_library c
    → (m : Library) → check b ≡ good m
    → (x : List ℕ) → T (is_yanking_set (lines x)) → Each (λ w. entry_of m.directory w ≡ 0) (sets_of (lines x))
    → (p : ℕ) (taken : Library) → running a x p ≡ new_library taken
    → (q : ℕ) → T (only_limits (running (encode c) x q))

unfoldable pub AllowedSecond : Type 0
AllowedSecond = (a b : List ℕ) (room : ℕ) (c : Library) → merging a b room ≡ one_library c
    → (l : Library) → check a ≡ good l
    → (x : List ℕ) → T (is_yanking_set (lines x)) → Each (λ w. entry_of l.directory w ≡ 0) (sets_of (lines x))
    → (p : ℕ) (taken : Library) → running b x p ≡ new_library taken
    → (q : ℕ) → T (only_limits (running (encode c) x q))
