-- PROMISE. M3: the compile file of a merged library (RULES, "The merge").
--   what a compile file sees     raise_shown, raise_view, ViewMerged
--   the file                     FileMerged, FileInFull
use Rattle.std.specs.Prelude.{ℕ, ◌+◌, ◌≤◌, ◌≡◌, List, ◌++◌, map, length}
use Rattle.library.specs.Library.{Library}
use Rattle.library.specs.Image.{encode}
use Rattle.compile_walk.specs.View.{Shown, DeckView, view}
use Rattle.compile_walk.specs.Walk.{Walk, walked}
use Rattle.compile_walk.specs.Ends.{Ends}
use Rattle.compile.specs.Compile.{line_room, of_walk, compiling}
use Rattle.merge_meaning.specs.Merge.{merge, one_library, merging}
use Rattle.merge_meaning.specs.Merged.{Mergeable}

-- an active card with its owner's number raised: its line, its owner's name and its number are printed, and stay
abbrev pub raise_shown : ℕ → Shown → Shown
raise_shown k c = record { line = c.line; owner = k + c.owner; name = c.name; seq = c.seq }

abbrev pub raise_view : ℕ → DeckView → DeckView
raise_view k d = record { name = d.name; common = d.common; lines = map (raise_shown k) d.lines }

-- a compile file sees the first's decks and then the second's, each with the cards that were active
abbrev pub ViewMerged : Type 0
ViewMerged = (l m : Library) → Mergeable l m → view (merge l m) ≡ view l ++ map (raise_view (length l.directory)) (view m)

-- M3: where both images compile, each in some space, the merged image has the first's lines and then the second's to write, and the calls of both
unfoldable pub FileMerged : Type 0
FileMerged = (first second : List ℕ) (room : ℕ) (c : Library) → merging first second room ≡ one_library c
    → (p : ℕ) (ls : List (List ℕ)) (n : ℕ) → compiling first p ≡ of_walk (walked ls n)
    → (q : ℕ) (ms : List (List ℕ)) (k : ℕ) → compiling second q ≡ of_walk (walked ms k)
    → (r : ℕ) → (w : Walk) × (compiling (encode c) r ≡ of_walk w) × Ends (line_room r) (ls ++ ms) (n + k) w

-- so it writes them wherever they fit and the calls are not too many
unfoldable pub FileInFull : Type 0
FileInFull = (first second : List ℕ) (room : ℕ) (c : Library) → merging first second room ≡ one_library c
    → (p : ℕ) (ls : List (List ℕ)) (n : ℕ) → compiling first p ≡ of_walk (walked ls n)
    → (q : ℕ) (ms : List (List ℕ)) (k : ℕ) → compiling second q ≡ of_walk (walked ms k)
    → (r : ℕ) → length (ls ++ ms) ≤ line_room r → n + k ≤ 4096 → compiling (encode c) r ≡ of_walk (walked (ls ++ ms) (n + k))
