-- CODE. The names of a directory as a tree. From each entry four ways go on, by two bits of a name's path at a time, the lowest first. A way has the place that it leads to, or 0:
-- none leads to the first entry, where every path begins.
--   a name's path         start_of, and the ways of `library_index_twice`
--   where its ways end    walked, entry_number
--   the tree              led, grown, grown_to, planted
--   a name's number       entry_by, Knows
use Rattle.std.specs.Prelude.{ℕ, zero, suc, ◌+◌, ◌*◌, ◌/◌, ◌%◌, ◌^◌, ◌≡◌, List, Result, Ok, Err, eqb, ltb, leb, length, get_or, set, if◌then◌else◌}
use Rattle.library_index_twice.specs.KeyTree.{way_of}
use Rattle.library.specs.Library.{entry_of}

-- A NAME'S PATH: its remainder by a prime, then its quotient
unfoldable pub start_of : ℕ → ℕ
start_of w = w / 1021 % 2 ^ 53 * 2 ^ 10 + w % 1021

-- WHERE ITS WAYS END, from a place on, through the first n entries: at the entry of a number, or else with a way; each way leads further on, so no more than n are gone
abbrev pub walked : ℕ → List ℕ → List ℕ → ℕ → ℕ → ℕ → ℕ → Result ℕ ℕ
walked zero directory ways n w at rest = Err (way_of 0 rest)
walked (suc k) directory ways n w at rest =
    let on : Result ℕ ℕ = walked k directory ways n w (get_or ways (way_of at rest) 0) (rest / 4) in
    if ltb at n
    then (if eqb (get_or directory at 0) w then Ok (at + 1) else (if leb (get_or ways (way_of at rest) 0) at then Err (way_of at rest) else on))
    else Err (way_of 0 rest)

abbrev pub entry_number : Result ℕ ℕ → ℕ
entry_number (Ok n) = n
entry_number (Err way) = 0

-- THE TREE: a way leads to the entry at place n where its name's ways end; a name that stands already has no other
abbrev pub led : List ℕ → ℕ → Result ℕ ℕ → List ℕ
led ways n (Ok m) = ways
led ways n (Err way) = set ways way n

abbrev pub grown : List ℕ → List ℕ → ℕ → List ℕ
grown directory ways n = led ways n (walked n directory ways n (get_or directory n 0) 0 (start_of (get_or directory n 0)))

-- the first n entries, one after another
abbrev pub grown_to : ℕ → List ℕ → List ℕ → List ℕ
grown_to zero directory ways = ways
grown_to (suc n) directory ways = grown directory (grown_to n directory ways) n

-- of no more entries than there is room for
unfoldable pub planted : List ℕ → List ℕ → List ℕ
planted directory ways = grown_to (if leb (length directory) 1024 then length directory else 1024) directory ways

-- A NAME'S NUMBER by these ways
unfoldable pub entry_by : List ℕ → List ℕ → ℕ → ℕ
entry_by directory ways w = if ltb 1024 (length directory) then entry_of directory w else entry_number (walked (length directory) directory ways (length directory) w 0 (start_of w))

-- ways by which every name has its number
abbrev pub Knows : List ℕ → List ℕ → Type 0
Knows directory ways = (w : ℕ) → entry_by directory ways w ≡ entry_of directory w
