-- MEANING. Two libraries made one (RULES, "The merge").
--   the merge        merge
--   a common name    shared_name
--   over images      Merging, fitted_in, from_shared, merge_checked, merging
--   the answer       merged, merged_number, merged_value, merged_which, merge_into
-- What is raised and by how much: raise_byte, raise_card, raise_deck (library_raise/specs/RaisedCards.antt).
use Rattle.std.specs.Prelude.{ℕ, not, List, ◌++◌, map, ltb, length, drop, if◌then◌else◌, Result, Ok, Err}
use Rattle.std.proofs.Math.Option.{Option, none, some}
use Rattle.words.specs.Base.{place_from}
use Rattle.library.specs.Library.{Library, has_name}
use Rattle.library.specs.Image.{encode, within_limits}
use Rattle.library.specs.Check.{Checking, good, bad, check, fault_number}
use Rattle.library.specs.declared.Fault.{Fault}
use Rattle.library_raise.specs.RaisedCards.{raise_card, raise_deck}
use Rattle.merge_meaning.specs.declared.MergeRefused.{MergeRefused}
use Rattle.merge_meaning.specs.declared.MergeRefused.TheVariants.{First, Second, Shared, Limit, Space}

-- each part of the second comes after that part of the first, and its numbers go on where the first's directory ends
abbrev pub merge : Library → Library → Library
merge l m =
    let k : ℕ = length l.directory in
    record {
      directory = l.directory ++ m.directory;
      yanks = l.yanks ++ map (raise_card k) m.yanks;
      decks = l.decks ++ map (raise_deck k) m.decks;
    }

-- A COMMON NAME: where the second has its first one, a purged entry being none. The directory starts at word 2 of an image
abbrev pub shared_name : Library → Library → Option ℕ
shared_name l m = place_from (has_name l.directory) 2 m.directory

-- OVER IMAGES: the first's rows, the second's, 37, 31, 32; room is how many words the lent space has
pub data Merging : Type 0 where
  one_library : Library → Merging
  bad_first bad_second : Fault → ℕ → Merging
  shared_at : ℕ → Merging
  over_limit no_room : Merging

abbrev pub fitted_in : ℕ → Library → Merging
fitted_in room l = if not (within_limits l) then over_limit else if ltb room (length (encode l)) then no_room else one_library l

abbrev pub from_shared : ℕ → Library → Library → Option ℕ → Merging
from_shared room l m (some p) = shared_at p
from_shared room l m none = fitted_in room (merge l m)

abbrev pub merge_checked : ℕ → Checking → Checking → Merging
merge_checked room (bad f p) b = bad_first f p
merge_checked room (good l) (bad f p) = bad_second f p
merge_checked room (good l) (good m) = from_shared room l m (shared_name l m)

unfoldable pub merging : List ℕ → List ℕ → ℕ → Merging
merging first second room = merge_checked room (check first) (check second)

-- THE ANSWER, and what the lent space then holds
abbrev pub merged : Merging → Result ℕ MergeRefused
merged (one_library l) = Ok (length (encode l))
merged (bad_first f p) = Err (First (record { fault = f; place = p }))
merged (bad_second f p) = Err (Second (record { fault = f; place = p }))
merged (shared_at p) = Err (Shared p)
merged over_limit = Err Limit
merged no_room = Err Space

abbrev pub merge_into : Merging → List ℕ → List ℕ
merge_into (one_library l) space = encode l ++ drop (length (encode l)) space
merge_into (bad_first f p) space = space
merge_into (bad_second f p) space = space
merge_into (shared_at p) space = space
merge_into over_limit space = space
merge_into no_room space = space

-- THE NUMBERS: the row; the words written, or the place; which of the two libraries is at fault, 0 where it is neither
abbrev pub merged_number : Result ℕ MergeRefused → ℕ
merged_number (Ok n) = 0
merged_number (Err (First r)) = fault_number r.fault
merged_number (Err (Second r)) = fault_number r.fault
merged_number (Err (Shared p)) = 37
merged_number (Err Limit) = 31
merged_number (Err Space) = 32

abbrev pub merged_value : Result ℕ MergeRefused → ℕ
merged_value (Ok n) = n
merged_value (Err (First r)) = r.place
merged_value (Err (Second r)) = r.place
merged_value (Err (Shared p)) = p
merged_value (Err Limit) = 0
merged_value (Err Space) = 0

abbrev pub merged_which : Result ℕ MergeRefused → ℕ
merged_which (Ok n) = 0
merged_which (Err (First r)) = 1
merged_which (Err (Second r)) = 2
merged_which (Err (Shared p)) = 2
merged_which (Err Limit) = 0
merged_which (Err Space) = 0
