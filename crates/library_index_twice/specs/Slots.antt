-- CODE. A slot for each key. The slots of an owner stand one after another from its start on, one for each number.
--   a key's slot               has_slot, slot_of
use Rattle.std.specs.Prelude.{ℕ, ◌+◌, ◌/◌, ◌%◌, ◌^◌, Bool, ◌&&◌, List, Option, Some, None, ltb, get_or, if◌then◌else◌}

-- A KEY'S SLOT, if it has one, under where those of each owner start
abbrev pub has_slot : List ℕ → ℕ → Bool
has_slot starts key = ltb (key / 2 ^ 18) 1024 && ltb (get_or starts (key / 2 ^ 18) 0 + key % 2 ^ 18) 65536

abbrev pub slot_of : List ℕ → ℕ → Option ℕ
slot_of starts key = if has_slot starts key then Some (get_or starts (key / 2 ^ 18) 0 + key % 2 ^ 18) else None
