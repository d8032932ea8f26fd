-- PROMISE. How a walk ends that has lines and calls to write, whatever the space.
--   Ends
use Rattle.std.specs.Prelude.{ℕ, ◌≤◌, ◌<◌, List, length}
use Rattle.compile_walk.specs.Walk.{Walk, walked, halted}
use Rattle.compile_walk.specs.declared.Stop.TheVariants.{Many, Space}

-- these lines and so many calls, in a space for so many lines: in full, or 43 where the calls are too many, or 44 where the lines do not fit
pub data Ends (room : ℕ) (ls : List (List ℕ)) (n : ℕ) : Walk → Type 0 where
  in_full : length ls ≤ room → n ≤ 4096 → Ends room ls n (walked ls n)
  too_many : (owner seq : ℕ) → 4096 < n → Ends room ls n (halted Many owner seq)
  no_space : (owner seq : ℕ) → room < length ls → Ends room ls n (halted Space owner seq)
