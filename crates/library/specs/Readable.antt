-- CODE. An image that the check accepted, and what its counts say, so that its parts can be taken.
--   Readable
use Rattle.std.specs.Prelude.{ℕ, ◌+◌, ◌/◌, ◌%◌, ◌^◌, ◌≤◌, ◌≡◌, List, length, get_or}
use Rattle.library.specs.Library.{Library}
use Rattle.library.specs.Check.{good, check}

pub record Readable (ws : List ℕ) : Type 0 where
  pub lib : Library
  pub accepted : check ws ≡ good lib
  pub long : length ws ≤ 65536
  pub entries : get_or ws 1 0 / 2 ^ 18 ≤ 1023
  pub some : 1 ≤ get_or ws 1 0 % 2 ^ 18
  pub decks : get_or ws 1 0 % 2 ^ 18 ≤ 255
  pub tables : 2 + get_or ws 1 0 / 2 ^ 18 + get_or ws 1 0 % 2 ^ 18 ≤ length ws
