-- PROMISE. A run makes sound libraries of sound ones.
--   UpdateSound
use Rattle.std.specs.Prelude.{ℕ, ◌≡◌, List}
use Rattle.library.specs.Library.{Library}
use Rattle.library.specs.Sound.{Sound}
use Rattle.run_meaning.specs.Run.{updated, update}

-- the library after an accepted stream is sound where the old one was
abbrev pub UpdateSound : Type 0
UpdateSound = (old : Library) (stream : List ℕ) (room : ℕ) (new : Library) → Sound old → update old stream room ≡ updated new → Sound new
