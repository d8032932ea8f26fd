-- Up to each place no word has bit 59, so the text starts where it would from there.
use Rattle.library_image.specs.Places.{text_at}
use mathlib.Core.Path.{◌≡◌}
use Rattle.library_image.proofs.cards.text_at.Given as goal

abbrev pub invariant-loop-i : goal.invariant-loop-i
invariant-loop-i l = text_at l.image l.at ≡ text_at l.image l.i
