-- The line is what the words are expanded to; there is none where the image has no such words.
use mathlib.Core.Path.{refl, ap, ◌∙◌}
use Rattle.std.specs.Prelude.{unwrap_or}
use Rattle.library_image.proofs.CardPlaces.{line-outside, line_read}
use Rattle.library_image.proofs.cards.line_of.Goals as goal

pub returns-in-Some : goal.returns-in-Some
returns-in-Some c =
    let a = c.args in
    let e = c.in-Some.ensures.lookup in
    let u = c.unwrap_or.ensures in
    let s = line_read a.image.now a.line.now c.expand.new.line a.from a.to e.0.1 c.in-Some.words.now e.0.2 c.unwrap_or.result (u ∙ ap (λ r. unwrap_or r 0) c.expand.ensures.value) c.expand.ensures.line_after in
    record { upper_bound = s.0; value = s.1.0; line_after = s.1.1 }

pub returns-in-None : goal.returns-in-None
returns-in-None c =
    let a = c.args in
    let e = c.in-None.ensures.lookup in
    let s = line-outside a.image.now a.line.now a.line.now a.from a.to e.0 refl in
    record { upper_bound = s.0; value = s.1.0; line_after = s.1.1 }
