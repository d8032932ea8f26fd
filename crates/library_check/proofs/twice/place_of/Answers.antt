use Rattle.library_check.proofs.Keying.{place-start, place-on, place_end}
use Rattle.library_check.proofs.twice.place_of.Goals as goal

pub loop-init : goal.loop-init
loop-init c = let a = c.args in λ d. place-start d a.image.now a.from a.k

pub loop-preserved : goal.loop-preserved
loop-preserved c =
    let a = c.args in
    let l = c.loop in
    λ d. place-on d a.image.now a.from a.k l.counter l.at (l.invariant d) c.see-at.result c.see-at.ensures.value c.loop-test.true

pub returns : goal.returns
returns c =
    let a = c.args in
    let l = c.loop in
    λ d ss h lt. place_end d a.image.now a.from a.k l.counter l.at (l.invariant d) c.loop-test.false ss h lt
