-- An unknown owner has no card; a known one is looked for among all cards.
use native.Mathlib.Omega.{arith}
use lib.Seq.{length-take-le}
use Rattle.run.proofs.Sums.{entry_place}
use Rattle.run.proofs.Correcting.{seek-unknown, seek-missing, seek-known}
use Rattle.run.proofs.fixes.seek_card.Goals as goal

pub returns-then-own-eq0 : goal.returns-then-own-eq0
returns-then-own-eq0 c =
    let a = c.args in
    let e = c.entry_of-own.ensures.value in record { bounds = tt; seeks_card = seek-unknown a.w.now a.dir.now a.d a.r (omega (arith, e, c.if-own-eq0.true)) }

pub returns-then-d-p : goal.returns-then-d-p
returns-then-d-p c =
    let a = c.args in
    let o = c.entry_of-own in record { bounds = tt; seeks_card = seek-missing a.w.now a.dir.now a.d a.r o.result c.locate-p.result o.ensures.value (omega (arith, c.if-own-eq0.false)) c.locate-p.ensures.locates c.if-d-p.true }

pub returns : goal.returns
returns c =
    let a = c.args in
    let o = c.entry_of-own in
    let few = o.ensures.upper_bound in
    let long = length-take-le a.d.entries a.dir.now (entry_place _ _ c.requires.0.entries c.requires.1) in record {
      bounds = record { own = omega (arith, few, long, c.requires.0.entries); at = c.locate-p.ensures.at_in_bounds.0; index = c.if-d-p.false };
      seeks_card = seek-known a.w.now a.dir.now a.d a.r o.result c.locate-p.result o.ensures.value (omega (arith, c.if-own-eq0.false)) c.locate-p.ensures.locates c.if-d-p.false;
    }
