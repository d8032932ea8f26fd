use Rattle.run.specs.Desk.{SaneAfter}
use Rattle.run.specs.Resettled.{ObeysLine}
use Prim.Native.Nat.{◌+◌, ◌≤◌, ◌<◌}
use native.Mathlib.Omega.{arith}
use mathlib.Core.Path.{◌≡◌, refl, ◌∙◌, subst}
use lib.ListN.{length}
use Rattle.run.specs.Streamed.{in_arrays}
use Rattle.std.proofs.lemmas.Result.{err_from_is_err_and}
use Rattle.run.proofs.Streaming.{next_place, mapped-ok, mapped-err, goes-start, goes-more, goes-stop, goes_end}
use borrow.Author.Rules.{rules}
use Rattle.run.proofs.streams.obey_stream.Goals as goal

pub loop-at-init : goal.loop-at-init
loop-at-init c =
    let a = c.args in
    let pre = c.requires in (
      record {
        sane = pre.0;
        directory = pre.1.0;
        listed = refl;
        numbers = refl;
        flagged = refl;
        within = omega arith;
        number = omega arith;
      },
      goes-start (in_arrays a.w.now a.dir.now a.names.now a.decks.now a.flags.now) a.first a.stream.now,
    )

pub returns-in_err-d : goal.returns-in_err-d
returns-in_err-d c =
    let a = c.args in
    let l = c.loop-at in
    let lt : l.at < length a.stream.now = c.loop-at-test.true in
    let p = c.obey_line in
    let line = c.line_at-line in
    let old = in_arrays a.w.now a.dir.now a.names.now a.decks.now a.flags.now in
    let here = in_arrays l.w l.dir l.names l.decks l.flags in
    let new = in_arrays p.new.w p.new.dir p.new.names p.new.decks p.new.flags in
    let m = mapped-err p.result c.map_err.result l.n _ (λ y z k. search rules) c.map_err.ensures.cases c.in_err-d.field-0.0 c.in_err-d.was in
    let q = err_from_is_err_and c.from_residual.result c.from_residual.ensures.1 in
    rw (q.1, q.2, m.1.1) (record { sane_end = tt; obeys_stream = goes-stop old a.first a.stream.now here l.d l.n l.at l.invariant.1 line.result.now line.ensures lt new m.0 (subst (ObeysLine here l.d line.result.now new) m.1.0 p.ensures.obeys_line) })

pub overflow_add-n : goal.overflow_add-n
overflow_add-n c =
    let a = c.args in
    let l = c.loop-at in
    let lt : l.at < length a.stream.now = c.loop-at-test.true in
    let short : length a.stream.now ≤ 262144 = c.requires.1.1.1.1.1 in
    let number : l.n ≤ l.at + 1 = c.loop-at.invariant.0.number in
    search rules

pub loop-at-smaller : goal.loop-at-smaller
loop-at-smaller c =
    let a = c.args in
    let l = c.loop-at in
    let lt : l.at < length a.stream.now = c.loop-at-test.true in
    let short : length a.stream.now ≤ 262144 = c.requires.1.1.1.1.1 in
    let line = c.line_at-line in
    let next = c.line_after-next in
    let place = next_place a.stream.now l.at lt short line.result.now line.ensures next.result next.ensures in
    omega (arith, place.0)

pub loop-at-preserved : goal.loop-at-preserved
loop-at-preserved c =
    let a = c.args in
    let l = c.loop-at in
    let lt : l.at < length a.stream.now = c.loop-at-test.true in
    let short : length a.stream.now ≤ 262144 = c.requires.1.1.1.1.1 in
    let p = c.obey_line in
    let line = c.line_at-line in
    let old = in_arrays a.w.now a.dir.now a.names.now a.decks.now a.flags.now in
    let here = in_arrays l.w l.dir l.names l.decks l.flags in
    let new = in_arrays p.new.w p.new.dir p.new.names p.new.decks p.new.flags in
    let next = c.line_after-next in
    let place = next_place a.stream.now l.at lt short line.result.now line.ensures next.result next.ensures in
    let same1 : length p.new.dir ≡ length l.dir = search rules in
    let same2 : length p.new.names ≡ length l.names = search rules in
    let same3 : length p.new.decks ≡ length l.decks = search rules in
    let same4 : length p.new.flags ≡ length l.flags = search rules in
    let went = mapped-ok p.result c.map_err.result _ c.in_ok-d.d c.map_err.ensures.cases c.map_err.ensures.variant c.in_ok-d.was in
    let i = c.loop-at.invariant.0 in (
      record {
        sane = subst (SaneAfter p.new.w) went p.ensures.sane_after;
        directory = same1 ∙ i.directory;
        listed = same2 ∙ i.listed;
        numbers = same3 ∙ i.numbers;
        flagged = same4 ∙ i.flagged;
        within = place.1;
        number = omega (arith, i.number, place.0);
      },
      goes-more old a.first a.stream.now here l.d l.n l.at l.invariant.1 line.result.now line.ensures lt new c.in_ok-d.d next.result place.0 (subst (ObeysLine here l.d line.result.now new) went p.ensures.obeys_line),
    )

pub returns : goal.returns
returns c =
    let a = c.args in
    let l = c.loop-at in
    let old = in_arrays a.w.now a.dir.now a.names.now a.decks.now a.flags.now in
    let here = in_arrays l.w l.dir l.names l.decks l.flags in record { sane_end = l.invariant.0.sane; obeys_stream = goes_end old a.first a.stream.now here l.d l.n l.at l.invariant.1 c.loop-at-test.false }
