-- With the gap ahead of the range a deck card in it is 30; marks that do not fit are 31; and else the range is marked.
use Prim.Native.Nat.{ℕ, ◌+◌, ◌-◌, ◌≤◌}
use native.Mathlib.Omega.{arith}
use mathlib.Core.Path.{◌≡◌, sym, ◌∙◌, subst}
use mathlib.Core.Bool.{true, false}
use lib.ListN.{length}
use Rattle.std.proofs.lemmas.Result.{err_from_is_err_and}
use Rattle.run.specs.GapWords.{Ordered}
use Rattle.run.specs.Work.{KeepsOrder}
use Rattle.run.specs.RangeSteps.{HasTitle}
use Rattle.run.proofs.Sums.{room-place, entry-below}
use Rattle.run.proofs.RangeMarking.{same-sane, found-barred, found-refused, found-done}
use Rattle.run.proofs.ranges.mark_found.Goals as goal

pub shape_of-w-then-has_title : goal.shape_of-w-then-has_title
shape_of-w-then-has_title c = c.open_ahead-h.auto.w

pub returns-then-has_title : goal.returns-then-has_title
returns-then-has_title c =
    let a = c.args in
    let pre = c.requires in
    let o = c.open_ahead-h in
    let n = c.has_title in
    let half : length o.new.w ≡ length a.w.now = c.open_ahead-h.auto.w in
    let titles : HasTitle o.new.w a.decks.now o.result.hi (a.l.index - a.f.index + 1) true = subst (HasTitle o.new.w a.decks.now o.result.hi (a.l.index - a.f.index + 1)) c.if-has_title.true n.ensures in record { sane_after = tt; marks_found = found-barred a.w.now a.dir.now a.decks.now a.flags.now a.d a.was a.f a.l a.seq pre.0 pre.1.1.1.0 o.new.w o.result half o.ensures.ordered o.ensures.opens_ahead titles o.new.w a.flags.now }

pub mark_to-requires : goal.mark_to-requires
mark_to-requires c =
    let p = c.requires in
    let o = c.open_ahead-h in
    let h = c.open_ahead-h.result.hi in
    ((o.ensures.ordered.0, subst (λ (k : ℕ). h ≤ k) (sym o.auto.w) o.ensures.ordered.1), (room-place _ (o.auto.w ∙ p.0.room), entry-below _ p.0.entries))

pub range_marked-requires : goal.range_marked-requires
range_marked-requires c =
    let a = c.args in
    let pre = c.requires in
    let o = c.open_ahead-h in
    let half : length o.new.w ≡ length a.w.now = c.open_ahead-h.auto.w in
    let m = c.mark_to in
    let full : length m.new.w ≡ length a.w.now = m.auto.w ∙ half in
    let k = c.in_ok-k.k in
    let ordered : Ordered o.new.w k = subst (KeepsOrder o.new.w) c.in_ok-k.was m.ensures.keeps_order in
    (same-sane a.w.now m.new.w a.d pre.0 full, ((omega (arith, ordered.0, o.ensures.ordered.0), omega (arith, ordered.1, o.ensures.ordered.1, half, full)), (pre.1.0, (pre.1.1.0, pre.1.1.1.1))))

pub shape_of-w-in_err-k : goal.shape_of-w-in_err-k
shape_of-w-in_err-k c = c.mark_to.auto.w ∙ c.open_ahead-h.auto.w

pub returns-in_err-k : goal.returns-in_err-k
returns-in_err-k c =
    let a = c.args in
    let pre = c.requires in
    let o = c.open_ahead-h in
    let n = c.has_title in
    let half : length o.new.w ≡ length a.w.now = c.open_ahead-h.auto.w in
    let titles : HasTitle o.new.w a.decks.now o.result.hi (a.l.index - a.f.index + 1) false = subst (HasTitle o.new.w a.decks.now o.result.hi (a.l.index - a.f.index + 1)) c.if-has_title.false n.ensures in
    let m = c.mark_to in
    let full : length m.new.w ≡ length a.w.now = m.auto.w ∙ half in
    let q = err_from_is_err_and c.from_residual.result c.from_residual.ensures.1 in
    rw (q.1, q.2) (record { sane_after = tt; marks_found = found-refused a.w.now a.dir.now a.decks.now a.flags.now a.d a.was a.f a.l a.seq pre.0 pre.1.1.1.0 o.new.w o.result half o.ensures.ordered o.ensures.opens_ahead titles m.new.w m.result full m.ensures.marks_to c.in_err-k.field-0.0 c.in_err-k.was a.flags.now })

pub shape_of-w : goal.shape_of-w
shape_of-w c = c.range_marked.auto.w ∙ c.mark_to.auto.w ∙ c.open_ahead-h.auto.w

pub shape_of-flags : goal.shape_of-flags
shape_of-flags c = c.range_marked.auto.flags

pub returns : goal.returns
returns c =
    let a = c.args in
    let pre = c.requires in
    let o = c.open_ahead-h in
    let n = c.has_title in
    let half : length o.new.w ≡ length a.w.now = c.open_ahead-h.auto.w in
    let titles : HasTitle o.new.w a.decks.now o.result.hi (a.l.index - a.f.index + 1) false = subst (HasTitle o.new.w a.decks.now o.result.hi (a.l.index - a.f.index + 1)) c.if-has_title.false n.ensures in
    let m = c.mark_to in
    let full : length m.new.w ≡ length a.w.now = m.auto.w ∙ half in
    let k = c.in_ok-k.k in
    let done = c.in_ok-k.was in
    let ordered : Ordered o.new.w k = subst (KeepsOrder o.new.w) done m.ensures.keeps_order in
    let y = c.range_marked in record { sane_after = y.ensures.sane_after; marks_found = found-done a.w.now a.dir.now a.decks.now a.flags.now a.d a.was a.f a.l a.seq pre.0 pre.1.1.1.0 o.new.w o.result half o.ensures.ordered o.ensures.opens_ahead titles m.new.w m.result full m.ensures.marks_to k done ordered y.new.w y.new.flags y.result y.ensures.goes_on }
