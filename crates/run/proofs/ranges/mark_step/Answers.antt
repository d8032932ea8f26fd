-- Outside a set 24, a card that is not found 28, a range backwards 29; else the range that was found is marked.
use Rattle.std.specs.Prelude.{IfSome}
use mathlib.Core.Path.{subst}
use Rattle.std.proofs.lemmas.Result.{err_from_is_err_and}
use Rattle.run.specs.Corrected.{Within, SeeksCard}
use Rattle.run.proofs.Correcting.{present, absent, not_taken, not_left}
use Rattle.run.proofs.RangeAsking.{mark-off, mark-no-first, mark-no-last, mark-backwards, mark_on}
use Rattle.run.proofs.ranges.mark_step.Goals as goal

pub returns-then-not-d : goal.returns-then-not-d
returns-then-not-d c = let a = c.args in record { sane_after = tt; mark_steps = mark-off a.w.now a.dir.now a.decks.now a.flags.now a.d a.was a.a a.b a.w.now a.flags.now (not_taken a.d.set c.if-not-d.true) }

pub seek_card-requires : goal.seek_card-requires
seek_card-requires c = let p = c.requires in (p.0, p.1.0)

pub returns-in_err-f : goal.returns-in_err-f
returns-in_err-f c =
    let a = c.args in
    let m = absent c.seek_card.result c.ok_or.result c.in_err-f.field-0.0 c.ok_or.ensures.value c.in_err-f.was in
    let none = subst (SeeksCard a.w.now a.dir.now a.d a.a) m.0 c.seek_card.ensures.seeks_card in
    let q = err_from_is_err_and c.from_residual.result c.from_residual.ensures.1 in
    rw (q.1, q.2, m.1) (record { sane_after = tt; mark_steps = mark-no-first a.w.now a.dir.now a.decks.now a.flags.now a.d a.was a.a a.b a.w.now a.flags.now (not_left a.d.set c.if-not-d.false) none })

pub seek_last-requires : goal.seek_last-requires
seek_last-requires c =
    let a = c.args in
    let p = c.requires in
    let e = present c.seek_card.result c.ok_or.result c.in_ok-f.f c.ok_or.ensures.value c.in_ok-f.was in record {
      sane = (p.0, (p.1.0, subst (λ o. IfSome o (λ f. Within a.w.now a.d f)) e c.seek_card.ensures.bounds));
      seeks_card = subst (SeeksCard a.w.now a.dir.now a.d a.a) e c.seek_card.ensures.seeks_card;
    }

pub returns-in_err-l : goal.returns-in_err-l
returns-in_err-l c =
    let a = c.args in
    let m = absent c.seek_last.result c.ok_or-2.result c.in_err-l.field-0.0 c.ok_or-2.ensures.value c.in_err-l.was in
    let none = subst (SeeksCard a.w.now a.dir.now a.d a.b) m.0 c.seek_last.ensures.seeks_card_2 in
    let q = err_from_is_err_and c.from_residual-in_err-l.result c.from_residual-in_err-l.ensures.1 in
    rw (q.1, q.2, m.1) (record { sane_after = tt; mark_steps = mark-no-last a.w.now a.dir.now a.decks.now a.flags.now a.d a.was a.a a.b a.w.now a.flags.now (not_left a.d.set c.if-not-d.false) none })

pub returns-then-l-f : goal.returns-then-l-f
returns-then-l-f c =
    let a = c.args in
    let e = present c.seek_card.result c.ok_or.result c.in_ok-f.f c.ok_or.ensures.value c.in_ok-f.was in
    let k = present c.seek_last.result c.ok_or-2.result c.in_ok-l.l c.ok_or-2.ensures.value c.in_ok-l.was in
    let first = subst (SeeksCard a.w.now a.dir.now a.d a.a) e c.seek_card.ensures.seeks_card in
    let last = subst (SeeksCard a.w.now a.dir.now a.d a.b) k c.seek_last.ensures.seeks_card_2 in record { sane_after = tt; mark_steps = mark-backwards a.w.now a.dir.now a.decks.now a.flags.now a.d a.was a.a a.b a.w.now a.flags.now (not_left a.d.set c.if-not-d.false) c.in_ok-f.f first c.in_ok-l.l last c.if-l-f.true }

pub mark_found-requires : goal.mark_found-requires
mark_found-requires c =
    let a = c.args in
    let pre = c.requires in
    let k = present c.seek_last.result c.ok_or-2.result c.in_ok-l.l c.ok_or-2.ensures.value c.in_ok-l.was in
    let bounds = subst (λ o. IfSome o (λ f. Within a.w.now a.d f)) k c.seek_last.ensures.bounds in
    (pre.0, (pre.1.0, (pre.1.1.1, (c.if-l-f.false, bounds.index))))

pub shape_of-w : goal.shape_of-w
shape_of-w c = c.mark_found.auto.w

pub shape_of-flags : goal.shape_of-flags
shape_of-flags c = c.mark_found.auto.flags

pub returns : goal.returns
returns c =
    let a = c.args in
    let e = present c.seek_card.result c.ok_or.result c.in_ok-f.f c.ok_or.ensures.value c.in_ok-f.was in
    let k = present c.seek_last.result c.ok_or-2.result c.in_ok-l.l c.ok_or-2.ensures.value c.in_ok-l.was in
    let first = subst (SeeksCard a.w.now a.dir.now a.d a.a) e c.seek_card.ensures.seeks_card in
    let last = subst (SeeksCard a.w.now a.dir.now a.d a.b) k c.seek_last.ensures.seeks_card_2 in
    let m = c.mark_found in record { sane_after = m.ensures.sane_after; mark_steps = mark_on a.w.now a.dir.now a.decks.now a.flags.now a.d a.was a.a a.b _ _ (not_left a.d.set c.if-not-d.false) c.in_ok-f.f first c.in_ok-l.l last m.result m.ensures.marks_found c.if-l-f.false }
