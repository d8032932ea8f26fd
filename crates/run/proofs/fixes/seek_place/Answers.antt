-- Outside a set 24, no card 28, in YANK$$$ 30.
use Rattle.std.specs.Prelude.{Some, IfSome}
use Prim.Native.Nat.{ℕ}
use mathlib.Core.Path.{subst}
use mathlib.Core.List.{List}
use Rattle.std.proofs.lemmas.Result.{err_from_is_err_and}
use Rattle.run.specs.Corrected.{Within, SeeksCard}
use Rattle.run.proofs.Correcting.{insert-off, insert-missing, insert-yanks, before-off, before-missing, before-yanks, present, absent, not_taken, not_left}
use Rattle.run.proofs.fixes.seek_place.Goals as goal

pub returns-then-not-d : goal.returns-then-not-d
returns-then-not-d c =
    let a = c.args in
    let off = not_taken a.d.set c.if-not-d.true in
    (insert-off a.w.now a.dir.now a.d a.r a.w.now off, λ decks. before-off a.w.now a.dir.now decks a.d a.r a.w.now off)

pub returns-in_err-f : goal.returns-in_err-f
returns-in_err-f c =
    let a = c.args in
    let on = not_left a.d.set c.if-not-d.false in
    let m = absent c.seek_card.result c.ok_or.result c.in_err-f.field-0.0 c.ok_or.ensures.value c.in_err-f.was in
    let none = subst (SeeksCard a.w.now a.dir.now a.d a.r) m.0 c.seek_card.ensures.seeks_card in
    let q = err_from_is_err_and c.from_residual.result c.from_residual.ensures.1 in
    rw (q.1, q.2, m.1) (insert-missing a.w.now a.dir.now a.d a.r a.w.now on none, λ decks. before-missing a.w.now a.dir.now decks a.d a.r a.w.now on none)

pub returns-then-f-d : goal.returns-then-f-d
returns-then-f-d c =
    let a = c.args in
    let on = not_left a.d.set c.if-not-d.false in
    let e = present c.seek_card.result c.ok_or.result c.in_ok-f.f c.ok_or.ensures.value c.in_ok-f.was in
    let found = subst (SeeksCard a.w.now a.dir.now a.d a.r) e c.seek_card.ensures.seeks_card in
    (insert-yanks a.w.now a.dir.now a.d a.r a.w.now on c.in_ok-f.f found c.if-f-d.true, λ decks. before-yanks a.w.now a.dir.now decks a.d a.r a.w.now on c.in_ok-f.f found c.if-f-d.true)

pub returns : goal.returns
returns c =
    let a = c.args in
    let on = not_left a.d.set c.if-not-d.false in
    let e = present c.seek_card.result c.ok_or.result c.in_ok-f.f c.ok_or.ensures.value c.in_ok-f.was in (
      subst (λ o. IfSome o (λ f. Within a.w.now a.d f)) e c.seek_card.ensures.bounds,
      (subst (SeeksCard a.w.now a.dir.now a.d a.r) e c.seek_card.ensures.seeks_card, (on, c.if-f-d.false)),
    )
