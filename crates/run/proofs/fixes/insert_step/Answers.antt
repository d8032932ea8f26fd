-- Where the card is refused so is the line; else the gap is opened directly after the card.
use Rattle.std.specs.Prelude.{Ok}
use Prim.Native.Nat.{◌+◌}
use mathlib.Core.Path.{◌≡◌, sym, subst}
use lib.ListN.{length}
use Rattle.std.proofs.lemmas.Result.{err_from_is_err_and}
use Rattle.run.specs.Desk.{Sane}
use Rattle.run.specs.Corrected.{InsertSteps, SeeksPlace}
use Rattle.run.specs.declared.desk.Desk.{Desk}
use Rattle.run.proofs.Sums.{room-place, index-fits, one_on}
use Rattle.run.proofs.Correcting.{insert-on, moved-sane}
use Rattle.run.proofs.fixes.insert_step.Goals as goal

pub returns-in_err-f : goal.returns-in_err-f
returns-in_err-f c =
    let a = c.args in
    let refused = subst (SeeksPlace a.w.now a.dir.now a.d a.r) c.in_err-f.was c.seek_place.ensures in
    let q = err_from_is_err_and c.from_residual.result c.from_residual.ensures.1 in
    rw (q.1, q.2) (record { sane_after = tt; insert_steps = refused.0 })

pub open_after-h-requires : goal.open_after-h-requires
open_after-h-requires c = let p = c.requires.0 in (p.ordered, room-place _ p.room)

pub overflow_add-f : goal.overflow_add-f
overflow_add-f c =
    let a = c.args in
    let found = subst (SeeksPlace a.w.now a.dir.now a.d a.r) c.in_ok-f.was c.seek_place.ensures in
    index-fits _ _ found.0.index c.requires.0.cards

pub returns : goal.returns
returns c =
    let a = c.args in
    let pre = c.requires in
    let f = c.in_ok-f.f in
    let found = subst (SeeksPlace a.w.now a.dir.now a.d a.r) c.in_ok-f.was c.seek_place.ensures in
    let o = c.open_after-h in
    let same : length o.new.w ≡ length a.w.now = c.open_after-h.auto.w in
    let e = sym c.moved.ensures in record {
      sane_after = subst (Sane o.new.w) e (moved-sane a.w.now o.new.w a.d o.result (f.index + 1) pre.0 same o.ensures.ordered (one_on _ _ found.0.index));
      insert_steps = subst (λ (x : Desk). InsertSteps a.w.now a.dir.now a.d a.r o.new.w (Ok x)) e
          (insert-on a.w.now a.dir.now a.d a.r o.new.w found.1.1.0 f found.1.0 found.0.index found.1.1.1 o.result o.ensures.opens_after);
    }
