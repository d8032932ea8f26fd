-- Where the card is refused so is the line, and at a deck card 30; else the gap is opened directly ahead of the card.
use Rattle.std.specs.Prelude.{Ok}
use mathlib.Core.Path.{◌≡◌, sym, ◌∙◌, subst}
use lib.ListN.{length}
use Rattle.std.proofs.lemmas.Result.{err_from_is_err_and}
use Rattle.run.specs.Desk.{Sane}
use Rattle.run.specs.Corrected.{BeforeSteps, SeeksPlace}
use Rattle.run.specs.declared.desk.Desk.{Desk}
use Rattle.run.proofs.Sums.{room-place, below-le}
use Rattle.run.proofs.Correcting.{before-deck, before_on, moved-sane}
use Rattle.run.proofs.fixes.before_step.Goals as goal

pub returns-in_err-f : goal.returns-in_err-f
returns-in_err-f c =
    let a = c.args in
    let refused = subst (SeeksPlace a.w.now a.dir.now a.d a.r) c.in_err-f.was c.seek_place.ensures in
    let q = err_from_is_err_and c.from_residual.result c.from_residual.ensures.1 in
    rw (q.1, q.2) (record { sane_after = tt; before_steps = refused.1 a.decks.now })

pub returns-then-is_title : goal.returns-then-is_title
returns-then-is_title c =
    let a = c.args in
    let found = subst (SeeksPlace a.w.now a.dir.now a.d a.r) c.in_ok-f.was c.seek_place.ensures in record { sane_after = tt; before_steps = before-deck a.w.now a.dir.now a.decks.now a.d a.r a.w.now found.1.1.0 c.in_ok-f.f found.1.0 found.0.index (sym c.is_title.ensures ∙ c.if-is_title.true) }

pub open_ahead-h-requires : goal.open_ahead-h-requires
open_ahead-h-requires c = let p = c.requires.0 in (p.ordered, room-place _ p.room)

pub returns : goal.returns
returns c =
    let a = c.args in
    let pre = c.requires in
    let f = c.in_ok-f.f in
    let found = subst (SeeksPlace a.w.now a.dir.now a.d a.r) c.in_ok-f.was c.seek_place.ensures in
    let o = c.open_ahead-h in
    let same : length o.new.w ≡ length a.w.now = c.open_ahead-h.auto.w in
    let e = sym c.moved.ensures in record {
      sane_after = subst (Sane o.new.w) e (moved-sane a.w.now o.new.w a.d o.result f.index pre.0 same o.ensures.ordered (below-le _ _ found.0.index));
      before_steps = subst (λ (x : Desk). BeforeSteps a.w.now a.dir.now a.decks.now a.d a.r o.new.w (Ok x)) e
          (before_on a.w.now a.dir.now a.decks.now a.d a.r o.new.w found.1.1.0 f found.1.0 found.0.index found.1.1.1 (sym c.is_title.ensures ∙ c.if-is_title.false) o.result o.ensures.opens_ahead);
    }
