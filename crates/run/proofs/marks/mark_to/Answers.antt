-- The last card of the range is found above the gap, and its end is where the range stops.
use Prim.Native.Nat.{ℕ, ◌≤◌}
use mathlib.Core.Path.{refl, sym, subst}
use Rattle.run.proofs.Sums.{place-fits, past_fits, place_up, same_place, near}
use Rattle.run.proofs.Ending.{to-missing, to-bad, to-crowded, to-done}
use Rattle.run.proofs.marks.mark_to.Goals as goal

pub find-b-requires : goal.find-b-requires
find-b-requires c = let p = c.requires in (near _ _ p.0.1 p.1.0, (same_place _, p.1.0))

pub shape_of-w-then-end-at : goal.shape_of-w-then-end-at
shape_of-w-then-end-at c = refl

pub returns-then-end-at : goal.returns-then-end-at
returns-then-end-at c =
    let a = c.args in
    let p = c.requires in
    let f = c.find-b in record { keeps_order = tt; marks_to = to-missing a.w.now a.g p.0 a.owner a.seq a.was a.n p.1.1 f.result f.ensures.finds c.if-end-at.true _ _ refl }

pub see-c-requires : goal.see-c-requires
see-c-requires c = c.if-end-at.false

pub overflow_add-stop : goal.overflow_add-stop
overflow_add-stop c = place-fits _ _ c.see-c.ensures.heads_in_bounds.0 c.requires.1.0

pub overflow_add-stop-2 : goal.overflow_add-stop-2
overflow_add-stop-2 c = let s = c.see-c.ensures.heads_in_bounds in past_fits _ _ _ (place_up _ _ s.0) c.requires.1.0 s.1.1

pub shape_of-w-then-end-stop : goal.shape_of-w-then-end-stop
shape_of-w-then-end-stop c = refl

pub returns-then-end-stop : goal.returns-then-end-stop
returns-then-end-stop c =
    let a = c.args in
    let p = c.requires in
    let f = c.find-b in record {
      keeps_order = tt;
      marks_to = to-bad a.w.now a.g p.0 a.owner a.seq a.was a.n p.1.1 f.result f.ensures.finds
          c.see-c.result c.see-c.ensures.sees_any c.if-end-at.false
          c.if-end-stop.true _ _ refl;
    }

pub mark_range-h-requires : goal.mark_range-h-requires
mark_range-h-requires c = let p = c.requires in (p.0, (c.if-end-stop.false, p.1))

pub shape_of-w-then-h : goal.shape_of-w-then-h
shape_of-w-then-h c = c.mark_range-h.auto.w

pub returns-then-h : goal.returns-then-h
returns-then-h c =
    let a = c.args in
    let p = c.requires in
    let f = c.find-b in
    let m = c.mark_range-h in record {
      keeps_order = tt;
      marks_to = to-crowded a.w.now a.g p.0 a.owner a.seq a.was a.n p.1.1 f.result f.ensures.finds
          c.see-c.result
          c.see-c.ensures.sees_any
          c.if-end-at.false m.new.w m.result
          m.ensures.marks_range c.if-h.true _ refl;
    }

pub shape_of-w : goal.shape_of-w
shape_of-w c = c.mark_range-h.auto.w

pub returns : goal.returns
returns c =
    let a = c.args in
    let p = c.requires in
    let f = c.find-b in
    let m = c.mark_range-h in record {
      keeps_order = (c.if-h.false, m.ensures.hi_in_bounds);
      marks_to = to-done a.w.now a.g p.0 a.owner a.seq a.was a.n p.1.1 f.result f.ensures.finds
          c.see-c.result
          c.see-c.ensures.sees_any
          c.if-end-at.false m.new.w m.result
          m.ensures.marks_range c.if-h.false (subst (λ (k : ℕ). m.result.hi ≤ k) (sym m.auto.w) m.ensures.hi_in_bounds) m.auto.w _ refl;
    }
