-- The heads pass the gap, take the byte and the new activity bit, and the text follows them.
use Prim.Native.Nat.{ℕ, ◌+◌, ◌≤◌, ◌<◌}
use mathlib.Core.Path.{refl, sym, ◌∙◌, subst}
use lib.ListN.{length, length-set}
use Rattle.run.proofs.Sums.{place-fits, bytes_fit, past_fits, place_up, byte-below, lower-sum, sum-order, sum-above, sum-some, below_end, same_place, order-on}
use Rattle.run.proofs.Marking.{mark-bad, mark-none, mark-done}
use Rattle.run.proofs.marks.mark_one.Goals as goal

pub see-c-requires : goal.see-c-requires
see-c-requires c = c.requires.1.0

pub overflow_add-hi : goal.overflow_add-hi
overflow_add-hi c = place-fits _ _ c.see-c.ensures.heads_in_bounds.0 c.requires.1.1.0

pub overflow_add-hi-2 : goal.overflow_add-hi-2
overflow_add-hi-2 c = past_fits _ _ _ (place_up _ _ c.see-c.ensures.heads_in_bounds.0) c.requires.1.1.0 c.see-c.ensures.heads_in_bounds.1.1

pub shape_of-w-then-w-hi : goal.shape_of-w-then-w-hi
shape_of-w-then-w-hi c = refl

pub returns-then-w-hi : goal.returns-then-w-hi
returns-then-w-hi c =
    let a = c.args in
    let p = c.requires in
    let s = c.see-c in record { hi_in_bounds = (same_place (length a.w.now), p.1.0); marks = mark-bad a.w.now a.g a.n a.on p.0 s.result s.ensures.sees_any c.if-w-hi.true _ _ }

pub lower-requires : goal.lower-requires
lower-requires c = (c.requires.0.0, c.see-c.ensures.heads_in_bounds.0)

pub overflow_add-lo : goal.overflow_add-lo
overflow_add-lo c = let s = c.see-c.ensures.heads_in_bounds.0 in place-fits _ _ (lower-sum _ _ _ _ c.requires.0.0 s) c.requires.1.1.0

pub overflow_add-hi-3 : goal.overflow_add-hi-3
overflow_add-hi-3 c = place-fits _ _ c.see-c.ensures.heads_in_bounds.0 c.requires.1.1.0

pub add_byte-r-requires : goal.add_byte-r-requires
add_byte-r-requires c =
    let a = c.args in
    let p = c.requires in
    let s = c.see-c in
    let there = subst (λ (m : ℕ). a.g.hi + s.result.heads ≤ m) (sym c.lower.auto.w) s.ensures.heads_in_bounds.0 in
    (sum-some _ _ s.ensures.heads_in_bounds.1.0, (sum-order _ _ _ p.0.0, (there, rw c.from.ensures (byte-below a.on a.n p.1.1.1))))

pub overflow_add-hi-4 : goal.overflow_add-hi-4
overflow_add-hi-4 c = place-fits _ _ c.see-c.ensures.heads_in_bounds.0 c.requires.1.1.0

pub overflow_add-result : goal.overflow_add-result
overflow_add-result c =
    let p = c.requires in
    let s = c.see-c.ensures.heads_in_bounds in
    past_fits _ _ _ (order-on _ _ _ c.add_byte-r.ensures.high (sum-order _ _ _ (lower-sum _ _ _ _ p.0.0 s.0))) p.1.1.0 s.1.1

pub overflow_add-result-then-hi-heads : goal.overflow_add-result-then-hi-heads
overflow_add-result-then-hi-heads c = place-fits _ _ c.see-c.ensures.heads_in_bounds.0 c.requires.1.1.0

pub overflow_add-result-then-hi-heads-2 : goal.overflow_add-result-then-hi-heads-2
overflow_add-result-then-hi-heads-2 c = place-fits _ _ c.if-w-hi.false c.requires.1.1.0

pub shape_of-w-then-hi-heads : goal.shape_of-w-then-hi-heads
shape_of-w-then-hi-heads c = c.add_byte-r.auto.w ∙ c.lower.auto.w

pub returns-then-hi-heads : goal.returns-then-hi-heads
returns-then-hi-heads c =
    let a = c.args in
    let p = c.requires in
    let s = c.see-c in
    let m = c.lower in
    let e = c.add_byte-r in record {
      hi_in_bounds = (c.if-w-hi.false, sum-above _ _ _ s.ensures.heads_in_bounds.1.0);
      marks = mark-none a.w.now a.g a.n a.on p.0 s.result s.ensures.sees_any m.new.w m.ensures
          m.auto.w e.result e.new.w (rw c.from.ensures at e.ensures) e.auto.w c.if-hi-heads.true;
    }

pub offset_bounds-w-lo : goal.offset_bounds-w-lo
offset_bounds-w-lo c = let p = c.requires in bytes_fit _ _ (order-on _ _ _ p.0.0 p.0.1) p.1.1.0

pub bounds-w-lo : goal.bounds-w-lo
bounds-w-lo c =
    subst (λ (k : ℕ). c.args.g.lo < k) (sym (c.add_byte-r.auto.w ∙ c.lower.auto.w)) (below_end _ _ _ c.requires.0.0 c.requires.1.0)

pub offset_bounds-w-lo-2 : goal.offset_bounds-w-lo-2
offset_bounds-w-lo-2 c = let p = c.requires in bytes_fit _ _ (order-on _ _ _ p.0.0 p.0.1) p.1.1.0

pub bounds-w-lo-2 : goal.bounds-w-lo-2
bounds-w-lo-2 c =
    subst (λ (k : ℕ). c.args.g.lo < k) (sym (c.add_byte-r.auto.w ∙ c.lower.auto.w)) (below_end _ _ _ c.requires.0.0 c.requires.1.0)

pub overflow_add-hi-5 : goal.overflow_add-hi-5
overflow_add-hi-5 c = place-fits _ _ c.see-c.ensures.heads_in_bounds.0 c.requires.1.1.0

pub lower-requires-2 : goal.lower-requires-2
lower-requires-2 c =
    let a = c.args in
    let s = c.see-c.result in
    let e = c.add_byte-r in
    let same = length-set e.new.w a.g.lo c.with_active.result ∙ e.auto.w ∙ c.lower.auto.w in
    (c.if-hi-heads.false, subst (λ (m : ℕ). a.g.hi + s.heads + s.count ≤ m) (sym same) c.if-w-hi.false)

pub overflow_add-result-2 : goal.overflow_add-result-2
overflow_add-result-2 c = place-fits _ _ (lower-sum _ _ _ _ c.if-hi-heads.false c.if-w-hi.false) c.requires.1.1.0

pub overflow_add-result-3 : goal.overflow_add-result-3
overflow_add-result-3 c = place-fits _ _ c.see-c.ensures.heads_in_bounds.0 c.requires.1.1.0

pub overflow_add-result-4 : goal.overflow_add-result-4
overflow_add-result-4 c = place-fits _ _ c.if-w-hi.false c.requires.1.1.0

pub shape_of-w : goal.shape_of-w
shape_of-w c =
    c.lower-2.auto.w
    ∙ length-set c.add_byte-r.new.w c.args.g.lo c.with_active.result
    ∙ c.add_byte-r.auto.w
    ∙ c.lower.auto.w

pub returns : goal.returns
returns c =
    let a = c.args in
    let p = c.requires in
    let s = c.see-c in
    let m = c.lower in
    let e = c.add_byte-r in
    let h = c.with_active in
    let t = c.lower-2 in
    let over = c.if-hi-heads.false in record {
      hi_in_bounds = (c.if-w-hi.false, sum-above _ _ _ s.ensures.heads_in_bounds.1.0);
      marks = mark-done a.w.now a.g a.n a.on p.0 s.result s.ensures.sees_any m.new.w m.ensures m.auto.w
          e.result e.new.w (rw c.from.ensures at e.ensures) e.auto.w over h.result h.ensures t.new.w t.ensures;
    }
