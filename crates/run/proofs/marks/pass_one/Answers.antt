-- The stored bit is the card's activity, so it tells whether the card gets a byte; one that has 64 refuses it.
use mathlib.Core.Path.{refl}
use Rattle.run.proofs.Sums.{place-fits, lower-sum, same_place, one_on, past_one, not-past, words-fit, words-on, words-above}
use Rattle.run.proofs.Ranging.{pass-marked, pass-full, pass-bad, pass_same}
use Rattle.run.proofs.marks.pass_one.Goals as goal

pub see-c-requires : goal.see-c-requires
see-c-requires c = c.requires.1.0

pub is_full-requires : goal.is_full-requires
is_full-requires c = let s = c.see-c.ensures.heads_in_bounds in (s.1.0, s.0)

pub overflow_add-result : goal.overflow_add-result
overflow_add-result c = let p = c.requires in place-fits _ _ (one_on _ _ p.1.0) p.1.1.0

pub shape_of-w-then-is_full : goal.shape_of-w-then-is_full
shape_of-w-then-is_full c = refl

pub returns-then-is_full : goal.returns-then-is_full
returns-then-is_full c =
    let a = c.args in
    let p = c.requires in
    let s = c.see-c in record {
      hi_in_bounds = (p.0.1, λ h. absurd (not-past _ h));
      passes = pass-full a.w.now a.g a.was a.n p.0 s.result s.ensures.sees_any
          c.if-c-was.true (rw c.if-is_full.true at c.is_full.ensures) _ _ (past_one _);
    }

pub mark_one-requires : goal.mark_one-requires
mark_one-requires c = let p = c.requires in p

pub shape_of-w-then-c-was : goal.shape_of-w-then-c-was
shape_of-w-then-c-was c = c.mark_one.auto.w

pub returns-then-c-was : goal.returns-then-c-was
returns-then-c-was c =
    let a = c.args in
    let p = c.requires in
    let s = c.see-c in
    let m = c.mark_one in record {
      hi_in_bounds = (m.ensures.hi_in_bounds.0, λ h. m.ensures.hi_in_bounds.1);
      passes = pass-marked a.w.now a.g a.was a.n p.0 s.result s.ensures.sees_any
          c.if-c-was.true
          (rw c.if-is_full.false at c.is_full.ensures) m.new.w m.result
          m.ensures.marks;
    }

pub overflow_add-k : goal.overflow_add-k
overflow_add-k c = let s = c.see-c.ensures.heads_in_bounds in words-fit _ _ _ _ s.0 c.requires.1.1.0 s.1.1

pub overflow_add-hi : goal.overflow_add-hi
overflow_add-hi c = let s = c.see-c.ensures.heads_in_bounds in words-on _ _ _ _ s.0 c.requires.1.1.0 s.1.1

pub shape_of-w-then-w-hi : goal.shape_of-w-then-w-hi
shape_of-w-then-w-hi c = refl

pub returns-then-w-hi : goal.returns-then-w-hi
returns-then-w-hi c =
    let a = c.args in
    let p = c.requires in
    let s = c.see-c in record {
      hi_in_bounds = (same_place _, λ h. p.1.0);
      passes = pass-bad a.w.now a.g a.was a.n p.0 s.result s.ensures.sees_any
          c.if-w-hi.true _ _;
    }

pub lower-requires : goal.lower-requires
lower-requires c = (c.requires.0.0, c.if-w-hi.false)

pub overflow_add-result-2 : goal.overflow_add-result-2
overflow_add-result-2 c = let p = c.requires in place-fits _ _ (lower-sum _ _ _ _ p.0.0 c.if-w-hi.false) p.1.1.0

pub overflow_add-result-3 : goal.overflow_add-result-3
overflow_add-result-3 c = place-fits _ _ c.if-w-hi.false c.requires.1.1.0

pub shape_of-w : goal.shape_of-w
shape_of-w c = c.lower.auto.w

pub returns : goal.returns
returns c =
    let a = c.args in
    let p = c.requires in
    let s = c.see-c in record {
      hi_in_bounds = (c.if-w-hi.false, λ h. words-above _ _ _ s.ensures.heads_in_bounds.1.0);
      passes = pass_same a.w.now a.g a.was a.n p.0 s.result s.ensures.sees_any
          c.if-c-was.false c.lower.new.w c.lower.ensures;
    }
