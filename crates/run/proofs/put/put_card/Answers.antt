-- The head has one activating byte of a set that is not yanked, so the card is active; the text follows it.
use native.Mathlib.Omega.{arith}
use mathlib.Core.Path.{sym}
use lib.ListN.{length-set}
use lib.Seq.{length-take-le}
use mir.Facts.{Fits-lit}
use Rattle.run.proofs.Sums.{bytes_fit, order-on, head-fits, text-fits, text-near, head-below, count_fits, with-count, number_fits_lem, with_number, with-flag, with-owner}
use Rattle.run.proofs.Putting.{new_head, put-none, put-copied, work-put}
use Rattle.run.proofs.put.put_card.Goals as goal

pub overflow_add-lo : goal.overflow_add-lo
overflow_add-lo c = head-fits _ _ _ c.requires.0.0 c.requires.0.1 c.requires.1.0

pub overflow_add-lo-2 : goal.overflow_add-lo-2
overflow_add-lo-2 c = text-fits _ _ _ c.requires.0.0 c.requires.0.1 c.requires.1.0 _ c.requires.1.1.1.0

pub overflow_add-result : goal.overflow_add-result
overflow_add-result c = head-fits _ _ _ c.requires.0.0 c.requires.0.1 c.requires.1.0

pub overflow_add-result-then-hi-lo : goal.overflow_add-result-then-hi-lo
overflow_add-result-then-hi-lo c = text-fits _ _ _ c.requires.0.0 c.requires.0.1 c.requires.1.0 _ c.requires.1.1.1.0

pub returns-then-hi-lo : goal.returns-then-hi-lo
returns-then-hi-lo c =
    let a = c.args in
    let p = c.requires in record {
      hi_in_bounds = (p.0.1, text-near _ _ _ p.0.0 p.0.1 p.1.0 _ p.1.1.1.0);
      puts_card = work-put a.w.now a.g a.text.now a.k a.seq a.n p.0 p.1.1.0 p.1.1.1.0 p.1.1.1.1.0
          p.1.1.1.1.1 _ _ (put-none a.w.now a.g a.text.now a.k a.seq a.n p.0 p.1.1.0 c.if-hi-lo.true);
    }

pub overflow_add-w : goal.overflow_add-w
overflow_add-w c = Fits-lit tt

pub overflow_mul-w : goal.overflow_mul-w
overflow_mul-w c = let a = c.args in count_fits a.k a.seq a.n c.requires.1.1.1.0 c.requires.1.1.1.1.0 c.requires.1.1.1.1.1

pub overflow_add-w-2 : goal.overflow_add-w-2
overflow_add-w-2 c = let a = c.args in with-count a.k a.seq a.n c.requires.1.1.1.0 c.requires.1.1.1.1.0 c.requires.1.1.1.1.1

pub overflow_mul-w-2 : goal.overflow_mul-w-2
overflow_mul-w-2 c = let a = c.args in number_fits_lem a.k a.seq a.n c.requires.1.1.1.0 c.requires.1.1.1.1.0 c.requires.1.1.1.1.1

pub overflow_add-w-3 : goal.overflow_add-w-3
overflow_add-w-3 c = let a = c.args in with_number a.k a.seq a.n c.requires.1.1.1.0 c.requires.1.1.1.1.0 c.requires.1.1.1.1.1

pub overflow_add-w-4 : goal.overflow_add-w-4
overflow_add-w-4 c = let a = c.args in with-flag a.k a.seq a.n c.requires.1.1.1.0 c.requires.1.1.1.1.0 c.requires.1.1.1.1.1

pub overflow_add-w-5 : goal.overflow_add-w-5
overflow_add-w-5 c = let a = c.args in with-owner a.k a.seq a.n c.requires.1.1.1.0 c.requires.1.1.1.1.0 c.requires.1.1.1.1.1

pub offset_bounds-w-lo : goal.offset_bounds-w-lo
offset_bounds-w-lo c = let p = c.requires in bytes_fit _ _ (order-on _ _ _ p.0.0 p.0.1) p.1.0

pub bounds-w-lo : goal.bounds-w-lo
bounds-w-lo c = head-below _ _ _ c.requires.0.0 c.requires.0.1 c.requires.1.0 _ c.if-hi-lo.false

pub slice_bounds-put-end : goal.slice_bounds-put-end
slice_bounds-put-end c =
    let a = c.args in
    sym (length-take-le a.k a.text.now c.requires.1.1.0)

pub overflow_add-lo-3 : goal.overflow_add-lo-3
overflow_add-lo-3 c = let p = c.requires in head-fits _ _ _ p.0.0 p.0.1 p.1.0

pub overflow_add-result-2 : goal.overflow_add-result-2
overflow_add-result-2 c = head-fits _ _ _ c.requires.0.0 c.requires.0.1 c.requires.1.0

pub overflow_add-result-3 : goal.overflow_add-result-3
overflow_add-result-3 c = text-fits _ _ _ c.requires.0.0 c.requires.0.1 c.requires.1.0 _ c.requires.1.1.1.0

pub shape_of-w : goal.shape_of-w
shape_of-w c =
    let a = c.args in
    omega (arith, c.put.auto.out, length-set a.w.now a.g.lo (new_head a.k a.seq a.n))

pub returns : goal.returns
returns c =
    let a = c.args in
    let p = c.requires in record {
      hi_in_bounds = (p.0.1, text-near _ _ _ p.0.0 p.0.1 p.1.0 _ p.1.1.1.0);
      puts_card = work-put a.w.now a.g a.text.now a.k a.seq a.n p.0 p.1.1.0 p.1.1.1.0 p.1.1.1.1.0
          p.1.1.1.1.1 _ _ (rw c.put.ensures
          (put-copied a.w.now a.g a.text.now a.k a.seq a.n p.0 p.1.1.0 c.if-hi-lo.false));
    }
