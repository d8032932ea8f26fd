-- `names::put_number` is right because the blanks and the digits fill the field to its end. Assumes nothing.
use Prim.Native.Nat.{◌-◌}
use native.Mathlib.Omega.{arith}
use mathlib.Core.Path.{◌≡◌, ap, ◌∙◌}
use lib.ListN.{length, take, drop, length-drop}
use lib.Seq.{take_all}
use Rattle.words_lists.proofs.OverLists.{over-put}
use Rattle.words.proofs.DecimalDigits.{too-narrow, justified}
use Rattle.words_names.proofs.names.put_number.Goals as goal

pub returns-then-field-count : goal.returns-then-field-count
returns-then-field-count c =
    let p = c.put_digits-start in record { value = (too-narrow c.args.n c.args.field.now (omega (arith, ap length p.ensures.space_after, length-drop p.result p.new.space, p.auto.space))).0; field_after = (too-narrow c.args.n c.args.field.now (omega (arith, ap length p.ensures.space_after, length-drop p.result p.new.space, p.auto.space))).1 }

pub returns : goal.returns
returns c =
    let p = c.put_digits-start in
    let d = drop p.result p.new.space in
    let n = 20 - p.result in
    let long : length d ≡ n = omega (arith, length-drop p.result p.new.space, p.auto.space) in
    let all : take n d ≡ d = take_all n d (omega arith) in
    let a = c.args in
    let blanks = c.put_gap in record { value = (justified a.n a.field.now blanks.new.line _ (take n d) (length a.field.now - n) (all ∙ p.ensures.space_after) (omega (arith, ap length all)) (omega (arith, ap length all)) blanks.auto.line blanks.ensures (c.put.ensures ∙ over-put (length a.field.now - n) (take n d) blanks.new.line (omega (arith, ap length all, blanks.auto.line)))).0; field_after = (justified a.n a.field.now blanks.new.line _ (take n d) (length a.field.now - n) (all ∙ p.ensures.space_after) (omega (arith, ap length all)) (omega (arith, ap length all)) blanks.auto.line blanks.ensures (c.put.ensures ∙ over-put (length a.field.now - n) (take n d) blanks.new.line (omega (arith, ap length all, blanks.auto.line)))).1 }
