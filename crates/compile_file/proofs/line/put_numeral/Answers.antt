-- The field's digits, without the blanks ahead of them. Assumes nothing.
use Prim.Native.Nat.{ℕ}
use native.Mathlib.Omega.{arith}
use mathlib.Core.Path.{◌≡◌, refl, ap, ◌∙◌}
use mathlib.Core.List.{List}
use lib.ListN.{length, replicate}
use Rattle.words.specs.Display.{blank}
use Rattle.words.specs.Names.{numeral}
use Rattle.compile_file.specs.Written.{after_blanks}
use Rattle.words_lists.specs.Over.{put_at}
use Rattle.compile_file.proofs.RefusalLine.{numeral-few, field-numeral}
use Rattle.compile_file.proofs.line.put_numeral.Goals as goal
use Rattle.compile_file.proofs.line.put_numeral.Goals.{After-digits_in}

digits-are : (c : After-digits_in) → c.digits_in.result.now ≡ numeral c.args.n
digits-are c = c.digits_in.ensures ∙ ap after_blanks c.put_number.ensures.field_after ∙ field-numeral c.args.n (replicate 20 blank) refl

pub put_text-requires : goal.put_text-requires
put_text-requires c = omega (arith, ap length (digits-are (goal.at.put_text-requires c).After-digits_in), numeral-few c.args.n, c.requires)

pub returns : goal.returns
returns c =
    let a = c.args in
    let t = c.put_text in
    let e = digits-are (goal.at.returns c).After-digits_in in
    record { value = (omega (arith, t.ensures.value, ap length e), omega (arith, t.ensures.value, ap length e, numeral-few a.n)); out_after = t.ensures.out_after ∙ ap (λ (x : List ℕ). put_at a.at x a.out.now) e }
