-- The line's words are its first words in the space, so the card put is the line's; a line that is not so written makes no card.
use Prim.Native.Nat.{ℕ, ◌≤◌}
use native.Mathlib.Omega.{arith}
use mathlib.Core.Path.{◌≡◌, refl, sym, ◌∙◌}
use borrow.Author.Rules.{rules}
use Rattle.run.proofs.Texting.{words-few, words-space, line-put, line-not}
use Rattle.run.proofs.texts.put_line.Goals as goal

pub slice_bounds-put_card-end : goal.slice_bounds-put_card-end
slice_bounds-put_card-end c =
    let m = c.compress in
    let a = c.args in
    sym (words-space a.line.now _ _ c.in-Ok.k (sym m.ensures.value ∙ c.in-Ok.is) refl m.ensures.text_after)

pub put_card-requires : goal.put_card-requires
put_card-requires c =
    let m = c.compress in
    let a = c.args in
    let few : c.in-Ok.k ≤ 16 = words-few a.line.now c.in-Ok.k (sym m.ensures.value ∙ c.in-Ok.is) in
    let long : _ = words-space a.line.now _ _ c.in-Ok.k (sym m.ensures.value ∙ c.in-Ok.is) refl m.ensures.text_after in
    search rules

pub returns-in-Ok : goal.returns-in-Ok
returns-in-Ok c =
    let m = c.compress in
    let a = c.args in record { hi_in_bounds = search rules; puts_line = line-put a.w.now a.g a.line.now _ _ c.in-Ok.k a.seq a.n _ _ (sym m.ensures.value ∙ c.in-Ok.is) m.ensures.text_after c.put_card.ensures.puts_card }

pub returns-in-Err : goal.returns-in-Err
returns-in-Err c =
    let a = c.args in record { hi_in_bounds = search rules; puts_line = line-not a.w.now a.g a.line.now _ a.seq a.n _ _ (sym c.compress.ensures.value ∙ c.in-Err.is) (λ k e. cc) }
