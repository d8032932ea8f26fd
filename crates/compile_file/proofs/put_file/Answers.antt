-- What compiling answers decides what is written. Assumes nothing.
use mathlib.Core.Path.{◌≡◌, sym, ap, ◌∙◌}
use Rattle.std.specs.Prelude.{Err}
use Rattle.compile.specs.declared.CompileRefused.TheVariants.{Library as OfLibrary, Card as OfCard}
use borrow.Author.Rules.{rules}
use Rattle.compile.specs.Compile.{compiled_number}
use Rattle.compile_file.proofs.ProgramWrites.{compile-done, compile-library, compile-stopped}
use Rattle.compile_file.proofs.put_file.Goals as goal

pub overflow_mul-result : goal.overflow_mul-result
overflow_mul-result c =
    let a = c.args in
    let k = c.compile-answer in
    let h = (compile-done a.image.now a.out.now _ c.requires k.ensures.space _ (sym c.in-Ok.is ∙ k.ensures.answer)).0 in
    search (rules, h)

pub returns-in-Ok : goal.returns-in-Ok
returns-in-Ok c =
    let a = c.args in
    let k = c.compile-answer in
    (compile-done a.image.now a.out.now _ c.requires k.ensures.space _ (sym c.in-Ok.is ∙ k.ensures.answer)).1

pub returns-in-Err-Library : goal.returns-in-Err-Library
returns-in-Err-Library c =
    let a = c.args in
    let k = c.compile-answer in
    let i = c.in-Err-Library in
    let is : k.result ≡ Err (OfLibrary i.refusal) = i.is ∙ ap Err (rw i.is at i.field-0-is) in
    compile-library a.image.now a.out.now _ c.requires k.ensures.space _ _ _ i.refusal (sym is ∙ k.ensures.answer) (c.compiled_number.ensures ∙ ap compiled_number is) c.put_refused.ensures

pub returns-in-Err-Card : goal.returns-in-Err-Card
returns-in-Err-Card c =
    let a = c.args in
    let k = c.compile-answer in
    let i = c.in-Err-Card in
    let is : k.result ≡ Err (OfCard i.halt) = i.is ∙ ap Err (rw i.is at i.field-0-is) in
    compile-stopped a.image.now a.out.now _ c.requires k.ensures.space _ _ _ i.halt (sym is ∙ k.ensures.answer) (c.compiled_number-in-Err-Card.ensures ∙ ap compiled_number is) c.put_refused_card.ensures
