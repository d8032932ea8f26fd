-- What unpacking answers decides what is written. Assumes nothing.
use mathlib.Core.Path.{sym, ap, ◌∙◌}
use lib.Seq.{length-take-le}
use Rattle.words_packing.specs.Pack.{packing_number}
use Rattle.compile_file.proofs.ProgramWrites.{unpacked-front, unpack-done, unpack-refused}
use Rattle.compile_file.proofs.put_packed.Goals as goal

pub slice_bounds-put_file-end : goal.slice_bounds-put_file-end
slice_bounds-put_file-end c =
    let a = c.args in
    let u = c.unpack-answer in
    (unpacked-front a.input.now a.words.now _ c.requires.0 u.ensures.out_after _ (sym c.in-Ok.is ∙ u.ensures.value)).0

pub slice_bounds-put_file-end-in-Ok : goal.slice_bounds-put_file-end-in-Ok
slice_bounds-put_file-end-in-Ok c =
    let a = c.args in
    let u = c.unpack-answer in
    sym (length-take-le _ _ (unpacked-front a.input.now a.words.now _ c.requires.0 u.ensures.out_after _ (sym c.in-Ok.is ∙ u.ensures.value)).0)

pub returns-in-Ok : goal.returns-in-Ok
returns-in-Ok c =
    let a = c.args in
    let u = c.unpack-answer in
    unpack-done a.input.now a.words.now _ c.requires.0 u.ensures.out_after _ _ _ _ (sym c.in-Ok.is ∙ u.ensures.value) c.put_file.ensures

pub returns-in-Err : goal.returns-in-Err
returns-in-Err c =
    let a = c.args in
    let u = c.unpack-answer in
    unpack-refused a.input.now a.words.now _ c.requires.0 u.ensures.out_after _ _ _ _ _ (sym c.in-Err.is ∙ u.ensures.value) (c.packing_number.ensures ∙ ap packing_number c.in-Err.is) c.put_refused.ensures
