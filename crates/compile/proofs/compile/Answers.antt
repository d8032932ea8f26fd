-- What the check answers decides; an accepted image is compiled as its library.
use Rattle.compile.proofs.ImageView.{compile-sound, compile-refused}
use Rattle.std.proofs.lemmas.Result.{err_from_is_err_and}
use Rattle.compile.proofs.compile.Goals as goal

pub returns-in_err-check : goal.returns-in_err-check
returns-in_err-check c =
    let a = c.args in
    let r = err_from_is_err_and c.from_residual.result c.from_residual.ensures.1 in
    let k = compile-refused a.image.now a.out.now _ c.in_err-check.ensures in
    record { answer = rw (r.1, r.2) k.0; space = k.1 }

pub returns : goal.returns
returns c = let a = c.args in let k = compile-sound a.image.now a.out.now _ _ c.in_ok-check.ensures c.compile_sound.ensures in record { answer = k.0; space = k.1 }
