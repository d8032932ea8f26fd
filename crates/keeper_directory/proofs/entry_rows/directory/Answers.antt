-- What the check answers decides; the rows of an accepted image are its library's. Assumes nothing.
use Rattle.std.proofs.lemmas.Result.{err_from_is_err_and}
use Rattle.keeper_directory.proofs.CheckDecides.{listing-sound, listing-refused, accepted-sizes}
use Rattle.keeper_directory.proofs.entry_rows.directory.Goals as goal

pub directory_sound-requires : goal.directory_sound-requires
directory_sound-requires c = let s = accepted-sizes c.args.image.now c.in_ok-check.ensures in record { sized = s.0; tabled = s.1 }

pub returns-in_err-check : goal.returns-in_err-check
returns-in_err-check c =
    let a = c.args in
    let r = err_from_is_err_and c.from_residual.result c.from_residual.ensures.1 in
    let k = listing-refused a.image.now a.rows.now _ c.in_err-check.ensures in
    record { answer = rw (r.1, r.2) k.0; space = k.1 }

pub returns : goal.returns
returns c = let a = c.args in let k = listing-sound a.image.now a.rows.now _ _ c.in_ok-check.ensures c.directory_sound.ensures in record { answer = k.0; space = k.1 }
