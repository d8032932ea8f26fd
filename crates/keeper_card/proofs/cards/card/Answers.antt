-- What the check answers decides; a card of an accepted image is named by its library. Assumes nothing.
use Rattle.std.proofs.lemmas.Result.{err_from_is_err_and}
use Rattle.keeper_card.proofs.AcceptedNames.{naming-sound, naming-refused}
use Rattle.keeper_card.proofs.cards.card.Goals as goal

pub returns-in_err-check : goal.returns-in_err-check
returns-in_err-check c =
    let a = c.args in
    let r = err_from_is_err_and c.from_residual.result c.from_residual.ensures.1 in
    let k = naming-refused a.image.now a.out.now a.owner a.seq _ c.in_err-check.ensures in
    record { answer = rw (r.1, r.2) k.0; space = k.1 }

pub returns : goal.returns
returns c = let a = c.args in let k = naming-sound a.image.now a.out.now a.owner a.seq _ _ c.in_ok-check.ensures c.card_sound.ensures in record { answer = k.0; space = k.1 }
