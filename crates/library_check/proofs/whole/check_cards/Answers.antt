-- The parts that are lent are the directory and the deck list, and the cards stand after them. Assumes nothing.
use Rattle.library_check.proofs.Checking.{after-rows}
use Rattle.library_check.proofs.whole.check_cards.Goals as goal

pub returns : goal.returns
returns c =
    let n = c.entries_of-first in
    let d = c.decks_of in
    after-rows c.args.image.now n.result d.result n.ensures.0 d.ensures.0 c.requires.sized c.requires.tabled c.check_decks.result c.check_decks.ensures
