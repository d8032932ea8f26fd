-- Each field is read from the card's first word, where it alone stands.
use mathlib.Core.Path.{refl}
use Rattle.run.proofs.Seeing.{seen}
use borrow.Author.Rules.{rules}
use Rattle.run.proofs.card.see.Goals as goal

pub returns : goal.returns
returns c = record {
  heads_in_bounds = (search rules, (c.head_len-n.ensures.1.1 c.requires, search rules));
  sees_any = seen c.args.w.now
      c.args.at _ refl refl refl c.head_len-n.ensures.0 refl;
}
