use mathlib.Core.Path.{sym, ◌∙◌}
use native.Mathlib.Omega.{arith}
use Rattle.library_check.proofs.Showing.{shown-next}
use Rattle.library_check.proofs.Decking.{ahead-start, ahead-on, ahead-here, ahead-end, shown-begins}
use borrow.Author.Rules.{rules}
use Rattle.library_check.proofs.deck_cards.cards_end.Goals as goal

pub loop-at-init : goal.loop-at-init
loop-at-init c = (search rules, (search rules, λ d. ahead-start d c.args.image.now c.args.from))

pub returns-then-begins : goal.returns-then-begins
returns-then-begins c =
    let ws = c.args.image.now in
    let l = c.loop-at in
    let r = c.see-c.result in
    let sees = c.see-c.ensures.value in record {
      lower_bound = search rules;
      cards_end = λ d. ahead-here d ws c.args.from l.at (l.invariant.1.1 d) c.loop-at-test.true
          (λ s w. shown-begins d ws l.at s w r sees c.deck_at.result c.deck_at.ensures ∙ sym c.begins.ensures ∙ c.if-begins.true);
    }

pub loop-at-preserved : goal.loop-at-preserved
loop-at-preserved c =
    let ws = c.args.image.now in
    let l = c.loop-at in
    let r = c.see-c.result in
    let sees = c.see-c.ensures.value in (
      omega (arith, l.invariant.0, c.see-c.ensures.text_le_next.1.1 c.loop-at-test.true, c.see-c.ensures.text_le_next.0),
      (
        c.see-c.ensures.text_le_next.1.0,
        λ d. ahead-on d ws c.args.from l.at (l.invariant.1.1 d) c.loop-at-test.true r.next
            (λ s w. (shown-next d ws l.at s w r sees, shown-begins d ws l.at s w r sees c.deck_at.result c.deck_at.ensures ∙ sym c.begins.ensures ∙ c.if-begins.false)),
      ),
    )

pub returns : goal.returns
returns c =
    let ws = c.args.image.now in
    let l = c.loop-at in record { lower_bound = search rules; cards_end = λ d. ahead-end d ws c.args.from l.at (l.invariant.1.1 d) c.loop-at-test.false }
