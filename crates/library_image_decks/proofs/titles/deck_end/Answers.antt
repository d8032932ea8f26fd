use Rattle.library_image_decks.proofs.DeckTitles.{title-some}
use Rattle.library_image_decks.proofs.DeckRows.{end-here, end_on, end-past}
use Rattle.library_image_decks.specs.Decks.{is_title, title_in, deck_end}
use native.Mathlib.Omega.{arith}
use mathlib.Core.Path.{sym, ap, ◌∙◌}
use borrow.Author.Rules.{rules}
use Rattle.library_image_decks.proofs.titles.deck_end.Goals as goal

pub returns-then-is_some : goal.returns-then-is_some
returns-then-is_some c = let l = c.loop-at in let a = c.args in
    let s = c.see-c.ensures in
    let t = sym (ap (λ x. is_title (title_in a.image.now x)) s.value) ∙ sym (ap is_title c.title_of.ensures) ∙ sym (title-some c.title_of.result) ∙ sym c.is_some.ensures ∙ c.if-is_some.true in record { upper_bound = (search rules, λ h. l.invariant.0); value = sym (l.invariant.1 ∙ end-here a.image.now l.at c.loop-at-test.true t) }

pub loop-at-preserved : goal.loop-at-preserved
loop-at-preserved c = let l = c.loop-at in let a = c.args in
    let s = c.see-c.ensures in
    let t = sym (ap (λ x. is_title (title_in a.image.now x)) s.value) ∙ sym (ap is_title c.title_of.ensures) ∙ sym (title-some c.title_of.result) ∙ sym c.is_some.ensures ∙ c.if-is_some.false in
    (omega (arith, l.invariant.0, s.text_le_next.0, s.text_le_next.1.1 c.loop-at-test.true), l.invariant.1 ∙ end_on a.image.now l.at c.loop-at-test.true t ∙ ap (λ x. deck_end a.image.now x.next) (sym s.value))

pub returns : goal.returns
returns c = let l = c.loop-at in let a = c.args in record { upper_bound = (search rules, λ h. h); value = sym (l.invariant.1 ∙ end-past a.image.now l.at c.loop-at-test.false) }
