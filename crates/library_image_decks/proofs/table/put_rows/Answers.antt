use Rattle.library_image_decks.proofs.DeckRows.{put-start, put-more, put_full, put_all}
use Rattle.library_image_decks.proofs.DeckTitles.{title-some}
use Rattle.library_image_decks.specs.Decks.{title_in, is_title}
use mathlib.Core.Path.{sym, ap, ◌∙◌}
use Rattle.library_image_decks.proofs.table.put_rows.Goals as goal

pub loop-at-init : goal.loop-at-init
loop-at-init c = put-start c.args.image.now c.args.table.now c.requires _ _ c.cards_place.ensures c.deck_end-at.ensures.value

pub returns-then-n-eq-TABLE : goal.returns-then-n-eq-TABLE
returns-then-n-eq-TABLE c = let l = c.loop-at in record { upper_bound = (put_full c.args.image.now c.args.table.now c.requires l.table l.at l.n l.invariant c.if-n-eq-TABLE.true).0; value = (put_full c.args.image.now c.args.table.now c.requires l.table l.at l.n l.invariant c.if-n-eq-TABLE.true).1.0; table_after = (put_full c.args.image.now c.args.table.now c.requires l.table l.at l.n l.invariant c.if-n-eq-TABLE.true).1.1 }

pub unwrap-requires : goal.unwrap-requires
unwrap-requires c =
    let l = c.loop-at in
    let ws = c.args.image.now in
    title-some c.title_of.result ∙ (ap is_title (c.title_of.ensures ∙ ap (title_in ws) c.see-c.ensures.value) ∙ l.invariant.title c.loop-at-test.true)

pub loop-at-preserved : goal.loop-at-preserved
loop-at-preserved c =
    let l = c.loop-at in
    put-more c.args.image.now c.args.table.now c.requires l.table l.at l.n l.invariant c.loop-at-test.true _ c.see-c.ensures.value _ (sym c.unwrap.ensures ∙ c.title_of.ensures) _ c.deck_end-end.ensures.value c.if-n-eq-TABLE.false _ c.put_row.auto.table c.put_row.ensures.table_after c.put_row.ensures.table_unchanged

pub returns : goal.returns
returns c = let l = c.loop-at in record { upper_bound = (put_all c.args.image.now c.args.table.now c.requires l.table l.at l.n l.invariant c.loop-at-test.false).0; value = (put_all c.args.image.now c.args.table.now c.requires l.table l.at l.n l.invariant c.loop-at-test.false).1.0; table_after = (put_all c.args.image.now c.args.table.now c.requires l.table l.at l.n l.invariant c.loop-at-test.false).1.1 }
