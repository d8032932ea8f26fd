-- The tests are those of the definition: a name's word is 0 exactly where there is no name.
use Rattle.std.proofs.Common.{arith, ◌≡◌, ◌∙◌, sym, ap}
use Rattle.words.specs.Base.{take_until}
use Rattle.words.specs.Spelt.{word_of_name}
use Rattle.words_lines.specs.Directive.{is_comma}
use Rattle.words_lines_asked.proofs.DirectiveAsks.{name-asked, name-none, name-more, name-gap}
use Rattle.words_lines_asked.proofs.asks.one_name.Goals as goal
use Rattle.words_lines_asked.proofs.asks.one_name.Goals.{else-first-ne0-via-then-first-ne0+else-none_empty, else-first-ne0-via-else-first-ne0}

pub returns-then-word-ne0 : goal.returns-then-word-ne0
returns-then-word-ne0 g c = λ says is.
    let w = c.word_of_name-word in
    is w.result c.ask.result (omega arith) c.ask.ensures ∙ ap says w.ensures
    ∙ name-asked says c.args.more c.args.field.now (rw w.ensures at c.if-word-ne0.true)

pub returns-then-none_empty : goal.returns-then-none_empty
returns-then-none_empty g c = λ says is.
    let none : word_of_name c.args.field.now ≡ 0 = sym c.word_of_name-word.ensures ∙ c.if-word-ne0.false in
    let first : c.word_of_name-first.result ≡ word_of_name (take_until is_comma c.args.field.now) = c.word_of_name-first.ensures ∙ ap word_of_name c.part_at.ensures in
    name-more says c.args.more c.args.field.now none (λ e. c.if-first-ne0.true (first ∙ e)) (sym c.none_empty.ensures ∙ c.if-none_empty.true)

pub returns : goal.returns
returns g c = λ says is.
    let none : word_of_name c.args.field.now ≡ 0 = sym c.word_of_name-word.ensures ∙ c.if-word-ne0.false in
    let first : c.word_of_name-first.result ≡ word_of_name (take_until is_comma c.args.field.now) = c.word_of_name-first.ensures ∙ ap word_of_name c.part_at.ensures in
    elim c.else-first-ne0.branch [
      | else-first-ne0-via-then-first-ne0+else-none_empty w ↦
          name-gap says c.args.more c.args.field.now none (λ e. w.if-first-ne0.true (first ∙ e)) (sym w.none_empty.ensures ∙ w.if-none_empty.false)
      | else-first-ne0-via-else-first-ne0 w ↦ name-none says c.args.more c.args.field.now none (sym first ∙ w.if-first-ne0.false)
    ]
