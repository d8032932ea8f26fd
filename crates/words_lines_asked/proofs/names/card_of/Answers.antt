-- A name and a number, neither of them 0, make a card.
use Rattle.std.proofs.Common.{arith, eqb, ◌≡◌, ◌∙◌, ap}
use Rattle.words.specs.Base.{take_until, beyond}
use Rattle.words.specs.Display.{point}
use Rattle.words.specs.Names.{number_read}
use Rattle.words.specs.Spelt.{word_of_name}
use Rattle.words_lines_asked.proofs.CardsByWord.{card-both, card-nameless, card-numberless}
use Rattle.words_lines_asked.proofs.names.card_of.Goals as goal

pub returns-then-name-eq0 : goal.returns-then-name-eq0
returns-then-name-eq0 c = grind (arith, card-nameless, card-numberless)

pub returns : goal.returns
returns c =
    let name : c.word_of_name-name.result ≡ word_of_name (take_until (eqb point) c.args.p.now) = c.word_of_name-name.ensures ∙ ap word_of_name c.part_at.ensures in
    let seq : c.number_read-seq.result ≡ number_read (beyond (eqb point) c.args.p.now) = c.number_read-seq.ensures ∙ ap number_read c.part_after.ensures in
    rw (name, seq) (card-both c.args.p.now (λ e. c.if-name-eq0.false (name ∙ e)) (λ e. c.if-seq-eq0.false (seq ∙ e)))
