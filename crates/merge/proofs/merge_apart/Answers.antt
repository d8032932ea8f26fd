-- The words of both decide 32; what is written is the image of the merged library.
use Rattle.merge.proofs.MergeAnswer.{space-answer, done-answer}
use Rattle.merge.proofs.merge_apart.Goals as goal

pub returns-then-space-words : goal.returns-then-space-words
returns-then-space-words c =
    let a = c.args in
    λ l m p q n t. space-answer a.a.now.image.now a.b.now.image.now a.space.now l m p q n t c.if-space-words.true

pub returns : goal.returns
returns c =
    let a = c.args in
    λ l m p q n t. done-answer a.a.now.image.now a.b.now.image.now a.space.now l m p q n t c.if-space-words.false _ c.put_merged.ensures
