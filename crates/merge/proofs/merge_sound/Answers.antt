-- The directories of the two are parts of their images, and so 37 is told; then 31 by the counts of both; then what is said where neither is met.
use Prim.Native.Nat.{ℕ}
use mathlib.Core.Path.{◌≡◌, sym, ap, ap₂, ◌∙◌}
use mathlib.Core.List.{List}
use Rattle.words.specs.Base.{place_from}
use Rattle.library.specs.Library.{has_name}
use Rattle.library.specs.Check.{directory_of}
use Rattle.merge_meaning.specs.Merge.{merge}
use Rattle.merge_names.specs.Common.{or_none}
use Rattle.merge.proofs.MergeAnswer.{limit-answer, shared-answer, apart-answer}
use Rattle.merge.proofs.merge_sound.Goals as goal

-- the directories are those of the images
name-is : (ws vs i j x y : List ℕ) (r : ℕ) → r ≡ or_none (place_from (has_name x) 2 y) → x ≡ directory_of i → i ≡ ws → y ≡ directory_of j → j ≡ vs
    → r ≡ or_none (place_from (has_name (directory_of ws)) 2 (directory_of vs))
name-is ws vs i j x y r e first one second two =
    e ∙ ap₂ (λ (d f : List ℕ). or_none (place_from (has_name d) 2 f)) (first ∙ ap directory_of one) (second ∙ ap directory_of two)

pub returns-then-shared-ne0 : goal.returns-then-shared-ne0
returns-then-shared-ne0 c =
    λ l m p q. shared-answer c.args.first.now c.args.second.now c.args.space.now l m p q _ (name-is _ _ _ _ _ _ _ c.shared_name-shared.ensures c.directory.ensures c.new-a.ensures c.directory-2.ensures c.new-b.ensures) c.if-shared-ne0.true

pub returns-then-not-within : goal.returns-then-not-within
returns-then-not-within c =
    let w = rw (c.new-a.ensures, c.new-b.ensures) at c.within_both-within.ensures in
    λ l m p q.
    apart-answer c.args.first.now c.args.second.now c.args.space.now l m p q _ (name-is _ _ _ _ _ _ _ c.shared_name-shared.ensures c.directory.ensures c.new-a.ensures c.directory-2.ensures c.new-b.ensures) c.if-shared-ne0.false _ _
    (λ n. limit-answer c.args.space.now (merge l m) (sym (w l m p q) ∙ c.if-not-within.true))

pub returns : goal.returns
returns c =
    let w = rw (c.new-a.ensures, c.new-b.ensures) at c.within_both-within.ensures in
    let r = rw (c.new-a.ensures, c.new-b.ensures) at c.merge_apart.ensures in
    λ l m p q.
    apart-answer c.args.first.now c.args.second.now c.args.space.now l m p q _ (name-is _ _ _ _ _ _ _ c.shared_name-shared.ensures c.directory.ensures c.new-a.ensures c.directory-2.ensures c.new-b.ensures) c.if-shared-ne0.false _ _
    (λ n. r l m p q n (sym (w l m p q) ∙ c.if-not-within.false))
