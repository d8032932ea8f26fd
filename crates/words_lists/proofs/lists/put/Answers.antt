use native.Mathlib.Omega.{arith}
use mathlib.Core.Path.{◌≡◌, sym, ap, ◌∙◌}
use mathlib.Core.List.{List, ◌++◌}
use borrow.Author.Tests.{leb-true, leb-false}
use lib.ListN.{length, take, drop}
use lib.Seq.{paste, paste-zero, take-length}
use Rattle.std.proofs.Common.{◌+◌, ◌≤◌}
use Rattle.words_lists.proofs.OverLists.{over_none, over-put}
use Rattle.words_lists.proofs.lists.put.Goals as goal

pub returns-then-not-within : goal.returns-then-not-within
returns-then-not-within g c =
    let a = c.args in
    sym (over_none a.at a.from.now a.out.now (leb-false _ _ (sym c.within.ensures ∙ c.if-not-within.true)))

pub loop-i-init : goal.loop-i-init
loop-i-init g c = let a = c.args in paste-zero a.out.now a.at a.from.now

pub returns : goal.returns
returns g c =
    let a = c.args in
    let l = c.loop-i in
    let fits : a.at + length a.from.now ≤ length a.out.now = leb-true _ _ (sym c.within.ensures ∙ c.if-not-within.false) in
    let all : l.i ≡ length a.from.now = omega arith in
    l.invariant
    ∙ ap (paste a.out.now a.at a.from.now) all
    ∙ ap (λ (v : List g.row.T.Denot). take a.at a.out.now ++ v ++ drop (a.at + length a.from.now) a.out.now) (take-length a.from.now)
    ∙ sym (over-put a.at a.from.now a.out.now fits)
