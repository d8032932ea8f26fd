-- Where the first word ends the history, one head is passed; else those from the next word on are counted too.
use mathlib.Core.Path.{◌≡◌}
use Prim.Native.Nat.{suc, ◌+◌}
use native.Mathlib.Omega.{arith}
use lib.ListN.{drop}
use Rattle.run.specs.CardHeads.{head_len}
use Rattle.run.proofs.Heads.{len-end, len_more}
use borrow.Author.Rules.{rules}
use Rattle.run.proofs.card.next_card.Goals as goal

pub returns-then-x-ge-LAST : goal.returns-then-x-ge-LAST
returns-then-x-ge-LAST c =
    let a = c.args in
    let one : head_len (drop a.at a.w.now) ≡ 1 = len-end a.w.now a.at c.requires c.if-x-ge-LAST.true in record { lower_bound = search rules; value = omega (arith, one) }

pub returns : goal.returns
returns c =
    let a = c.args in
    let more : head_len (drop a.at a.w.now) ≡ suc (head_len (drop (a.at + 1) a.w.now)) = len_more a.w.now a.at c.requires c.if-x-ge-LAST.false in record { lower_bound = search rules; value = omega (arith, more, c.head_len-n.ensures.0) }
