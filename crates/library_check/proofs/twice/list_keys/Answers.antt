use Prim.Native.Nat.{◌<◌}
use native.Mathlib.Omega.{arith}
use lib.ListN.{length, length-set}
use mathlib.Core.Path.{◌∙◌}
use borrow.Author.Rules.{rules}
use Rattle.library_check.proofs.Keying.{list-start, list_on, list_full, list-end}
use Rattle.library_check.proofs.twice.list_keys.Goals as goal

pub loop-at-init : goal.loop-at-init
loop-at-init c =
    let a = c.args in
    (omega arith, search rules, λ d. list-start d a.image.now a.from a.keys.now)

pub returns-then-n-eq-MOST_CARDS : goal.returns-then-n-eq-MOST_CARDS
returns-then-n-eq-MOST_CARDS c =
    let a = c.args in
    let l = c.loop-at in record { upper_bound = omega arith; listed = λ d ss h m. absurd (list_full d a.image.now a.from l.keys l.n l.at (l.invariant.2 d) (omega arith) (omega arith) ss h m) }

pub loop-at-preserved : goal.loop-at-preserved
loop-at-preserved c =
    let a = c.args in
    let l = c.loop-at in
    let f = c.see-c in
    let k = c.key_of in
    let r : l.n < length l.keys = omega arith in
    (omega arith, length-set l.keys l.n k.result ∙ l.invariant.1, λ d. list_on d a.image.now a.from l.keys l.n l.at (l.invariant.2 d) f.result f.ensures.value c.loop-at-test.true r k.result k.ensures)

pub returns : goal.returns
returns c =
    let a = c.args in
    let l = c.loop-at in record { upper_bound = omega arith; listed = λ d ss h m. list-end d a.image.now a.from l.keys l.n l.at (l.invariant.2 d) c.loop-at-test.false ss h }
