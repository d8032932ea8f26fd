-- The keys that are listed are those of the cards, and the first that stands twice has as many cards ahead as keys. Assumes nothing.
use mathlib.Core.Path.{◌≡◌}
use native.Mathlib.Omega.{arith}
use lib.ListN.{length}
use Rattle.library_check.proofs.Keying.{twice-none, twice-at}
use borrow.Author.Rules.{rules}
use Rattle.library_check.proofs.twice.twice_fault.Goals as goal

pub returns-then-n-k : goal.returns-then-n-k
returns-then-n-k c =
    let a = c.args in
    let k = c.list_keys-n in
    let long : length k.new.keys ≡ 16384 = search rules in
    twice-none a.image.now a.from k.new.keys k.result k.ensures.upper_bound (omega (arith, k.ensures.upper_bound, long)) k.ensures.listed c.first_twice-k.result c.first_twice-k.ensures c.if-n-k.true

pub returns : goal.returns
returns c =
    let a = c.args in
    let k = c.list_keys-n in
    let f = c.first_twice-k in
    let long : length k.new.keys ≡ 16384 = search rules in
    twice-at a.image.now a.from k.new.keys k.result k.ensures.upper_bound (omega (arith, k.ensures.upper_bound, long)) k.ensures.listed f.result f.ensures (omega (arith, c.if-n-k.false)) c.place_of.result c.place_of.ensures
