use Prim.Native.Nat.{ℕ}
use native.Mathlib.Omega.{arith}
use mathlib.Core.Path.{◌≡◌, sym, ◌∙◌}
use mathlib.Core.Bool.{false}
use lib.ListN.{get_or}
use Rattle.words.specs.Names.{is_digit}
use Rattle.words.proofs.AllPass.{stops, passed-all}
use Rattle.words.proofs.DecimalDigits.{digit_low, digit-high, decimal-end, read-long, read-other, read-large, read-good}
use Rattle.words_names.proofs.names.number_read.Goals.{then-d-lt-ZERO-via-then-d-lt-ZERO, then-d-lt-ZERO-via-else-d-lt-ZERO+then-d-gt-NINE}
use Rattle.words_names.proofs.names.number_read.Goals as goal

pub returns-then-digits-gt-READ : goal.returns-then-digits-gt-READ
returns-then-digits-gt-READ c = read-long c.args.digits.now c.if-digits-gt-READ.true

pub returns-then-d-lt-ZERO : goal.returns-then-d-lt-ZERO
returns-then-d-lt-ZERO c =
    let l = c.loop-d in
    let s = c.args.digits.now in
    let x : ℕ = get_or s l.d-index 0 in
    let bad : is_digit x ≡ false =
    elim c.then-d-lt-ZERO.branch [
      | then-d-lt-ZERO-via-then-d-lt-ZERO w ↦ digit_low x w.if-d-lt-ZERO.true
      | then-d-lt-ZERO-via-else-d-lt-ZERO+then-d-gt-NINE w ↦ digit-high x w.if-d-gt-NINE.true
    ] in
    read-other s (omega arith) (sym l.invariant.good ∙ stops is_digit s l.d-index c.loop-d-test.true bad)

pub returns-then-n-gt-LARGEST : goal.returns-then-n-gt-LARGEST
returns-then-n-gt-LARGEST c =
    let l = c.loop-d in
    let s = c.args.digits.now in
    let over = c.loop-d-test.false in
    read-large s (omega arith) (sym l.invariant.good ∙ passed-all is_digit s l.d-index over) l.n (sym (decimal-end s l.n l.d-index over) ∙ l.invariant.owed) c.if-n-gt-LARGEST.true

pub returns : goal.returns
returns c =
    let l = c.loop-d in
    let s = c.args.digits.now in
    let over = c.loop-d-test.false in
    read-good s (omega arith) (sym l.invariant.good ∙ passed-all is_digit s l.d-index over) l.n (sym (decimal-end s l.n l.d-index over) ∙ l.invariant.owed) c.if-n-gt-LARGEST.false
