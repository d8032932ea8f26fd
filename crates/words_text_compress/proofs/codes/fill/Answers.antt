use Rattle.std.proofs.Common.{rules, arith, ◌-◌, ◌^◌, ◌≤◌, ◌≡◌}
use Rattle.words.specs.Text.{words_of}
use Rattle.words.proofs.Powers.{power-low, power-fits, power_in}
use Rattle.words_text_compress.proofs.FilledWords.{fill-part}
use Rattle.words_text_compress.proofs.codes.fill.Goals as goal

pub loop-c-init : goal.loop-c-init
unfolding words_of
loop-c-init c = search rules

pub overflow_mul-w : goal.overflow_mul-w
overflow_mul-w c =
    let l = c.loop-c in
    let h : l.k ≤ 9 = omega (arith, c.if-k-eq-TEN.false) in
    omega (arith, power-low l.w l.k 9 h l.invariant.below)

pub overflow_add-w : goal.overflow_add-w
overflow_add-w c =
    let l = c.loop-c in
    let h : l.k ≤ 9 = omega (arith, c.if-k-eq-TEN.false) in
    omega (arith, power-low l.w l.k 9 h l.invariant.below, c.requires.by_index l.c-index)

pub overflow_mul-words : goal.overflow_mul-words
overflow_mul-words c =
    let l = c.loop-c in
    let p : c.power.result ≡ 64 ^ (10 - l.k) = power_in (10 - l.k) c.power.ensures (omega arith) in
    rw p (omega (arith, power-fits l.w l.k l.invariant.few l.invariant.below))

pub returns-clause-words_after : goal.returns-clause-words_after
returns-clause-words_after c =
    let l = c.loop-c in
    let p : c.power.result ≡ 64 ^ (10 - l.k) = power_in (10 - l.k) c.power.ensures (omega arith) in
    rw p (fill-part c.args.codes.now c.args.words.now l.words l.m l.w l.k l.c-index c.loop-c-test.false l.invariant.owed l.invariant.rest (omega arith) l.invariant.few c.if-k-eq0.false).1
