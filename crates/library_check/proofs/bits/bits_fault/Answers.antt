use mathlib.Core.Path.{sym, ap, ◌∙◌}
use lib.ListN.{length}
use Rattle.library.specs.Check.{first_failing, ok_bits}
use Rattle.library_tables.specs.Found.{found}
use Rattle.library_yanks.specs.Bytes.{flagged}
use Rattle.library_check.proofs.Spanning.{still-start, still-on, still-here, still-end}
use Rattle.library_check.proofs.Showing.{shown-next, shown-place}
use Rattle.library_check.proofs.Telling.{shown-bits}
use Rattle.library_check.proofs.Decking.{failing-on, failing-here}
use Rattle.library_check.proofs.bits.bits_fault.Goals as goal

pub loop-at-init : goal.loop-at-init
loop-at-init c =
    let a = c.args in
    λ d. still-start d a.image.now a.from (length a.image.now) (first_failing (ok_bits (flagged a.flags.now)))

pub returns-then-not-card_bits_ok : goal.returns-then-not-card_bits_ok
returns-then-not-card_bits_ok c =
    let a = c.args in
    let ok = ok_bits (flagged a.flags.now) in
    let ws = c.args.image.now in
    let l = c.loop-at in
    let r = c.see-c.result in
    let sees = c.see-c.ensures.value in
    λ d ss h. sym (ap found (still-here d ws a.from (length ws) (first_failing ok) l.at (first_failing ok) (l.invariant d) c.loop-at-test.true _
    (λ s w t. failing-here ok s t l.at (shown-bits d ws l.at s w r sees (flagged a.flags.now) ∙ sym c.card_bits_ok.ensures ∙ c.if-not-card_bits_ok.true) (shown-place d ws l.at s w r sees)) ss h))

pub loop-at-preserved : goal.loop-at-preserved
loop-at-preserved c =
    let a = c.args in
    let ok = ok_bits (flagged a.flags.now) in
    let ws = c.args.image.now in
    let l = c.loop-at in
    let r = c.see-c.result in
    let sees = c.see-c.ensures.value in
    λ d. still-on d ws a.from (length ws) (first_failing ok) l.at (first_failing ok) (l.invariant d) c.loop-at-test.true r.next (first_failing ok)
    (λ s w. (shown-next d ws l.at s w r sees, λ t. failing-on ok s t (shown-bits d ws l.at s w r sees (flagged a.flags.now) ∙ sym c.card_bits_ok.ensures ∙ c.if-not-card_bits_ok.false)))

pub returns : goal.returns
returns c =
    let a = c.args in
    let ok = ok_bits (flagged a.flags.now) in
    let ws = c.args.image.now in
    let l = c.loop-at in
    λ d ss h. sym (ap found (still-end d ws a.from (length ws) (first_failing ok) l.at (first_failing ok) (l.invariant d) c.loop-at-test.false ss h))
