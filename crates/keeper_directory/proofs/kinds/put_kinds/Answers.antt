use native.Mathlib.Omega.{arith}
use mathlib.Core.Path.{sym}
use lib.ListN.{length}
use Rattle.library_check.proofs.Spanning.{still-start, still-on, still-end}
use Rattle.library_check.proofs.Showing.{shown-next}
use Rattle.keeper_directory.specs.Parts.{kinds_of}
use Rattle.keeper_directory.proofs.DeckKinds.{shown-kind}
use borrow.Author.Rules.{rules}
use Rattle.keeper_directory.proofs.kinds.put_kinds.Goals as goal

pub loop-at-init : goal.loop-at-init
loop-at-init c =
    let a = c.args in
    (search rules, λ d. still-start d a.image.now a.from (length a.image.now) (λ ss. kinds_of ss a.kinds.now))

pub loop-at-smaller : goal.loop-at-smaller
loop-at-smaller c = omega (arith, c.see-c.ensures.text_le_next.1.1 c.loop-at-test.true, c.see-c.ensures.text_le_next.0)

pub loop-at-preserved : goal.loop-at-preserved
loop-at-preserved c =
    let a = c.args in
    let ws = c.args.image.now in
    let l = c.loop-at in
    let r = c.see-c.result in
    let sees = c.see-c.ensures.value in
    let k = c.put_kind in (
      omega (arith, l.invariant.0, k.auto.kinds),
      λ d. still-on d ws a.from (length ws) (λ ss. kinds_of ss a.kinds.now) l.at (λ ss. kinds_of ss l.kinds) (l.invariant.1 d) c.loop-at-test.true r.next (λ ss. kinds_of ss k.new.kinds)
          (λ s w. (shown-next d ws l.at s w r sees, λ t. shown-kind d ws l.at s w r sees _ c.deck_at.ensures l.kinds k.new.kinds k.ensures t)),
    )

pub returns : goal.returns
returns c =
    let a = c.args in
    let l = c.loop-at in
    λ d ss h. sym (still-end d a.image.now a.from (length a.image.now) (λ ts. kinds_of ts a.kinds.now) l.at (λ ts. kinds_of ts l.kinds) (l.invariant.1 d) c.loop-at-test.false ss h)
