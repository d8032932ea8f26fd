use mathlib.Core.Path.{sym, ap, ap₂, ◌∙◌}
use mathlib.Core.List.{List}
use Prim.Native.Nat.{ℕ}
use Rattle.library.specs.Check.{first_failing, ok_yank}
use Rattle.library_tables.specs.Found.{found}
use Rattle.library_image.specs.Places.{line_in}
use Rattle.library_check.specs.Rows.{ok_yank_line}
use Rattle.library_check.proofs.Spanning.{still-start, still-on, still-here, still-end}
use Rattle.library_check.proofs.Showing.{shown-next, shown-place}
use Rattle.library_check.proofs.Decking.{failing-on, failing-here}
use Rattle.library_check.proofs.Naming.{shown-yank}
use Rattle.library_check.proofs.yanks.yanks_fault.Goals as goal

pub loop-at-init : goal.loop-at-init
loop-at-init c =
    let a = c.args in
    still-start a.directory.now a.image.now a.from a.end (first_failing (ok_yank a.directory.now a.list.now))

pub returns-then-not-yank_ok : goal.returns-then-not-yank_ok
returns-then-not-yank_ok c =
    let a = c.args in
    let ws = a.image.now in
    let D = a.directory.now in
    let ok = ok_yank D a.list.now in
    let l = c.loop-at in
    let r = c.see-c.result in
    let sees = c.see-c.ensures.value in
    let told = c.yank_ok.ensures ∙ ap₂ (λ (d e : List ℕ). ok_yank_line d e r.owner (line_in ws r.text r.next)) c.new-names.ensures c.new-decks.ensures in
    λ ss h. sym (ap found (still-here D ws a.from a.end (first_failing ok) l.at (first_failing ok) l.invariant c.loop-at-test.true _
    (λ s w t. failing-here ok s t l.at (shown-yank D a.list.now ws l.at s w r sees c.yank_ok.result told ∙ c.if-not-yank_ok.true) (shown-place D ws l.at s w r sees)) ss h))

pub loop-at-preserved : goal.loop-at-preserved
loop-at-preserved c =
    let a = c.args in
    let ws = a.image.now in
    let D = a.directory.now in
    let ok = ok_yank D a.list.now in
    let l = c.loop-at in
    let r = c.see-c.result in
    let sees = c.see-c.ensures.value in
    let told = c.yank_ok.ensures ∙ ap₂ (λ (d e : List ℕ). ok_yank_line d e r.owner (line_in ws r.text r.next)) c.new-names.ensures c.new-decks.ensures in
    still-on D ws a.from a.end (first_failing ok) l.at (first_failing ok) l.invariant c.loop-at-test.true r.next (first_failing ok)
    (λ s w. (shown-next D ws l.at s w r sees, λ t. failing-on ok s t (shown-yank D a.list.now ws l.at s w r sees c.yank_ok.result told ∙ c.if-not-yank_ok.false)))

pub returns : goal.returns
returns c =
    let a = c.args in
    let ok = ok_yank a.directory.now a.list.now in
    let l = c.loop-at in
    λ ss h. sym (ap found (still-end a.directory.now a.image.now a.from a.end (first_failing ok) l.at (first_failing ok) l.invariant c.loop-at-test.false ss h))
