-- YANK$$$ is brought below the gap; past a limit nothing more is done, and else the bits are settled again.
use mathlib.Core.Path.{◌≡◌, sym, ◌∙◌}
use lib.ListN.{length}
use borrow.Author.Rules.{rules}
use Rattle.std.proofs.lemmas.Result.{err_from_is_err_and}
use Rattle.run.proofs.YankMarking.{yank-lead, yank-sane, yank-went, yank-refused}
use Rattle.run.proofs.ranges.yank_marked.Goals as goal

pub resettle-requires : goal.resettle-requires
resettle-requires c =
    let a = c.args in
    let pre = c.requires in
    let o = c.open_at-m in
    let q = sym c.limited.ensures ∙ c.in_ok-e.was in
    let same : length o.new.w ≡ length a.w.now = c.open_at-m.auto.w in
    let e = c.in_ok-e.e in
    (yank-sane a.w.now o.new.w a.d o.result e pre.0 same o.ensures.ordered q, (yank-lead a.d o.result e q, (pre.1.1.0, search rules)))

pub returns : goal.returns
returns c =
    let a = c.args in
    let pre = c.requires in
    let n = c.lead_after-n in
    let o = c.open_at-m in
    let z = c.resettle in
    let q = sym c.limited.ensures ∙ c.in_ok-e.was in
    let e = c.in_ok-e.e in
    let half : length o.new.w ≡ length a.w.now = c.open_at-m.auto.w in
    let same : length z.new.w ≡ length a.w.now = z.auto.w ∙ half in record { sane_after = yank-sane a.w.now z.new.w a.d o.result e pre.0 same o.ensures.ordered q; yank_marks = yank-went a.w.now a.dir.now a.d a.h pre.0.room n.result n.ensures.lead_after o.new.w o.result o.ensures.opens_at half o.ensures.ordered e q _ _ same z.ensures }

pub returns-in_err-e : goal.returns-in_err-e
returns-in_err-e c =
    let a = c.args in
    let pre = c.requires in
    let n = c.lead_after-n in
    let o = c.open_at-m in
    let p = err_from_is_err_and c.from_residual.result c.from_residual.ensures.1 in
    let q = sym c.limited.ensures ∙ c.in_err-e.was in
    let same : length o.new.w ≡ length a.w.now = c.open_at-m.auto.w in
    rw (p.1, p.2) (record { sane_after = tt; yank_marks = yank-refused a.w.now a.dir.now a.d a.h pre.0.room n.result n.ensures.lead_after o.new.w o.result o.ensures.opens_at same o.ensures.ordered _ q a.flags.now })
