-- The step that obeys a correction promises what its line asks; what is left is refused for what it is.
use native.Mathlib.Omega.{arith}
use mathlib.Core.Path.{◌∙◌}
use Rattle.run.specs.Streamed.{in_arrays}
use Rattle.run.proofs.Obeying.{outside-obeys, long-obeys, malformed-obeys, last-obeys, insert-obeys, before-obeys, delete-obeys, restore-obeys, yank-obeys}
use Rattle.run.proofs.obey.correct_line.Goals as goal

pub insert_step-requires : goal.insert_step-requires
insert_step-requires c = let pre = c.requires in (pre.0, pre.1.0)

pub before_step-requires : goal.before_step-requires
before_step-requires c = let pre = c.requires in (pre.0, (pre.1.0, pre.1.1.1.0))

pub mark_step-requires : goal.mark_step-requires
mark_step-requires c = let pre = c.requires in (pre.0, (pre.1.0, pre.1.1.1))

pub mark_step-requires-in-Restore : goal.mark_step-requires-in-Restore
mark_step-requires-in-Restore c = let pre = c.requires in (pre.0, (pre.1.0, pre.1.1.1))

pub yank_step-requires : goal.yank_step-requires
yank_step-requires c = let pre = c.requires in (pre.0, (pre.1.0, (pre.1.1.0, pre.1.1.1.1)))

pub returns-in-Insert : goal.returns-in-Insert
returns-in-Insert c =
    let a = c.args in
    let p = c.insert_step in record { sane_after = p.ensures.sane_after; corrects_line = λ t e. insert-obeys a.w.now a.dir.now a.names.now a.decks.now a.flags.now a.d a.line.now p.result c.in-Insert.r p.new.w (e ∙ c.in-Insert.is) p.ensures.insert_steps }

pub returns-in-Before : goal.returns-in-Before
returns-in-Before c =
    let a = c.args in
    let p = c.before_step in record { sane_after = p.ensures.sane_after; corrects_line = λ t e. before-obeys a.w.now a.dir.now a.names.now a.decks.now a.flags.now a.d a.line.now p.result c.in-Before.r p.new.w (e ∙ c.in-Before.is) p.ensures.before_steps }

pub returns-in-Delete : goal.returns-in-Delete
returns-in-Delete c =
    let a = c.args in
    let p = c.mark_step in record { sane_after = p.ensures.sane_after; corrects_line = λ t e. delete-obeys a.w.now a.dir.now a.names.now a.decks.now a.flags.now a.d a.line.now p.result c.in-Delete.a c.in-Delete.b p.new.w p.new.flags (e ∙ c.in-Delete.is) p.ensures.mark_steps }

pub returns-in-Restore : goal.returns-in-Restore
returns-in-Restore c =
    let a = c.args in
    let p = c.mark_step-in-Restore in record { sane_after = p.ensures.sane_after; corrects_line = λ t e. restore-obeys a.w.now a.dir.now a.names.now a.decks.now a.flags.now a.d a.line.now p.result c.in-Restore.a c.in-Restore.b p.new.w p.new.flags (e ∙ c.in-Restore.is) p.ensures.mark_steps }

pub returns-in-Yank : goal.returns-in-Yank
returns-in-Yank c =
    let a = c.args in
    let p = c.yank_step in record { sane_after = p.ensures.sane_after; corrects_line = λ t e. yank-obeys a.w.now a.dir.now a.names.now a.decks.now a.flags.now a.d a.line.now p.result p.new.w p.new.flags (e ∙ c.in-Yank.is) p.ensures.yank_steps }

pub returns-in-Outside : goal.returns-in-Outside
returns-in-Outside c =
    let a = c.args in record { sane_after = tt; corrects_line = λ t e. outside-obeys (in_arrays a.w.now a.dir.now a.names.now a.decks.now a.flags.now) a.d a.line.now (e ∙ c.in-Outside.is) }

pub returns-in-Long : goal.returns-in-Long
returns-in-Long c =
    let a = c.args in record { sane_after = tt; corrects_line = λ t e. long-obeys (in_arrays a.w.now a.dir.now a.names.now a.decks.now a.flags.now) a.d a.line.now (e ∙ c.in-Long.is) }

pub returns-in-Malformed : goal.returns-in-Malformed
returns-in-Malformed c =
    let a = c.args in record { sane_after = tt; corrects_line = λ t e. malformed-obeys (in_arrays a.w.now a.dir.now a.names.now a.decks.now a.flags.now) a.d a.line.now (e ∙ c.in-Malformed.is) }

pub returns-in_default : goal.returns-in_default
returns-in_default c =
    let a = c.args in record { sane_after = tt; corrects_line = last-obeys (in_arrays a.w.now a.dir.now a.names.now a.decks.now a.flags.now) a.d a.line.now a.asked c.in_default.in_default-own.keys9 }
