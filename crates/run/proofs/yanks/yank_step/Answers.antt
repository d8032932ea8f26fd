-- Outside a set 24, an unknown name 26, a name of no other set 27; else there is a new card in YANK$$$, and the bits are settled again.
use Rattle.std.specs.Prelude.{Ok, Err}
use Prim.Native.Nat.{ℕ, ◌+◌}
use native.Mathlib.Omega.{arith}
use mathlib.Core.Path.{◌≡◌, sym, ap, ap₂, ◌∙◌, subst}
use mathlib.Core.List.{List}
use lib.ListN.{length, take}
use lib.Seq.{length-take-le}
use Rattle.std.proofs.lemmas.Result.{err_from_is_err_and}
use Rattle.words.specs.Base.{any}
use Rattle.run.specs.Desk.{SaneAfter}
use Rattle.run.specs.YankNames.{names_in, unknown_in, no_set_in, LeadAfter, PutsYank}
use Rattle.run.proofs.Sums.{entry_place, deck-fits, decks-in}
use Rattle.run.proofs.Correcting.{not_taken, not_left}
use Rattle.run.proofs.YankTests.{yank-off, yank-unknown, yank-no-set, yank-on}
use Rattle.run.proofs.yanks.yank_step.Goals as goal

pub returns-then-not-d : goal.returns-then-not-d
returns-then-not-d c =
    let a = c.args in record { sane_after = tt; yank_steps = yank-off a.w.now a.dir.now a.names.now a.flags.now a.d a.line.now a.w.now a.flags.now (not_taken a.d.set c.if-not-d.true) }

pub overflow_add-list : goal.overflow_add-list
overflow_add-list c = deck-fits _ c.requires.0.decks

pub returns-then-any_unknown : goal.returns-then-any_unknown
returns-then-any_unknown c =
    let a = c.args in
    let set = not_left a.d.set c.if-not-d.false in
    let same = c.field_of-field.ensures in
    let unknown = ap (λ (f : List ℕ). any (unknown_in (take a.d.entries a.dir.now)) (names_in f)) (sym same) ∙ sym c.any_unknown.ensures ∙ c.if-any_unknown.true in record { sane_after = tt; yank_steps = yank-unknown a.w.now a.dir.now a.names.now a.flags.now a.d a.line.now a.w.now a.flags.now set unknown }

pub returns-then-any_no_set : goal.returns-then-any_no_set
returns-then-any_no_set c =
    let a = c.args in
    let set = not_left a.d.set c.if-not-d.false in
    let same = c.field_of-field.ensures in
    let known = ap (λ (f : List ℕ). any (unknown_in (take a.d.entries a.dir.now)) (names_in f)) (sym same) ∙ sym c.any_unknown.ensures ∙ c.if-any_unknown.false in
    let long = length-take-le a.d.entries a.dir.now (entry_place _ _ c.requires.0.entries c.requires.1.0) in
    let barred = ap₂ (λ (n : ℕ) (f : List ℕ). any (no_set_in n (take a.d.entries a.dir.now) (take (a.d.decks + 1) a.names.now)) (names_in f)) (sym long) (sym same) ∙ sym c.any_no_set.ensures ∙ c.if-any_no_set.true in record { sane_after = tt; yank_steps = yank-no-set a.w.now a.dir.now a.names.now a.flags.now a.d a.line.now a.w.now a.flags.now set known barred }

pub put_yank-requires : goal.put_yank-requires
put_yank-requires c = c.requires.0

pub resettle-requires : goal.resettle-requires
resettle-requires c =
    let pre = c.requires in
    let p = c.put_yank in
    let e = c.in_ok-e.was in
    (subst (SaneAfter p.new.w) e p.ensures.sane_after.0, (subst LeadAfter e p.ensures.sane_after.1, (pre.1.0, pre.1.1.1)))

pub shape_of-w : goal.shape_of-w
shape_of-w c = c.resettle.auto.w ∙ c.put_yank.auto.w

pub shape_of-flags : goal.shape_of-flags
shape_of-flags c = c.resettle.auto.flags

pub returns : goal.returns
returns c =
    let a = c.args in
    let set = not_left a.d.set c.if-not-d.false in
    let field = c.field_of-field.ensures in
    let known = ap (λ (f : List ℕ). any (unknown_in (take a.d.entries a.dir.now)) (names_in f)) (sym field) ∙ sym c.any_unknown.ensures ∙ c.if-any_unknown.false in
    let long = length-take-le a.d.entries a.dir.now (entry_place _ _ c.requires.0.entries c.requires.1.0) in
    let free = ap₂ (λ (n : ℕ) (f : List ℕ). any (no_set_in n (take a.d.entries a.dir.now) (take (a.d.decks + 1) a.names.now)) (names_in f)) (sym long) (sym field) ∙ sym c.any_no_set.ensures ∙ c.if-any_no_set.false in
    let p = c.put_yank in
    let r = c.resettle in
    let e = c.in_ok-e.was in
    let sane = subst (SaneAfter p.new.w) e p.ensures.sane_after.0 in
    let same : length r.new.w ≡ length p.new.w = c.resettle.auto.w in record { sane_after = record { ordered = (sane.ordered.0, omega (arith, sane.ordered.1)); room = same ∙ sane.room; entries = sane.entries; decks = sane.decks; cards = sane.cards; next = sane.next; yanks = sane.yanks; low = sane.low }; yank_steps = yank-on a.w.now a.dir.now a.names.now a.flags.now a.d a.line.now r.new.w r.new.flags set known free p.new.w (Ok c.in_ok-e.e) (subst (PutsYank a.w.now a.d a.line.now p.new.w) e p.ensures.puts_yank) (same ∙ sane.room) r.ensures }

pub shape_of-w-in_err-e : goal.shape_of-w-in_err-e
shape_of-w-in_err-e c = c.put_yank.auto.w

pub returns-in_err-e : goal.returns-in_err-e
returns-in_err-e c =
    let a = c.args in
    let pre = c.requires in
    let set = not_left a.d.set c.if-not-d.false in
    let field = c.field_of-field.ensures in
    let known = ap (λ (f : List ℕ). any (unknown_in (take a.d.entries a.dir.now)) (names_in f)) (sym field) ∙ sym c.any_unknown.ensures ∙ c.if-any_unknown.false in
    let long = length-take-le a.d.entries a.dir.now (entry_place _ _ c.requires.0.entries c.requires.1.0) in
    let free = ap₂ (λ (n : ℕ) (f : List ℕ). any (no_set_in n (take a.d.entries a.dir.now) (take (a.d.decks + 1) a.names.now)) (names_in f)) (sym long) (sym field) ∙ sym c.any_no_set.ensures ∙ c.if-any_no_set.false in
    let p = c.put_yank in
    let e = c.in_err-e.was in
    let same : length p.new.w ≡ length a.w.now = c.put_yank.auto.w in
    let q = err_from_is_err_and c.from_residual.result c.from_residual.ensures.1 in
    rw (q.1, q.2) (record { sane_after = tt; yank_steps = yank-on a.w.now a.dir.now a.names.now a.flags.now a.d a.line.now p.new.w a.flags.now set known free p.new.w (Err c.in_err-e.field-0.0) (subst (PutsYank a.w.now a.d a.line.now p.new.w) e p.ensures.puts_yank) (same ∙ pre.0.room) tt })
