-- The words from `at` on are all that are looked through.
use Prim.Native.Nat.{◌+◌, ◌-◌, ◌<◌}
use native.Mathlib.Omega.{arith}
use mathlib.Core.Path.{◌≡◌, sym, ◌∙◌}
use lib.ListN.{length, drop, length-drop}
use Rattle.std.proofs.lemmas.List.{take_rest}
use Rattle.run.specs.CardHeads.{head_len}
use Rattle.run.proofs.Heads.{len-some, len-none}
use Rattle.run.proofs.card.head_len.Goals as goal

pub returns-in-Some : goal.returns-in-Some
returns-in-Some c =
    let a = c.args in
    let p = len-some (drop a.at a.w.now) c.in-Some.i (rw take_rest at (sym c.last_word.ensures ∙ c.in-Some.is)) in
    let long : length (drop a.at a.w.now) ≡ length a.w.now - a.at = length-drop a.at a.w.now in
    (sym p.0, (omega (arith, p.1), λ h. omega arith))

pub returns-in-None : goal.returns-in-None
returns-in-None c =
    let a = c.args in
    let e = len-none (drop a.at a.w.now) (rw take_rest at (sym c.last_word.ensures ∙ c.in-None.is)) in
    (sym (length-drop a.at a.w.now) ∙ sym e, (omega arith, λ h. omega arith))
