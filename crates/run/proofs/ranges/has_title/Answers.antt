use Prim.Native.Nat.{ℕ, ◌+◌, ◌-◌, ◌<◌}
use native.Mathlib.Omega.{arith}
use native.Mathlib.Nat.{sub-zero}
use mathlib.Core.Path.{◌≡◌, sym, ◌∙◌, subst}
use Rattle.run.proofs.TitleWalk.{Rests, rest-start, rest-done, rest_end, rest-found, rest-on}
use Rattle.run.proofs.ranges.has_title.Goals as goal

pub loop-init : goal.loop-init
loop-init c = let a = c.args in (omega arith, rw sub-zero (rest-start a.w.now a.decks.now a.from a.n))

pub returns-then-w-at : goal.returns-then-w-at
returns-then-w-at c =
    let a = c.args in
    let l = c.loop in
    rest_end a.w.now a.decks.now a.from a.n l.at (a.n - l.counter) l.invariant.1 c.if-w-at.true

pub returns-then-is_title : goal.returns-then-is_title
returns-then-is_title c =
    let a = c.args in
    let l = c.loop in
    let s = c.see-c in
    rest-found a.w.now a.decks.now a.from a.n l.at (a.n - l.counter) l.invariant.1 s.result s.ensures.sees_any c.if-w-at.false
    (omega arith) (sym c.is_title.ensures ∙ c.if-is_title.true)

pub loop-preserved : goal.loop-preserved
loop-preserved c =
    let a = c.args in
    let l = c.loop in
    let s = c.see-c in
    let next : a.n - l.counter - 1 ≡ a.n - (l.counter + 1) = omega arith in (
      omega arith,
      subst (λ (k : ℕ). Rests a.w.now a.decks.now a.from a.n (l.at + s.result.heads + s.result.count) k) next
          (rest-on a.w.now a.decks.now a.from a.n l.at (a.n - l.counter) l.invariant.1 s.result s.ensures.sees_any c.if-w-at.false
          (omega arith) (sym c.is_title.ensures ∙ c.if-is_title.false)),
    )

pub returns : goal.returns
returns c =
    let a = c.args in
    let l = c.loop in
    rest-done a.w.now a.decks.now a.from a.n l.at (a.n - l.counter) l.invariant.1 (omega arith)
