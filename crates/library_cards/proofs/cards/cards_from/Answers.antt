use Rattle.std.specs.Prelude.{Option, None, Some}
use Prim.Native.Nat.{ℕ, ◌-◌}
use mathlib.Core.Path.{◌≡◌, refl, sym, ◌∙◌}
use native.Mathlib.Omega.{arith}
use Rattle.library_cards.proofs.CardsLeft.{begun, ended, turn_many, turn-form, turn-text, turn_on, cards-end}
use Rattle.library_cards.proofs.cards.cards_from.Goals as goal

none_is : (o : Option ℕ) → ((p : ℕ) → o ≡ Some p → ⊥) → o ≡ None
none_is None h = refl
none_is (Some p) h = absurd (h p refl)

pub returns-then-n-eq-MOST_CARDS : goal.returns-then-n-eq-MOST_CARDS
returns-then-n-eq-MOST_CARDS c =
    let l = c.loop-at in
    sym (l.invariant.1.1 ∙ turn_many _ c.args.image.now l.at l.n (omega arith) c.if-n-eq-MOST_CARDS.true)

pub returns-in_default : goal.returns-in_default
returns-in_default c =
    let l = c.loop-at in
    sym (l.invariant.1.1 ∙ turn-form _ c.args.image.now l.at l.n (omega arith) (omega arith) (sym c.text_of.ensures ∙ none_is c.text_of.result c.in_default.not-Some))

pub end_of-requires-clause-at_in_bounds_2 : goal.end_of-requires-clause-at_in_bounds_2
end_of-requires-clause-at_in_bounds_2 c = (begun _ c.args.image.now c.loop-at.at _ (omega arith) (sym c.text_of.ensures ∙ c.in-Some.is)).within

pub returns-in_default-end_of : goal.returns-in_default-end_of
returns-in_default-end_of c =
    let l = c.loop-at in
    let ws = c.args.image.now in
    let b = begun _ ws l.at _ (omega arith) (sym c.text_of.ensures ∙ c.in-Some.is) in
    sym (l.invariant.1.1 ∙ turn-text _ ws l.at l.n (omega arith) (omega arith) _ b (sym c.end_of.ensures ∙ none_is c.end_of.result c.in_default-end_of.not-Some))

pub loop-at-smaller : goal.loop-at-smaller
loop-at-smaller c =
    let l = c.loop-at in
    let ws = c.args.image.now in
    let b = begun _ ws l.at _ (omega arith) (sym c.text_of.ensures ∙ c.in-Some.is) in
    let d = ended ws l.at _ _ (sym c.end_of.ensures ∙ c.in-Some-end_of.is) in
    omega arith

pub loop-at-preserved : goal.loop-at-preserved
loop-at-preserved c =
    let l = c.loop-at in
    let ws = c.args.image.now in
    let b = begun _ ws l.at _ (omega arith) (sym c.text_of.ensures ∙ c.in-Some.is) in
    let d = ended ws l.at _ _ (sym c.end_of.ensures ∙ c.in-Some-end_of.is) in
    (omega arith, (omega arith, l.invariant.1.1 ∙ turn_on _ ws l.at l.n (omega arith) (omega arith) _ b _ d))

pub returns : goal.returns
returns c =
    let l = c.loop-at in
    sym (l.invariant.1.1 ∙ cards-end _ c.args.image.now l.at (16383 - l.n) (omega arith))
