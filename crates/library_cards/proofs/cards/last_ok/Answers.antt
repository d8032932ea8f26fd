-- Its bytes are tested one after the other, up to the first that is unused. Assumes nothing.
use Prim.Native.Nat.{◌/◌, ◌%◌, ◌^◌}
use mathlib.Core.Path.{sym, ◌∙◌}
use mathlib.Core.List.{[], ◌∷◌}
use Rattle.library_cards.proofs.WordTests.{last-top, last-fail, last_on, used-gap, used-fail, used-on, used-end, used-last}
use borrow.Author.Rules.{rules}
use Rattle.library_cards.proofs.cards.last_ok.Goals as goal

pub returns-then-w-ne-LAST_ALONE : goal.returns-then-w-ne-LAST_ALONE
returns-then-w-ne-LAST_ALONE c =
    let a = c.args in
    sym (last-top a.directory.now a.least a.w c.if-w-ne-LAST_ALONE.true)

pub returns-then-not-number_ok : goal.returns-then-not-number_ok
returns-then-not-number_ok c =
    let a = c.args in
    sym (last-fail a.directory.now a.least a.w c.if-w-ne-LAST_ALONE.false (sym c.number_ok.ensures.value ∙ c.if-not-number_ok.true))

pub returns-then-b-eq0 : goal.returns-then-b-eq0
returns-then-b-eq0 c =
    let a = c.args in
    let first = c.if-not-number_ok.false in
    sym (last_on a.directory.now a.least a.w c.if-w-ne-LAST_ALONE.false (search rules) (sym c.number_ok.ensures.value ∙ first)
    ∙ used-gap a.directory.now (a.w / 2 ^ 36 % 2 ^ 18 % 2 ^ 16) (a.w / 2 ^ 18 % 2 ^ 18) (a.w % 2 ^ 18) (c.number_ok.ensures.nonzero first) c.if-b-eq0.true)

pub returns-then-not-number_ok-2 : goal.returns-then-not-number_ok-2
returns-then-not-number_ok-2 c =
    let a = c.args in
    sym (last_on a.directory.now a.least a.w c.if-w-ne-LAST_ALONE.false (search rules) (sym c.number_ok.ensures.value ∙ c.if-not-number_ok.false)
    ∙ used-fail a.directory.now (a.w / 2 ^ 36 % 2 ^ 18 % 2 ^ 16) (a.w / 2 ^ 18 % 2 ^ 18) (a.w % 2 ^ 18 ∷ []) c.if-b-eq0.false (sym c.number_ok-2.ensures.value ∙ c.if-not-number_ok-2.true))

pub returns-then-c-eq0 : goal.returns-then-c-eq0
returns-then-c-eq0 c =
    let a = c.args in
    sym (last_on a.directory.now a.least a.w c.if-w-ne-LAST_ALONE.false (search rules) (sym c.number_ok.ensures.value ∙ c.if-not-number_ok.false)
    ∙ used-on a.directory.now (a.w / 2 ^ 36 % 2 ^ 18 % 2 ^ 16) (a.w / 2 ^ 18 % 2 ^ 18) (a.w % 2 ^ 18 ∷ []) c.if-b-eq0.false (sym c.number_ok-2.ensures.value ∙ c.if-not-number_ok-2.false)
    ∙ used-end a.directory.now (a.w / 2 ^ 18 % 2 ^ 18 % 2 ^ 16) (a.w % 2 ^ 18) c.if-c-eq0.true)

pub returns : goal.returns
returns c =
    let a = c.args in
    c.number_ok-3.ensures.value
    ∙ sym (last_on a.directory.now a.least a.w c.if-w-ne-LAST_ALONE.false (search rules) (sym c.number_ok.ensures.value ∙ c.if-not-number_ok.false)
    ∙ used-on a.directory.now (a.w / 2 ^ 36 % 2 ^ 18 % 2 ^ 16) (a.w / 2 ^ 18 % 2 ^ 18) (a.w % 2 ^ 18 ∷ []) c.if-b-eq0.false (sym c.number_ok-2.ensures.value ∙ c.if-not-number_ok-2.false)
    ∙ used-last a.directory.now (a.w / 2 ^ 18 % 2 ^ 18 % 2 ^ 16) (a.w % 2 ^ 18) c.if-c-eq0.false)
