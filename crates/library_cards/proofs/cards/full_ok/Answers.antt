-- Its bytes are tested one after the other, each against the number ahead of it. Assumes nothing.
use Prim.Native.Nat.{◌/◌, ◌%◌, ◌^◌, ◌<◌}
use mathlib.Core.Path.{sym, ◌∙◌}
use native.Mathlib.Omega.{arith}
use mathlib.Core.List.{[], ◌∷◌}
use Rattle.library_cards.proofs.WordTests.{never, full-top, full-bytes, bytes-fail, bytes_on, bytes-end}
use Rattle.library_cards.proofs.cards.full_ok.Goals as goal

pub returns-then-w-ne0 : goal.returns-then-w-ne0
returns-then-w-ne0 c =
    let a = c.args in record { value = sym (full-top a.directory.now a.least a.w c.if-w-ne0.true); nonzero = λ e. absurd (never e) }

pub returns-then-not-number_ok : goal.returns-then-not-number_ok
returns-then-not-number_ok c =
    let a = c.args in record { value = sym (full-bytes a.directory.now a.least a.w c.if-w-ne0.false ∙ bytes-fail a.directory.now a.least (a.w / 2 ^ 36 % 2 ^ 18) (a.w / 2 ^ 18 % 2 ^ 18 ∷ a.w % 2 ^ 18 ∷ []) (sym c.number_ok.ensures.value ∙ c.if-not-number_ok.true)); nonzero = λ e. absurd (never e) }

pub returns-then-not-number_ok-2 : goal.returns-then-not-number_ok-2
returns-then-not-number_ok-2 c =
    let a = c.args in record {
      value = sym (full-bytes a.directory.now a.least a.w c.if-w-ne0.false
          ∙ bytes_on a.directory.now a.least (a.w / 2 ^ 36 % 2 ^ 18) (a.w / 2 ^ 18 % 2 ^ 18 ∷ a.w % 2 ^ 18 ∷ []) (sym c.number_ok.ensures.value ∙ c.if-not-number_ok.false)
          ∙ bytes-fail a.directory.now (a.w / 2 ^ 36 % 2 ^ 18 % 2 ^ 16) (a.w / 2 ^ 18 % 2 ^ 18) (a.w % 2 ^ 18 ∷ []) (sym c.number_ok-2.ensures.value ∙ c.if-not-number_ok-2.true));
      nonzero = λ e. absurd (never e);
    }

pub returns : goal.returns
returns c =
    let a = c.args in record {
      value = c.number_ok-3.ensures.value
          ∙ sym (full-bytes a.directory.now a.least a.w c.if-w-ne0.false
          ∙ bytes_on a.directory.now a.least (a.w / 2 ^ 36 % 2 ^ 18) (a.w / 2 ^ 18 % 2 ^ 18 ∷ a.w % 2 ^ 18 ∷ []) (sym c.number_ok.ensures.value ∙ c.if-not-number_ok.false)
          ∙ bytes_on a.directory.now (a.w / 2 ^ 36 % 2 ^ 18 % 2 ^ 16) (a.w / 2 ^ 18 % 2 ^ 18) (a.w % 2 ^ 18 ∷ []) (sym c.number_ok-2.ensures.value ∙ c.if-not-number_ok-2.false)
          ∙ bytes-end a.directory.now (a.w / 2 ^ 18 % 2 ^ 18 % 2 ^ 16) (a.w % 2 ^ 18));
      nonzero = λ e. let z : 0 < a.w % 2 ^ 18 % 2 ^ 16 = c.number_ok-3.ensures.nonzero e in omega arith;
    }
