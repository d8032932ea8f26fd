-- Each field is that of the definition.
use Rattle.std.specs.Prelude.{if◌then◌else◌}
use Rattle.library_image.specs.Places.{next_at}
use Rattle.library_image.proofs.CardPlaces.{bound-over}
use lib.ListN.{length}
use lib.Dec.{leb, eqb}
use native.Mathlib.Omega.{arith}
use Prim.Native.Nat.{ℕ, ◌+◌, ◌/◌, ◌%◌, ◌^◌}
use mathlib.Core.Path.{◌∙◌}
use borrow.Author.Rules.{rules}
use Rattle.library_image.proofs.cards.see.Goals as goal

pub returns : goal.returns
unfolding next_at
returns c =
    let a = c.args in
    let t = c.text_at-text.ensures.value in
    let w = c.word_at-w.ensures in
    let n : ℕ = length a.image.now in
    let x : ℕ = c.word_at-w.result in
    let y : ℕ = c.text_at-text.result in
    let next = c.least.ensures.value ∙ (λ i. if leb (t i + w i / 2 ^ 36 % 2 ^ 18) n then t i + w i / 2 ^ 36 % 2 ^ 18 else n) in record { text_le_next = (rw c.least.ensures.value (bound-over y (x / 2 ^ 36 % 2 ^ 18) n (search rules)), (search rules, c.text_at-text.ensures.upper_bound.1)); seq_bound = (omega arith, omega arith); value = λ i. record { text = t i; next = next i; owner = w i % 2 ^ 16; seq = w i / 2 ^ 18 % 2 ^ 18; active = eqb (w i / 2 ^ 58 % 2) 1 } }
