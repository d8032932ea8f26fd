use Prim.Native.Nat.{ℕ, ◌-◌, ◌^◌}
use native.Mathlib.Omega.{arith}
use mathlib.Core.Path.{◌≡◌, sym, ◌∙◌}
use mathlib.Core.Bool.{false}
use borrow.Author.Tests.{eqb-true, eqb-false}
use lib.ListN.{get_or, length}
use Rattle.words.specs.Names.{is_name_byte}
use Rattle.words.proofs.AllPass.{stops}
use Rattle.words.proofs.Powers.{power-low, power-fits, power_in}
use Rattle.words.proofs.NameWord.{no-letters, many-letters, other-letter, letter-low, letter-high, pack-end}
use Rattle.words_names.proofs.names.word_of_name.Goals.{then-is_empty-via-then-is_empty, then-is_empty-via-else-is_empty+then-name-gt-NAME, then-c-le-COLON-via-then-c-le-COLON, then-c-le-COLON-via-else-c-le-COLON+then-c-ge-GAP}
use Rattle.words_names.proofs.names.word_of_name.Goals as goal

pub returns-then-is_empty : goal.returns-then-is_empty
returns-then-is_empty c =
    elim c.then-is_empty.branch [
      | then-is_empty-via-then-is_empty w ↦ no-letters c.args.name.now (eqb-true _ 0 (sym c.is_empty.ensures ∙ w.if-is_empty.true))
      | then-is_empty-via-else-is_empty+then-name-gt-NAME w ↦ many-letters c.args.name.now w.if-name-gt-NAME.true
    ]

pub returns-then-c-le-COLON : goal.returns-then-c-le-COLON
returns-then-c-le-COLON c =
    let l = c.loop-b in
    let s = c.args.name.now in
    let x : ℕ = get_or s l.b-index 0 in
    let bad : is_name_byte x ≡ false =
    elim c.then-c-le-COLON.branch [
      | then-c-le-COLON-via-then-c-le-COLON w ↦ letter-low x _ c.code_of-c.ensures w.if-c-le-COLON.true
      | then-c-le-COLON-via-else-c-le-COLON+then-c-ge-GAP w ↦ letter-high x _ c.code_of-c.ensures w.if-c-ge-GAP.true
    ] in
    other-letter s (sym l.invariant.good ∙ stops is_name_byte s l.b-index c.loop-b-test.true bad)

pub overflow_mul-w : goal.overflow_mul-w
overflow_mul-w c = omega (arith, power-low c.loop-b.w c.loop-b.b-index 9 (omega arith) c.loop-b.invariant.below)

pub overflow_add-w : goal.overflow_add-w
overflow_add-w c = omega (arith, power-low c.loop-b.w c.loop-b.b-index 9 (omega arith) c.loop-b.invariant.below)

pub overflow_mul-result : goal.overflow_mul-result
overflow_mul-result c =
    let l = c.loop-b in
    let some = eqb-false (length c.args.name.now) 0 (sym c.is_empty.ensures ∙ c.if-is_empty.false) in
    let e : length c.args.name.now ≡ l.b-index = omega arith in
    let p : c.power.result ≡ 64 ^ (10 - l.b-index) = power_in (10 - l.b-index) (rw e at c.power.ensures) (omega (arith, some)) in
    rw p (omega (arith, power-fits l.w l.b-index (omega arith) l.invariant.below))

pub returns : goal.returns
returns c =
    let l = c.loop-b in
    let some = eqb-false (length c.args.name.now) 0 (sym c.is_empty.ensures ∙ c.if-is_empty.false) in
    let e : length c.args.name.now ≡ l.b-index = omega arith in
    let p : c.power.result ≡ 64 ^ (10 - l.b-index) = power_in (10 - l.b-index) (rw e at c.power.ensures) (omega (arith, some)) in
    rw p (pack-end c.args.name.now l.w l.b-index (omega (arith, some)) (omega arith) c.loop-b-test.false l.invariant.good l.invariant.owed)
