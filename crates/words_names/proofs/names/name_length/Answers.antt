use native.Mathlib.Omega.{arith}
use mathlib.Core.Path.{◌≡◌, refl, sym, ◌∙◌}
use lib.ListN.{length, get_or}
use Rattle.words.specs.Names.{is_name_byte, name_of}
use Rattle.words.proofs.AllPass.{passes, stops}
use Rattle.words.proofs.Powers.{power-more, power-low, power-room}
use Rattle.words.proofs.NameWord.{packed-end, many-none, other_none, letter-high, letter-good, pack-more, left-start, left-none, left-inside, left-code, left-more, unnamed, unmade, made}
use Rattle.words_names.proofs.names.name_length.Goals as goal

pub loop-i-init : goal.loop-i-init
loop-i-init c = (omega arith, (left-start c.args.word, record { inside = omega arith; below = omega arith; good = refl; owed = refl }))

pub overflow_mul-w : goal.overflow_mul-w
overflow_mul-w c =
    let l = c.loop-i in
    record { fits = power-room l.w l.i _ l.invariant.0 l.invariant.1.1.below c.power.ensures }

pub returns-then-w-power : goal.returns-then-w-power
returns-then-w-power c =
    let l = c.loop-i in
    let w = c.args.word in
    let few = c.loop-i-test.true in
    let over = left-none w l.i _ few c.code_in-c.ensures l.invariant.1.0 c.if-c-eq-COLON.true in
    let all : l.i ≡ length (name_of w) = omega (arith, l.invariant.1.1.inside) in
    all ∙ made w (sym (packed-end (name_of w) l.w l.i _ l.invariant.1.1 over few c.power.ensures) ∙ c.if-w-power.true)

pub returns-else-w-power : goal.returns-else-w-power
returns-else-w-power c =
    let l = c.loop-i in
    let w = c.args.word in
    let few = c.loop-i-test.true in
    let over = left-none w l.i _ few c.code_in-c.ensures l.invariant.1.0 c.if-c-eq-COLON.true in
    unmade w (λ q. c.if-w-power.false (packed-end (name_of w) l.w l.i _ l.invariant.1.1 over few c.power.ensures ∙ q))

pub returns-then-c-ge-GAP : goal.returns-then-c-ge-GAP
returns-then-c-ge-GAP c =
    let l = c.loop-i in
    let w = c.args.word in
    let some = c.if-c-eq-COLON.false in
    let is = c.code_in-c.ensures in
    let few = c.loop-i-test.true in
    let bad = letter-high (get_or (name_of w) l.i 0) _ (left-code w l.i _ few is l.invariant.1.0 some) c.if-c-ge-GAP.true in
    unnamed w (other_none (name_of w) (sym l.invariant.1.1.good ∙ stops is_name_byte (name_of w) l.i (left-inside w l.i _ few is l.invariant.1.0 some) bad))

pub overflow_mul-w-in-loop-i : goal.overflow_mul-w-in-loop-i
overflow_mul-w-in-loop-i c = let l = c.loop-i in omega (arith, power-low l.w l.i 9 (omega arith) l.invariant.1.1.below)

pub overflow_add-w : goal.overflow_add-w
overflow_add-w c = let l = c.loop-i in omega (arith, power-low l.w l.i 9 (omega arith) l.invariant.1.1.below)

pub loop-i-preserved : goal.loop-i-preserved
loop-i-preserved c =
    let l = c.loop-i in
    let w = c.args.word in
    let some = c.if-c-eq-COLON.false in
    let is = c.code_in-c.ensures in
    let few = c.loop-i-test.true in
    let k = c.code_in-c.result in
    let code = left-code w l.i k few is l.invariant.1.0 some in
    let in-name = left-inside w l.i k few is l.invariant.1.0 some in
    let x : c.wide.result ≡ k = c.wide.ensures in
    let one = letter-good (get_or (name_of w) l.i 0) k code (omega arith) c.if-c-ge-GAP.false in (
      omega arith,
      (
        left-more w l.i k few is l.invariant.1.0 some,
        record {
          inside = omega arith;
          below = rw x (power-more l.w l.i k l.invariant.1.1.below (omega arith));
          good = passes is_name_byte (name_of w) l.i in-name one ∙ l.invariant.1.1.good;
          owed = rw x (pack-more (name_of w) l.w l.i k in-name code) ∙ l.invariant.1.1.owed;
        },
      ),
    )

pub returns : goal.returns
returns c =
    let l = c.loop-i in
    let w = c.args.word in
    unnamed w (many-none (name_of w) (omega (arith, l.invariant.1.1.inside)))
