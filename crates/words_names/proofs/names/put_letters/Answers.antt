use Prim.Native.Nat.{◌+◌, ◌<◌}
use native.Mathlib.Omega.{arith}
use mathlib.Core.Path.{◌≡◌, refl, sym, ap, ◌∙◌}
use lib.ListN.{drop, length-set}
use lib.Seq.{drop-drop, drop-set-lt}
use Rattle.words.proofs.NameWord.{left-start, left-some, left-more, left-put, named-most, named-into}
use Rattle.words_names.proofs.names.put_letters.Goals as goal

pub loop-i-init : goal.loop-i-init
loop-i-init c = (omega arith, (c.requires.name_len, (left-start c.args.word, (refl, refl))))

pub code_in-requires : goal.code_in-requires
code_in-requires c = omega (arith, (named-most c.args.word).0, c.requires.n_value)

pub bounds-name-i : goal.bounds-name-i
bounds-name-i c = omega (arith, (named-most c.args.word).0, c.requires.n_value, c.loop-i.invariant.1.0)

pub loop-i-preserved : goal.loop-i-preserved
loop-i-preserved c =
    let l = c.loop-i in
    let w = c.args.word in
    let e = c.args.name.now in
    let most = named-most w in
    let few : l.i < 10 = omega (arith, most.0, c.requires.n_value) in
    let is = c.code_in.ensures in
    let some = left-some w l.i _ few is l.invariant.1.1.0 (omega (arith, most.1, c.requires.n_value)) in (
      omega arith,
      (
        simp length-set l.invariant.1.0,
        (
          left-more w l.i _ few is l.invariant.1.1.0 some,
          (
            rw c.letter_of.ensures (left-put w l.i _ few is l.invariant.1.1.0 some l.name (omega (arith, most.0, c.requires.n_value)) l.invariant.1.1.1.0),
            drop-set-lt (l.i + 1) l.name l.i _ (omega arith) ∙ sym (drop-drop 1 l.i l.name) ∙ ap (drop 1) l.invariant.1.1.1.1 ∙ drop-drop 1 l.i e,
          ),
        ),
      ),
    )

pub returns : goal.returns
returns c =
    let l = c.loop-i in
    let w = c.args.word in
    let all : l.i ≡ c.args.n = omega arith in
    named-into w l.i l.name _ (all ∙ c.requires.n_value) l.invariant.1.1.1.0 l.invariant.1.1.1.1
