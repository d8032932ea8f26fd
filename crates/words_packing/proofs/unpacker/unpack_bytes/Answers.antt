-- Right because a space of an odd length is refused, and otherwise the answer is that of unpacking its words.
use mathlib.Core.Path.{sym, ap, ◌∙◌}
use Prim.Native.Nat.{◌/◌}
use native.Mathlib.Omega.{arith}
use lib.ListN.{length}
use borrow.Author.Rules.{rules}
use Rattle.words_packing.specs.Pack.{times_eight}
use Rattle.words_packing.proofs.NumberBytes.{below-known}
use Rattle.words_packing.proofs.PackAnswer.{accepted, eights_count}
use Rattle.words_packing.proofs.UnpackAnswer.{unpack-eights-even, unpack-eights-into}
use Rattle.words_packing.proofs.unpacker.unpack_bytes.Goals as goal

pub overflow_mul-result : goal.overflow_mul-result
overflow_mul-result c =
    let out = c.args.out.now in
    let k = accepted c.args.bytes.now _ _ (sym c.unpack_words.ensures.value ∙ c.in_ok-size.was) in
    record { fits = omega (arith, k.fits, k.count, eights_count (length out / 8) out) }

pub returns-in_err-size-clause-value : goal.returns-in_err-size-clause-value
returns-in_err-size-clause-value c =
    let a = c.args in
    let told = ap times_eight (sym c.unpack_words.ensures.value ∙ c.in_err-size.was) in
    search rules ∙ sym (unpack-eights-even a.bytes.now a.out.now c.if-out-ne0.false ∙ told)

pub returns-in_err-size-clause-out_after : goal.returns-in_err-size-clause-out_after
returns-in_err-size-clause-out_after c =
    let a = c.args in
    unpack-eights-into a.bytes.now a.out.now _ (below-known 256 _ (λ k. search rules)) (below-known 256 _ (λ k. (c.type_inv.out k).fits)) c.if-out-ne0.false c.unpack_words.auto.out c.unpack_words.ensures.out_after

pub returns : goal.returns
returns c =
    let a = c.args in
    let told = ap times_eight (sym c.unpack_words.ensures.value ∙ c.in_ok-size.was) in
    record {
      value = sym (unpack-eights-even a.bytes.now a.out.now c.if-out-ne0.false ∙ told);
      out_after = unpack-eights-into a.bytes.now a.out.now _ (below-known 256 _ (λ k. search rules)) (below-known 256 _ (λ k. (c.type_inv.out k).fits)) c.if-out-ne0.false c.unpack_words.auto.out c.unpack_words.ensures.out_after;
    }
