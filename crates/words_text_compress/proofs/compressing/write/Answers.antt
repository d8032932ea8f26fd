-- `compressing::write` is right because it goes the three steps of `text_words`: trim, compress, fill. Assumes nothing.
use borrow.Author.Rules.{rules}
use Prim.Native.Nat.{ℕ}
use native.Mathlib.Omega.{arith}
use mathlib.Core.Path.{◌≡◌, sym, ap, ◌∙◌}
use mathlib.Core.List.{List, map}
use lib.ListN.{length, take}
use lib.Seq.{length-take-le}
use Rattle.words.specs.Display.{code_of}
use Rattle.words.specs.Text.{trim, compress, text_words}
use Rattle.words.proofs.TrimmedLine.{length-trim}
use Rattle.words.proofs.TextTrip.{codes-written, length-written}
use Rattle.words_text_compress.proofs.FilledWords.{codes-below}
use Rattle.words_text_compress.proofs.compressing.write.Goals as goal

pub put_line-n-requires : goal.put_line-n-requires
put_line-n-requires c = record { line_len_bound = omega (arith, ap length c.trimmed.ensures, length-trim c.args.line.now); codes_len = search rules }

pub slice_bounds-fill-end : goal.slice_bounds-fill-end
slice_bounds-fill-end c =
    let p = c.put_line-n in
    sym (length-take-le p.result p.new.codes (omega (arith, p.auto.codes)))

pub fill-requires : goal.fill-requires
fill-requires c =
    let codes : take c.put_line-n.result c.put_line-n.new.codes ≡ compress (map code_of (trim c.args.line.now)) = c.put_line-n.ensures.codes_after ∙ ap (λ (r : List ℕ). compress (map code_of r)) c.trimmed.ensures in
    let l = c.args.line.now in record { by_index = rw codes (codes-below (compress (map code_of (trim l))) (codes-written l c.requires.line_value)); codes_len_bound = rw codes (omega (arith, length-written l)); in_bounds = omega arith }

pub returns : goal.returns
unfolding text_words
returns c =
    let codes : take c.put_line-n.result c.put_line-n.new.codes ≡ compress (map code_of (trim c.args.line.now)) = c.put_line-n.ensures.codes_after ∙ ap (λ (r : List ℕ). compress (map code_of r)) c.trimmed.ensures in
    record { value = rw codes at c.fill.ensures.value; text_after = rw codes at c.fill.ensures.words_after }
