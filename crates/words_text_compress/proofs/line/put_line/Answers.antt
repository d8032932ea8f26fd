use Rattle.std.proofs.Common.{arith, ◌≡◌, ◌∙◌, ◌+◌, ◌-◌, ◌<◌, sym, add_assoc, ap, [], get_or, take, drop, length, length-append}
use Rattle.std.proofs.lemmas.List.{take_rest, get_or-drop, length-drop}
use Rattle.words.specs.Display.{code_of}
use Rattle.words.specs.Text.{gap, blanks, sign}
use Rattle.words.proofs.ChartBothWays.{blank-code, code-blank}
use Rattle.words.proofs.CompressedLine.{length-blanks, length-sign}
use Rattle.words_text_compress.proofs.CodesBehind.{put_then}
use Rattle.words_text_compress.proofs.SqueezedLine.{left-gap, left-sign}
use Rattle.words_text_compress.proofs.line.put_line.Goals as goal
use Rattle.words_text_compress.proofs.line.put_line.Goals.{then-b-eq-BLANK, else-b-eq-BLANK}

pub put_sign-at-requires : goal.put_sign-at-requires
put_sign-at-requires c =
    let test = simp (take_rest, length-drop) at c.loop-b-test.true in
    omega (arith, test, length-blanks c.loop-b.n)

pub loop-b-preserved : goal.loop-b-preserved
loop-b-preserved c =
    let l = c.loop-b in
    let s = c.args.line.now in
    let a = c.put_lead-at.result in
    let i = a + l.b-index in
    let x = code_of (get_or s i 0) in
    let test = simp (take_rest, length-drop) at c.loop-b-test.true in
    let inside : i < length s = omega (arith, test) in
    let byte : get_or (take (length s - a) (drop a s)) l.b-index 0 ≡ get_or s i 0 = rw take_rest (get_or-drop a s l.b-index 0) in
    elim c.if-b-eq-BLANK.branch [
      | then-b-eq-BLANK w ↦ record {
        inside = omega (arith, inside);
        long = omega (arith, ap length w.codes-is);
        room = omega arith;
        waiting = omega arith;
        owed = rw (w.codes-is, w.at-is, w.n-is, ← add_assoc a l.b-index 1) (left-gap s i l.n inside l.codes l.at (blank-code (get_or s i 0) (sym byte ∙ w.if-b-eq-BLANK.true))) ∙ l.invariant.owed;
      }
      | else-b-eq-BLANK w ↦
          let other : (x ≡ gap → ⊥) = λ e. w.if-b-eq-BLANK.false (byte ∙ code-blank (get_or s i 0) e) in
          let is : w.code_of.result ≡ x = w.code_of.ensures ∙ ap code_of byte in
          let put = put_then (blanks l.n) (sign x []) l.codes _ _ l.at _ _ (w.put_blanks-next.ensures.value, w.put_blanks-next.ensures.codes_after) (rw is at w.put_sign-at.ensures.value, rw is at w.put_sign-at.ensures.codes_after) in
          record {
            inside = omega (arith, inside);
            long = omega (arith, ap length w.codes-is);
            room = omega (arith, put.0, length-append (blanks l.n) (sign x []), length-blanks l.n, length-sign x []);
            waiting = omega arith;
            owed = rw (w.codes-is, w.at-is, w.n-is, ← add_assoc a l.b-index 1) (left-sign s i l.n inside l.codes _ l.at _ other put) ∙ l.invariant.owed;
          }
    ]
