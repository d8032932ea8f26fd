-- The lines of a stream, one after another: what a loop over them cites. Assumes nothing.
--   no line at or past the end                        lines_none
--   the line at a place, and those after its end      lines_more
--   where it ends, and where those start              line-within, after_line_lem, line-after-is
use Rattle.std.specs.Prelude.{if◌then◌else◌}
use mathlib.Core.Path.{◌≡◌, refl, sym, ap, ◌∙◌}
use mathlib.Core.Bool.{Bool, true, false}
use mathlib.Core.List.{List, [], ◌∷◌}
use Prim.Native.Nat.{ℕ, ◌+◌, ◌^◌, ◌≤◌, ◌<◌}
use native.Mathlib.Nat.{add_assoc}
use native.Mathlib.Omega.{arith}
use lib.ListN.{length, drop, length-drop, drop_of_length-le}
use lib.Seq.{drop-drop}
use borrow.Author.Tests.{le-ltb}
use Rattle.words.specs.Base.{take_until, drop_until, into}
use Rattle.words_lines.specs.Directive.{is_end, lines}
use Rattle.words_lines.specs.FirstLine.{line_of, after_line, line_after}
use Rattle.words_lines.proofs.CutAtFirst.{reach-within, drop-reach}

first-line : (s : List ℕ) → 0 < length s → lines s ≡ line_of s ∷ lines (after_line s)
unfolding lines line_of after_line
first-line [] h = absurd (omega arith)
first-line (x ∷ []) h = by-test (is_end x)
  where
    by-test : (t : Bool) → (if t then ([] ∷ []) else into x []) ≡ (if t then [] else (x ∷ [])) ∷ lines (drop 1 (if t then (x ∷ []) else []))
    by-test true = refl
    by-test false = refl
first-line (x ∷ (y ∷ ys)) h = by-test (is_end x) (first-line (y ∷ ys) (omega arith))
  where
    by-test : (t : Bool) → lines (y ∷ ys) ≡ line_of (y ∷ ys) ∷ lines (after_line (y ∷ ys))
        → (if t then ([] ∷ lines (y ∷ ys)) else into x (lines (y ∷ ys)))
        ≡ (if t then [] else (x ∷ take_until is_end (y ∷ ys))) ∷ lines (drop 1 (if t then (x ∷ y ∷ ys) else drop_until is_end (y ∷ ys)))
    by-test true e = refl
    by-test false e = ap (into x) e

module _ (s : List ℕ) (at : ℕ) where
  pub lines_none : length s ≤ at → lines (drop at s) ≡ []
  unfolding lines
  lines_none h = rw (drop_of_length-le s h)

  pub lines_more : at < length s → lines (drop at s) ≡ line_of (drop at s) ∷ lines (after_line (drop at s))
  lines_more h = first-line (drop at s) (rw length-drop (omega arith))

  pub line-within : at ≤ length s → at + length (line_of (drop at s)) ≤ length s
  unfolding line_of
  line-within h = omega (arith, reach-within is_end (drop at s), length-drop at s)

  pub after_line_lem : after_line (drop at s) ≡ drop (at + length (line_of (drop at s)) + 1) s
  unfolding after_line line_of
  after_line_lem =
      let n = length (take_until is_end (drop at s)) in
      ap (drop 1) (sym (drop-reach is_end (drop at s))) ∙ drop-drop 1 n (drop at s) ∙ drop-drop (n + 1) at s ∙ ap (λ k. drop k s) (sym (add_assoc at n 1))

pub line-after-is : (at k : ℕ) → at ≤ 2 ^ 62 → line_after at k ≡ at + k + 1
unfolding line_after
line-after-is at k h = rw (le-ltb (2 ^ 62) at h)
