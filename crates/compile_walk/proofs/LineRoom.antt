-- A line goes into the space, or there is no more room. Assumes nothing.
--   put_full, put-counted, put_written   of a line that is known
--   put-unseen, put-seen                 where a line is not written it need not be known
use Prim.Native.Nat.{ℕ, ◌+◌, ◌-◌, ◌*◌, ◌/◌, ◌≤◌, ◌<◌}
use native.Mathlib.Omega.{arith}
use mathlib.Core.Path.{◌≡◌, ap, ◌∙◌}
use mathlib.Core.Bool.{Bool, true, false}
use mathlib.Core.List.{List}
use borrow.Author.Tests.{lt-ltb, le-ltb}
use borrow.Rule.Slice.PartMut.{put_mid, Post-is}
use lib.ListN.{length}
use Rattle.library.specs.declared.Seen.{Seen}
use Rattle.library_image.specs.Places.{line_in}
use Rattle.compile_walk.specs.View.{Shown}
use Rattle.compile_walk.specs.TableView.{shown_named, shown_of}
use Rattle.compile_walk.specs.Lines.{line_for}
use Rattle.compile_walk.specs.declared.Stop.TheVariants.{Space}
use Rattle.compile_walk.specs.Steps.{WalkState, on_with, halted_at, put_of}

module _ (w : Bool) (c : Shown) (l n : ℕ) (o : List ℕ) where
  pub put_full : length o / 91 ≤ l → halted_at Space c o ≡ put_of w c l n o
  unfolding put_of
  put_full h = rw (le-ltb l (length o / 91) h)

  pub put-counted : l < length o / 91 → w ≡ false → on_with (l + 1) n o ≡ put_of w c l n o
  unfolding put_of
  put-counted h e = rw (lt-ltb l (length o / 91) h, e)

  pub put_written : (p : List ℕ) → l < length o / 91 → w ≡ true → p ≡ line_for c.line c.name c.seq
      → on_with (l + 1) n (put_mid (l * 91) (l * 91 + 91 - l * 91) o p) ≡ put_of w c l n o
  unfolding put_of
  put_written p h e line = rw (lt-ltb l (length o / 91) h, e, line, Post-is (l * 91) (l * 91 + 91) o (omega arith))

module _ (w : Bool) (ws : List ℕ) (s : Seen) (line : List ℕ) (l n : ℕ) (o : List ℕ) (r : WalkState) (put : r ≡ put_of w (shown_named ws line s) l n o) where
  pub put-unseen : w ≡ false → r ≡ put_of w (shown_of ws s) l n o
  unfolding put_of shown_of
  put-unseen e = put ∙ rw e

  pub put-seen : line ≡ line_in ws s.text s.next → r ≡ put_of w (shown_of ws s) l n o
  unfolding shown_of
  put-seen e = put ∙ ap (λ (x : List ℕ). put_of w (shown_named ws x s) l n o) e
