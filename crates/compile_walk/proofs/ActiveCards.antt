-- The active cards of an image up to a place, each from the one before it. Assumes nothing.
--   shown-more, shown-end, shown-past
use Prim.Native.Nat.{ℕ, ◌≤◌, ◌<◌}
use mathlib.Core.Path.{◌≡◌, refl}
use mathlib.Core.Bool.{Bool, true, false}
use mathlib.Core.List.{List, []}
use borrow.Author.Tests.{lt-ltb, le-ltb, ltb-true, ltb-false}
use lib.Dec.{ltb}
use lib.ListN.{length}
use Rattle.library_image.specs.Places.{next_at, seen_at, places_in}
use Rattle.library_image.proofs.CardPlaces.{places-more, places-end}
use Rattle.compile_walk.specs.TableView.{shown_of, cons_if, shown_up_to, shown_in}

module _ (ws : List ℕ) (at end : ℕ) where
  pub shown-more : at < length ws → at < end
      → shown_in ws at end ≡ cons_if (seen_at ws at).active (shown_of ws (seen_at ws at)) (shown_in ws (next_at ws at) end)
  unfolding shown_in
  shown-more h l = rw (places-more ws at h, lt-ltb at end l)

  pub shown-end : length ws ≤ at → shown_in ws at end ≡ []
  unfolding shown_in
  shown-end h = rw (places-end ws at h)

  pub shown-past : end ≤ at → shown_in ws at end ≡ []
  unfolding shown_in
  shown-past l = go (ltb at (length ws)) refl
    where
      go : (b : Bool) → ltb at (length ws) ≡ b → shown_up_to ws end (places_in ws at) ≡ []
      go true e = rw (places-more ws at (ltb-true at (length ws) e), le-ltb at end l)
      go false e = rw (places-end ws at (ltb-false at (length ws) e))
