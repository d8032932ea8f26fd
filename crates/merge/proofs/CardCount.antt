-- Cards counted one after another.
use Prim.Native.Nat.{ℕ, suc, ◌+◌, ◌<◌}
use native.Mathlib.Omega.{arith}
use mathlib.Core.Path.{◌≡◌, ap}
use mathlib.Core.List.{List}
use lib.ListN.{length}
use Rattle.library_image.specs.Places.{next_at, places_in}
use Rattle.library_image.proofs.CardPlaces.{places-more}

pub count-on : (ws : List ℕ) (at next n m : ℕ) → at < length ws → next ≡ next_at ws at → n + length (places_in ws at) ≡ m → n + 1 + length (places_in ws next) ≡ m
count-on ws at next n m h e q =
    let one : length (places_in ws at) ≡ suc (length (places_in ws (next_at ws at))) = ap length (places-more ws at h) in
    let two : length (places_in ws next) ≡ length (places_in ws (next_at ws at)) = ap (λ (i : ℕ). length (places_in ws i)) e in
    omega (arith, one, two)
