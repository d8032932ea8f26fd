-- More ways keep where those that there are lead, in a tree of keys as in one of names. Assumes nothing.
use Prim.Native.Nat.{ℕ, zero, suc, ◌/◌, ◌<◌}
use mathlib.Core.Path.{◌≡◌, sym, subst}
use mathlib.Core.List.{List}
use lib.ListN.{get_or}
use Rattle.library_index_twice.specs.KeyTree.{way_of, Leads}

abbrev pub Keeps : List ℕ → List ℕ → Type 0
Keeps ways ways' = (w : ℕ) → 0 < get_or ways w 0 → get_or ways' w 0 ≡ get_or ways w 0

pub lead-on : (ways ways' : List ℕ) → Keeps ways ways' → (at rest m k : ℕ) → 0 < get_or ways (way_of at rest) 0 → Leads ways' k (get_or ways (way_of at rest) 0) (rest / 4) m → Leads ways' (suc k) at rest m
lead-on ways ways' keeps at rest m k h l =
    let e : get_or ways (way_of at rest) 0 ≡ get_or ways' (way_of at rest) 0 = sym (keeps (way_of at rest) h) in
    (subst (λ (v : ℕ). 0 < v) e h, subst (λ (v : ℕ). Leads ways' k v (rest / 4) m) e l)

pub leads-kept : (ways ways' : List ℕ) → Keeps ways ways' → (k at rest m : ℕ) → Leads ways k at rest m → Leads ways' k at rest m
leads-kept ways ways' keeps zero at rest m l = l
leads-kept ways ways' keeps (suc k) at rest m l = lead-on ways ways' keeps at rest m k l.0 (leads-kept ways ways' keeps k (get_or ways (way_of at rest) 0) (rest / 4) m l.1)
