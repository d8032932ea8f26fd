-- CODE. Words in an array with a gap: those below `lo`, and those from `hi` on.
--   the two parts     Parted, Ordered
--   words moved       Lowered, Raised, Moves
--   words added       Put
use Rattle.std.specs.Prelude.{ℕ, ◌+◌, ◌-◌, ◌≤◌, ◌≡◌, List, ◌++◌, length, take, drop}
use Rattle.run.specs.declared.gap.Gap.{Gap}

abbrev pub Ordered : List ℕ → Gap → Type 0
Ordered w g = (g.lo ≤ g.hi) × (g.hi ≤ length w)

-- the words below and above the gap
pub record Parted (w : List ℕ) (g : Gap) (x y : List ℕ) : Type 0 where
  pub under : take g.lo w ≡ x
  pub over : drop g.hi w ≡ y

-- n words from above the gap now stand below it
pub record Lowered (w : List ℕ) (lo hi n : ℕ) (v : List ℕ) : Type 0 where
  pub under : take (lo + n) v ≡ take lo w ++ take n (drop hi w)
  pub over : drop (hi + n) v ≡ drop (hi + n) w

-- n words from below the gap now stand above it
pub record Raised (w : List ℕ) (lo hi n : ℕ) (v : List ℕ) : Type 0 where
  pub under : take (hi - n) v ≡ take (hi - n) w
  pub over : drop (hi - n) v ≡ drop (lo - n) (take lo w) ++ drop hi w

-- the gap is moved to the place p
pub record Moves (w : List ℕ) (g : Gap) (p : ℕ) (v : List ℕ) (h : Gap) : Type 0 where
  pub down : (x a y : List ℕ) → Parted w g (x ++ a) y → length x ≡ p → Parted v h x (a ++ y)
  pub up : (x a y : List ℕ) → Parted w g x (a ++ y) → g.hi + length a ≡ p → Parted v h (x ++ a) y

-- words are added below the gap; where they do not fit, lo passes hi
pub record Put (w : List ℕ) (added below rest : List ℕ) (v : List ℕ) (h : Gap) : Type 0 where
  pub parted : h.lo ≤ h.hi → Parted v h (below ++ added) rest
  pub size : h.lo ≡ length (below ++ added)
  pub above : h.hi + length rest ≡ length w
