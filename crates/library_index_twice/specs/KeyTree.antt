-- CODE. The keys ahead as a tree. From each key four ways go on, by two bits of a key at a time, the lowest first. A way has the place of the key that it leads to, or 0:
-- none leads to key 0, where every search begins.
--   the ways of a key     way_of, Leads
--   the tree              Tree, Stood
use Rattle.std.specs.Prelude.{ℕ, zero, suc, ◌+◌, ◌*◌, ◌/◌, ◌%◌, ◌<◌, ◌≡◌, Bool, false, List, length, get_or}
use Rattle.words.specs.Base.{member}
use Rattle.words_lists.specs.Ahead.{ahead_of}

-- THE WAYS OF A KEY: the one from a place, by what is left of the key
abbrev pub way_of : ℕ → ℕ → ℕ
way_of at rest = at * 4 + rest % 4

-- so many of them lead from a place to place m
abbrev pub Leads : List ℕ → ℕ → ℕ → ℕ → ℕ → Type 0
Leads ways zero at rest m = at ≡ m
Leads ways (suc k) at rest m = (0 < get_or ways (way_of at rest) 0) × Leads ways k (get_or ways (way_of at rest) 0) (rest / 4) m

-- THE TREE of the first n keys: ways lead to later places, and those of a key to where it stands
pub record Tree (keys ways : List ℕ) (n : ℕ) : Type 0 where
  pub long : length ways ≡ 65536
  pub rises : (at rest : ℕ) → 0 < get_or ways (way_of at rest) 0 → (at < get_or ways (way_of at rest) 0) × (get_or ways (way_of at rest) 0 < n)
  pub leads : (m : ℕ) → m < n → (k : ℕ) × Leads ways k 0 (get_or keys m 0) m

-- whether key n stood ahead, and the ways afterwards
abbrev pub Stood : List ℕ → ℕ → Bool → List ℕ → Type 0
Stood keys n r ways = (r ≡ member (get_or keys n 0) (ahead_of n keys)) × (r ≡ false → Tree keys ways (n + 1))
