-- Words that are all zero. Assumes nothing.
use Prim.Native.Nat.{ℕ, ◌≤◌}
use native.Mathlib.Omega.{arith}
use native.Mathlib.Decide.{dec_le}
use mathlib.Core.Path.{◌≡◌}
use mathlib.Core.List.{List}
use lib.ListN.{length, get_or, replicate, length-replicate, get_or-replicate, get_or-eq_default}

abbrev pub zeros : ℕ → List ℕ
zeros size = replicate size 0

pub zeros-long : (size : ℕ) → length (zeros size) ≡ size
zeros-long size = length-replicate size 0

pub zeros-zero : (size n : ℕ) → get_or (zeros size) n 0 ≡ 0
zeros-zero size n = go (dec_le size n)
  where
    go : Dec (size ≤ n) → get_or (zeros size) n 0 ≡ 0
    go (yes h) = get_or-eq_default (zeros size) 0 (omega (arith, zeros-long size))
    go (no h) = get_or-replicate size n 0 0 (omega arith)
