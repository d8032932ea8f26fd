-- Codes put one after the other behind those that are there, and a run of blanks in two parts. Assumes nothing.
use Prim.Native.Nat.{ℕ, ◌+◌, ◌-◌, ◌/◌, ◌≤◌, ◌<◌}
use native.Mathlib.Omega.{arith}
use mathlib.Core.Path.{◌≡◌, ap, ◌∙◌}
use mathlib.Core.List.{List, ◌∷◌, ◌++◌, append_assoc}
use lib.ListN.{length, take, length-append}
use Rattle.words.specs.Text.{short_run, blanks}

-- xs put at a place of d, where e is what stands there afterwards and r the place behind them
abbrev pub Put : List ℕ → List ℕ → ℕ → List ℕ → ℕ → Type 0
Put xs d at e r = (r ≡ at + length xs) × (take r e ≡ take at d ++ xs)

pub put_then : (xs ys d e f : List ℕ) (at r q : ℕ) → Put xs d at e r → Put ys e r f q → Put (xs ++ ys) d at f q
put_then xs ys d e f at r q a b = (
  omega (arith, length-append xs ys),
  b.1 ∙ ap (λ (l : List ℕ). l ++ ys) a.1 ∙ append_assoc (take at d) xs ys,
)

pub put_as : (xs ys d e : List ℕ) (at r : ℕ) → xs ≡ ys → Put xs d at e r → Put ys d at e r
put_as xs ys d e at r q p = rw q at p

-- RUNS
pub blanks-short : (n : ℕ) → n ≤ 64 → short_run n ≡ blanks n
unfolding blanks
blanks-short n h =
    let k : (n - 1) / 64 ≡ 0 = omega arith in
    let e : n - 0 ≡ n = omega arith in
    rw (k, e)

pub blanks-long : (n : ℕ) → 64 < n → n ≤ 128 → 0 ∷ 0o77 ∷ short_run (n - 64) ≡ blanks n
unfolding blanks
blanks-long n h l = let k : (n - 1) / 64 ≡ 1 = omega arith in rw k
