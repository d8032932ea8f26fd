-- The chart read both ways: each rule is one test that antt computes over the whole chart. Assumes nothing.
use Prim.Native.Nat.{ℕ, suc, ◌+◌, ◌-◌, ◌≤◌, ◌<◌}
use native.Mathlib.Omega.{arith}
use native.Mathlib.Decide.{dec_lt}
use mathlib.Core.Path.{◌≡◌, refl, sym, ap, ◌∙◌}
use mathlib.Core.Bool.{Bool, true, false, ◌&&◌, ◌||◌, not}
use mathlib.Core.List.{List, [], ◌∷◌}
use borrow.Author.Tests.{ne_eqb, le-ltb}
use lib.Dec.{T, eqb, eqb→eq, ltb, ltb→lt, lt→ltb, leb}
use lib.ListN.{get_or}
use Rattle.words.specs.Base.{all}
use Rattle.words.specs.Display.{chart, code_from, code_of, in_chart, letter, blank}
use Rattle.words.proofs.TestParts.{T-true, and_left, and_right}
use Rattle.words.proofs.EveryPlace.{below}

-- a byte above all of a list has no place in it
out-from : (b n m : ℕ) (xs : List ℕ) → m ≤ b → T (all (λ x. ltb x m) xs) → code_from b n xs ≡ 64
out-from b n m [] h t = refl
out-from b n m (x ∷ xs) h t =
    let l : x < m = ltb→lt x m (and_left (ltb x m) (all (λ y. ltb y m) xs) t) in
    rw (ne_eqb b x (λ e. omega arith)) (out-from b (suc n) m xs h (and_right (ltb x m) (all (λ y. ltb y m) xs) t))

pub code-outside : (b : ℕ) → 96 ≤ b → code_of b ≡ 64
unfolding code_of
code-outside b h = out-from b 0 96 chart h tt

pub code-under : (b : ℕ) → b < 32 → code_of b ≡ 64
unfolding code_of
code-under b h = eqb→eq (code_of b) 64 (below (λ k. eqb (code_of k) 64) 32 b tt h)

-- the set is the bytes from 32 to 95
pub set-under : (b : ℕ) → b < 32 → in_chart b ≡ false
set-under b h = rw (code-under b h)

pub set-above : (b : ℕ) → 95 < b → in_chart b ≡ false
set-above b h = rw (code-outside b h)

pub set-inside : (b : ℕ) → 32 ≤ b → b ≤ 95 → in_chart b ≡ true
unfolding code_of
set-inside b l h = T-true (in_chart b) (rw (le-ltb b 32 l) at (below (λ k. ltb k 32 || in_chart k) 96 b tt (omega arith)))

-- a stretch of the chart: f counts on from `to` over the places from `first` on
abbrev pub counts : (ℕ → ℕ) → ℕ → ℕ → ℕ → Bool
counts f first to x = leb first x && eqb (x - first + to) (f x)

module _ (f : ℕ → ℕ) (first to x : ℕ) (t : T (counts f first to x)) where
  pub counts-is : x - first + to ≡ f x
  counts-is = eqb→eq (x - first + to) (f x) (and_right (leb first x) (eqb (x - first + to) (f x)) t)

pub code-letter : (c : ℕ) → c < 64 → code_of (letter c) ≡ c
unfolding code_of letter
code-letter c h = eqb→eq (code_of (letter c)) c (below (λ k. eqb (code_of (letter k)) k) 64 c tt h)

abbrev read_back : ℕ → Bool
read_back b = not (in_chart b) || eqb (letter (code_of b)) b

letter-code-low : (b : ℕ) → b < 128 → T (read_back b)
unfolding code_of letter
letter-code-low b h = below read_back 128 b tt h

or_left : (a b : Bool) → T (not a || b) → T a → T b
or_left true b t s = t
or_left false b t s = absurd s

pub letter-code : (b : ℕ) → T (in_chart b) → letter (code_of b) ≡ b
letter-code b t = go (dec_lt b 128)
  where
    go : Dec (b < 128) → letter (code_of b) ≡ b
    go (yes h) = eqb→eq (letter (code_of b)) b (or_left (in_chart b) (eqb (letter (code_of b)) b) (letter-code-low b h) t)
    go (no h) = absurd (omega (arith, ltb→lt (code_of b) 64 t, code-outside b (omega arith)))

pub letter-outside : (c : ℕ) → 64 ≤ c → letter c ≡ blank
unfolding letter
letter-outside c h = beyond chart c 32 64 refl h
  where
    beyond : (xs : List ℕ) (c d n : ℕ) → lib.ListN.length xs ≡ n → n ≤ c → get_or xs c d ≡ d
    beyond xs c d n e h = lib.ListN.get_or-eq_default xs d (omega arith)

-- a blank alone has its code
pub blank-code : (b : ℕ) → b ≡ blank → code_of b ≡ 0o55
unfolding code_of
blank-code b e = rw e

pub code-blank : (b : ℕ) → code_of b ≡ 0o55 → b ≡ blank
unfolding letter
code-blank b e = sym (letter-code b (lt→ltb (code_of b) 64 (omega arith))) ∙ ap letter e

pub blank-in : T (in_chart blank)
unfolding code_of
blank-in = tt
