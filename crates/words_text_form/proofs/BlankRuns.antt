-- Runs of blanks taken apart: a run and one code more. Assumes nothing.
use Prim.Native.Nat.{ℕ, zero, suc, ◌+◌, ◌-◌, ◌*◌, ◌/◌, ◌≤◌}
use native.Mathlib.Omega.{arith}
use mathlib.Core.Path.{◌≡◌, refl, sym, ap, ◌∙◌}
use mathlib.Core.List.{List, [], ◌∷◌, ◌++◌}
use lib.ListN.{replicate}
use Rattle.words.specs.Text.{gap, short_run, long_runs, blanks, squeeze}
use Rattle.words.proofs.CompressedLine.{three, short-long, longs-append}

longs-snoc : (k : ℕ) (r : List ℕ) → long_runs k (0 ∷ 0o77 ∷ r) ≡ long_runs (suc k) r
longs-snoc zero r = refl
longs-snoc (suc k) r = ap {B = List ℕ} (λ q. 0 ∷ 0o77 ∷ q) (longs-snoc k r)

-- 64 blanks k times, then at most 64
pub blanks-parts : (k m : ℕ) → m ≤ 64 → blanks (64 * k + m) ≡ long_runs k (short_run m)
unfolding blanks
blanks-parts zero zero h = refl
blanks-parts (suc k) zero h =
    let n : ℕ = 64 * suc k + 0 in
    let e : (n - 1) / 64 ≡ k = omega arith in
    let f : n - 64 * k ≡ 64 = omega arith in
    ap (λ (j : ℕ). long_runs j (short_run (n - 64 * j))) e ∙ ap (λ (j : ℕ). long_runs k (short_run j)) f ∙ longs-snoc k []
blanks-parts k (suc m) h =
    let n : ℕ = 64 * k + suc m in
    let e : (n - 1) / 64 ≡ k = omega arith in
    let f : n - 64 * k ≡ suc m = omega arith in
    ap (λ (j : ℕ). long_runs j (short_run (n - 64 * j))) e ∙ ap (λ (j : ℕ). long_runs k (short_run j)) f

-- a run is made longer by its codes
longer : (k m j : ℕ) (q r : List ℕ) → m ≤ 64 → j ≤ 64 → short_run m ++ (q ++ r) ≡ short_run j ++ r → blanks (64 * k + m) ++ (q ++ r) ≡ blanks (64 * k + j) ++ r
longer k m j q r h l e =
    ap (λ (b : List ℕ). b ++ (q ++ r)) (blanks-parts k m h)
    ∙ longs-append k (short_run m) (q ++ r)
    ∙ ap (long_runs k) e
    ∙ sym (longs-append k (short_run j) r)
    ∙ ap (λ (b : List ℕ). b ++ r) (sym (blanks-parts k j l))

pub longer-one : (k : ℕ) (r : List ℕ) → blanks (64 * k + 0) ++ (gap ∷ r) ≡ blanks (64 * k + 1) ++ r
longer-one k r = longer k 0 1 (gap ∷ []) r (omega arith) (omega arith) refl

pub longer-two : (k : ℕ) (r : List ℕ) → blanks (64 * k + 1) ++ (gap ∷ r) ≡ blanks (64 * k + 2) ++ r
longer-two k r = longer k 1 2 (gap ∷ []) r (omega arith) (omega arith) refl

pub longer-run : (k y : ℕ) (r : List ℕ) → three y ≤ 64 → blanks (64 * k + 0) ++ (0 ∷ suc (suc y) ∷ r) ≡ blanks (64 * k + three y) ++ r
longer-run k y r h = longer k 0 (three y) (0 ∷ suc (suc y) ∷ []) r (omega arith) h (ap (λ (q : List ℕ). q ++ r) (sym (short-long y)))

pub squeeze-run : (j n : ℕ) (l : List ℕ) → squeeze n (replicate j gap ++ l) ≡ squeeze (n + j) l
squeeze-run zero n l = let e : n ≡ n + 0 = omega arith in ap (λ (i : ℕ). squeeze i l) e
squeeze-run (suc j) n l = let e : suc n + j ≡ n + suc j = omega arith in squeeze-run j (suc n) l ∙ ap (λ (i : ℕ). squeeze i l) e
