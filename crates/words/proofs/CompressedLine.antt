-- The columns that a compressed line stands for are its own, and how many codes it has. Assumes nothing.
use Rattle.std.specs.Prelude.{if◌then◌else◌}
use Prim.Native.Nat.{ℕ, zero, suc, ◌+◌, ◌-◌, ◌*◌, ◌/◌, ◌≤◌}
use native.Mathlib.Omega.{arith}
use mathlib.Core.Path.{◌≡◌, refl, sym, ap, ap₂, ◌∙◌}
use mathlib.Core.Bool.{Bool, true, false}
use mathlib.Core.List.{List, [], ◌∷◌, ◌++◌, append_assoc}
use borrow.Author.Tests.{le-ltb}
use lib.Dec.{T, eqb, eqb→eq, ltb, lt→ltb, T_not}
use lib.ListN.{length, replicate, replicate-append-replicate, length-append}
use Rattle.words.specs.Base.{all}
use Rattle.words.specs.Text.{gap, short_run, long_runs, blanks, sign, squeeze, compress, columns_of}
use Rattle.words.proofs.TestParts.{and_left, and_right, and_both, all_append}
use Rattle.words.proofs.TrimmedLine.{ends_well}

-- COLUMNS
pub columns-sign : (c : ℕ) (r : List ℕ) → columns_of (sign c r) ≡ c ∷ columns_of r
columns-sign zero r = refl
columns-sign (suc c) r = refl

columns-longs : (k : ℕ) (r : List ℕ) → columns_of (long_runs k r) ≡ replicate (64 * k) gap ++ columns_of r
columns-longs zero r = refl
columns-longs (suc k) r =
    let e : 64 + 64 * k ≡ 64 * suc k = omega arith in
    ap (λ (q : List ℕ). replicate 64 gap ++ q) (columns-longs k r)
    ∙ sym (append_assoc (replicate 64 gap) (replicate (64 * k) gap) (columns_of r))
    ∙ ap (λ (q : List ℕ). q ++ columns_of r) (replicate-append-replicate 64 (64 * k) gap)
    ∙ ap (λ (n : ℕ). replicate n gap ++ columns_of r) e

-- a run of 3 or more
abbrev pub three : ℕ → ℕ
three m = suc (suc (suc m))

pub short-long : (m : ℕ) → short_run (three m) ≡ 0 ∷ suc (suc m) ∷ []
short-long m =
    let e : three m - 1 ≡ suc (suc m) = omega arith in
    ap (λ (c : Bool). if c then replicate (three m) gap else (0 ∷ (three m - 1) ∷ [])) (le-ltb (three m) 3 (omega arith))
    ∙ ap (λ (n : ℕ). 0 ∷ n ∷ []) e

columns-pair : (m : ℕ) (r : List ℕ) → columns_of (0 ∷ suc (suc m) ∷ r) ≡ replicate (three m) gap ++ columns_of r
columns-pair m r = let e : 1 + suc (suc m) ≡ three m = omega arith in ap (λ (n : ℕ). replicate n gap ++ columns_of r) e

columns-short : (n : ℕ) (r : List ℕ) → columns_of (short_run n ++ r) ≡ replicate n gap ++ columns_of r
columns-short zero r = refl
columns-short (suc zero) r = refl
columns-short (suc (suc zero)) r = refl
columns-short (suc (suc (suc m))) r = ap (λ (q : List ℕ). columns_of (q ++ r)) (short-long m) ∙ columns-pair m r

pub longs-append : (k : ℕ) (q r : List ℕ) → long_runs k q ++ r ≡ long_runs k (q ++ r)
longs-append zero q r = refl
longs-append (suc k) q r = ap {B = List ℕ} (λ t. 0 ∷ 0o77 ∷ t) (longs-append k q r)

columns-blanks : (n : ℕ) (r : List ℕ) → columns_of (blanks n ++ r) ≡ replicate n gap ++ columns_of r
unfolding blanks
columns-blanks n r =
    let k : ℕ = (n - 1) / 64 in
    let m : ℕ = n - 64 * k in
    let e : 64 * k + m ≡ n = omega arith in
    ap columns_of (longs-append k (short_run m) r)
    ∙ columns-longs k (short_run m ++ r)
    ∙ ap (λ (q : List ℕ). replicate (64 * k) gap ++ q) (columns-short m r)
    ∙ sym (append_assoc (replicate (64 * k) gap) (replicate m gap) (columns_of r))
    ∙ ap (λ (q : List ℕ). q ++ columns_of r) (replicate-append-replicate (64 * k) m gap)
    ∙ ap (λ (j : ℕ). replicate j gap ++ columns_of r) e

pub replicate-snoc : (n x : ℕ) (r : List ℕ) → replicate n x ++ (x ∷ r) ≡ x ∷ (replicate n x ++ r)
replicate-snoc zero x r = refl
replicate-snoc (suc n) x r = ap {B = List ℕ} (λ t. x ∷ t) (replicate-snoc n x r)

pub sign-append : (c : ℕ) (q r : List ℕ) → sign c q ++ r ≡ sign c (q ++ r)
sign-append zero q r = refl
sign-append (suc c) q r = refl

-- the rest of a line after n blanks: where nothing follows there are none
abbrev rest_well : ℕ → List ℕ → Bool
rest_well n [] = eqb n 0
rest_well n (x ∷ xs) = ends_well (x ∷ xs)

well-tail : (x : ℕ) (xs : List ℕ) (n : ℕ) → T (ends_well (x ∷ xs)) → (T (eqb x gap) → T (rest_well (suc n) xs)) × T (rest_well 0 xs)
well-tail x [] n t = (λ e. absurd (T_not (eqb x gap) t e), tt)
well-tail x (y ∷ r) n t = (λ e. t, t)

-- z is what fills the last word
module _ (z : List ℕ) (none : columns_of z ≡ []) where
  columns-squeeze : (n : ℕ) (l : List ℕ) → T (rest_well n l) → columns_of (squeeze n l ++ z) ≡ replicate n gap ++ l
  columns-squeeze n [] t = none ∙ ap (λ (j : ℕ). replicate j gap ++ []) (sym (eqb→eq n 0 t))
  columns-squeeze n (x ∷ xs) t = go (eqb x gap) (eqb→eq x gap) (columns-squeeze (suc n) xs) (columns-squeeze 0 xs) (well-tail x xs n t)
    where
      go : (c : Bool) → (T c → x ≡ gap) → (T (rest_well (suc n) xs) → columns_of (squeeze (suc n) xs ++ z) ≡ replicate (suc n) gap ++ xs)
          → (T (rest_well 0 xs) → columns_of (squeeze 0 xs ++ z) ≡ xs) → (T c → T (rest_well (suc n) xs)) × T (rest_well 0 xs)
          → columns_of ((if c then squeeze (suc n) xs else (blanks n ++ sign x (squeeze 0 xs))) ++ z) ≡ replicate n gap ++ (x ∷ xs)
      go true e a b w =
          a (w.0 tt) ∙ sym (replicate-snoc n gap xs) ∙ ap (λ (y : ℕ). replicate n gap ++ (y ∷ xs)) (sym (e tt))
      go false e a b w =
          ap columns_of (append_assoc (blanks n) (sign x (squeeze 0 xs)) z ∙ ap (λ (q : List ℕ). blanks n ++ q) (sign-append x (squeeze 0 xs) z))
          ∙ columns-blanks n (sign x (squeeze 0 xs ++ z))
          ∙ ap (λ (q : List ℕ). replicate n gap ++ q) (columns-sign x (squeeze 0 xs ++ z) ∙ ap {B = List ℕ} (λ q. x ∷ q) (b w.1))

  pub columns-compress : (l : List ℕ) → T (ends_well l) → columns_of (compress l ++ z) ≡ l
  columns-compress [] t = none
  columns-compress (x ∷ xs) t = go (eqb x gap) (eqb→eq x gap) (columns-squeeze 0 xs (well-tail x xs 0 t).1) (columns-squeeze 0 (x ∷ xs) t)
    where
      go : (c : Bool) → (T c → x ≡ gap) → columns_of (squeeze 0 xs ++ z) ≡ xs → columns_of (squeeze 0 (x ∷ xs) ++ z) ≡ x ∷ xs
          → columns_of ((if c then (gap ∷ squeeze 0 xs) else squeeze 0 (x ∷ xs)) ++ z) ≡ x ∷ xs
      go true e a b = ap₂ {C = List ℕ} ◌∷◌ (sym (e tt)) a
      go false e a b = b

-- HOW MANY CODES
length-short : (n : ℕ) → length (short_run n) ≤ n
length-short zero = omega arith
length-short (suc zero) = omega arith
length-short (suc (suc zero)) = omega arith
length-short (suc (suc (suc m))) = omega (arith, ap length (short-long m))

length-longs : (k : ℕ) (r : List ℕ) → length (long_runs k r) ≡ 2 * k + length r
length-longs zero r = omega arith
length-longs (suc k) r = omega (arith, length-longs k r)

pub length-blanks : (n : ℕ) → length (blanks n) ≤ n
unfolding blanks
length-blanks n =
    let k : ℕ = (n - 1) / 64 in
    omega (arith, length-longs k (short_run (n - 64 * k)), length-short (n - 64 * k))

pub length-sign : (c : ℕ) (r : List ℕ) → length (sign c r) ≤ 2 + length r
length-sign zero r = omega arith
length-sign (suc c) r = omega arith

length-squeeze : (n : ℕ) (l : List ℕ) → length (squeeze n l) ≤ n + 2 * length l
length-squeeze n [] = omega arith
length-squeeze n (x ∷ xs) = go (eqb x gap) (length-squeeze (suc n) xs) (length-squeeze 0 xs)
  where
    go : (c : Bool) → length (squeeze (suc n) xs) ≤ suc n + 2 * length xs → length (squeeze 0 xs) ≤ 0 + 2 * length xs
        → length (if c then squeeze (suc n) xs else (blanks n ++ sign x (squeeze 0 xs))) ≤ n + 2 * suc (length xs)
    go true a b = omega arith
    go false a b = omega (arith, length-append (blanks n) (sign x (squeeze 0 xs)), length-blanks n, length-sign x (squeeze 0 xs))

pub length-compress : (l : List ℕ) → length (compress l) ≤ 2 * length l
length-compress [] = omega arith
length-compress (x ∷ xs) = go (eqb x gap) (length-squeeze 0 xs) (length-squeeze 0 (x ∷ xs))
  where
    go : (c : Bool) → length (squeeze 0 xs) ≤ 0 + 2 * length xs → length (squeeze 0 (x ∷ xs)) ≤ 0 + 2 * suc (length xs)
        → length (if c then (gap ∷ squeeze 0 xs) else squeeze 0 (x ∷ xs)) ≤ 2 * suc (length xs)
    go true a b = omega arith
    go false a b = omega arith

-- THEY ARE CODES
abbrev pub is_code : ℕ → Bool
is_code c = ltb c 64

pub codes-gaps : (n : ℕ) → T (all is_code (replicate n gap))
codes-gaps zero = tt
codes-gaps (suc n) = codes-gaps n

codes-short : (n : ℕ) → n ≤ 64 → T (all is_code (short_run n))
codes-short n h = go (ltb n 3)
  where
    go : (c : Bool) → T (all is_code (if c then replicate n gap else (0 ∷ (n - 1) ∷ [])))
    go true = codes-gaps n
    go false = and_both (ltb (n - 1) 64) true (lt→ltb (n - 1) 64 (omega arith)) tt

codes-longs : (k : ℕ) (r : List ℕ) → T (all is_code r) → T (all is_code (long_runs k r))
codes-longs zero r h = h
codes-longs (suc k) r h = codes-longs k r h

pub codes-blanks : (n : ℕ) → T (all is_code (blanks n))
unfolding blanks
codes-blanks n =
    let k : ℕ = (n - 1) / 64 in
    codes-longs k (short_run (n - 64 * k)) (codes-short (n - 64 * k) (omega arith))

pub codes-sign : (c : ℕ) (r : List ℕ) → T (is_code c) → T (all is_code r) → T (all is_code (sign c r))
codes-sign zero r h k = k
codes-sign (suc c) r h k = and_both (is_code (suc c)) (all is_code r) h k

codes-squeeze : (n : ℕ) (l : List ℕ) → T (all is_code l) → T (all is_code (squeeze n l))
codes-squeeze n [] h = tt
codes-squeeze n (x ∷ xs) h =
    let rest = and_right (is_code x) (all is_code xs) h in
    go (eqb x gap) (codes-squeeze (suc n) xs rest) (codes-squeeze 0 xs rest)
  where
    go : (c : Bool) → T (all is_code (squeeze (suc n) xs)) → T (all is_code (squeeze 0 xs))
        → T (all is_code (if c then squeeze (suc n) xs else (blanks n ++ sign x (squeeze 0 xs))))
    go true a b = a
    go false a b =
        all_append is_code (blanks n) (sign x (squeeze 0 xs)) (codes-blanks n)
        (codes-sign x (squeeze 0 xs) (and_left (is_code x) (all is_code xs) h) b)

pub codes-compress : (l : List ℕ) → T (all is_code l) → T (all is_code (compress l))
codes-compress [] h = tt
codes-compress (x ∷ xs) h = go (eqb x gap)
  where
    go : (c : Bool) → T (all is_code (if c then (gap ∷ squeeze 0 xs) else squeeze 0 (x ∷ xs)))
    go true = codes-squeeze 0 xs (and_right (is_code x) (all is_code xs) h)
    go false = codes-squeeze 0 (x ∷ xs) h
