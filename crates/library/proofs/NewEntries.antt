-- As a directory grows, known names keep their numbers and new ones get the numbers after its count.
use Rattle.std.specs.Prelude.{if◌then◌else◌}
use Prim.Native.Nat.{ℕ, suc, ◌+◌, ◌≤◌, ◌<◌}
use native.Mathlib.Omega.{arith}
use native.Mathlib.Decide.{ℕ_discrete}
use mathlib.Core.Path.{◌≡◌, refl, sym, ap, ◌∙◌}
use mathlib.Core.Bool.{Bool, true, false, ◌||◌}
use mathlib.Core.List.{List, [], ◌∷◌, ◌++◌, append_assoc}
use lib.Dec.{T, eqb, eqb_refl, eqb→eq}
use lib.ListN.{length, length-append}
use Rattle.words.specs.Base.{member}
use Rattle.words.proofs.TestParts.{T-true}
use Rattle.library.specs.Library.{entry_from, entry_of}
use Rattle.library.specs.Growth.{Unknown}

-- KNOWN NAMES
from-append : (w n : ℕ) (xs ys : List ℕ) → 0 < entry_from w n xs → entry_from w n (xs ++ ys) ≡ entry_from w n xs
from-append w n [] ys h = absurd (omega arith)
from-append w n (x ∷ xs) ys h = go (eqb w x) (from-append w (suc n) xs ys) h
  where
    go : (c : Bool) → (0 < entry_from w (suc n) xs → entry_from w (suc n) (xs ++ ys) ≡ entry_from w (suc n) xs)
        → 0 < (if c then n else entry_from w (suc n) xs) → (if c then n else entry_from w (suc n) (xs ++ ys)) ≡ (if c then n else entry_from w (suc n) xs)
    go true f u = refl
    go false f u = f u

pub entry-append : (directory more : List ℕ) (w : ℕ) → 0 < entry_of directory w → entry_of (directory ++ more) w ≡ entry_of directory w
unfolding entry_of
entry-append directory more w h = from-append w 1 directory more h

-- A NEW NAME
from_end : (w n : ℕ) (xs ys : List ℕ) → 0 < n → entry_from w n xs ≡ 0 → entry_from w n (xs ++ (w ∷ ys)) ≡ n + length xs
from_end w n [] ys pos e = ap (λ (c : Bool). if c then n else entry_from w (suc n) ys) (T-true (eqb w w) (eqb_refl w)) ∙ omega arith
from_end w n (x ∷ xs) ys pos e = go (eqb w x) (from_end w (suc n) xs ys (omega arith)) e
  where
    go : (c : Bool) → (entry_from w (suc n) xs ≡ 0 → entry_from w (suc n) (xs ++ (w ∷ ys)) ≡ suc n + length xs)
        → (if c then n else entry_from w (suc n) xs) ≡ 0 → (if c then n else entry_from w (suc n) (xs ++ (w ∷ ys))) ≡ n + suc (length xs)
    go true f u = absurd (omega arith)
    go false f u = f u ∙ omega arith

pub entry-end : (directory more : List ℕ) (w : ℕ) → entry_of directory w ≡ 0 → entry_of (directory ++ (w ∷ more)) w ≡ suc (length directory)
unfolding entry_of
entry-end directory more w e = from_end w 1 directory more (omega arith) e ∙ omega arith

-- NEW NAMES: the directory with them, and whatever follows
module _ (more : List ℕ) where
  -- from the second name on, the first stands at the end of the directory
  next : (directory : List ℕ) (x : ℕ) (ns : List ℕ) (w : ℕ) → entry_of (directory ++ ((x ∷ ns) ++ more)) w ≡ entry_of ((directory ++ (x ∷ [])) ++ (ns ++ more)) w
  next directory x ns w = ap (λ (d : List ℕ). entry_of d w) (sym (append_assoc directory (x ∷ []) (ns ++ more)))

  pub entry_new : (directory ns : List ℕ) → Unknown directory ns → (w : ℕ) → T (member w ns) → length directory < entry_of (directory ++ (ns ++ more)) w
  entry_new directory [] u w t = absurd t
  entry_new directory (x ∷ ns) u w t = go (eqb w x) (eqb→eq w x) (entry_new (directory ++ (x ∷ [])) ns u.1 w) t
    where
      go : (c : Bool) → (T c → w ≡ x) → (T (member w ns) → length (directory ++ (x ∷ [])) < entry_of ((directory ++ (x ∷ [])) ++ (ns ++ more)) w)
          → T (c || member w ns) → length directory < entry_of (directory ++ ((x ∷ ns) ++ more)) w
      go true e f v =
          let same : entry_of (directory ++ ((x ∷ ns) ++ more)) w ≡ suc (length directory) =
          ap (entry_of (directory ++ ((x ∷ ns) ++ more))) (e tt) ∙ entry-end directory (ns ++ more) x u.0 in
          omega arith
      go false e f v = omega (arith, f v, next directory x ns w, length-append directory (x ∷ []))

  pub entry-each : (directory ns : List ℕ) → Unknown directory ns → (n : ℕ) → length directory < n → n ≤ length directory + length ns
      → (w : ℕ) × T (member w ns) × (entry_of (directory ++ (ns ++ more)) w ≡ n)
  entry-each directory [] u n a b = absurd (omega arith)
  entry-each directory (x ∷ ns) u n a b = go (ℕ_discrete n (suc (length directory))) (entry-each (directory ++ (x ∷ [])) ns u.1 n)
    where
      here : (c : Bool) → T c → T (c || member x ns)
      here true t = tt
      here false t = absurd t

      there : (c : Bool) (w : ℕ) → T (member w ns) → T (c || member w ns)
      there true w t = tt
      there false w t = t

      go : Dec (n ≡ suc (length directory))
          → (length (directory ++ (x ∷ [])) < n → n ≤ length (directory ++ (x ∷ [])) + length ns
          → (w : ℕ) × T (member w ns) × (entry_of ((directory ++ (x ∷ [])) ++ (ns ++ more)) w ≡ n))
          → (w : ℕ) × T (member w (x ∷ ns)) × (entry_of (directory ++ ((x ∷ ns) ++ more)) w ≡ n)
      go (yes e) f = (x, here (eqb x x) (eqb_refl x), entry-end directory (ns ++ more) x u.0 ∙ sym e)
      go (no ne) f =
          let e : length (directory ++ (x ∷ [])) ≡ length directory + 1 = length-append directory (x ∷ []) in
          let r : (w : ℕ) × T (member w ns) × (entry_of ((directory ++ (x ∷ [])) ++ (ns ++ more)) w ≡ n) = f (omega arith) (omega arith) in
          (r.0, there (eqb r.0 x) r.0 r.1, next directory x ns r.0 ∙ r.2)
