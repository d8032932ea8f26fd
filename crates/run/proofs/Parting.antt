-- Words that pass over the gap or change below it leave the rest as it was.
use Prim.Native.Nat.{ℕ, suc, ◌+◌, ◌-◌, ◌≤◌, ◌<◌}
use native.Mathlib.Omega.{arith}
use mathlib.Core.Path.{◌≡◌, sym, ap, ◌∙◌}
use mathlib.Core.List.{List, [], ◌∷◌, ◌++◌}
use lib.ListN.{length, take, drop, get_or, set, length-append}
use lib.Seq.{take-take, take_at, drop_at, drop-drop, get_or-take, get_or_at, set_at, take-set-lt, drop-set-lt, length-take-le}
use Rattle.run.specs.GapWords.{Lowered, Raised}
use Rattle.run.specs.ByteMarks.{last_with, ByteAdded}

-- the words a pass over the gap
pub lowered : {w v : List ℕ} {lo hi n : ℕ} (x a y : List ℕ) → Lowered w lo hi n v → take lo w ≡ x → drop hi w ≡ a ++ y → length a ≡ n
    → (take (lo + n) v ≡ x ++ a) × (drop (hi + n) v ≡ y)
lowered {w} {v} {lo} {hi} {n} x a y s p q l = (
  s.under ∙ (λ i. p i ++ take n (q i)) ∙ ap (λ (t : List ℕ). x ++ t) (take_at a y n l),
  s.over ∙ sym (drop-drop n hi w) ∙ ap (λ (t : List ℕ). drop n t) q ∙ drop_at a y n l,
)

-- the last word below the gap takes a byte
pub byte-added : {w v : List ℕ} {lo hi x r : ℕ} (p : List ℕ) (l : ℕ) (y : List ℕ) → ByteAdded w lo hi x r v → take lo w ≡ p ++ (l ∷ [])
    → drop hi w ≡ y → lo ≤ length w
    → (r + 1 ≡ lo + length (last_with x l)) × ((r ≤ hi → take r v ≡ p ++ last_with x l) × (drop hi v ≡ y))
byte-added {w} {v} {lo} {hi} {x} {r} p l y e t d room =
    let long : length (p ++ (l ∷ [])) ≡ lo = sym (ap length t) ∙ length-take-le lo w room in
    let sum : length (p ++ (l ∷ [])) ≡ length p + 1 = length-append p (l ∷ []) in
    let k : length p ≡ lo - 1 = omega arith in
    let low : lo - 1 < lo = omega arith in
    let less : lo - 1 ≤ lo = omega arith in
    let front : take (lo - 1) w ≡ p = sym (take-take (lo - 1) lo w less) ∙ ap (λ (z : List ℕ). take (lo - 1) z) t ∙ take_at p (l ∷ []) (lo - 1) k in
    let last : get_or w (lo - 1) 0 ≡ l =
    sym (get_or-take lo w (lo - 1) 0 low) ∙ ap (λ (z : List ℕ). get_or z (lo - 1) 0) t ∙ get_or_at p l [] 0 (lo - 1) k in (
      e.next ∙ ap (λ (z : ℕ). lo + length (last_with x z)) last,
      (λ h. e.under h ∙ (λ i. front i ++ last_with x (last i)), e.over ∙ d),
    )

-- one word below the gap is read and written
module _ (w : List ℕ) (r hi : ℕ) (x : List ℕ) (h : ℕ) (f : List ℕ) (t : take r w ≡ x ++ (h ∷ f)) (at : ℕ) (l : length x ≡ at) (room : r ≤ length w)
    (order : r ≤ hi) where
  below_end : at < r
  below_end =
      let a : length (take r w) ≡ r = length-take-le r w room in
      let b : length (take r w) ≡ length x + suc (length f) = ap length t ∙ length-append x (h ∷ f) in
      omega arith

  pub read_under : get_or w at 0 ≡ h
  read_under = sym (get_or-take r w at 0 below_end) ∙ ap (λ (z : List ℕ). get_or z at 0) t ∙ get_or_at x h f 0 at l

  pub write_under : (a : ℕ) → take r (set w at a) ≡ x ++ (a ∷ f)
  write_under a = take-set-lt r w at a below_end ∙ ap (λ (z : List ℕ). set z at a) t ∙ set_at x h f a at l

  pub write-over : (a : ℕ) → drop hi (set w at a) ≡ drop hi w
  write-over a = let b : at < r = below_end in drop-set-lt hi w at a (omega arith)

-- the words a go back over it
pub raised : (w v : List ℕ) (lo hi n : ℕ) (x a y : List ℕ) → Raised w lo hi n v → take lo w ≡ x ++ a → drop hi w ≡ y → length a ≡ n → lo ≤ hi
    → hi ≤ length w
    → (take (lo - n) v ≡ x) × (drop (hi - n) v ≡ a ++ y)
raised w v lo hi n x a y s p q l order room =
    let e : length (take lo w) ≡ lo = length-take-le lo w (omega arith) in
    let f : length (take lo w) ≡ length x + length a = ap length p ∙ length-append x a in
    let k : length x ≡ lo - n = omega arith in
    let h1 : lo - n ≤ hi - n = omega arith in
    let h2 : lo - n ≤ lo = omega arith in (
      sym (take-take (lo - n) (hi - n) v h1) ∙ ap (λ (t : List ℕ). take (lo - n) t) s.under ∙ take-take (lo - n) (hi - n) w h1
          ∙ sym (take-take (lo - n) lo w h2) ∙ ap (λ (t : List ℕ). take (lo - n) t) p ∙ take_at x a (lo - n) k,
      s.over ∙ (λ i. drop (lo - n) (p i) ++ q i) ∙ ap (λ (t : List ℕ). t ++ y) (drop_at x a (lo - n) k),
    )
