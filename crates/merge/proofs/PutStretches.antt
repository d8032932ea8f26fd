-- Words put into a space one after another, and a stretch of them raised where it stands.
--   put-raised    the second of two is raised
--   put_last      where all that is ahead was put
use Prim.Native.Nat.{ℕ, ◌+◌, ◌-◌, ◌≤◌}
use native.Mathlib.Omega.{arith}
use mathlib.Core.Path.{◌≡◌, refl, sym, ap, ap₂, ◌∙◌}
use mathlib.Core.List.{List, ◌++◌, append_assoc}
use lib.ListN.{length, take, drop, length-append}
use lib.Seq.{take_at, drop_at, length-take-le}
use Rattle.words_lists.proofs.OverLists.{put-after}
use Rattle.library_raise.specs.Raised.{raised_words}
use Rattle.library_raise.proofs.RaisedLength.{raised_long}
use Rattle.merge.specs.Words.{raised_part}
use Rattle.words_lists.specs.Over.{put_at}

module _ (at : ℕ) (xs ys e : List ℕ) (le : at + length xs + length ys ≤ length e) where
  abbrev p : List ℕ
  p = take at e ++ xs

  abbrev k : ℕ
  k = at + length xs

  p-long : length p ≡ k
  p-long = length-append (take at e) xs ∙ ap (λ (n : ℕ). n + length xs) (length-take-le at e (omega arith))

  pub put-raised : (n : ℕ) → raised_part (at + length xs) (at + length xs + length ys) n (put_at at (xs ++ ys) e) ≡ put_at at (xs ++ raised_words n ys) e
  put-raised n =
      let r : List ℕ = drop (at + length (xs ++ ys)) e in
      let zs : List ℕ = raised_words n ys in
      let v : List ℕ = put_at at (xs ++ ys) e in
      let is : v ≡ p ++ (ys ++ r) = ap (λ (l : List ℕ). l ++ r) (sym (append_assoc (take at e) xs ys)) ∙ append_assoc p ys r in
      let before : take k v ≡ p = ap (take k) is ∙ take_at p (ys ++ r) k p-long in
      let from : drop k v ≡ ys ++ r = ap (drop k) is ∙ drop_at p (ys ++ r) k p-long in
      let m : k + length ys - k ≡ length ys = omega arith in
      let mid : take (k + length ys - k) (drop k v) ≡ ys = (λ i. take (m i) (from i)) ∙ take_at ys r (length ys) refl in
      let long : length (p ++ ys) ≡ k + length ys = length-append p ys ∙ ap (λ (j : ℕ). j + length ys) p-long in
      let rest : drop (k + length ys) v ≡ r = ap (drop (k + length ys)) (is ∙ sym (append_assoc p ys r)) ∙ drop_at (p ++ ys) r (k + length ys) long in
      let end : at + length (xs ++ ys) ≡ at + length (xs ++ zs) = omega (arith, length-append xs ys, length-append xs zs, raised_long n ys) in
      (λ i. before i ++ (raised_words n (mid i) ++ rest i)) ∙ sym (append_assoc p zs r)
      ∙ ap₂ (λ (a : List ℕ) (j : ℕ). a ++ drop j e) (append_assoc (take at e) xs zs) end

pub put_last : (ts cs e : List ℕ) → put_at (length ts) cs (ts ++ drop (length ts) e) ≡ (ts ++ cs) ++ drop (length (ts ++ cs)) e
put_last ts cs e = put-after ts e cs (length ts) refl ∙ ap (λ (n : ℕ). (ts ++ cs) ++ drop n e) (sym (length-append ts cs))
