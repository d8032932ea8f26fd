-- A card whose form is right lies in the words. Assumes nothing.
--   all_pass            tests in a row, one by one
--   placed-within       a place that is found lies in the list
--   Formed, formed-at   a card whose form is right, and where its text ends
use Rattle.std.specs.Prelude.{if◌then◌else◌}
use Prim.Native.Nat.{ℕ, suc, ◌+◌, ◌-◌, ◌/◌, ◌%◌, ◌^◌, ◌≤◌, ◌<◌, min}
use native.Mathlib.Omega.{arith}
use native.Mathlib.Nat.{add-zero}
use mathlib.Core.Path.{◌≡◌, refl, ap, ◌∙◌}
use mathlib.Core.Bool.{Bool, true, false}
use mathlib.Core.List.{List, [], ◌∷◌}
use mathlib.Core.Option.{some}
use lib.ListN.{length, get_or, take, drop, length-take, length-drop}
use lib.Seq.{get_or-take, get_or-drop}
use borrow.Author.Tests.{eqb-true}
use Rattle.words.specs.Base.{all_of, place_from}
use Rattle.library.specs.Check.{fields_of, is_last_word, form_tests, ok_form}

-- tests in a row that all pass, one by one
abbrev pub Pass : List Bool → Type 0
Pass [] = Unit
Pass (b ∷ bs) = (b ≡ true) × Pass bs

pub all_pass : (bs : List Bool) → all_of bs ≡ true → Pass bs
all_pass [] e = tt
all_pass (true ∷ bs) e = (refl, all_pass bs e)
all_pass (false ∷ bs) e = absurd (no e)
  where
    no : false ≡ true → ⊥
    no e = let z : ◌≡◌ {A = ℕ} 0 1 = cc in omega arith

-- a place that is found lies among those looked at
pub placed-within : {A : Type 0} (p : A → Bool) (n : ℕ) (xs : List A) (k : ℕ) → place_from p n xs ≡ some k → (n ≤ k) × (k < n + length xs)
placed-within p n [] k e = absurd (let z : ◌≡◌ {A = ℕ} 0 1 = cc in omega arith)
placed-within p n (x ∷ xs) k e = go (p x) (placed-within p (suc n) xs k) e
  where
    go : (b : Bool) → (place_from p (suc n) xs ≡ some k → (suc n ≤ k) × (k < suc n + length xs)) → (if b then some n else place_from p (suc n) xs) ≡ some k
        → (n ≤ k) × (k < n + suc (length xs))
    go true on q = let z : n ≡ k = cc in (omega arith, omega arith)
    go false on q = let z : (suc n ≤ k) × (k < suc n + length xs) = on q in (omega arith, omega arith)

-- the first word of what is left at a place
pub first-at : (ws : List ℕ) (at : ℕ) → get_or (drop at ws) 0 0 ≡ get_or ws at 0
first-at ws at = get_or-drop at ws 0 0 ∙ ap (λ (n : ℕ). get_or ws n 0) (add-zero at)

pub record Formed (directory ws : List ℕ) (at : ℕ) : Type 0 where
  pub heads : ℕ
  pub some-heads : 0 < heads
  pub within : at + heads + get_or ws at 0 / 2 ^ 36 % 2 ^ 18 ≤ length ws
  pub last : place_from is_last_word 1 (drop at ws) ≡ some heads
  pub form : ok_form directory (fields_of (drop at ws) heads) ≡ true
  pub count : length (fields_of (drop at ws) heads).text ≡ get_or ws at 0 / 2 ^ 36 % 2 ^ 18

module _ (directory ws : List ℕ) (at : ℕ) (inside : at < length ws) where
  unfoldable pub formed-at : (k : ℕ) → place_from is_last_word 1 (drop at ws) ≡ some k → ok_form directory (fields_of (drop at ws) k) ≡ true → Formed directory ws at
  formed-at k p e =
      let b : (1 ≤ k) × (k < 1 + length (drop at ws)) = placed-within is_last_word 1 (drop at ws) k p in
      let d : length (drop at ws) ≡ length ws - at = length-drop at ws in
      let g : length (drop k (drop at ws)) ≡ length (drop at ws) - k = length-drop k (drop at ws) in
      let w : get_or (take k (drop at ws)) 0 0 ≡ get_or ws at 0 = get_or-take k (drop at ws) 0 0 b.0 ∙ first-at ws at in
      let n : length (fields_of (drop at ws) k).text ≡ get_or (take k (drop at ws)) 0 0 / 2 ^ 36 % 2 ^ 18 = eqb-true _ _ (all_pass (form_tests directory (fields_of (drop at ws) k)) e).1.1.1.1.1.1.0 in
      let c : length (fields_of (drop at ws) k).text ≡ get_or ws at 0 / 2 ^ 36 % 2 ^ 18 = n ∙ ap (λ (v : ℕ). v / 2 ^ 36 % 2 ^ 18) w in
      let m : length (fields_of (drop at ws) k).text ≡ min (get_or (drop at ws) 0 0 / 2 ^ 36 % 2 ^ 18) (length (drop k (drop at ws))) = length-take _ (drop k (drop at ws)) in
      record { heads = k; some-heads = b.0; within = omega arith; last = p; form = e; count = c }
