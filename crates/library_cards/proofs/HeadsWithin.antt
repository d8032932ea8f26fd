-- The words ahead of a card's text lie in the image. Assumes nothing.
--   heads_found    they are one more than the place of the first word with bit 59
--   heads-within   and lie in the image
use Rattle.std.specs.Prelude.{Some, cond, option_map, if◌then◌else◌}
use Rattle.std.specs.List.{position_from}
use mathlib.Core.Bool.{Bool, true, false}
use mathlib.Core.Option.{some}
use native.Mathlib.Numerals.{add-one}
use Prim.Native.Nat.{ℕ, suc, ◌+◌, ◌-◌, ◌≤◌, ◌<◌}
use native.Mathlib.Omega.{arith}
use mathlib.Core.Path.{◌≡◌, refl, ap, ◌∙◌}
use mathlib.Core.List.{List, [], ◌∷◌}
use lib.ListN.{length, drop, length-drop}
use Rattle.words.specs.Base.{place_from}
use Rattle.library.specs.Check.{is_last_word}
use Rattle.library_tables.specs.Found.{found}
use Rattle.library_tables.proofs.FirstFault.{found_some}
use Rattle.library.proofs.CardWithin.{placed-within}

module _ (ws : List ℕ) (at : ℕ) where
  pub heads-within : (k : ℕ) → at ≤ length ws → found (place_from is_last_word 1 (drop at ws)) ≡ Some k → (0 < k) × (at + k ≤ length ws)
  heads-within k h e =
      let b : (1 ≤ k) × (k < 1 + length (drop at ws)) = placed-within is_last_word 1 (drop at ws) k (found_some (place_from is_last_word 1 (drop at ws)) k e) in
      let d : length (drop at ws) ≡ length ws - at = length-drop at ws in
      (omega arith, omega arith)

pub heads_found : (n : ℕ) (ws : List ℕ) → option_map (λ (i : ℕ). i + 1) (position_from is_last_word n ws) ≡ found (place_from is_last_word (suc n) ws)
heads_found n [] = refl
heads_found n (w ∷ ws) = go (is_last_word w) (ap (λ (k : ℕ). option_map (λ (i : ℕ). i + 1) (position_from is_last_word k ws)) (add-one n) ∙ heads_found (suc n) ws)
  where
    go : (b : Bool) → option_map (λ (i : ℕ). i + 1) (position_from is_last_word (n + 1) ws) ≡ found (place_from is_last_word (suc (suc n)) ws)
        → option_map (λ (i : ℕ). i + 1) (cond b (Some n) (position_from is_last_word (n + 1) ws)) ≡ found (if b then some (suc n) else place_from is_last_word (suc (suc n)) ws)
    go true e = ap Some (add-one n)
    go false e = e
