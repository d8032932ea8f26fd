-- Words filled with ten codes each, one code at a time. Assumes nothing.
use Prim.Native.Nat.{ℕ, zero, suc, ◌+◌, ◌-◌, ◌*◌, ◌^◌, ◌≤◌, ◌<◌}
use native.Mathlib.Omega.{arith}
use native.Mathlib.Numerals.{add-one}
use mathlib.Core.Path.{◌≡◌, sym, ap, ap₂, ◌∙◌}
use mathlib.Core.List.{List, [], ◌∷◌, ◌++◌}
use borrow.Author.Tests.{ne_eqb}
use lib.Dec.{T, ltb→lt, lit<}
use lib.ListN.{length, get_or, take, drop, set, length-append, drop_of_length-le, take-append-drop}
use lib.Seq.{take-suc-set, drop-set-lt, drop-drop, length-take-le}
use Rattle.words.specs.Base.{all}
use Rattle.words.specs.Text.{fill, words_of}
use Rattle.words.proofs.TestParts.{and_left, and_right}
use Rattle.words.proofs.CompressedLine.{is_code}

pub codes-below : (cs : List ℕ) → T (all is_code cs) → (j : ℕ) → get_or cs j 0 < 64
codes-below [] t j = lit< tt
codes-below (x ∷ xs) t zero = ltb→lt x 64 (and_left (is_code x) (all is_code xs) t)
codes-below (x ∷ xs) t (suc j) = codes-below xs (and_right (is_code x) (all is_code xs) t) j

-- ONE CODE MORE
abbrev pub codes_owed : List ℕ → List ℕ → ℕ → ℕ → ℕ → ℕ → List ℕ
codes_owed cs d m w k i = take m d ++ fill w (10 - k) (drop i cs)

-- what is not written yet
pub beyond-more : (d e : List ℕ) (m w : ℕ) → drop m e ≡ drop m d → drop (m + 1) (set e m w) ≡ drop (m + 1) d
beyond-more d e m w q =
    drop-set-lt (m + 1) e m w (omega arith) ∙ sym (drop-drop 1 m e) ∙ ap (drop 1) q ∙ drop-drop 1 m d

-- e is d with the first m words written, w has the k codes of the next, and i codes are used
pub record Filled (cs d e : List ℕ) (m w k i : ℕ) : Type 0 where
  pub inside : i ≤ length cs
  pub long : length e ≡ length d
  pub count : m * 10 + k ≡ i
  pub few : k ≤ 10
  pub below : w < 64 ^ k
  pub owed : codes_owed cs e m w k i ≡ words_of cs
  pub rest : drop m e ≡ drop m d

-- THE END
module _ (cs d e : List ℕ) (m w k i : ℕ) (over : length cs ≤ i) (owed : codes_owed cs e m w k i ≡ words_of cs) (rest : drop m e ≡ drop m d) where
  pub fill-part : m < length e → k ≤ 10 → (k ≡ 0 → ⊥)
      → (m + 1 ≡ length (words_of cs)) × (set e m (w * 64 ^ (10 - k)) ≡ words_of cs ++ drop (m + 1) d)
  fill-part room le z =
      let v : ℕ = w * 64 ^ (10 - k) in
      let ne : (10 - k ≡ 10 → ⊥) = λ q. z (omega arith) in
      let a : take m e ++ (v ∷ []) ≡ words_of cs = rw (drop_of_length-le cs over, ne_eqb (10 - k) 10 ne) at owed in
      let n : length (take m e) ≡ m = length-take-le m e (omega arith) in
      let r : drop (m + 1) (set e m v) ≡ drop (m + 1) d = beyond-more d e m v rest in
      let t : take (m + 1) (set e m v) ≡ take m e ++ (v ∷ []) = rw add-one (take-suc-set e m v room) in (
        omega (arith, ap length a, length-append (take m e) (v ∷ [])),
        sym (take-append-drop (m + 1) (set e m v)) ∙ ap₂ ◌++◌ (t ∙ a) r,
      )
