-- A line squeezed to codes: a blank column waits, any other is written behind those that wait. Assumes nothing.
use Prim.Native.Nat.{ℕ, zero, suc, ◌+◌, ◌*◌, ◌≤◌, ◌<◌}
use native.Mathlib.Numerals.{add-one}
use native.Mathlib.Omega.{arith}
use mathlib.Core.Path.{◌≡◌, refl, sym, ap, ◌∙◌}
use mathlib.Core.List.{List, [], ◌∷◌, ◌++◌, append_assoc, map}
use borrow.Author.Tests.{eq-eqb, ne_eqb}
use lib.ListN.{length, get_or, take, drop}
use lib.Seq.{drop-cons}
use Rattle.words.specs.Display.{code_of}
use Rattle.words.specs.Text.{gap, blanks, sign, squeeze, compress}
use Rattle.words_text_compress.proofs.CodesBehind.{Put}

sign-ahead : (c : ℕ) (r : List ℕ) → sign c r ≡ sign c [] ++ r
sign-ahead zero r = refl
sign-ahead (suc c) r = refl

-- what is written, then what the rest of the line from i on gives where n blanks wait
abbrev pub codes_left : List ℕ → List ℕ → ℕ → ℕ → ℕ → List ℕ
codes_left l d at n i = take at d ++ squeeze n (map code_of (drop i l))

module _ (l : List ℕ) (i n : ℕ) (inside : i < length l) where
  squeeze-gap : code_of (get_or l i 0) ≡ gap → squeeze n (map code_of (drop i l)) ≡ squeeze (n + 1) (map code_of (drop (i + 1) l))
  squeeze-gap e = rw (add-one, add-one, drop-cons l i 0 inside, eq-eqb (code_of (get_or l i 0)) gap e)

  squeeze-sign : (code_of (get_or l i 0) ≡ gap → ⊥)
      → squeeze n (map code_of (drop i l)) ≡ (blanks n ++ sign (code_of (get_or l i 0)) []) ++ squeeze 0 (map code_of (drop (i + 1) l))
  squeeze-sign e =
      let rest : List ℕ = squeeze 0 (map code_of (drop (suc i) l)) in
      rw (add-one, drop-cons l i 0 inside, ne_eqb (code_of (get_or l i 0)) gap e)
      (ap (λ (q : List ℕ). blanks n ++ q) (sign-ahead (code_of (get_or l i 0)) rest)
      ∙ sym (append_assoc (blanks n) (sign (code_of (get_or l i 0)) []) rest))

  pub left-gap : (d : List ℕ) (at : ℕ) → code_of (get_or l i 0) ≡ gap → codes_left l d at (n + 1) (i + 1) ≡ codes_left l d at n i
  left-gap d at e = ap (λ (q : List ℕ). take at d ++ q) (sym (squeeze-gap e))

  pub left-sign : (d e : List ℕ) (at r : ℕ) → (code_of (get_or l i 0) ≡ gap → ⊥)
      → Put (blanks n ++ sign (code_of (get_or l i 0)) []) d at e r → codes_left l e r 0 (i + 1) ≡ codes_left l d at n i
  left-sign d e at r h p =
      ap (λ (q : List ℕ). q ++ squeeze 0 (map code_of (drop (i + 1) l))) p.1
      ∙ append_assoc (take at d) (blanks n ++ sign (code_of (get_or l i 0)) []) (squeeze 0 (map code_of (drop (i + 1) l)))
      ∙ ap (λ (q : List ℕ). take at d ++ q) (sym (squeeze-sign h))

-- d holds the codes written, up to at, i columns are passed and the last n of them wait
pub record Squeezed (l d : List ℕ) (at i n : ℕ) : Type 0 where
  pub inside : i ≤ length l
  pub long : length d ≡ 160
  pub room : at + n ≤ 2 * i
  pub waiting : n ≤ i
  pub owed : codes_left l d at n i ≡ compress (map code_of l)

-- THE FIRST COLUMN
pub lead-empty : (l : List ℕ) → length l ≡ 0 → squeeze 0 (map code_of l) ≡ compress (map code_of l)
lead-empty [] e = refl
lead-empty (x ∷ xs) e = absurd (z e)
  where
    z : suc (length xs) ≡ 0 → ⊥
    z q = omega arith

pub lead-other : (l : List ℕ) → (code_of (get_or l 0 0) ≡ gap → ⊥) → squeeze 0 (map code_of l) ≡ compress (map code_of l)
lead-other [] e = refl
lead-other (x ∷ xs) e = rw (ne_eqb (code_of x) gap e)

pub lead-gap : (l d : List ℕ) → 0 < length l → code_of (get_or l 0 0) ≡ gap → take 1 d ≡ gap ∷ []
    → take 1 d ++ squeeze 0 (map code_of (drop 1 l)) ≡ compress (map code_of l)
lead-gap [] d h e p = absurd (omega arith)
lead-gap (x ∷ xs) d h e p = rw (p, eq-eqb (code_of x) gap e)
