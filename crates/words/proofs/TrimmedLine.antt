-- A line without its trailing blanks: what trimming keeps, and trimming column by column from the end. Assumes nothing.
use Rattle.std.specs.Prelude.{if◌then◌else◌}
use Prim.Native.Nat.{ℕ, zero, suc, ◌-◌, ◌≤◌, ◌<◌}
use native.Mathlib.Omega.{arith}
use mathlib.Core.Path.{◌≡◌, refl, sym, ap, ◌∙◌}
use mathlib.Core.Bool.{Bool, true, false, ◌&&◌, not}
use mathlib.Core.List.{List, [], ◌∷◌, map}
use borrow.Author.Tests.{ne_eqb, eqb-false}
use lib.Dec.{T, eqb, eqb→eq, not_T}
use lib.ListN.{length, get_or, take}
use lib.Seq.{take-length}
use Rattle.words.specs.Base.{all, is_nil}
use Rattle.words.specs.Display.{code_of, in_chart, letter, blank}
use Rattle.words.specs.Text.{trim, gap}
use Rattle.words.proofs.TestParts.{and_left, and_right, and_both}
use Rattle.words.proofs.ChartBothWays.{letter-code}

-- a column ahead of a trimmed rest
abbrev kept : ℕ → List ℕ → List ℕ
kept x r = if eqb x blank && is_nil r then [] else (x ∷ r)

kept-some : (x y : ℕ) (r : List ℕ) → kept x (y ∷ r) ≡ x ∷ y ∷ r
kept-some x y r = go (eqb x blank)
  where
    go : (c : Bool) → (if c && false then [] else (x ∷ y ∷ r)) ≡ x ∷ y ∷ r
    go true = refl
    go false = refl

-- WHAT IT KEEPS
pub length-trim : (l : List ℕ) → length (trim l) ≤ length l
length-trim [] = omega arith
length-trim (x ∷ xs) = go (eqb x blank && is_nil (trim xs)) (length-trim xs)
  where
    go : (c : Bool) → length (trim xs) ≤ length xs → length (if c then [] else (x ∷ trim xs)) ≤ suc (length xs)
    go true h = omega arith
    go false h = omega arith

pub all-trim : (p : ℕ → Bool) (l : List ℕ) → T (all p l) → T (all p (trim l))
all-trim p [] t = tt
all-trim p (x ∷ xs) t = go (eqb x blank && is_nil (trim xs)) (all-trim p xs (and_right (p x) (all p xs) t))
  where
    go : (c : Bool) → T (all p (trim xs)) → T (all p (if c then [] else (x ∷ trim xs)))
    go true h = tt
    go false h = and_both (p x) (all p (trim xs)) (and_left (p x) (all p xs) t) h

kept-trim : (x : ℕ) (r : List ℕ) → trim r ≡ r → trim (kept x r) ≡ kept x r
kept-trim x [] e = go (eqb x blank) refl
  where
    go : (c : Bool) → eqb x blank ≡ c → trim (if c && true then [] else (x ∷ [])) ≡ (if c && true then [] else (x ∷ []))
    go true h = refl
    go false h = rw h
kept-trim x (y ∷ r) e = rw (kept-some x y r) (ap (kept x) e ∙ kept-some x y r)

pub trim-trim : (l : List ℕ) → trim (trim l) ≡ trim l
trim-trim [] = refl
trim-trim (x ∷ xs) = kept-trim x (trim xs) (trim-trim xs)

-- codes that do not end in a blank's
abbrev pub ends_well : List ℕ → Bool
ends_well [] = true
ends_well (c ∷ []) = not (eqb c gap)
ends_well (c ∷ d ∷ r) = ends_well (d ∷ r)

pub blank-letter : letter gap ≡ blank
unfolding letter
blank-letter = refl

only-blank : (x : ℕ) → T (in_chart x) → code_of x ≡ gap → x ≡ blank
only-blank x t e = sym (letter-code x t) ∙ ap letter e ∙ blank-letter

pub well-trim : (l : List ℕ) → T (all in_chart l) → T (ends_well (map code_of (trim l)))
well-trim [] t = tt
well-trim (x ∷ xs) t = go (trim xs) (well-trim xs (and_right (in_chart x) (all in_chart xs) t))
  where
    alone : (c : Bool) → eqb x blank ≡ c → T (ends_well (map code_of (if c && true then [] else (x ∷ []))))
    alone true h = tt
    alone false h =
        not_T (eqb (code_of x) gap)
        (λ e. eqb-false x blank h (only-blank x (and_left (in_chart x) (all in_chart xs) t) (eqb→eq (code_of x) gap e)))

    go : (r : List ℕ) → T (ends_well (map code_of r)) → T (ends_well (map code_of (kept x r)))
    go [] h = alone (eqb x blank) refl
    go (y ∷ r) h = rw (kept-some x y r) h

-- FROM THE END
trim-blank : (a : List ℕ) (n : ℕ) → n < length a → get_or a n 0 ≡ blank → trim (take (suc n) a) ≡ trim (take n a)
trim-blank [] n h e = absurd (omega arith)
trim-blank (x ∷ xs) zero h e = ap (λ (y : ℕ). kept y []) e
trim-blank (x ∷ xs) (suc n) h e = ap (kept x) (trim-blank xs n (omega arith) e)

trim-stays : (a : List ℕ) (n : ℕ) → n < length a → (get_or a n 0 ≡ blank → ⊥) → trim (take (suc n) a) ≡ take (suc n) a
trim-stays [] n h e = absurd (omega arith)
trim-stays (x ∷ xs) zero h e = ap (λ (c : Bool). if c && true then [] else (x ∷ [])) (ne_eqb x blank e)
trim-stays (x ∷ []) (suc n) h e = absurd (omega arith)
trim-stays (x ∷ y ∷ r) (suc n) h e = ap (kept x) (trim-stays (y ∷ r) n (omega arith) e) ∙ kept-some x y (take n r)

-- the same of a list's own last column
pub last-blank : (a : List ℕ) → 1 ≤ length a → get_or a (length a - 1) 0 ≡ blank → trim (take (length a - 1) a) ≡ trim a
last-blank a h e =
    let f : suc (length a - 1) ≡ length a = omega arith in
    sym (trim-blank a (length a - 1) (omega arith) e) ∙ ap (λ (n : ℕ). trim (take n a)) f ∙ ap trim (take-length a)

pub last-stays : (a : List ℕ) → 1 ≤ length a → (get_or a (length a - 1) 0 ≡ blank → ⊥) → a ≡ trim a
last-stays a h e =
    let f : suc (length a - 1) ≡ length a = omega arith in
    let w : take (suc (length a - 1)) a ≡ a = ap (λ (n : ℕ). take n a) f ∙ take-length a in
    sym (ap trim (sym w) ∙ trim-stays a (length a - 1) (omega arith) e ∙ w)
