-- Trailing blanks change nothing of what a line asks, so a card asks what its line asked.
use Rattle.std.specs.Prelude.{if◌then◌else◌}
use Prim.Native.Nat.{ℕ, zero, suc, ◌≤◌, ◌<◌}
use native.Mathlib.Omega.{arith}
use mathlib.Core.Path.{◌≡◌, refl, sym, ap, ap₂, ◌∙◌}
use mathlib.Core.Bool.{Bool, true, false, ◌&&◌, not}
use mathlib.Core.List.{List, [], ◌∷◌, ◌++◌, map}
use lib.Dec.{T, eqb, eqb→eq, ltb, ltb→lt}
use lib.ListN.{length, drop, replicate}
use Rattle.words.specs.Base.{all, is_nil, take_until, drop_until}
use Rattle.words.specs.Display.{in_chart, blank, comma, star, slash}
use Rattle.words.specs.Names.{name_word}
use Rattle.words.specs.Text.{trim}
use Rattle.words.proofs.TestParts.{T-true}
use Rattle.words.proofs.TrimmedLine.{length-trim, all-trim}
use Rattle.words_lines.specs.Directive.{kind_of, starts, ends_name, name_of_line, kind_of_line, passed, after_name, field, is_clean, params, asks, asked, directive, yank_names}
use Rattle.words_lines.specs.declared.Kind.TheVariants.{Text as k_text, Skipped as k_skipped}
use Rattle.words_lines.specs.declared.Line.TheVariants.{Outside, Long}

abbrev pads : ℕ → List ℕ
pads k = replicate k blank

-- a line is its trimmed form and blanks
pub trim-pads : (l : List ℕ) → (k : ℕ) × (l ≡ trim l ++ pads k)
trim-pads [] = (0, refl)
trim-pads (x ∷ xs) = go (trim xs) (trim-pads xs)
  where
    alone : (c : Bool) (k : ℕ) → (T c → x ≡ blank) → xs ≡ pads k → (j : ℕ) × (x ∷ xs ≡ (if c && true then [] else (x ∷ [])) ++ pads j)
    alone true k e f = (suc k, ap₂ {C = List ℕ} ◌∷◌ (e tt) f)
    alone false k e f = (k, ap {B = List ℕ} (λ r. x ∷ r) f)

    more : (c : Bool) (y : ℕ) (r : List ℕ) (k : ℕ) → xs ≡ (y ∷ r) ++ pads k → (j : ℕ) × (x ∷ xs ≡ (if c && false then [] else (x ∷ y ∷ r)) ++ pads j)
    more true y r k f = (k, ap {B = List ℕ} (λ q. x ∷ q) f)
    more false y r k f = (k, ap {B = List ℕ} (λ q. x ∷ q) f)

    go : (r : List ℕ) → (k : ℕ) × (xs ≡ r ++ pads k) → (j : ℕ) × (x ∷ xs ≡ (if eqb x blank && is_nil r then [] else (x ∷ r)) ++ pads j)
    go [] p = alone (eqb x blank) p.0 (eqb→eq x blank) p.1
    go (y ∷ r) p = more (eqb x blank) y r p.0 p.1

-- CUTTING A LINE WITH BLANKS BEHIND IT
take-pads : (p : ℕ → Bool) → p blank ≡ true → (l : List ℕ) (k : ℕ) → take_until p (l ++ pads k) ≡ take_until p l
take-pads p e [] zero = refl
take-pads p e [] (suc k) = ap (λ (c : Bool). if c then [] else (blank ∷ take_until p (pads k))) e
take-pads p e (x ∷ l) k = ap (λ (r : List ℕ). if p x then [] else (x ∷ r)) (take-pads p e l k)

drop-pads : (p : ℕ → Bool) → p blank ≡ true → (l : List ℕ) (k : ℕ) → drop_until p (l ++ pads k) ≡ drop_until p l ++ pads k
drop-pads p e [] zero = refl
drop-pads p e [] (suc k) = ap (λ (c : Bool). if c then (blank ∷ pads k) else drop_until p (pads k)) e
drop-pads p e (x ∷ l) k = go (p x) (drop-pads p e l k)
  where
    go : (c : Bool) → drop_until p (l ++ pads k) ≡ drop_until p l ++ pads k
        → (if c then (x ∷ (l ++ pads k)) else drop_until p (l ++ pads k)) ≡ (if c then (x ∷ l) else drop_until p l) ++ pads k
    go true f = refl
    go false f = f

starts-pads : (b : ℕ) → eqb b blank ≡ false → (l : List ℕ) (k : ℕ) → starts b (l ++ pads k) ≡ starts b l
starts-pads b e [] zero = refl
starts-pads b e [] (suc k) = e
starts-pads b e (x ∷ l) k = refl

rest-pads : (l : List ℕ) (k : ℕ) → (j : ℕ) × (drop 1 (l ++ pads k) ≡ drop 1 l ++ pads j)
rest-pads [] zero = (0, refl)
rest-pads [] (suc k) = (k, refl)
rest-pads (x ∷ l) k = (k, refl)

all-pads : (l : List ℕ) (k : ℕ) → all (eqb blank) (l ++ pads k) ≡ all (eqb blank) l
all-pads [] zero = refl
all-pads [] (suc k) = all-pads [] k
all-pads (x ∷ l) k = ap (λ (c : Bool). eqb blank x && c) (all-pads l k)

abbrev is_ink : ℕ → Bool
is_ink b = not (eqb b blank)

ink-pads : (l : List ℕ) (k : ℕ) → (j : ℕ) × (drop_until is_ink (l ++ pads k) ≡ drop_until is_ink l ++ pads j)
ink-pads [] zero = (0, refl)
ink-pads [] (suc k) = ink-pads [] k
ink-pads (x ∷ l) k = go (is_ink x) (ink-pads l k)
  where
    go : (c : Bool) → (j : ℕ) × (drop_until is_ink (l ++ pads k) ≡ drop_until is_ink l ++ pads j)
        → (j : ℕ) × ((if c then (x ∷ (l ++ pads k)) else drop_until is_ink (l ++ pads k)) ≡ (if c then (x ∷ l) else drop_until is_ink l) ++ pads j)
    go true r = (k, refl)
    go false r = r

passed-pads : (l : List ℕ) (k : ℕ) → (j : ℕ) × (passed (l ++ pads k) ≡ passed l ++ pads j)
passed-pads [] zero = (0, refl)
passed-pads [] (suc k) = ink-pads [] k
passed-pads (x ∷ l) k = go (eqb x comma) (ink-pads l k)
  where
    go : (c : Bool) → (j : ℕ) × (drop_until is_ink (l ++ pads k) ≡ drop_until is_ink l ++ pads j)
        → (j : ℕ) × ((if c then (l ++ pads k) else drop_until is_ink (l ++ pads k)) ≡ (if c then l else drop_until is_ink l) ++ pads j)
    go true r = (k, refl)
    go false r = r

after-pads : (l : List ℕ) (k : ℕ) → (j : ℕ) × (after_name (l ++ pads k) ≡ after_name l ++ pads j)
after-pads l k =
    let a : (j : ℕ) × (drop 1 (l ++ pads k) ≡ drop 1 l ++ pads j) = rest-pads l k in
    let b : (j : ℕ) × (passed (drop_until ends_name (drop 1 l) ++ pads a.0) ≡ after_name l ++ pads j) = passed-pads (drop_until ends_name (drop 1 l)) a.0 in
    (b.0, ap (λ (r : List ℕ). passed (drop_until ends_name r)) a.1 ∙ ap passed (drop-pads ends_name refl (drop 1 l) a.0) ∙ b.1)

-- A LINE'S PARTS
field-pads : (l : List ℕ) (k : ℕ) → field (l ++ pads k) ≡ field l
unfolding field
field-pads l k =
    let a : (j : ℕ) × (after_name (l ++ pads k) ≡ after_name l ++ pads j) = after-pads l k in
    ap (take_until (eqb blank)) a.1 ∙ take-pads (eqb blank) refl (after_name l) a.0

clean-pads : (l : List ℕ) (k : ℕ) → is_clean (l ++ pads k) ≡ is_clean l
unfolding is_clean
clean-pads l k =
    let a : (j : ℕ) × (after_name (l ++ pads k) ≡ after_name l ++ pads j) = after-pads l k in
    ap (λ (r : List ℕ). all (eqb blank) (drop_until (eqb blank) r)) a.1
    ∙ ap (all (eqb blank)) (drop-pads (eqb blank) refl (after_name l) a.0)
    ∙ all-pads (drop_until (eqb blank) (after_name l)) a.0

name-pads : (l : List ℕ) (k : ℕ) → name_of_line (l ++ pads k) ≡ name_of_line l
unfolding name_of_line
name-pads l k =
    let a : (j : ℕ) × (drop 1 (l ++ pads k) ≡ drop 1 l ++ pads j) = rest-pads l k in
    ap (take_until ends_name) a.1 ∙ take-pads ends_name refl (drop 1 l) a.0

kind-pads : (l : List ℕ) (k : ℕ) → kind_of_line (l ++ pads k) ≡ kind_of_line l
unfolding kind_of_line
kind-pads l k =
    let a : (j : ℕ) × (drop 1 (l ++ pads k) ≡ drop 1 l ++ pads j) = rest-pads l k in
    let b : starts slash (drop 1 (l ++ pads k)) ≡ starts slash (drop 1 l) = ap (starts slash) a.1 ∙ starts-pads slash refl (drop 1 l) a.0 in
    λ i. if not (starts-pads star refl l k i) then k_text else if b i then k_skipped else kind_of (name-pads l k i)

-- TRIMMED LINES
pub field-trim : (l : List ℕ) → field (trim l) ≡ field l
field-trim l = let p = trim-pads l in sym (ap field p.1 ∙ field-pads (trim l) p.0)

pub kind-trim : (l : List ℕ) → kind_of_line (trim l) ≡ kind_of_line l
kind-trim l = let p = trim-pads l in sym (ap kind_of_line p.1 ∙ kind-pads (trim l) p.0)

clean-trim : (l : List ℕ) → is_clean (trim l) ≡ is_clean l
clean-trim l = let p = trim-pads l in sym (ap is_clean p.1 ∙ clean-pads (trim l) p.0)

pub asked-trim : (l : List ℕ) → asked (trim l) ≡ asked l
unfolding asked
asked-trim l = λ i. asks (kind-trim l i) (clean-trim l i) (field-trim l i)

pub yank_names-trim : (l : List ℕ) → yank_names (trim l) ≡ yank_names l
unfolding yank_names
yank_names-trim l = ap (λ (f : List ℕ). map name_word (params f)) (field-trim l)

-- a line that is not refused for its bytes or its length
pub directive-trim : (l : List ℕ) → T (all in_chart l) → length l ≤ 80 → directive (trim l) ≡ directive l
unfolding directive
directive-trim l c le =
    let a : all in_chart (trim l) ≡ all in_chart l = T-true (all in_chart (trim l)) (all-trim in_chart l c) ∙ sym (T-true (all in_chart l) c) in
    let b : ltb 80 (length (trim l)) ≡ ltb 80 (length l) = short (trim l) (omega (arith, length-trim l)) ∙ sym (short l le) in
    λ i. if not (a i) then Outside else if b i then Long else asked-trim l i
  where
    short : (m : List ℕ) → length m ≤ 80 → ltb 80 (length m) ≡ false
    short m h = go (ltb 80 (length m)) (ltb→lt 80 (length m))
      where
        go : (t : Bool) → (T t → 80 < length m) → t ≡ false
        go true f = absurd (omega (arith, f tt))
        go false f = refl
