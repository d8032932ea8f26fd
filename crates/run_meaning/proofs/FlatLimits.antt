-- Counts of changed streams: cards and short histories after a card is put in or a range is changed.
use Prim.Native.Nat.{ℕ, zero, suc, ◌-◌, ◌≤◌}
use native.Mathlib.Omega.{arith}
use mathlib.Core.Path.{◌≡◌, refl, sym, ap, ap₂, ◌∙◌, subst}
use mathlib.Core.Bool.{Bool, true, false, ◌&&◌}
use mathlib.Core.List.{List, [], ◌∷◌, ◌++◌, map}
use lib.Dec.{T}
use lib.ListN.{length, take, drop, length-append, take-append-drop}
use Rattle.words.specs.Base.{all}
use Rattle.words.proofs.TestParts.{T-true, and-true}
use Rattle.library.specs.Library.{Card}
use Rattle.library.specs.Image.{short_history}
use Rattle.run_meaning.specs.Step.{put_in, over_range}
use Rattle.run_meaning.specs.Flat.{between}
use Rattle.run_meaning.proofs.FlatStream.{range-cut}

-- A CARD PUT IN
pub all_both : {A : Type 0} (p : A → Bool) (xs ys : List A) → all p (xs ++ ys) ≡ (all p xs && all p ys)
all_both p [] ys = refl
all_both p (x ∷ xs) ys = go (p x) (all_both p xs ys)
  where
    go : (b : Bool) → all p (xs ++ ys) ≡ (all p xs && all p ys) → (b && all p (xs ++ ys)) ≡ ((b && all p xs) && all p ys)
    go true e = e
    go false e = refl

pub put-cards : (i : ℕ) (c : Card) (cs : List Card) → length (put_in i c cs) ≡ suc (length cs)
put-cards i c cs =
    let e : length (take i cs ++ drop i cs) ≡ length cs = ap length (take-append-drop i cs) in
    omega (arith, length-append (take i cs) (c ∷ drop i cs), length-append (take i cs) (drop i cs))

pub put-short : (i : ℕ) (c : Card) (cs : List Card) → T (short_history c) → all short_history (put_in i c cs) ≡ all short_history cs
put-short i c cs t =
    all_both short_history (take i cs) (c ∷ drop i cs)
    ∙ ap (λ (b : Bool). all short_history (take i cs) && (b && all short_history (drop i cs))) (T-true (short_history c) t)
    ∙ sym (all_both short_history (take i cs) (drop i cs)) ∙ ap (all short_history) (take-append-drop i cs)

-- a range changed: as many cards, and the histories outside it as they were
pub range-cards : (f : Card → Card) (i j : ℕ) (cs : List Card) → length (over_range f i j cs) ≡ length cs
range-cards f i j [] = refl
range-cards f (suc i) j (c ∷ cs) = ap suc (range-cards f i (j - 1) cs)
range-cards f zero zero (c ∷ cs) = refl
range-cards f zero (suc j) (c ∷ cs) = ap suc (range-cards f zero j cs)

all_left : {A : Type 0} (p : A → Bool) (i : ℕ) (xs : List A) → T (all p xs) → (all p (take i xs) ≡ true) × (all p (drop i xs) ≡ true)
all_left p i xs t = go (all p (take i xs)) (all p (drop i xs)) (subst (λ (b : Bool). T b) (sym (ap (all p) (take-append-drop i xs)) ∙ all_both p (take i xs) (drop i xs)) t)
  where
    go : (a b : Bool) → T (a && b) → (a ≡ true) × (b ≡ true)
    go true true u = (refl, refl)
    go true false u = absurd u
    go false b u = absurd u

pub range-short : (f : Card → Card) (i j : ℕ) (cs : List Card) → i ≤ j → T (all short_history cs) → all short_history (over_range f i j cs) ≡ all short_history (map f (between i j cs))
range-short f i j cs le t =
    let m : List Card = map f (between i j cs) in
    ap (all short_history) (range-cut f i j cs le)
    ∙ all_both short_history (take i cs) (m ++ drop (suc j) cs)
    ∙ ap₂ ◌&&◌ (all_left short_history i cs t).0 (all_both short_history m (drop (suc j) cs))
    ∙ ap (λ (b : Bool). all short_history m && b) (all_left short_history (suc j) cs t).1
    ∙ and-true (all short_history m)
