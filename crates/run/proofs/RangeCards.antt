-- A range among all cards: where its ends stand, and what marking it makes of the whole list.
use Rattle.std.specs.Prelude.{if◌then◌else◌}
use Prim.Native.Nat.{ℕ, zero, suc, ◌+◌, ◌-◌, ◌≤◌}
use native.Mathlib.Omega.{arith}
use mathlib.Core.Path.{◌≡◌, refl, sym, ap, ◌∙◌}
use mathlib.Core.Bool.{Bool, true, false}
use mathlib.Core.List.{List, [], ◌∷◌, ◌++◌, map, append_assoc}
use lib.ListN.{length, take, drop, length-map}
use lib.Seq.{drop-drop}
use Rattle.library.specs.Library.{Card}
use Rattle.run_meaning.specs.Step.{is_card_of, over_range}
use Rattle.run.specs.CardSeek.{index_of}
use Rattle.run.specs.ByteMarks.{mark_one, mark_all}
use Rattle.run.specs.Work.{up_to, beyond_card, range_of}

-- from a card on, a later one is nearer by its index
pub index-drop : (o s i : ℕ) (cs : List Card) → i ≤ index_of o s cs → index_of o s (drop i cs) ≡ index_of o s cs - i
unfolding index_of
index-drop o s zero cs h = omega arith
index-drop o s (suc i) [] h = absurd (omega arith)
index-drop o s (suc i) (c ∷ cs) h = go (is_card_of o s c) (index-drop o s i cs) h
  where
    go : (b : Bool) → (i ≤ index_of o s cs → index_of o s (drop i cs) ≡ index_of o s cs - i) → suc i ≤ (if b then 0 else suc (index_of o s cs))
        → index_of o s (drop i cs) ≡ (if b then 0 else suc (index_of o s cs)) - suc i
    go true r k = absurd (omega arith)
    go false r k = let e : index_of o s (drop i cs) ≡ index_of o s cs - i = r (omega arith) in omega arith

-- the cards of a range, and those beyond it
pub upto-drop : (o s i : ℕ) (cs : List Card) → i ≤ index_of o s cs → up_to o s (drop i cs) ≡ range_of i (index_of o s cs) cs
upto-drop o s i cs h =
    let e : index_of o s (drop i cs) ≡ index_of o s cs - i = index-drop o s i cs h in
    let f : index_of o s (drop i cs) + 1 ≡ index_of o s cs + 1 - i = omega arith in
    ap (λ (n : ℕ). take n (drop i cs)) f

pub beyond-drop : (o s i : ℕ) (cs : List Card) → i ≤ index_of o s cs → beyond_card o s (drop i cs) ≡ drop (index_of o s cs + 1) cs
beyond-drop o s i cs h =
    let e : index_of o s (drop i cs) ≡ index_of o s cs - i = index-drop o s i cs h in
    let f : i + (index_of o s (drop i cs) + 1) ≡ index_of o s cs + 1 = omega arith in
    drop-drop (index_of o s (drop i cs) + 1) i cs ∙ ap (λ (n : ℕ). drop n cs) f

-- marked, they are what the definition of a run makes of the list
range-nil : (f : Card → Card) (m n : ℕ) → [] ≡ map f (take m []) ++ drop n []
range-nil f zero zero = refl
range-nil f (suc m) zero = refl
range-nil f zero (suc n) = refl
range-nil f (suc m) (suc n) = refl

pub over-range : (f : Card → Card) (i j : ℕ) (cs : List Card) → i ≤ j → over_range f i j cs ≡ take i cs ++ (map f (range_of i j cs) ++ drop (j + 1) cs)
over-range f zero zero [] h = refl
over-range f zero (suc j) [] h = range-nil f (suc j + 1 - 0) (suc j + 1)
over-range f (suc i) j [] h = range-nil f (j + 1 - suc i) (j + 1)
over-range f (suc i) zero (c ∷ cs) h = absurd (omega arith)
over-range f (suc i) (suc j) (c ∷ cs) h =
    let e : suc j - 1 ≡ j = omega arith in
    let n : suc j + 1 - suc i ≡ j + 1 - i = omega arith in
    let m : suc j + 1 ≡ suc (j + 1) = omega arith in
    ap {B = List Card} (λ (k : ℕ). c ∷ over_range f i k cs) e ∙ ap {B = List Card} (λ t. c ∷ t) (over-range f i j cs (omega arith))
    ∙ (λ k. c ∷ (take i cs ++ (map f (take (sym n k) (drop i cs)) ++ drop (sym m k) (c ∷ cs))))
over-range f zero zero (c ∷ cs) h = refl
over-range f zero (suc j) (c ∷ cs) h =
    let n : suc j + 1 - 0 ≡ suc (j + 1 - 0) = omega arith in
    let m : suc j + 1 ≡ suc (j + 1) = omega arith in
    ap {B = List Card} (λ t. f c ∷ t) (over-range f zero j cs (omega arith))
    ∙ (λ k. map f (take (sym n k) (c ∷ cs)) ++ drop (sym m k) (c ∷ cs))

pub range-stream : (yk : ℕ → Bool) (was : Bool) (n i j : ℕ) (cs : List Card) → i ≤ j
    → (take i cs ++ mark_all yk was n (range_of i j cs)) ++ drop (j + 1) cs ≡ over_range (mark_one yk was n) i j cs
unfolding mark_all
range-stream yk was n i j cs h =
    append_assoc (take i cs) (map (mark_one yk was n) (range_of i j cs)) (drop (j + 1) cs) ∙ sym (over-range (mark_one yk was n) i j cs h)

-- no card is added or lost
pub marks-count : (yk : ℕ → Bool) (was : Bool) (n : ℕ) (cs : List Card) → length (mark_all yk was n cs) ≡ length cs
unfolding mark_all
marks-count yk was n cs = length-map cs (mark_one yk was n)
