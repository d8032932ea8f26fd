-- What holds of every element of a list, and the Boolean tests that say so.
use mathlib.Core.Path.{◌≡◌, refl}
use mathlib.Core.Bool.{Bool, true, false, ◌&&◌, not}
use mathlib.Core.List.{List, [], ◌∷◌, map}
use lib.Dec.{T}
use Rattle.words.specs.Base.{all, all_of, any_of}
use Rattle.words.proofs.TestParts.{and_both}
use Rattle.library.specs.Each.{Each}

pub each_map : {A : Type 0} (P Q : A → Type 0) → ((x : A) → P x → Q x) → (xs : List A) → Each P xs → Each Q xs
each_map P Q f [] h = tt
each_map P Q f (x ∷ xs) h = (f x h.0, each_map P Q f xs h.1)

pub each_two : {A : Type 0} (P Q R : A → Type 0) → ((x : A) → P x → Q x → R x) → (xs : List A) → Each P xs → Each Q xs → Each R xs
each_two P Q R f [] p q = tt
each_two P Q R f (x ∷ xs) p q = (f x p.0 q.0, each_two P Q R f xs p.1 q.1)

pub each-of-map : {A B : Type 0} (P : B → Type 0) (f : A → B) (xs : List A) → Each (λ x. P (f x)) xs → Each P (map f xs)
each-of-map P f [] h = tt
each-of-map P f (x ∷ xs) h = (h.0, each-of-map P f xs h.1)

pub each-under-map : {A B : Type 0} (P : B → Type 0) (f : A → B) (xs : List A) → Each P (map f xs) → Each (λ x. P (f x)) xs
each-under-map P f [] h = tt
each-under-map P f (x ∷ xs) h = (h.0, each-under-map P f xs h.1)

-- `&&`, `all` and `all_of`, both ways; `any_of` that finds none
pub and_parts : (a b : Bool) → T (a && b) → T a × T b
and_parts true b t = (tt, t)
and_parts false b t = absurd t

pub all-each : {A : Type 0} (p : A → Bool) (xs : List A) → T (all p xs) → Each (λ x. T (p x)) xs
all-each p [] t = tt
all-each p (x ∷ xs) t = let q = and_parts (p x) (all p xs) t in (q.0, all-each p xs q.1)

pub each_all : {A : Type 0} (p : A → Bool) (xs : List A) → Each (λ x. T (p x)) xs → T (all p xs)
each_all p [] h = tt
each_all p (x ∷ xs) h = and_both (p x) (all p xs) h.0 (each_all p xs h.1)

pub all_of-each : (bs : List Bool) → T (all_of bs) → Each T bs
all_of-each [] t = tt
all_of-each (b ∷ bs) t = let q = and_parts b (all_of bs) t in (q.0, all_of-each bs q.1)

pub each-all_of : (bs : List Bool) → Each T bs → T (all_of bs)
each-all_of [] h = tt
each-all_of (b ∷ bs) h = and_both b (all_of bs) h.0 (each-all_of bs h.1)

pub any_of-none : (bs : List Bool) → T (not (any_of bs)) → Each (λ b. T (not b)) bs
any_of-none [] t = tt
any_of-none (true ∷ bs) t = absurd t
any_of-none (false ∷ bs) t = (tt, any_of-none bs t)

pub none-any_of : (bs : List Bool) → Each (λ b. T (not b)) bs → any_of bs ≡ false
none-any_of [] h = refl
none-any_of (true ∷ bs) h = absurd h.0
none-any_of (false ∷ bs) h = none-any_of bs h.1
