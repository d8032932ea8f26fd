-- MEANING. Small words that the definitions are written in.
--   quoted text   bytes_from, bytes, byte
--   lists         any, all, all_of, any_of, member, same, is_nil, place_from
--   words         is_word
--   cutting       take_until, drop_until, beyond, into, split
use Rattle.std.specs.Prelude.{ℕ, zero, suc, ◌-◌, ◌^◌, Bool, true, false, ◌&&◌, ◌||◌, List, [], ◌∷◌, eqb, ltb, drop, if◌then◌else◌}
use Prim.Native.String.{String, len, char_at}
use Prim.Native.Char.{code}
use Rattle.std.proofs.Math.Option.{Option, none, some}

-- the bytes of a quoted text: its last k
abbrev pub bytes_from : String → ℕ → List ℕ
bytes_from s zero = []
bytes_from s (suc k) = code (char_at s (len s - suc k)) ∷ bytes_from s k

abbrev pub bytes : String → List ℕ
bytes s = bytes_from s (len s)

-- the byte of a quoted character
abbrev pub byte : String → ℕ
byte s = code (char_at s 0)

abbrev pub any : {A : Type 0} → (A → Bool) → List A → Bool
any p [] = false
any p (x ∷ xs) = p x || any p xs

abbrev pub all : {A : Type 0} → (A → Bool) → List A → Bool
all p [] = true
all p (x ∷ xs) = p x && all p xs

-- tests in a row
abbrev pub all_of : List Bool → Bool
all_of [] = true
all_of (b ∷ bs) = b && all_of bs

abbrev pub any_of : List Bool → Bool
any_of [] = false
any_of (b ∷ bs) = b || any_of bs

abbrev pub member : ℕ → List ℕ → Bool
member n xs = any (eqb n) xs

abbrev pub same : List ℕ → List ℕ → Bool
same [] [] = true
same [] (y ∷ ys) = false
same (x ∷ xs) [] = false
same (x ∷ xs) (y ∷ ys) = eqb x y && same xs ys

abbrev pub is_nil : {A : Type 0} → List A → Bool
is_nil [] = true
is_nil (x ∷ xs) = false

-- the place of the first that passes, counted from n
abbrev pub place_from : {A : Type 0} → (A → Bool) → ℕ → List A → Option ℕ
place_from p n [] = none
place_from p n (x ∷ xs) = let later = place_from p (suc n) xs in if p x then some n else later

-- a list cut at the first element that passes: what is ahead of it, it and the rest, what is beyond it
abbrev pub take_until : (ℕ → Bool) → List ℕ → List ℕ
take_until p [] = []
take_until p (x ∷ xs) = if p x then [] else (x ∷ take_until p xs)

abbrev pub drop_until : (ℕ → Bool) → List ℕ → List ℕ
drop_until p [] = []
drop_until p (x ∷ xs) = if p x then (x ∷ xs) else drop_until p xs

abbrev pub beyond : (ℕ → Bool) → List ℕ → List ℕ
beyond p xs = drop 1 (drop_until p xs)

-- the parts between the elements that pass: one more than there are of these
abbrev pub into : ℕ → List (List ℕ) → List (List ℕ)
into x [] = (x ∷ []) ∷ []
into x (l ∷ ls) = (x ∷ l) ∷ ls

abbrev pub split : (ℕ → Bool) → List ℕ → List (List ℕ)
split p [] = [] ∷ []
split p (x ∷ xs) = let rest = split p xs in if p x then ([] ∷ rest) else into x rest

-- a word has 60 bits: a number of 2^60 or more is none (RULES, "Words")
abbrev pub is_word : ℕ → Bool
is_word w = ltb w (2 ^ 60)
