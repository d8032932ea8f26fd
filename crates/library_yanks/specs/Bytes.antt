-- CODE. History bytes as they are stored, and what flags of yanked sets say of them (RULES, "When a card is active").
--   words from a place on   part
--   flags                   flagged
--   activity                say_byte, say_all
use Rattle.std.specs.Prelude.{ℕ, ◌-◌, ◌/◌, ◌%◌, ◌^◌, Bool, List, [], ◌∷◌, eqb, get_or, take, drop, if◌then◌else◌}

-- the words from a place up to another
abbrev pub part : ℕ → ℕ → List ℕ → List ℕ
part from to ws = take (to - from) (drop from ws)

-- A FLAG for each number: 1 where it is yanked
abbrev pub flagged : List ℕ → ℕ → Bool
flagged flags n = eqb (get_or flags n 0) 1

-- A BYTE: a zero byte is unused and says nothing
abbrev pub say_byte : (ℕ → Bool) → Bool → ℕ → Bool
say_byte yanked so b = if eqb b 0 then so else if yanked (b % 2 ^ 16) then so else eqb (b / 2 ^ 16 % 2) 1

abbrev pub say_all : (ℕ → Bool) → Bool → List ℕ → Bool
say_all yanked so [] = so
say_all yanked so (b ∷ bs) = say_all yanked (say_byte yanked so b) bs
