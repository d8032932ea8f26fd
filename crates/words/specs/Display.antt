-- MEANING. The display code (RULES, "Text"): a code of six bits for each of 64 characters.
--   the chart        chart, code_from, code_of, in_chart, letter
--   quoted text      codes, codes_onto, codes_word
--   named bytes      blank, comma, point, star, slash
use Rattle.std.specs.Prelude.{ℕ, suc, ◌+◌, ◌*◌, Bool, List, [], ◌∷◌, map, eqb, ltb, get_or, if◌then◌else◌}
use Prim.Native.String.{String}
use Rattle.words.specs.Base.{bytes}

-- the character of code 0, of code 1, .. up to 63
abbrev pub chart : List ℕ
chart = bytes ":ABCDEFGHIJKLMNOPQRSTUVWXYZ0123456789+-*/()$= ,.#[]%\"_!&'?<>@\\^;"

-- the place of a byte in a list, counted from n; 64 where it is not there
abbrev pub code_from : ℕ → ℕ → List ℕ → ℕ
code_from b n [] = 64
code_from b n (x ∷ xs) = let later = code_from b (suc n) xs in if eqb b x then n else later

-- the code of a byte, 64 where it is no character
unfoldable pub code_of : ℕ → ℕ
code_of b = code_from b 0 chart

abbrev pub in_chart : ℕ → Bool
in_chart b = ltb (code_of b) 64

unfoldable pub letter : ℕ → ℕ
letter c = get_or chart c 32

-- the codes of a quoted text, and the word that ten codes make, the first of them in bits 59-54
abbrev pub codes : String → List ℕ
codes s = map (λ b. code_from b 0 chart) (bytes s)

abbrev pub codes_onto : ℕ → List ℕ → ℕ
codes_onto w [] = w
codes_onto w (c ∷ cs) = codes_onto (w * 64 + c) cs

abbrev pub codes_word : List ℕ → ℕ
codes_word cs = codes_onto 0 cs

-- bytes that directives are written with
abbrev pub blank : ℕ
blank = 32

abbrev pub comma : ℕ
comma = 44

abbrev pub point : ℕ
point = 46

abbrev pub star : ℕ
star = 42

abbrev pub slash : ℕ
slash = 47
