-- CODE. What stands in an image, by places, whatever its words are.
--   a card          text_from, text_at, next_at, seen_at
--   its line        text_of, line_in, line_into, star_at
--   cards in order  places_from, places_in
use Rattle.std.specs.Prelude.{ℕ, zero, suc, ◌+◌, ◌-◌, ◌/◌, ◌%◌, ◌^◌, Bool, List, [], ◌∷◌, ◌++◌, eqb, ltb, leb, length, get_or, take, drop, if◌then◌else◌}
use Rattle.words.specs.Text.{says, is_text}
use Rattle.library.specs.Check.{is_last_word}
use Rattle.library.specs.declared.Seen.{Seen}

-- A CARD: where its text starts, past the first word with bit 59, and where it ends; no further than the image, where all is that stands past it
abbrev pub text_from : ℕ → List ℕ → ℕ
text_from i [] = i
text_from i (w ∷ ws) = let on = text_from (suc i) ws in if is_last_word w then suc i else on

unfoldable pub text_at : List ℕ → ℕ → ℕ
text_at ws at = if ltb at (length ws) then text_from at (drop at ws) else length ws

unfoldable pub next_at : List ℕ → ℕ → ℕ
next_at ws at =
    let end : ℕ = text_at ws at + get_or ws at 0 / 2 ^ 36 % 2 ^ 18 in
    if leb end (length ws) then end else length ws

abbrev pub seen_at : List ℕ → ℕ → Seen
seen_at ws at =
    record {
      text = text_at ws at;
      next = next_at ws at;
      owner = get_or ws at 0 % 2 ^ 16;
      seq = get_or ws at 0 / 2 ^ 18 % 2 ^ 18;
      active = eqb (get_or ws at 0 / 2 ^ 58 % 2) 1;
    }

-- ITS LINE, none where the words are no text or no words of the image
abbrev pub text_of : List ℕ → List ℕ
text_of ws = if is_text ws then says ws else []

unfoldable pub line_in : List ℕ → ℕ → ℕ → List ℕ
line_in ws from to = if leb to (length ws) then text_of (take (to - from) (drop from ws)) else []

-- in the first columns of a line, the others staying
unfoldable pub line_into : List ℕ → ℕ → ℕ → List ℕ → List ℕ
line_into ws from to line = line_in ws from to ++ drop (length (line_in ws from to)) line

-- whether the word at a place has the code of * first: a line from there may begin with * only then
abbrev pub star_at : List ℕ → ℕ → Bool
star_at ws at = eqb (get_or ws at 0 / 2 ^ 54 % 2 ^ 6) 0o47

-- CARDS IN ORDER: the places of all from a place on
abbrev pub places_from : ℕ → List ℕ → ℕ → List ℕ
places_from zero ws at = []
places_from (suc k) ws at = let on = places_from k ws (next_at ws at) in if ltb at (length ws) then (at ∷ on) else []

unfoldable pub places_in : List ℕ → ℕ → List ℕ
places_in ws at = places_from (length ws - at) ws at
