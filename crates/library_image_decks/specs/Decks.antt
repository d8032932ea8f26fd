-- CODE. The decks of an image, by places, whatever its words are.
--   a deck card    title_for, title_of, title_in, is_title, title_name, kind_number
--   the decks      end_of, deck_end, row_of, rows_of, rows_in, table_of, table_into, Tables
use Rattle.std.specs.Prelude.{Option, None, Some, ℕ, ◌≤◌, ◌≡◌, Bool, true, false, List, [], ◌∷◌, ◌++◌, length, take, drop, if◌then◌else◌}
use Rattle.library.specs.Library.{DeckLine, not_deck, bad_deck, deck_of, deck_line}
use Rattle.library.specs.Check.{cards_place}
use Rattle.library.specs.declared.Seen.{Seen}
use Rattle.library_image.specs.Places.{next_at, seen_at, line_in, places_in}
use Rattle.library_image_decks.specs.declared.titles.Title.{Title}

-- A DECK CARD
abbrev pub title_for : Bool → ℕ → Option Title
title_for common w = Some (record { name = w; common = common })

abbrev pub title_of : DeckLine → Option Title
title_of not_deck = None
title_of bad_deck = None
title_of (deck_of common w) = title_for common w

unfoldable pub title_in : List ℕ → Seen → Option Title
title_in ws c = title_of (deck_line (line_in ws c.text c.next))

abbrev pub is_title : Option Title → Bool
is_title None = false
is_title (Some t) = true

abbrev pub title_name : Option Title → ℕ
title_name None = 0
title_name (Some t) = t.name

abbrev pub kind_number : Option Title → ℕ
kind_number None = 0
kind_number (Some t) = if t.common then 1 else 0

-- THE DECKS: where the next deck card stands, or the image's end
abbrev pub end_of : List ℕ → List ℕ → ℕ
end_of ws [] = length ws
end_of ws (p ∷ ps) = let on = end_of ws ps in if is_title (title_in ws (seen_at ws p)) then p else on

unfoldable pub deck_end : List ℕ → ℕ → ℕ
deck_end ws at = end_of ws (places_in ws at)

-- a row of the table for each: its name, the place of its first card and past its last, and 1 where it is common
abbrev pub row_of : Option Title → ℕ → ℕ → List ℕ
row_of t from to = title_name t ∷ from ∷ to ∷ kind_number t ∷ []

abbrev pub rows_of : List ℕ → List ℕ → List ℕ
rows_of ws [] = []
rows_of ws (p ∷ ps) =
    let rows : List ℕ = rows_of ws ps in
    let t : Option Title = title_in ws (seen_at ws p) in
    if is_title t then (row_of t (next_at ws p) (end_of ws ps) ++ rows) else rows

unfoldable pub rows_in : List ℕ → ℕ → List ℕ
rows_in ws at = rows_of ws (places_in ws at)

-- a table of them, of 1,024 words: of all, where they are no more than a library may have
unfoldable pub table_of : List ℕ → List ℕ
table_of ws = take 1024 (rows_in ws (cards_place ws))

unfoldable pub table_into : List ℕ → List ℕ → List ℕ
table_into ws table = table_of ws ++ drop (length (table_of ws)) table

abbrev pub Tables : List ℕ → List ℕ → Type 0
Tables ws table = cards_place ws ≤ length ws → length (rows_in ws (cards_place ws)) ≤ 1024 → table ≡ rows_in ws (cards_place ws)
