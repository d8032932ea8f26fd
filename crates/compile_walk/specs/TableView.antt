-- CODE. What a compile file sees of an image by the places in it; proofs/ has that it is the view of View.antt.
--   a card    shown_with, shown_named, shown_of
--   cards     cons_if, shown_up_to, shown_in
--   decks     row_view, table_view
use Rattle.std.specs.Prelude.{ℕ, ◌+◌, Bool, true, false, List, [], ◌∷◌, eqb, ltb, get_or, if◌then◌else◌}
use Rattle.library.specs.declared.Seen.{Seen}
use Rattle.library_image.specs.Places.{seen_at, line_in, places_in}
use Rattle.compile_walk.specs.View.{Shown, DeckView}

-- A CARD: the owner's name stands in the directory, that of number 1 after the two words of the header
abbrev pub shown_with : List ℕ → ℕ → Seen → Shown
shown_with line name c = record { line = line; owner = c.owner; name = name; seq = c.seq }

abbrev pub shown_named : List ℕ → List ℕ → Seen → Shown
shown_named ws line c = shown_with line (get_or ws (c.owner + 1) 0) c

unfoldable pub shown_of : List ℕ → Seen → Shown
shown_of ws c = shown_named ws (line_in ws c.text c.next) c

-- CARDS: the active ones up to a place
abbrev pub cons_if : Bool → Shown → List Shown → List Shown
cons_if true c cs = c ∷ cs
cons_if false c cs = cs

abbrev pub shown_up_to : List ℕ → ℕ → List ℕ → List Shown
shown_up_to ws end [] = []
shown_up_to ws end (p ∷ ps) =
    let on = shown_up_to ws end ps in
    if ltb p end then cons_if (seen_at ws p).active (shown_of ws (seen_at ws p)) on else []

unfoldable pub shown_in : List ℕ → ℕ → ℕ → List Shown
shown_in ws from end = shown_up_to ws end (places_in ws from)

-- DECKS: the one that a row of a table stands for, and those of all
abbrev pub row_view : List ℕ → List ℕ → ℕ → DeckView
row_view ws rows i = record { name = get_or rows i 0; common = eqb (get_or rows (i + 3) 0) 1; lines = shown_in ws (get_or rows (i + 1) 0) (get_or rows (i + 2) 0) }

unfoldable pub table_view : List ℕ → List ℕ → List DeckView
table_view ws [] = []
table_view ws (w ∷ []) = []
table_view ws (w ∷ f ∷ []) = []
table_view ws (w ∷ f ∷ t ∷ []) = []
table_view ws (w ∷ f ∷ t ∷ k ∷ rows) = record { name = w; common = eqb k 1; lines = shown_in ws f t } ∷ table_view ws rows
