-- CODE. What rows 5 and 6 of the check answer, and rows 1 to 6.
--   answers              cards_read, cards_answer, answer_from
--   reading a card       text_if, text_found, text_count, end_at
--   rows 1 to 6          after_tables, first_rows
use Rattle.std.specs.Prelude.{Option as Place, None, Some, Result, Ok, Err, ℕ, ◌+◌, ◌/◌, ◌%◌, ◌^◌, List, get_or, take, drop, if◌then◌else◌}
use Rattle.std.proofs.Math.Option.{Option, none, some}
use Rattle.words.specs.Base.{place_from}
use Rattle.words.specs.Text.{is_text}
use Rattle.library.specs.Check.{Cards, cards, fault, read_cards, directory_of, cards_place, is_last_word, fields_of, ok_form, row1, row2, row3, row4}
use Rattle.library.specs.declared.Refusal.{Refusal}
use Rattle.library.specs.declared.Fault.TheVariants.{Size, Header, Tables, Name}
use Rattle.library_tables.specs.Found.{refused_by}

-- rows 5 and 6 of an image, of which 16,383 cards are let in
abbrev pub cards_read : List ℕ → Cards
cards_read ws = read_cards (directory_of ws) 16383 (drop (cards_place ws) ws) (cards_place ws)

abbrev pub cards_answer : Cards → Result (Unit {0}) Refusal
cards_answer (cards ss) = Ok tt
cards_answer (fault f p) = Err (record { fault = f; place = p })

-- from a place on, where so many more cards are let in
abbrev pub answer_from : List ℕ → List ℕ → ℕ → ℕ → Result (Unit {0}) Refusal
answer_from directory ws left at = cards_answer (read_cards directory left (drop at ws) at)

-- READING A CARD: where the text starts of one with so many words ahead of it, if it passes row 5
abbrev pub text_if : List ℕ → List ℕ → ℕ → Option ℕ → Place ℕ
text_if directory ws at none = None
text_if directory ws at (some k) = if ok_form directory (fields_of (drop at ws) k) then Some (at + k) else None

unfoldable pub text_found : List ℕ → List ℕ → ℕ → Place ℕ
text_found directory ws at = text_if directory ws at (place_from is_last_word 1 (drop at ws))

-- how many words its text has, and where it ends if that passes row 6
abbrev pub text_count : List ℕ → ℕ → ℕ
text_count ws at = get_or ws at 0 / 2 ^ 36 % 2 ^ 18

unfoldable pub end_at : List ℕ → ℕ → ℕ → Place ℕ
end_at ws at from = if is_text (take (text_count ws at) (drop from ws)) then Some (from + text_count ws at) else None

-- ROWS 1 TO 6: 1, 2, 3, 4, then 5 and 6 together; a row's fault, or what comes after it
abbrev pub after_tables : List ℕ → Result (Unit {0}) Refusal
after_tables ws = refused_by Tables (row3 ws) (refused_by Name (row4 ws) (cards_answer (cards_read ws)))

unfoldable pub first_rows : List ℕ → Result (Unit {0}) Refusal
first_rows ws = refused_by Size (row1 ws) (refused_by Header (row2 ws) (after_tables ws))
