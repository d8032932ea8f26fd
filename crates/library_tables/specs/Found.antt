-- CODE. What rows 1 to 4 of the check answer, and what each part may rely on.
--   answers              found, refused_by
--   for rows 1 and 3     not_word, large, count_faults
--   rows that passed     Sized, Tabled
--   rows 1 to 4          after_header, table_rows
use Rattle.std.specs.Prelude.{Option as Place, None, Some, Result, Ok, Err, ℕ, ◌/◌, ◌%◌, ◌^◌, ◌≤◌, ◌<◌, Bool, not, List, [], ◌∷◌, eqb, ltb, leb, length, get_or}
use Rattle.std.proofs.Math.Option.{Option, none, some}
use Rattle.words.specs.Base.{is_word}
use Rattle.library.specs.Check.{directory_count, deck_count, cards_place, row1, row2, row3, row4}
use Rattle.library.specs.declared.Fault.{Fault}
use Rattle.library.specs.declared.Refusal.{Refusal}
use Rattle.library.specs.declared.Fault.TheVariants.{Size, Header, Tables, Name}

abbrev pub found : Option ℕ → Place ℕ
found none = None
found (some p) = Some p

-- a row's fault, or what comes after it
abbrev pub refused_by : Fault → Option ℕ → Result (Unit {0}) Refusal → Result (Unit {0}) Refusal
refused_by f none r = r
refused_by f (some p) r = Err (record { fault = f; place = p })

-- row 1's test of a word
abbrev pub not_word : ℕ → Bool
not_word w = not (is_word w)

-- as the code makes it
abbrev pub large : ℕ → Bool
large w = leb (2 ^ 60) w

-- row 3's tests of the second word alone
abbrev pub count_faults : ℕ → List Bool
count_faults w = leb (2 ^ 36) w ∷ ltb 1023 (w / 2 ^ 18) ∷ eqb (w % 2 ^ 18) 0 ∷ ltb 255 (w % 2 ^ 18) ∷ []

-- ROWS THAT PASSED: 1, and 3
pub record Sized (ws : List ℕ) : Type 0 where
  pub least : 3 ≤ length ws
  pub most : length ws ≤ 65536
  pub words : (i : ℕ) → get_or ws i 0 < 2 ^ 60

pub record Tabled (ws : List ℕ) : Type 0 where
  pub entries : directory_count ws ≤ 1023
  pub decks : deck_count ws ≤ 255
  pub some-deck : 0 < deck_count ws
  pub inside : cards_place ws ≤ length ws

-- ROWS 1 TO 4, one after another
abbrev pub after_header : List ℕ → Result (Unit {0}) Refusal
after_header ws = refused_by Tables (row3 ws) (refused_by Name (row4 ws) (Ok tt))

unfoldable pub table_rows : List ℕ → Result (Unit {0}) Refusal
table_rows ws = refused_by Size (row1 ws) (refused_by Header (row2 ws) (after_header ws))
