-- PROMISE. Row 5 of the check word by word, as a reader of words would test it (RULES, "The check"), and that this is row 5 as Check.antt says it.
--   bytes                  ok_number, ok_numbers, bytes_in
--   further history words  ok_full, ok_last, ok_further
--   a card's words         first_tests, word_tests
--   the promise            FormByWord
--   it is met, none spare  two_words, FormMet, form_differs, over_word, ended_twice, is_place, FormSpare
use Rattle.std.specs.Prelude.{ℕ, ◌+◌, ◌-◌, ◌*◌, ◌/◌, ◌%◌, ◌^◌, ◌<◌, ◌≡◌, Bool, true, false, ◌&&◌, not, List, [], ◌∷◌, T, eqb, ltb, leb, length, get_or, take, drop, if◌then◌else◌}
use Rattle.std.specs.Bool.{beq}
use Rattle.std.proofs.Math.Option.{Option, none, some}
use Rattle.words.specs.Base.{all, all_of, is_nil, is_word, place_from}
use Rattle.library.specs.Check.{is_last_word, used, ok_byte, fields_of, ok_form}

-- a byte's number is not below n, and is that of an entry that is not purged
abbrev pub ok_number : List ℕ → ℕ → ℕ → Bool
ok_number directory n b = leb n (b % 2 ^ 16) && ok_byte directory b

abbrev pub ok_numbers : List ℕ → ℕ → List ℕ → Bool
ok_numbers directory n [] = true
ok_numbers directory n (b ∷ bs) = ok_number directory n b && ok_numbers directory (b % 2 ^ 16) bs

-- the three bytes of a further history word
abbrev pub bytes_in : ℕ → List ℕ
bytes_in w = w / 2 ^ 36 % 2 ^ 18 ∷ w / 2 ^ 18 % 2 ^ 18 ∷ w % 2 ^ 18 ∷ []

-- one with three bytes and nothing above them, and the last, with bit 59 and some bytes
unfoldable pub ok_full : List ℕ → ℕ → ℕ → Bool
ok_full directory n w = eqb (w / 2 ^ 54) 0 && ok_numbers directory n (bytes_in w)

unfoldable pub ok_last : List ℕ → ℕ → ℕ → Bool
ok_last directory n w = eqb (w / 2 ^ 54) 32 && (not (is_nil (used (bytes_in w))) && ok_numbers directory n (used (bytes_in w)))

abbrev pub ok_further : List ℕ → ℕ → List ℕ → Bool
ok_further directory n [] = true
ok_further directory n (w ∷ ws) = if is_nil ws then ok_last directory n w else (ok_full directory n w && ok_further directory (w % 2 ^ 16) ws)

-- of a card's first word: 57-54 are zero, the sequence number is not, its byte activates, and has the number of an entry
abbrev pub first_tests : List ℕ → ℕ → List Bool
first_tests directory w =
    eqb (w / 2 ^ 54 % 16) 0
    ∷ ltb 0 (w / 2 ^ 18 % 2 ^ 18)
    ∷ eqb (w / 2 ^ 16 % 2) 1
    ∷ ok_number directory 1 (w % 2 ^ 18) ∷ []

-- a card with k words ahead of its text: 64 bytes are one in the first word and three in each of 21 more
abbrev pub word_tests : List ℕ → List ℕ → ℕ → List Bool
word_tests directory ws k =
    leb k 22
    ∷ leb (get_or ws 0 0 / 2 ^ 36 % 2 ^ 18) (length ws - k)
    ∷ all_of (first_tests directory (get_or ws 0 0))
    ∷ ok_further directory (get_or ws 0 0 % 2 ^ 16) (drop 1 (take k ws)) ∷ []

-- THE PROMISE: of words of 60 bits, the first of which with bit 59 is the k-th
abbrev pub FormByWord : Type 0
FormByWord = (directory ws : List ℕ) (k : ℕ) → ((i : ℕ) → get_or ws i 0 < 2 ^ 60) → place_from is_last_word 1 ws ≡ some k
    → ok_form directory (fields_of ws k) ≡ all_of (word_tests directory ws k)

-- IT IS MET by a card of two words with two bytes of the one entry, and row 5 passes it
abbrev pub two_words : List ℕ
two_words = (2 ^ 58 + 2 ^ 18 + (2 ^ 16 + 1)) ∷ (2 ^ 59 + (2 ^ 16 + 1) * 2 ^ 36) ∷ []

pub record FormMet : Type 0 where
  pub words : (i : ℕ) → get_or two_words i 0 < 2 ^ 60
  pub place : place_from is_last_word 1 two_words ≡ some 2
  pub passes : T (ok_form (2 ^ 59 ∷ []) (fields_of two_words 2))

-- and without either hypothesis the two can differ: of a word with bit 60, and where the first word has bit 59 and the second is counted with it
abbrev pub form_differs : List ℕ → ℕ → Bool
form_differs ws k = not (beq (ok_form (2 ^ 59 ∷ []) (fields_of ws k)) (all_of (word_tests (2 ^ 59 ∷ []) ws k)))

abbrev pub over_word : List ℕ
over_word = (2 ^ 60 + 2 ^ 59 + 2 ^ 58 + 2 ^ 18 + (2 ^ 16 + 1)) ∷ []

abbrev pub ended_twice : List ℕ
ended_twice = (2 ^ 59 + 2 ^ 58 + 2 ^ 18 + (2 ^ 16 + 1)) ∷ (2 ^ 59 + (2 ^ 16 + 1) * 2 ^ 36) ∷ []

abbrev pub is_place : ℕ → Option ℕ → Bool
is_place k none = false
is_place k (some n) = eqb n k

unfoldable pub FormSpare : Type 0
FormSpare =
    T (all_of (
    not (all is_word over_word)
    ∷ is_place 1 (place_from is_last_word 1 over_word)
    ∷ form_differs over_word 1
    ∷ all is_word ended_twice
    ∷ not (is_place 2 (place_from is_last_word 1 ended_twice))
    ∷ form_differs ended_twice 2 ∷ []))
