-- MEANING. The library check (RULES, "The check"): rows 1 to 10 of the table, their order and their places.
--   answers            Checking, checked, fault_number, checked_number, checked_place, or_else
--   the layout         directory_count, deck_count, directory_of, deck_words_of, cards_place
--   rows over words    first_of, fault_if, row1, row2, table_faults, row3, first_bad, ok_entry, ok_deck_word, row4
--   rows 5 and 6       Stored, is_last_word, threes, raw_bytes, used, byte_of, Fields, fields_of, card_of, rising, ok_byte, first_activates, form_tests, ok_form, Cards, also, stored_of, read_card, read_cards
--   rows over cards    is_deck_line, is_deck_card, ok_deck_card, row7, first_failing, ahead_of_decks, ok_target, ok_yank, row8, shares_both, row10_from, row10, ok_bits, row9_from, row9
--   the check          Parted, part_at, parted_by, library_of, check_cards, check
use Rattle.std.specs.Prelude.{ℕ, zero, suc, ◌+◌, ◌/◌, ◌%◌, ◌^◌, Bool, true, false, ◌&&◌, ◌||◌, not, List, [], ◌∷◌, map, eqb, ltb, leb, length, get_or, take, drop, Result, Ok, Err, if◌then◌else◌}
use Rattle.std.specs.Bool.{beq}
use Rattle.std.proofs.Math.Option.{Option, none, some}
use Rattle.words.specs.Base.{any, all, all_of, any_of, member, same, is_nil, place_from}
use Rattle.words.specs.Base.{is_word}
use Rattle.words.specs.Text.{says, is_text}
use Rattle.words.specs.Names.{is_name_word}
use Rattle.words_lines.specs.Directive.{directive}
use Rattle.library.specs.Library.{Byte, Card, Deck, Library, DeckLine, not_deck, bad_deck, deck_of, deck_line, history, reserved, purged, name_at, entry_of}
use Rattle.library.specs.Yanks.{Target, whole_set, is_yank, targets, active, yanked}
use Rattle.library.specs.Image.{header, byte_bits, head_words}
use Rattle.library.specs.declared.Fault.{Fault}
use Rattle.library.specs.declared.Fault.TheVariants.{Size, Header, Tables, Name, Form, Text, Decks, Yank as YankFault, Bit, Twice}
use Rattle.library.specs.declared.Refusal.{Refusal}

-- ANSWERS: the library that was read, or the row and the place
pub data Checking : Type 0 where
  good : Library → Checking
  bad : Fault → ℕ → Checking

abbrev pub checked : Checking → Result (Unit {0}) Refusal
checked (good l) = Ok tt
checked (bad f p) = Err (record { fault = f; place = p })

abbrev pub fault_number : Fault → ℕ
fault_number Size = 1
fault_number Header = 2
fault_number Tables = 3
fault_number Name = 4
fault_number Form = 5
fault_number Text = 6
fault_number Decks = 7
fault_number YankFault = 8
fault_number Bit = 9
fault_number Twice = 10

abbrev pub checked_number : Result (Unit {0}) Refusal → ℕ
checked_number (Ok u) = 0
checked_number (Err r) = fault_number r.fault

abbrev pub checked_place : Result (Unit {0}) Refusal → ℕ
checked_place (Ok u) = 0
checked_place (Err r) = r.place

-- a row's fault, or what comes after it
abbrev pub or_else : Fault → Option ℕ → Checking → Checking
or_else f none r = r
or_else f (some p) r = bad f p

abbrev pub first_of : Option ℕ → Option ℕ → Option ℕ
first_of (some p) r = some p
first_of none r = r

abbrev pub fault_if : Bool → ℕ → Option ℕ
fault_if true p = some p
fault_if false p = none

-- THE LAYOUT
abbrev pub directory_count : List ℕ → ℕ
directory_count ws = get_or ws 1 0 / 2 ^ 18

abbrev pub deck_count : List ℕ → ℕ
deck_count ws = get_or ws 1 0 % 2 ^ 18

abbrev pub directory_of : List ℕ → List ℕ
directory_of ws = take (directory_count ws) (drop 2 ws)

abbrev pub deck_words_of : List ℕ → List ℕ
deck_words_of ws = take (deck_count ws) (drop (2 + directory_count ws) ws)

abbrev pub cards_place : List ℕ → ℕ
cards_place ws = 2 + directory_count ws + deck_count ws

-- ROW 1: under 3 words, at their count; then over 65,536 words, at 65,536; then a number that is no word, at the first one
abbrev pub row1 : List ℕ → Option ℕ
row1 ws =
    first_of (fault_if (ltb (length ws) 3) (length ws))
    (first_of (fault_if (ltb 65536 (length ws)) 65536)
    (place_from (λ w. not (is_word w)) 0 ws))

abbrev pub row2 : List ℕ → Option ℕ
row2 ws = fault_if (not (eqb (get_or ws 0 0) header)) 0

-- ROW 3, at the second word: it has bits above 35, or counts over 1,023 entries, no deck or over 255, or more entries and decks than the image has words for
abbrev pub table_faults : List ℕ → List Bool
table_faults ws =
    leb (2 ^ 36) (get_or ws 1 0)
    ∷ ltb 1023 (directory_count ws)
    ∷ eqb (deck_count ws) 0
    ∷ ltb 255 (deck_count ws)
    ∷ ltb (length ws) (cards_place ws) ∷ []

abbrev pub row3 : List ℕ → Option ℕ
row3 ws = fault_if (any_of (table_faults ws)) 1

-- ROW 4: the first word of a table that fails, each tested with those ahead of it, so that a name fails where it stands for the second time
abbrev pub first_bad : (List ℕ → ℕ → Bool) → List ℕ → ℕ → List ℕ → Option ℕ
first_bad ok ahead n [] = none
first_bad ok ahead n (w ∷ ws) = let later = first_bad ok (w ∷ ahead) (suc n) ws in if ok ahead w then later else some n

abbrev pub ok_entry : List ℕ → ℕ → Bool
ok_entry ahead w = eqb w purged || (is_name_word w && not (eqb w reserved) && not (member w ahead))

-- the list's first word is YANK$$$; each other one is a name that the directory has, and that did not stand in the list ahead of it
abbrev pub ok_deck_word : List ℕ → List ℕ → ℕ → Bool
ok_deck_word directory ahead w =
    if is_nil ahead then eqb w reserved
    else (is_name_word w && member w directory && not (member w ahead))

abbrev pub row4 : List ℕ → Option ℕ
row4 ws =
    first_of (first_bad ok_entry [] 2 (directory_of ws))
    (first_bad (ok_deck_word (directory_of ws)) [] (2 + directory_count ws) (deck_words_of ws))

-- ROWS 5 AND 6: a card as it is stored, with its place and its stored bits
pub record Stored : Type 0 where
  pub place : ℕ
  pub card : Card
  pub act : Bool
  pub raw : List ℕ

-- the words up to the first with bit 59, and their bytes without the unused ones
abbrev pub is_last_word : ℕ → Bool
is_last_word w = leb (2 ^ 59) w

abbrev pub threes : List ℕ → List ℕ
threes [] = []
threes (w ∷ ws) = w / 2 ^ 36 % 2 ^ 18 ∷ w / 2 ^ 18 % 2 ^ 18 ∷ w % 2 ^ 18 ∷ threes ws

abbrev pub raw_bytes : List ℕ → List ℕ
raw_bytes [] = []
raw_bytes (w ∷ ws) = w % 2 ^ 18 ∷ threes ws

abbrev pub used : List ℕ → List ℕ
used [] = []
used (x ∷ xs) = let r = used xs in if eqb x 0 && is_nil r then [] else (x ∷ r)

abbrev pub byte_of : ℕ → Byte
byte_of b = record { number = b % 2 ^ 16; activating = eqb (b / 2 ^ 16 % 2) 1 }

-- the fields of a card's words: those ahead of the text, then the text
pub record Fields : Type 0 where
  pub head : List ℕ
  pub text : List ℕ
  pub act : Bool
  pub seq : ℕ
  pub raw : List ℕ

abbrev pub fields_of : List ℕ → ℕ → Fields
fields_of ws k =
    let w : ℕ = get_or ws 0 0 in
    record {
      head = take k ws;
      text = take (w / 2 ^ 36 % 2 ^ 18) (drop k ws);
      act = eqb (w / 2 ^ 58 % 2) 1;
      seq = w / 2 ^ 18 % 2 ^ 18;
      raw = used (raw_bytes (take k ws));
    }

abbrev pub card_of : Fields → Card
card_of f =
    record { line = says f.text; seq = f.seq; owner = get_or f.raw 0 0 % 2 ^ 16; later = map byte_of (drop 1 f.raw) }

-- no number of a history is below n, or below the number ahead of it; and each is that of an entry that is not purged
abbrev pub rising : ℕ → List ℕ → Bool
rising n [] = true
rising n (b ∷ bs) = leb n (b % 2 ^ 16) && rising (b % 2 ^ 16) bs

abbrev pub ok_byte : List ℕ → ℕ → Bool
ok_byte directory b = leb (b % 2 ^ 16) (length directory) && not (eqb (name_at directory (b % 2 ^ 16)) purged)

abbrev pub first_activates : List ℕ → Bool
first_activates [] = false
first_activates (b ∷ bs) = eqb (b / 2 ^ 16 % 2) 1

-- row 5, word by word in WordForm.antt: what these contents are written as is what is written, and the contents are allowed
abbrev pub form_tests : List ℕ → Fields → List Bool
form_tests directory f =
    ltb 0 f.seq
    ∷ first_activates f.raw
    ∷ rising 1 f.raw
    ∷ all (ok_byte directory) f.raw
    ∷ leb (length f.raw) 64
    ∷ same (head_words f.act (get_or f.head 0 0 / 2 ^ 36 % 2 ^ 18) f.seq f.raw) f.head
    ∷ eqb (length f.text) (get_or f.head 0 0 / 2 ^ 36 % 2 ^ 18) ∷ []

abbrev pub ok_form : List ℕ → Fields → Bool
ok_form directory f = all_of (form_tests directory f)

-- all cards of the words from place n, each tested for 5 and then for 6; `left`: how many more are let in
pub data Cards : Type 0 where
  cards : List Stored → Cards
  fault : Fault → ℕ → Cards

abbrev pub also : Stored → Cards → Cards
also s (cards ss) = cards (s ∷ ss)
also s (fault f p) = fault f p

abbrev pub stored_of : ℕ → Fields → Stored
stored_of n f = record { place = n; card = card_of f; act = f.act; raw = f.raw }

abbrev pub read_card : List ℕ → ℕ → List ℕ → Option ℕ → (ℕ → Cards) → Cards
read_card directory n ws none next = fault Form n
read_card directory n ws (some k) next =
    let f : Fields = fields_of ws k in
    if not (ok_form directory f) then fault Form n
    else if not (is_text f.text) then fault Text n
    else also (stored_of n f) (next (k + length f.text))

abbrev pub read_cards : List ℕ → ℕ → List ℕ → ℕ → Cards
read_cards directory zero [] n = cards []
read_cards directory zero (w ∷ ws) n = fault Form n
read_cards directory (suc left) [] n = cards []
read_cards directory (suc left) (w ∷ ws) n =
    read_card directory n (w ∷ ws) (place_from is_last_word 1 (w ∷ ws)) (λ k. read_cards directory left (drop k (w ∷ ws)) (n + k))

-- ROW 7: each deck card is that of the list's next name; where names are left after the last card, the place is `end`, the count of words
abbrev pub is_deck_line : DeckLine → Bool
is_deck_line not_deck = false
is_deck_line bad_deck = true
is_deck_line (deck_of c w) = true

abbrev pub is_deck_card : Stored → Bool
is_deck_card s = is_deck_line (deck_line s.card.line)

abbrev pub ok_deck_card : List ℕ → List ℕ → Stored → DeckLine → Bool
ok_deck_card directory [] s d = false
ok_deck_card directory (x ∷ xs) s not_deck = false
ok_deck_card directory (x ∷ xs) s bad_deck = false
ok_deck_card directory (x ∷ xs) s (deck_of c w) =
    eqb w x && eqb s.card.owner (entry_of directory w) && eqb s.card.seq 1 && is_nil s.card.later

abbrev pub row7 : List ℕ → List ℕ → List Stored → ℕ → Option ℕ
row7 directory names [] end = fault_if (not (is_nil names)) end
row7 directory names (s ∷ ss) end =
    let on = row7 directory names ss end in
    let after = row7 directory (drop 1 names) ss end in
    if not (is_deck_card s) then on
    else if ok_deck_card directory names s (deck_line s.card.line) then after
    else some s.place

-- the cards of YANK$$$ go up to the first deck card; each deck card begins a deck
pub record Parted : Type 0 where
  pub first : List Card
  pub decks : List Deck

abbrev pub part_at : DeckLine → Card → Parted → Parted
part_at not_deck c p = record { first = c ∷ p.first; decks = p.decks }
part_at bad_deck c p = record { first = c ∷ p.first; decks = p.decks }
part_at (deck_of common w) c p =
    record { first = []; decks = record { number = c.owner; common = common; line = c.line; cards = p.first } ∷ p.decks }

abbrev pub parted_by : List Stored → Parted
parted_by [] = record { first = []; decks = [] }
parted_by (s ∷ ss) = part_at (deck_line s.card.line) s.card (parted_by ss)

abbrev pub library_of : List ℕ → List Stored → Library
library_of directory ss = let p : Parted = parted_by ss in record { directory = directory; yanks = p.first; decks = p.decks }

-- the first card that fails a test
abbrev pub first_failing : (Stored → Bool) → List Stored → Option ℕ
first_failing ok [] = none
first_failing ok (s ∷ ss) = let later = first_failing ok ss in if ok s then later else some s.place

abbrev pub ahead_of_decks : List Stored → List Stored
ahead_of_decks [] = []
ahead_of_decks (s ∷ ss) = if is_deck_card s then [] else (s ∷ ahead_of_decks ss)

-- ROW 8: each card of YANK$$$ is a well-formed YANK, and each name on it is in the directory, is no deck's, and has a number below the card's owner
abbrev pub ok_target : List ℕ → List ℕ → ℕ → Target → Bool
ok_target directory deck_words own (whole_set n) = ltb 0 n && ltb n own && not (member (name_at directory n) deck_words)

abbrev pub ok_yank : List ℕ → List ℕ → Stored → Bool
ok_yank directory deck_words s =
    is_yank (directive s.card.line) && all (ok_target directory deck_words s.card.owner) (targets directory s.card.line)

abbrev pub row8 : List ℕ → List ℕ → List Stored → Option ℕ
row8 directory deck_words ss = first_failing (ok_yank directory deck_words) (ahead_of_decks ss)

-- ROW 10: a card ahead has the same owner and the same sequence number
abbrev pub shares_both : Stored → Stored → Bool
shares_both s t = eqb s.card.owner t.card.owner && eqb s.card.seq t.card.seq

abbrev pub row10_from : List Stored → List Stored → Option ℕ
row10_from ahead [] = none
row10_from ahead (s ∷ ss) = let later = row10_from (s ∷ ahead) ss in if any (shares_both s) ahead then some s.place else later

abbrev pub row10 : List Stored → Option ℕ
row10 ss = row10_from [] ss

-- ROW 9: the stored bits are those that follow from the histories, each card under what is yanked in its deck; a deck card begins one
abbrev pub ok_bits : (ℕ → Bool) → Stored → Bool
ok_bits yk s = beq s.act (active yk s.card) && same s.raw (map (byte_bits yk) (history s.card))

abbrev pub row9_from : (ℕ → ℕ → Bool) → ℕ → List Stored → Option ℕ
row9_from yk deck [] = none
row9_from yk deck (s ∷ ss) =
    let here : ℕ = if is_deck_card s then s.card.owner else deck in
    let later = row9_from yk here ss in
    if ok_bits (yk here) s then later else some s.place

abbrev pub row9 : Library → List Stored → Option ℕ
row9 l ss = row9_from (yanked l) 0 ss

-- THE CHECK: 1, 2, 3, 4, then 5 and 6 together, then 7, 8, 10, 9; each over all words or cards ahead of the next
abbrev pub check_cards : List ℕ → List ℕ → ℕ → Cards → Checking
check_cards directory deck_words end (fault f p) = bad f p
check_cards directory deck_words end (cards ss) =
    or_else Decks (row7 directory (drop 1 deck_words) ss end)
    (or_else YankFault (row8 directory deck_words ss)
    (or_else Twice (row10 ss)
    (or_else Bit (row9 (library_of directory ss) ss)
    (good (library_of directory ss)))))

unfoldable pub check : List ℕ → Checking
check ws =
    or_else Size (row1 ws)
    (or_else Header (row2 ws)
    (or_else Tables (row3 ws)
    (or_else Name (row4 ws)
    (check_cards (directory_of ws) (deck_words_of ws) (length ws)
    (read_cards (directory_of ws) 16383 (drop (cards_place ws) ws) (cards_place ws))))))
