-- In an accepted image the tables fit, the deck list names the decks, and the cards fall into these decks.
use Prim.Native.Nat.{ℕ, zero, suc, ◌+◌, ◌≤◌, ◌<◌}
use native.Mathlib.Omega.{arith}
use mathlib.Core.Path.{◌≡◌, sym, ap, ◌∙◌}
use mathlib.Core.Bool.{not}
use mathlib.Core.List.{List, [], ◌∷◌}
use mathlib.Core.Option.{none}
use lib.Dec.{T, eqb, eqb→eq, ltb, nltb→le}
use lib.ListN.{length, get_or, drop, length-take, length-drop, length-map}
use Rattle.words.proofs.TestParts.{not-not}
use Rattle.words.specs.Base.{any_of, place_from, is_nil}
use Rattle.words.specs.Base.{is_word}
use Rattle.library.specs.Library.{Library, name_at, reserved, deck_names}
use Rattle.library.specs.Image.{header}
use Rattle.library.specs.Check.{first_of, fault_if, directory_count, deck_count, directory_of, deck_words_of, cards_place, table_faults, first_bad, ok_entry, ok_deck_word, parted_by, library_of}
use Rattle.library.proofs.EachTest.{any_of-none}
use Rattle.library.proofs.TableRows.{first-none, fault-none, Listed, list-sound}
use Rattle.library.proofs.AcceptedImage.{Accepted}
use Rattle.library.proofs.ReadAsWritten.{ReadAs, read_as}
use Rattle.library.proofs.CardsInDecks.{Parts, row7-parts}

-- the counts
pub record Counted (ws : List ℕ) : Type 0 where
  pub some_words : 3 ≤ length ws
  pub few_words : length ws ≤ 65536
  pub first : get_or ws 0 0 ≡ header
  pub few-entries : directory_count ws ≤ 1023
  pub some-deck : 0 < deck_count ws
  pub few-decks : deck_count ws ≤ 255
  pub fits : cards_place ws ≤ length ws

not-zero : (n : ℕ) → T (not (eqb n 0)) → 0 < n
not-zero zero t = absurd t
not-zero (suc n) t = omega arith

some-list : (xs : List ℕ) → 0 < length xs → T (not (is_nil xs))
some-list [] h = absurd (omega arith)
some-list (x ∷ xs) h = tt

module _ (ws : List ℕ) (l : Library) (a : Accepted ws l) where
  pub counted : Counted ws
  counted =
      let s = first-none (fault_if (ltb (length ws) 3) (length ws)) (first_of (fault_if (ltb 65536 (length ws)) 65536) (place_from (λ w. not (is_word w)) 0 ws)) a.size in
      let u = first-none (fault_if (ltb 65536 (length ws)) 65536) (place_from (λ w. not (is_word w)) 0 ws) s.1 in
      let t = any_of-none (table_faults ws) (fault-none (any_of (table_faults ws)) 1 a.tables) in
      record {
        some_words = nltb→le (length ws) 3 (fault-none (ltb (length ws) 3) (length ws) s.0);
        few_words = nltb→le 65536 (length ws) (fault-none (ltb 65536 (length ws)) 65536 u.0);
        first = eqb→eq (get_or ws 0 0) header (not-not (eqb (get_or ws 0 0) header) (fault-none (not (eqb (get_or ws 0 0) header)) 0 a.header));
        few-entries = nltb→le 1023 (directory_count ws) t.1.0;
        some-deck = not-zero (deck_count ws) t.1.1.0;
        few-decks = nltb→le 255 (deck_count ws) t.1.1.1.0;
        fits = nltb→le (length ws) (cards_place ws) t.1.1.1.1.0;
      }

  pub entry-count : length (directory_of ws) ≡ directory_count ws
  entry-count =
      let f : cards_place ws ≤ length ws = counted.fits in
      omega (arith, length-take (directory_count ws) (drop 2 ws), length-drop 2 ws)

  pub list_count : length (deck_words_of ws) ≡ deck_count ws
  list_count =
      let f : cards_place ws ≤ length ws = counted.fits in
      omega (arith, length-take (deck_count ws) (drop (2 + directory_count ws) ws), length-drop (2 + directory_count ws) ws)

  -- the rows of the two tables
  abbrev row4-parts : (first_bad ok_entry [] 2 (directory_of ws) ≡ none) × (first_bad (ok_deck_word (directory_of ws)) [] (2 + directory_count ws) (deck_words_of ws) ≡ none)
  row4-parts = first-none (first_bad ok_entry [] 2 (directory_of ws)) (first_bad (ok_deck_word (directory_of ws)) [] (2 + directory_count ws) (deck_words_of ws)) a.names

  pub entries-pass : first_bad ok_entry [] 2 (directory_of ws) ≡ none
  entries-pass = row4-parts.0

  pub listed : Listed (directory_of ws) (deck_words_of ws)
  listed =
      let k : 0 < deck_count ws = counted.some-deck in
      list-sound (directory_of ws) (2 + directory_count ws) (deck_words_of ws) (some-list (deck_words_of ws) (omega (arith, list_count))) row4-parts.1

  -- the cards
  pub read : ReadAs (directory_of ws) 16383 (drop (cards_place ws) ws) a.stored
  read = read_as (directory_of ws) 16383 (drop (cards_place ws) ws) (cards_place ws) a.stored a.read

  pub parts : Parts (directory_of ws) listed.names a.stored (parted_by a.stored)
  parts =
      let e : drop 1 (deck_words_of ws) ≡ listed.names = ap (drop 1) listed.first in
      row7-parts (directory_of ws) listed.names a.stored (length ws) (rw e at a.decks) read.sound listed.listed

  pub deck-names : deck_names (library_of (directory_of ws) a.stored) ≡ deck_words_of ws
  unfolding deck_names
  deck-names = ap {B = List ℕ} (λ ns. reserved ∷ ns) parts.listed ∙ sym listed.first

  pub deck-count : suc (length (parted_by a.stored).decks) ≡ deck_count ws
  unfolding deck_names
  deck-count =
      ap suc (sym (length-map (parted_by a.stored).decks (λ d. name_at (directory_of ws) d.number))) ∙ ap length deck-names ∙ list_count
