-- An image that the check accepts passes every row, and its library is what rows 5 and 6 read.
use Prim.Native.Nat.{ℕ}
use mathlib.Core.Path.{◌≡◌, refl, subst}
use mathlib.Core.List.{List}
use mathlib.Core.Option.{Option, none, some}
use lib.ListN.{length, drop}
use Rattle.library.specs.Library.{Library}
use Rattle.library.specs.declared.Fault.{Fault}
use Rattle.library.specs.declared.Fault.TheVariants.{Size, Header, Tables, Name, Decks, Yank as YankFault, Bit, Twice}
use Rattle.library.specs.Check.{Checking, good, bad, or_else, directory_of, deck_words_of, cards_place, row1, row2, row3, row4, Stored, Cards, cards, fault, read_cards, row7, row8, row9, row10, library_of, check_cards, check}

pub record Accepted (ws : List ℕ) (l : Library) : Type 0 where
  pub size : row1 ws ≡ none
  pub header : row2 ws ≡ none
  pub tables : row3 ws ≡ none
  pub names : row4 ws ≡ none
  pub stored : List Stored
  pub read : read_cards (directory_of ws) 16383 (drop (cards_place ws) ws) (cards_place ws) ≡ cards stored
  pub decks : row7 (directory_of ws) (drop 1 (deck_words_of ws)) stored (length ws) ≡ none
  pub yanks : row8 (directory_of ws) (deck_words_of ws) stored ≡ none
  pub once : row10 stored ≡ none
  pub bits : row9 (library_of (directory_of ws) stored) stored ≡ none
  pub same : library_of (directory_of ws) stored ≡ l

-- what holds of the library of an answer, if it has one
abbrev Passed : (Library → Type 0) → Checking → Type 0
Passed P (good l) = P l
Passed P (bad f p) = Unit {0}

or-else : (P : Library → Type 0) (f : Fault) (o : Option ℕ) (r : Checking) → (o ≡ none → Passed P r) → Passed P (or_else f o r)
or-else P f none r h = h refl
or-else P f (some p) r h = tt

module _ (ws : List ℕ) (size : row1 ws ≡ none) (header : row2 ws ≡ none) (tables : row3 ws ≡ none) (names : row4 ws ≡ none) where
  on-cards : (cs : Cards) → read_cards (directory_of ws) 16383 (drop (cards_place ws) ws) (cards_place ws) ≡ cs
      → Passed (Accepted ws) (check_cards (directory_of ws) (deck_words_of ws) (length ws) cs)
  on-cards (fault f p) e = tt
  on-cards (cards ss) e =
      or-else (Accepted ws) Decks (row7 (directory_of ws) (drop 1 (deck_words_of ws)) ss (length ws)) _
      (λ d. or-else (Accepted ws) YankFault (row8 (directory_of ws) (deck_words_of ws) ss) _
      (λ y. or-else (Accepted ws) Twice (row10 ss) _
      (λ o. or-else (Accepted ws) Bit (row9 (library_of (directory_of ws) ss) ss) (good (library_of (directory_of ws) ss))
      (λ b. record { size = size; header = header; tables = tables; names = names; stored = ss; read = e; decks = d; yanks = y; once = o; bits = b; same = refl }))))

check-passes : (ws : List ℕ) → Passed (Accepted ws) (check ws)
unfolding check
check-passes ws =
    or-else (Accepted ws) Size (row1 ws) _
    (λ s. or-else (Accepted ws) Header (row2 ws) _
    (λ h. or-else (Accepted ws) Tables (row3 ws) _
    (λ t. or-else (Accepted ws) Name (row4 ws) _
    (λ n. on-cards ws s h t n (read_cards (directory_of ws) 16383 (drop (cards_place ws) ws) (cards_place ws)) refl))))

pub check-accepted : (ws : List ℕ) (l : Library) → check ws ≡ good l → Accepted ws l
check-accepted ws l e = subst (λ (c : Checking). Passed (Accepted ws) c) e (check-passes ws)
