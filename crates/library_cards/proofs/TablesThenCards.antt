-- Rows 1 to 6 are the rows of the tables, then those of the cards. Assumes nothing.
--   tables-refuse   a fault of rows 1 to 4 is the answer
--   tables-pass     where they have none, the counts and lengths are allowed
--   tables-on       and the answer is that of the cards
use Rattle.std.specs.Prelude.{Result, Ok, Err}
use Prim.Native.Nat.{ℕ}
use mathlib.Core.Path.{◌≡◌, refl, sym}
use mathlib.Core.List.{List}
use mathlib.Core.Option.{Option, none, some}
use Rattle.library.specs.Check.{row1, row2, row3, row4}
use Rattle.library.specs.declared.Fault.TheVariants.{Size, Header, Tables, Name}
use Rattle.library.specs.declared.Refusal.{Refusal}
use Rattle.library_tables.specs.Found.{refused_by, Sized, Tabled, table_rows}
use Rattle.library_tables.proofs.TableCounts.{sized, tabled}
use Rattle.library_cards.specs.Found.{cards_read, cards_answer, first_rows}

abbrev Checked : Type 0
Checked = Result (Unit {0}) Refusal

abbrev four : Option ℕ → Option ℕ → Option ℕ → Option ℕ → Checked → Checked
four a b c d r = refused_by Size a (refused_by Header b (refused_by Tables c (refused_by Name d r)))

-- whatever comes after row 4
refuses : (a b c d : Option ℕ) (r : Checked) (e : Refusal) → four a b c d (Ok tt) ≡ Err e → Err e ≡ four a b c d r
refuses (some q) b c d r e h = sym h
refuses none (some q) c d r e h = sym h
refuses none none (some q) d r e h = sym h
refuses none none none (some q) r e h = sym h
refuses none none none none r e h = absurd cc

passes : (a b c d : Option ℕ) → four a b c d (Ok tt) ≡ Ok tt → (a ≡ none) × (c ≡ none)
passes (some q) b c d h = absurd cc
passes none (some q) c d h = absurd cc
passes none none (some q) d h = absurd cc
passes none none none d h = (refl, refl)

goes_on : (a b c d : Option ℕ) (r : Checked) → four a b c d (Ok tt) ≡ Ok tt → r ≡ four a b c d r
goes_on (some q) b c d r h = absurd cc
goes_on none (some q) c d r h = absurd cc
goes_on none none (some q) d r h = absurd cc
goes_on none none none (some q) r h = absurd cc
goes_on none none none none r h = refl

module _ (ws : List ℕ) where
  pub tables-refuse : (e : Refusal) → table_rows ws ≡ Err e → Err e ≡ first_rows ws
  unfolding table_rows first_rows
  tables-refuse e h = refuses (row1 ws) (row2 ws) (row3 ws) (row4 ws) (cards_answer (cards_read ws)) e h

  pub tables-pass : table_rows ws ≡ Ok tt → Sized ws × Tabled ws
  unfolding table_rows
  tables-pass e = let q = passes (row1 ws) (row2 ws) (row3 ws) (row4 ws) e in (sized ws q.0, tabled ws q.1)

  pub tables-on : table_rows ws ≡ Ok tt → cards_answer (cards_read ws) ≡ first_rows ws
  unfolding table_rows first_rows
  tables-on e = goes_on (row1 ws) (row2 ws) (row3 ws) (row4 ws) (cards_answer (cards_read ws)) e
