-- What rows 1 and 3 say where they pass, and row 3 as the tests of word 2 and the tables' end. Assumes nothing.
use Rattle.std.specs.Prelude.{if◌then◌else◌}
use Prim.Native.Nat.{ℕ, zero, suc, ◌^◌, ◌<◌}
use native.Mathlib.Omega.{arith}
use mathlib.Core.Path.{◌≡◌, refl}
use mathlib.Core.Bool.{Bool, true, false, not}
use mathlib.Core.List.{List, [], ◌∷◌}
use mathlib.Core.Option.{none, some}
use lib.Dec.{ltb}
use lib.ListN.{length, get_or}
use borrow.Author.Tests.{ltb-true, ltb-false, eqb-false}
use Rattle.library.proofs.TableRows.{first-none}
use Rattle.words.specs.Base.{any_of, is_word, place_from}
use Rattle.library.specs.Check.{first_of, fault_if, directory_count, deck_count, cards_place, table_faults, row1, row3}
use Rattle.library_tables.specs.Found.{not_word, Sized, Tabled}

-- tests in a row of which none holds, one by one
abbrev pub Fail : List Bool → Type 0
Fail [] = Unit
Fail (b ∷ bs) = (b ≡ false) × Fail bs

pub none_of : (bs : List Bool) → any_of bs ≡ false → Fail bs
none_of [] e = tt
none_of (true ∷ bs) e = absurd (let z : ◌≡◌ {A = ℕ} 0 1 = cc in omega arith)
none_of (false ∷ bs) e = (refl, none_of bs e)

no-fault : (b : Bool) (p : ℕ) → fault_if b p ≡ none → b ≡ false
no-fault true p e = absurd (let z : ◌≡◌ {A = ℕ} 0 1 = cc in omega arith)
no-fault false p e = refl

all_words : (n : ℕ) (ws : List ℕ) → place_from not_word n ws ≡ none → (i : ℕ) → get_or ws i 0 < 2 ^ 60
all_words n [] e zero = omega arith
all_words n [] e (suc i) = omega arith
all_words n (w ∷ ws) e i = go (is_word w) refl i (all_words (suc n) ws) e
  where
    go : (b : Bool) → is_word w ≡ b → (i : ℕ) → (place_from not_word (suc n) ws ≡ none → (j : ℕ) → get_or ws j 0 < 2 ^ 60)
        → (if not b then some n else place_from not_word (suc n) ws) ≡ none → get_or (w ∷ ws) i 0 < 2 ^ 60
    go true t zero on e = ltb-true w (2 ^ 60) t
    go true t (suc i) on e = on e i
    go false t i on e = absurd (let z : ◌≡◌ {A = ℕ} 0 1 = cc in omega arith)

pub sized : (ws : List ℕ) → row1 ws ≡ none → Sized ws
sized ws e =
    let a = first-none (fault_if (ltb (length ws) 3) (length ws)) (first_of (fault_if (ltb 65536 (length ws)) 65536) (place_from not_word 0 ws)) e in
    let b = first-none (fault_if (ltb 65536 (length ws)) 65536) (place_from not_word 0 ws) a.1 in
    record {
      least = ltb-false (length ws) 3 (no-fault _ _ a.0);
      most = ltb-false 65536 (length ws) (no-fault _ _ b.0);
      words = all_words 0 ws b.1;
    }

pub tabled : (ws : List ℕ) → row3 ws ≡ none → Tabled ws
tabled ws e =
    let f = none_of (table_faults ws) (no-fault (any_of (table_faults ws)) 1 e) in
    let n : deck_count ws ≡ 0 → ⊥ = eqb-false (deck_count ws) 0 f.1.1.0 in
    record {
      entries = ltb-false 1023 (directory_count ws) f.1.0;
      decks = ltb-false 255 (deck_count ws) f.1.1.1.0;
      some-deck = above (deck_count ws) n;
      inside = ltb-false (length ws) (cards_place ws) f.1.1.1.1.0;
    }
  where
    above : (n : ℕ) → (n ≡ 0 → ⊥) → 0 < n
    above zero h = absurd (h refl)
    above (suc n) h = omega arith
