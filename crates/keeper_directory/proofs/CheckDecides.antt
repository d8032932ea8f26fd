-- The check's answer decides: an accepted image is listed, and a refused one is answered with its fault. Assumes nothing.
--   listing-sound, listing-refused    what the check answers decides
--   accepted-sizes                    rows 1 and 3
use Prim.Native.Nat.{ℕ}
use native.Mathlib.Omega.{arith}
use mathlib.Core.Path.{◌≡◌, refl, sym, ◌∙◌}
use mathlib.Core.List.{List}
use lib.ListN.{length}
use Rattle.library.specs.Check.{Checking, good, bad, checked, check}
use Rattle.std.specs.Prelude.{Result, Ok, Err}
use Rattle.library.specs.declared.Refusal.{Refusal}
use Rattle.library.proofs.AcceptedImage.{check-accepted}
use Rattle.library_tables.specs.Found.{Sized, Tabled}
use Rattle.library_tables.proofs.TableCounts.{sized, tabled}
use Rattle.keeper_card.specs.Parts.{Answers, AnswersOf}
use Rattle.keeper_card.specs.declared.ShowRefused.{ShowRefused}
use Rattle.keeper_card.specs.declared.ShowRefused.TheVariants.{Library as OfLibrary}
use Rattle.keeper_card.proofs.AcceptedNames.{told-sound, told-refused}
use Rattle.keeper_directory.specs.Keeper.{listed, listing}

module _ (ws before : List ℕ) where
  pub listing-sound : (r : Result ℕ ShowRefused) (after : List ℕ) → Ok tt ≡ checked (check ws) → AnswersOf ws (listed (length before)) r before after
      → Answers (listing ws (length before)) r before after
  unfolding listing
  listing-sound = told-sound ws before (listed (length before))

  pub listing-refused : (k : Refusal) → Err k ≡ checked (check ws) → Answers (listing ws (length before)) (Err (OfLibrary k)) before before
  unfolding listing
  listing-refused = told-refused ws before (listed (length before))

-- an accepted image has the sizes that rows 1 and 3 ask for
pub accepted-sizes : (ws : List ℕ) → Ok tt ≡ checked (check ws) → Sized ws × Tabled ws
accepted-sizes ws q = go (check ws) refl q
  where
    go : (c : Checking) → check ws ≡ c → Ok tt ≡ checked c → Sized ws × Tabled ws
    go (good l) p s = let y = check-accepted ws l p in (sized ws y.size, tabled ws y.tables)
    go (bad k n) p s = absurd (let z : ◌≡◌ {A = ℕ} 0 1 = cc in omega arith)
