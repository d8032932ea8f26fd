-- What the space holds after unpacking to words of eight bytes.
--   unpack-eights-even, unpack-eights-into
use mathlib.Core.Path.{◌≡◌}
use mathlib.Core.List.{List}
use Prim.Native.Nat.{ℕ, ◌/◌, ◌%◌}
use lib.ListN.{length}
use borrow.Author.Tests.{eq-eqb}
use Rattle.words_packing.specs.Pack.{unpacked, unpacking, unpack_into, words_of_eights, times_eight, unpacking_eights, unpack_eights_into}
use Rattle.words_packing.proofs.NumberBytes.{Below}
use Rattle.words_packing.proofs.EightsWords.{eights-space}
use Rattle.words_packing.proofs.PackAnswer.{eights_count}

module _ (bs space : List ℕ) where
  pub unpack-eights-even : length space % 8 ≡ 0 → unpacking_eights bs (length space) ≡ times_eight (unpacking bs (length (words_of_eights space)))
  unfolding unpacking_eights
  unpack-eights-even h = rw (eights_count (length space / 8) space, eq-eqb (length space % 8) 0 h)

  pub unpack-eights-into : (new : List ℕ) → Below 256 space → Below 256 new → length space % 8 ≡ 0 → length new ≡ length space
      → words_of_eights new ≡ unpack_into bs (words_of_eights space) → new ≡ unpack_eights_into bs space
  unpack-eights-into new a b even long e =
      rw (unpack-eights-even even) (eights-space (unpacked bs) space new a b even long (unpacking bs (length (words_of_eights space))) e)
