-- A card whose words stand at a place is active under any flags where its history says so. Assumes nothing.
--   say-written    bytes as they are stored
--   force-is       the law
use Rattle.std.specs.Prelude.{if◌then◌else◌}
use Prim.Native.Nat.{ℕ, ◌-◌, ◌/◌, ◌%◌, ◌^◌, ◌≤◌, ◌<◌}
use native.Mathlib.Omega.{arith}
use mathlib.Core.Path.{◌≡◌, refl, sym, ap, ◌∙◌}
use mathlib.Core.Bool.{Bool, false}
use mathlib.Core.List.{List, [], ◌∷◌, ◌++◌, map}
use borrow.Author.Tests.{ne_eqb}
use lib.Dec.{eqb}
use lib.ListN.{length, take, drop}
use Rattle.library.specs.Each.{Each}
use Rattle.library.specs.Library.{Byte, Card, history}
use Rattle.library.specs.Yanks.{last_says}
use Rattle.library.specs.Image.{byte_bits, card_words}
use Rattle.library.specs.Check.{raw_bytes}
use Rattle.library.specs.Sound.{SoundCard}
use Rattle.library.proofs.BytesBack.{Low, number-back, flag-back}
use Rattle.library_image.specs.Places.{text_at}
use Rattle.library_image.proofs.SeenCard.{low, raw-is}
use Rattle.library_yanks.specs.Bytes.{flagged, say_byte, say_all}
use Rattle.library_yanks.specs.Flags.{in_force}
use Rattle.library_yanks.proofs.Weighing.{say-used}

-- bytes as they are stored say what the history says
say-written : (yk f : ℕ → Bool) (so : Bool) (bs : List Byte) → Each Low bs → say_all f so (map (byte_bits yk) bs) ≡ last_says f so bs
say-written yk f so [] h = refl
say-written yk f so (b ∷ bs) h =
    let n : byte_bits yk b % 2 ^ 16 ≡ b.number = number-back yk b h.0 in
    let pos : 0 < b.number = h.0.0 in
    let some : byte_bits yk b ≡ 0 → ⊥ = λ e. omega arith in
    let one : say_byte f so (byte_bits yk b) ≡ (if f b.number then so else b.activating) =
    ap (λ (z : Bool). if z then so else if f (byte_bits yk b % 2 ^ 16) then so else eqb (byte_bits yk b / 2 ^ 16 % 2) 1) (ne_eqb (byte_bits yk b) 0 some)
    ∙ (λ i. if f (n i) then so else flag-back yk b h.0 i) in
    ap (λ (o : Bool). say_all f o (map (byte_bits yk) bs)) one ∙ say-written yk f (if f b.number then so else b.activating) bs h.1

-- A CARD: its words stand at a place
module _ (directory ws : List ℕ) (entries : length directory ≤ 1023) where
  module _ (yk : ℕ → Bool) (c : Card) (sound : SoundCard directory c) (at : ℕ) (rest : List ℕ) (stands : drop at ws ≡ card_words yk c ++ rest) where
    pub force-is : (flags : List ℕ) → in_force ws flags at ≡ last_says (flagged flags) false (history c)
    unfolding in_force
    force-is flags =
        sym (say-used (flagged flags) false (raw_bytes (take (text_at ws at - at) (drop at ws))))
        ∙ ap (say_all (flagged flags) false) (raw-is directory ws entries yk c sound at rest stands)
        ∙ say-written yk (flagged flags) false (history c) (low directory ws entries yk c sound at rest stands)
