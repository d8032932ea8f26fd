-- In a sound library's image the words ahead of the first deck card are those of the cards of YANK$$$. Assumes nothing.
--   yanks-part      the words ahead of the first deck card are those of the cards of YANK$$$
use Prim.Native.Nat.{ℕ, ◌+◌, ◌-◌}
use native.Mathlib.Omega.{arith}
use mathlib.Core.Path.{◌≡◌, refl, ap, ◌∙◌}
use mathlib.Core.List.{List}
use lib.ListN.{length, take, drop}
use lib.Seq.{take_at}
use Rattle.library.specs.Library.{Library}
use Rattle.library.specs.Yanks.{yanked}
use Rattle.library.specs.Image.{cards_words, decks_words, tables, encode}
use Rattle.library.specs.Check.{cards_place}
use Rattle.library.specs.Sound.{Sound}
use Rattle.library_yanks.specs.Bytes.{part}
use Rattle.library_image_decks.specs.Decks.{deck_end}
use Rattle.library_image_decks.proofs.DeckPlaces.{place_is, stands, yanks-end}

pub yanks-part : (l : Library) → Sound l → part (cards_place (encode l)) (deck_end (encode l) (cards_place (encode l))) (encode l) ≡ cards_words (yanked l 0) l.yanks
yanks-part l s =
    let ws : List ℕ = encode l in
    let yanks : List ℕ = cards_words (yanked l 0) l.yanks in
    let at : ℕ = length (tables l) in
    let long : at + length yanks - at ≡ length yanks = omega arith in
    ap (λ (n : ℕ). part n (deck_end ws n) ws) (place_is l s) ∙ ap (λ (n : ℕ). part at n ws) (yanks-end l s) ∙ ap (λ (n : ℕ). take n (drop at ws)) long
    ∙ ap (take (length yanks)) (stands l s) ∙ take_at yanks (decks_words (yanked l) l.decks) (length yanks) refl
