-- Where the cards of YANK$$$ or of a deck end, the next deck card stands. Assumes nothing.
--   stands-first     the first of them
--   cards-end        the next deck card stands after them
--   cards-after      what follows them
use Prim.Native.Nat.{ℕ, ◌+◌, ◌≤◌}
use native.Mathlib.Omega.{arith}
use mathlib.Core.Path.{◌≡◌, refl, sym, ap, ◌∙◌}
use mathlib.Core.Bool.{Bool, false}
use mathlib.Core.List.{List, [], ◌∷◌, ◌++◌, append_assoc}
use lib.ListN.{length, drop, length-append}
use lib.Seq.{drop_at, drop-drop}
use Rattle.library.specs.Each.{Each}
use Rattle.library.specs.Library.{Card}
use Rattle.library.specs.Image.{card_words, cards_words}
use Rattle.library.specs.Sound.{SoundCard, BeginsNoDeck}
use Rattle.library_image.specs.Places.{next_at}
use Rattle.library_image.proofs.SeenCard.{inside, next-is, after}
use Rattle.library_image_decks.specs.Decks.{title_of, is_title, deck_end}
use Rattle.library_image_decks.proofs.DeckTitles.{title_at, title-is}
use Rattle.library_image_decks.proofs.DeckRows.{end_on}

module _ (ws : List ℕ) (yk : ℕ → Bool) (rest : List ℕ) where
  pub stands-first : (c : Card) (cs : List Card) (at : ℕ) → drop at ws ≡ cards_words yk (c ∷ cs) ++ rest → drop at ws ≡ card_words yk c ++ (cards_words yk cs ++ rest)
  stands-first c cs at e = e ∙ append_assoc (card_words yk c) (cards_words yk cs) rest

  pub cards-after : (cs : List Card) (at end : ℕ) → drop at ws ≡ cards_words yk cs ++ rest → end ≡ at + length (cards_words yk cs) → drop end ws ≡ rest
  cards-after cs at end e q =
      ap (λ (n : ℕ). drop n ws) q ∙ sym (drop-drop (length (cards_words yk cs)) at ws) ∙ ap (drop (length (cards_words yk cs))) e
      ∙ drop_at (cards_words yk cs) rest (length (cards_words yk cs)) refl

  pub cards-end : (directory : List ℕ) → length directory ≤ 1023 → (cs : List Card) → Each (SoundCard directory) cs → Each BeginsNoDeck cs → (at end : ℕ)
      → drop at ws ≡ cards_words yk cs ++ rest → end ≡ at + length (cards_words yk cs) → deck_end ws end ≡ end → deck_end ws at ≡ end
  cards-end directory few [] h o at end e q d = let z : at ≡ end = omega arith in ap (deck_end ws) z ∙ d
  cards-end directory few (c ∷ cs) h o at end e q d =
      let f = stands-first c cs at e in
      let r : List ℕ = cards_words yk cs ++ rest in
      let n : next_at ws at ≡ at + length (card_words yk c) = next-is directory ws few yk c h.0 at r f in
      let k : length (card_words yk c ++ cards_words yk cs) ≡ length (card_words yk c) + length (cards_words yk cs) = length-append (card_words yk c) (cards_words yk cs) in
      let t : is_title (title_at ws at) ≡ false = ap is_title (title-is directory ws few yk c h.0 at r f ∙ ap title_of o.0) in
      end_on ws at (inside directory ws few yk c h.0 at r f) t
      ∙ cards-end directory few cs h.1 o.1 (next_at ws at) end (after directory ws few yk c h.0 at r f) (omega arith) d
