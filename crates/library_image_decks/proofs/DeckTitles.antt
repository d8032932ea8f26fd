-- Which cards are deck cards, and of which decks. Assumes nothing.
--   deck-starless       a line that begins with no star is none's
--   title-line, titled, title-some  the title of a line
--   title_at, title-is   that of a card at a place, where the words of a sound one stand
use Rattle.std.specs.Prelude.{Option, None, Some, is_some}
use Prim.Native.Nat.{ℕ, ◌≤◌}
use mathlib.Core.Path.{◌≡◌, refl, sym, ap, ◌∙◌}
use mathlib.Core.Bool.{Bool, true, false}
use mathlib.Core.List.{List, ◌++◌}
use lib.ListN.{length, drop}
use Rattle.words_lines.specs.Directive.{kind_of_line}
use Rattle.library.specs.Library.{Card, DeckLine, not_deck, bad_deck, deck_of, deck_line}
use Rattle.library.specs.Image.{card_words}
use Rattle.library.specs.Asked.{deck_line_of}
use Rattle.library.specs.Sound.{SoundCard}
use Rattle.library.specs.declared.DeckLine.{DeckLine as DeckAnswer}
use Rattle.library.specs.declared.DeckLine.TheVariants.{NotDeck, BadDeck, Deck as DeckOf, Common as CommonOf}
use Rattle.library_image.specs.Places.{seen_at, line_in, star_at}
use Rattle.library_image.proofs.StarlessLine.{line-starless}
use Rattle.library_image.proofs.SeenCard.{line-is}
use Rattle.library_image_decks.specs.declared.titles.Title.{Title}
use Rattle.library_image_decks.specs.Decks.{title_for, title_of, title_in, is_title}

-- A LINE by its first word
pub deck-starless : (ws : List ℕ) (from to : ℕ) → star_at ws from ≡ false → NotDeck ≡ deck_line_of (deck_line (line_in ws from to))
unfolding deck_line kind_of_line
deck-starless ws from to none = rw (line-starless ws from to none)

-- A TITLE, from what the library's own reading answers
abbrev title_from : DeckAnswer → Option Title
title_from NotDeck = None
title_from BadDeck = None
title_from (DeckOf w) = Some (record { name = w; common = false })
title_from (CommonOf w) = Some (record { name = w; common = true })

title-from : (d : DeckLine) → title_from (deck_line_of d) ≡ title_of d
title-from not_deck = refl
title-from bad_deck = refl
title-from (deck_of false w) = refl
title-from (deck_of true w) = refl

pub title-line : (d : DeckLine) (a : DeckAnswer) (r : DeckAnswer) → r ≡ deck_line_of d → r ≡ a → title_from a ≡ title_of d
title-line d a r e q = ap title_from (sym q ∙ e) ∙ title-from d

-- a deck card has one
pub titled : (common : Bool) (w : ℕ) → is_title (title_for common w) ≡ true
titled common w = refl

pub title-some : (t : Option Title) → is_some t ≡ is_title t
title-some None = refl
title-some (Some t) = refl

-- A CARD at a place
abbrev pub title_at : List ℕ → ℕ → Option Title
title_at ws at = title_in ws (seen_at ws at)

pub title-is : (directory ws : List ℕ) → length directory ≤ 1023 → (yk : ℕ → Bool) (c : Card) → SoundCard directory c → (at : ℕ) (rest : List ℕ) → drop at ws ≡ card_words yk c ++ rest
    → title_at ws at ≡ title_of (deck_line c.line)
unfolding title_in
title-is directory ws entries yk c sound at rest stands = ap (λ (l : List ℕ). title_of (deck_line l)) (line-is directory ws entries yk c sound at rest stands)
