-- CODE. A merged image by the words of the two, and what each part of the code answers.
--   places in an image       places_of, Laid
--   the merged words         yanks_in, decks_in, header_of, tables_of, merged_cards, merged_words
--   a stretch raised         raised_part
--   the answer               MergeAnswers, WithinBoth, MergesSound, MergesApart
use Rattle.std.specs.Prelude.{ℕ, ◌+◌, ◌-◌, ◌^◌, ◌≤◌, ◌<◌, ◌≡◌, Bool, true, List, [], ◌∷◌, ◌++◌, length, get_or, take, drop, Result}
use Rattle.std.proofs.Math.Option.{none}
use Rattle.library.specs.Library.{Library}
use Rattle.library.specs.Image.{within_limits}
use Rattle.library.specs.Check.{directory_count, deck_count, directory_of, deck_words_of, cards_place, good, check}
use Rattle.library_raise.specs.Raised.{raised_words}
use Rattle.library_image_decks.specs.Decks.{deck_end}
use Rattle.merge_meaning.specs.Merge.{merge, shared_name, Merging, fitted_in, from_shared, merged, merge_into}
use Rattle.merge_meaning.specs.declared.MergeRefused.{MergeRefused}
use Rattle.merge.specs.declared.parts.Parts.{Parts}

-- PLACES: where the deck list, the cards and the first deck card stand
abbrev pub places_of : List ℕ → Parts
places_of ws = record { names = 2 + directory_count ws; cards = cards_place ws; decks = deck_end ws (cards_place ws) }

-- of an image that the check accepted they are inside, one after another
pub record Laid (ws : List ℕ) (p : Parts) : Type 0 where
  pub names : p.names ≡ 2 + directory_count ws
  pub cards : p.cards ≡ cards_place ws
  pub decks : p.decks ≡ deck_end ws (cards_place ws)
  pub entries : directory_count ws ≤ 1023
  pub some : 1 ≤ deck_count ws
  pub most : deck_count ws ≤ 255
  pub counts : get_or ws 1 0 < 2 ^ 36
  pub yanks : p.cards ≤ p.decks
  pub inside : p.decks ≤ length ws
  pub long : length ws ≤ 65536

-- THE MERGED WORDS: the cards of YANK$$$ up to the first deck card, and the decks from there on, are stretches of an image
abbrev pub yanks_in : List ℕ → List ℕ
yanks_in ws = take (deck_end ws (cards_place ws) - cards_place ws) (drop (cards_place ws) ws)

abbrev pub decks_in : List ℕ → List ℕ
decks_in ws = drop (deck_end ws (cards_place ws)) ws

-- the header; the counts, of which YANK$$$ is counted once; both directories; both deck lists, YANK$$$ once
abbrev pub header_of : List ℕ → List ℕ → List ℕ
header_of ws vs = get_or ws 0 0 ∷ (get_or ws 1 0 + get_or vs 1 0 - 1) ∷ []

abbrev pub tables_of : List ℕ → List ℕ → List ℕ
tables_of ws vs = header_of ws vs ++ ((directory_of ws ++ directory_of vs) ++ (deck_words_of ws ++ drop 1 (deck_words_of vs)))

-- the second's cards with their numbers raised by the first's directory count, and nothing else changed
abbrev pub merged_cards : List ℕ → List ℕ → List ℕ
merged_cards ws vs =
    (yanks_in ws ++ raised_words (directory_count ws) (yanks_in vs)) ++ (decks_in ws ++ raised_words (directory_count ws) (decks_in vs))

unfoldable pub merged_words : List ℕ → List ℕ → List ℕ
merged_words ws vs = tables_of ws vs ++ merged_cards ws vs

-- A STRETCH of a space raised
abbrev pub raised_part : ℕ → ℕ → ℕ → List ℕ → List ℕ
raised_part from to n space = take from space ++ (raised_words n (take (to - from) (drop from space)) ++ drop to space)

-- THE ANSWER and the space: of two libraries that were read; whether they are within the limits; and where they are and no name is common
pub record MergeAnswers (m : Merging) (space new : List ℕ) (r : Result ℕ MergeRefused) : Type 0 where
  pub answer : r ≡ merged m
  pub written : new ≡ merge_into m space

abbrev pub WithinBoth : List ℕ → List ℕ → Bool → Type 0
WithinBoth ws vs r = (l m : Library) → check ws ≡ good l → check vs ≡ good m → r ≡ within_limits (merge l m)

abbrev pub MergesSound : List ℕ → List ℕ → List ℕ → List ℕ → Result ℕ MergeRefused → Type 0
MergesSound ws vs space new r = (l m : Library) → check ws ≡ good l → check vs ≡ good m
    → MergeAnswers (from_shared (length space) l m (shared_name l m)) space new r

abbrev pub MergesApart : List ℕ → List ℕ → List ℕ → List ℕ → Result ℕ MergeRefused → Type 0
MergesApart ws vs space new r = (l m : Library) → check ws ≡ good l → check vs ≡ good m → shared_name l m ≡ none → within_limits (merge l m) ≡ true
    → MergeAnswers (fitted_in (length space) (merge l m)) space new r
