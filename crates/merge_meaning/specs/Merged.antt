-- PROMISE. What is promised of a merge (RULES, "The merge").
--   what is asked                           Mergeable
--   M1, the merged library is sound         MergeSound, MergedPasses
--   its limits are those of the sums        MergeLength, MergeLimits
--   M2, what is yanked                      raise_deck_number, YankedFirst, YankedSecond
--   and the image, word for word            yank_words, deck_words, MergedImage
--   M4, the fresh library on either side    MergeFresh, MergingFresh
-- M3 and M5 speak of compile files and runs, and stand in demands.
use Rattle.std.specs.Prelude.{ℕ, zero, suc, ◌+◌, ◌-◌, ◌≤◌, ◌≡◌, List, ◌∷◌, ◌++◌, T, length, drop}
use Rattle.std.proofs.Math.Option.{none}
use Rattle.library.specs.Library.{Library, stream, deck_names, fresh}
use Rattle.library.specs.Yanks.{yanked}
use Rattle.library.specs.Image.{cards_words, decks_words, header, counts, encode, within_limits}
use Rattle.library.specs.Check.{good, check}
use Rattle.library.specs.Sound.{Sound}
use Rattle.library.specs.Counts.{within_counts}
use Rattle.library_raise.specs.Raised.{raised_words}
use Rattle.merge_meaning.specs.Merge.{merge, shared_name, one_library, merging}

-- two sound libraries without a common name, together within the limits
pub record Mergeable (l m : Library) : Type 0 where
  pub first : Sound l
  pub second : Sound m
  pub apart : shared_name l m ≡ none
  pub limits : T (within_limits (merge l m))

-- M1: merged they are sound
abbrev pub MergeSound : Type 0
MergeSound = (l m : Library) → Mergeable l m → Sound (merge l m)

-- so the answer to two images, where it is no refusal, is a sound library whose image passes the check and fits the space
abbrev pub MergedPasses : Type 0
MergedPasses = (first second : List ℕ) (room : ℕ) (c : Library) → merging first second room ≡ one_library c
    → Sound c × (check (encode c) ≡ good c) × (length (encode c) ≤ room)

-- its words are those of both, but for one header, one word of counts and one YANK$$$ in the deck list
abbrev pub MergeLength : Type 0
MergeLength = (l m : Library) → length (encode (merge l m)) ≡ length (encode l) + length (encode m) - 3

-- and 31 is told from the counts: entries, decks with YANK$$$, cards, words
abbrev pub MergeLimits : Type 0
MergeLimits = (l m : Library) → Sound l → Sound m
    → within_limits (merge l m)
    ≡ within_counts (length l.directory + length m.directory) (suc (length l.decks + length m.decks)) (length (stream l) + length (stream m))
    (length (encode l) + length (encode m) - 3)

-- M2: in the merged library a number of the first is yanked where it was in the first
abbrev pub YankedFirst : Type 0
YankedFirst = (l m : Library) → Mergeable l m → (deck n : ℕ) → n ≤ length l.directory → yanked (merge l m) deck n ≡ yanked l deck n

-- and one of the second, raised, where it was in the second; a deck's number is raised too, and 0, that of YANK$$$, stays
abbrev pub raise_deck_number : ℕ → ℕ → ℕ
raise_deck_number k zero = zero
raise_deck_number k (suc n) = k + suc n

abbrev pub YankedSecond : Type 0
YankedSecond = (l m : Library) → Mergeable l m → (deck n : ℕ)
    → yanked (merge l m) (raise_deck_number (length l.directory) deck) (length l.directory + n) ≡ yanked m deck n

-- an image is its tables, the words of YANK$$$ and the words of its decks
abbrev pub yank_words : Library → List ℕ
yank_words l = cards_words (yanked l 0) l.yanks

abbrev pub deck_words : Library → List ℕ
deck_words l = decks_words (yanked l) l.decks

-- so no bit is settled again: the merged image is the header, the summed counts with YANK$$$ counted once, both directories, both deck lists with YANK$$$ once, the first's
-- words of YANK$$$ and then the second's, the first's words of decks and then the second's. Only the second's words of cards change, and of these only the numbers in
-- history bytes (raised_words)
abbrev pub MergedImage : Type 0
MergedImage = (l m : Library) → Mergeable l m → let k : ℕ = length l.directory in
    encode (merge l m)
    ≡ (header ∷ (counts l + counts m - 1) ∷ ((l.directory ++ m.directory) ++ (deck_names l ++ drop 1 (deck_names m))))
    ++ ((yank_words l ++ raised_words k (yank_words m)) ++ (deck_words l ++ raised_words k (deck_words m)))

-- M4: the fresh library on either side gives the other one back
abbrev pub MergeFresh : Type 0
MergeFresh = (l : Library) → (merge fresh l ≡ l) × (merge l fresh ≡ l)

abbrev pub MergingFresh : Type 0
MergingFresh = (image : List ℕ) (l : Library) (room : ℕ) → check image ≡ good l → length image ≤ room
    → (merging (encode fresh) image room ≡ one_library l) × (merging image (encode fresh) room ≡ one_library l)
