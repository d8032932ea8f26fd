-- CODE. Which sets are yanked, over the words of the cards of YANK$$$, whatever they are (RULES, "When a card is active").
--   a card             in_force, names_in, mark, marked, acted
--   the cards          onto, backward, owned, acted_all
--   the flags          from_top, top, settled_flags
--   the theorem        SettledYanked
--   how they are read  Chain, Linked
use Rattle.std.specs.Prelude.{ℕ, zero, suc, ◌<◌, ◌≡◌, Bool, false, List, [], ◌∷◌, eqb, leb, length, get_or, set, take, replicate, if◌then◌else◌}
use Rattle.words_lines.specs.Directive.{directive, yank_names}
use Rattle.library.specs.Library.{Library, entry_of}
use Rattle.library.specs.Yanks.{is_yank, yanked}
use Rattle.library.specs.Image.{cards_words}
use Rattle.library.specs.Check.{raw_bytes}
use Rattle.library.specs.Sound.{Sound}
use Rattle.library_yanks.specs.Bytes.{part, flagged, say_all}
use Rattle.library_image.specs.Places.{text_at, next_at, seen_at, line_in, places_in}

-- A CARD: whether it is active, by the last of its bytes whose number these flags do not yank
unfoldable pub in_force : List ℕ → List ℕ → ℕ → Bool
in_force ws flags p = say_all (flagged flags) false (raw_bytes (part p (text_at ws p) ws))

-- the names of a YANK line; any other line names nothing
unfoldable pub names_in : List ℕ → List ℕ
names_in l = if is_yank (directive l) then yank_names l else []

-- the flag of a name's number; a name that the directory lacks has none
abbrev pub mark : List ℕ → ℕ → List ℕ
mark flags n = if eqb n 0 then flags else set flags n 1

abbrev pub marked : List ℕ → List ℕ → List ℕ → List ℕ
marked directory [] flags = flags
marked directory (w ∷ ws) flags = marked directory ws (mark flags (entry_of directory w))

-- what the card at a place does to the flags
unfoldable pub acted : List ℕ → List ℕ → List ℕ → ℕ → List ℕ
acted directory ws flags p = if in_force ws flags p then marked directory (names_in (line_in ws (text_at ws p) (next_at ws p))) flags else flags

-- THE CARDS: their places, the last first
abbrev pub onto : List ℕ → List ℕ → List ℕ
onto back [] = back
onto back (p ∷ ps) = onto (p ∷ back) ps

unfoldable pub backward : List ℕ → List ℕ
backward ws = onto [] (places_in ws 0)

-- those owned by n
abbrev pub owned : List ℕ → ℕ → List ℕ → List ℕ
owned ws n [] = []
owned ws n (p ∷ ps) = let on : List ℕ = owned ws n ps in if eqb (seen_at ws p).owner n then (p ∷ on) else on

abbrev pub acted_all : List ℕ → List ℕ → List ℕ → List ℕ → List ℕ
acted_all directory ws [] flags = flags
acted_all directory ws (p ∷ ps) flags = acted_all directory ws ps (acted directory ws flags p)

-- THE FLAGS: the cards owned by n, then those owned by n - 1, and so on down
abbrev pub from_top : List ℕ → List ℕ → ℕ → List ℕ → List ℕ
from_top directory ws zero flags = flags
from_top directory ws (suc n) flags = from_top directory ws n (acted_all directory ws (owned ws (suc n) (backward ws)) flags)

-- the highest number of a directory, of no more entries than a library may have
abbrev pub top : List ℕ → ℕ
top directory = if leb (length directory) 1023 then length directory else 1023

-- 1 where the set of this number is yanked, else 0; of the cards in no more words than a library may have
unfoldable pub settled_flags : List ℕ → List ℕ → ℕ → List ℕ
settled_flags directory cards size = from_top directory (take 65536 cards) (top directory) (replicate size 0)

-- THE THEOREM: of a sound library they say what is yanked, whatever yank bits its cards of YANK$$$ are written with
abbrev pub SettledYanked : Type 0
SettledYanked =
    (l : Library) → Sound l → (yk : ℕ → Bool) (size : ℕ) → length l.directory < size → (n : ℕ)
    → get_or (settled_flags l.directory (cards_words yk l.yanks) size) n 0 ≡ (if yanked l 0 n then 1 else 0)

-- HOW THEY ARE READ: places linked by an array, each as the place and one more, 0 at the end; each is lower than the one before it
abbrev pub Chain : List ℕ → List ℕ → ℕ → List ℕ → Type 0
Chain ws link s [] = s ≡ 0
Chain ws link s (p ∷ ps) = (s ≡ suc p) × ((p < length ws) × ((get_or link p 0 < s) × Chain ws link (get_or link p 0) ps))

-- for each owner the first of its cards, the others linked to it
abbrev pub Linked : List ℕ → List ℕ → List ℕ → Type 0
Linked ws first link = (n : ℕ) → n < length first → Chain ws link (get_or first n 0) (owned ws n (backward ws))
