-- CODE. Bytes and cards added at the gap (RULES, "Units", "Corrections"): by DELETE and RESTORE, and by text lines.
--   one byte more         byte_of, with_byte, last_with, ByteAdded, Marks
--   the cards of a range  mark_one, mark_all, Short, Passed, Passes, Ranged, MarksRange
--   a new card            Puts
use Rattle.std.specs.Prelude.{ℕ, ◌+◌, ◌-◌, ◌*◌, ◌/◌, ◌%◌, ◌^◌, ◌≤◌, ◌<◌, ◌≡◌, Bool, false, List, [], ◌∷◌, ◌++◌, map, eqb, length, take, drop, get_or, if◌then◌else◌}
use Rattle.words.specs.Text.{text_words}
use Rattle.library.specs.Each.{Each}
use Rattle.library.specs.Library.{Byte, Card}
use Rattle.library.specs.Image.{card_words, cards_words}
use Rattle.run_meaning.specs.Step.{marked}
use Rattle.run.specs.CardHeads.{Fits, card_of}
use Rattle.run.specs.GapWords.{Parted, Put}
use Rattle.run.specs.declared.gap.Gap.{Gap}

-- a byte of the set n: activating, or not
abbrev pub byte_of : ℕ → Bool → Byte
byte_of n on = record { number = n; activating = on }

unfoldable pub with_byte : Byte → Card → Card
with_byte x c = record { line = c.line; seq = c.seq; owner = c.owner; later = c.later ++ (x ∷ []) }

-- the last word of a history, with the byte x more: in its first place that is zero, or in a word of its own
unfoldable pub last_with : ℕ → ℕ → List ℕ
last_with x l =
    if eqb (l % 2 ^ 18) 0
    then (if eqb (l / 2 ^ 18 % 2 ^ 18) 0 then ((l + x * 2 ^ 18) ∷ []) else ((l + x) ∷ []))
    else (l % 2 ^ 59 ∷ (2 ^ 59 + x * 2 ^ 36) ∷ [])

pub record ByteAdded (w : List ℕ) (lo hi x r : ℕ) (v : List ℕ) : Type 0 where
  pub low : lo ≤ r
  pub high : r ≤ lo + 1
  pub next : r + 1 ≡ lo + length (last_with x (get_or w (lo - 1) 0))
  pub under : r ≤ hi → take r v ≡ take (lo - 1) w ++ last_with x (get_or w (lo - 1) 0)
  pub over : drop hi v ≡ drop hi w

-- the card above the gap comes below it, with one byte more of a set that is not yanked
abbrev pub Marks : List ℕ → Gap → ℕ → Bool → List ℕ → Gap → Type 0
Marks w g n on v h =
    (yk : ℕ → Bool) (c : Card) (below rest : List ℕ) → Parted w g below (card_words yk c ++ rest) → Fits c → yk n ≡ false
    → Put w (card_words yk (with_byte (byte_of n on) c)) below rest v h

-- DELETE of what was active, RESTORE of what was not: each card of a range that is active, or is not, as `was` says, gets one more byte, of set n
abbrev pub mark_one : (ℕ → Bool) → Bool → ℕ → Card → Card
mark_one yk was n c = marked yk was n c

unfoldable pub mark_all : (ℕ → Bool) → Bool → ℕ → List Card → List Card
mark_all yk was n cs = map (mark_one yk was n) cs

-- one card passes the gap and is then c; lo passes hi where its history or the words would be too long, and only there
abbrev pub Short : Card → Type 0
Short c = length c.later ≤ 63

pub record Passed (w : List ℕ) (yk : ℕ → Bool) (c : Card) (below rest : List ℕ) (v : List ℕ) (h : Gap) : Type 0 where
  pub parted : h.lo ≤ h.hi → Parted v h (below ++ card_words yk c) rest
  pub above : h.lo ≤ h.hi → h.hi + length rest ≡ length w
  pub short : h.lo ≤ h.hi → Short c
  pub crowded : h.hi < h.lo → Short c → length w < length (below ++ card_words yk c) + length rest

abbrev pub Passes : List ℕ → Gap → Bool → ℕ → List ℕ → Gap → Type 0
Passes w g was n v h =
    (yk : ℕ → Bool) (c : Card) (below rest : List ℕ) → Parted w g below (card_words yk c ++ rest) → Fits c → yk n ≡ false
    → Passed w yk (mark_one yk was n c) below rest v h

-- the cards of a range pass it, and are then cs
pub record Ranged (w : List ℕ) (yk : ℕ → Bool) (cs : List Card) (below rest : List ℕ) (v : List ℕ) (h : Gap) : Type 0 where
  pub parted : h.lo ≤ h.hi → Parted v h (below ++ cards_words yk cs) rest
  pub short : h.lo ≤ h.hi → Each Short cs
  pub crowded : h.hi < h.lo → Each Short cs → length w < length (below ++ cards_words yk cs) + length rest

abbrev pub MarksRange : List ℕ → Gap → ℕ → Bool → ℕ → List ℕ → Gap → Type 0
MarksRange w g stop was n v h =
    (yk : ℕ → Bool) (cs : List Card) (below rest : List ℕ) → Parted w g below (cards_words yk cs ++ rest) → g.hi + length (cards_words yk cs) ≡ stop
    → Each Fits cs → yk n ≡ false → Ranged w yk (mark_all yk was n cs) below rest v h

-- a new card stands below the gap, its text the words of a line
abbrev pub Puts : List ℕ → Gap → List ℕ → ℕ → ℕ → List ℕ → Gap → Type 0
Puts w g text seq n v h =
    (yk : ℕ → Bool) (line below rest : List ℕ) → text_words line ≡ text → Parted w g below rest → yk n ≡ false
    → Put w (card_words yk (card_of line seq n)) below rest v h
