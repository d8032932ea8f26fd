-- CODE. The library in work: its cards' words in one array, parted by a gap, and what each operation makes of it.
--   the library in work     Work
--   finding a card          Stands, Located, Locates
--   placing the gap         OpensAfter, OpensAhead, OpensAt
--   a new card              PutCard, PutsCard
--   DELETE, RESTORE         within, up_to, beyond_card, KeepsOrder, MarkedTo, MarksTo, range_of, MarkedBetween
--   bits settled again      Resettles
use Rattle.std.specs.Prelude.{ℕ, ◌+◌, ◌-◌, ◌≤◌, ◌<◌, ◌≡◌, Bool, true, false, ◌&&◌, List, [], ◌∷◌, ◌++◌, T, leb, length, take, drop, Result, Ok, Err}
use Rattle.words.specs.Base.{all}
use Rattle.words.specs.Text.{text_words}
use Rattle.library.specs.Each.{Each}
use Rattle.library.specs.Library.{Card}
use Rattle.library.specs.Image.{cards_words, short_history}
use Rattle.library.specs.Sound.{no_two, same_card}
use Rattle.run.specs.CardHeads.{Fits, card_of}
use Rattle.run.specs.CardSeek.{index_of}
use Rattle.run.specs.GapWords.{Ordered, Parted}
use Rattle.run.specs.ByteMarks.{mark_all}
use Rattle.run.specs.declared.gap.Gap.{Gap}
use Rattle.run.specs.declared.seek.Place.{Place}
use Rattle.run_meaning.specs.declared.Why.{Why}
use Rattle.run_meaning.specs.declared.Why.TheVariants.{NoCard, Limit}

-- THE LIBRARY IN WORK: cs1 stand below the gap, cs2 above it
pub record Work (w : List ℕ) (g : Gap) (yk : ℕ → Bool) (cs1 cs2 : List Card) : Type 0 where
  pub parted : Parted w g (cards_words yk cs1) (cards_words yk cs2)
  pub fit1 : Each Fits cs1
  pub fit2 : Each Fits cs2

-- the card of index i begins at the word `at`; the index past the last card, at the array's end
pub record Stands (g : Gap) (yk : ℕ → Bool) (cs1 cs2 : List Card) (i at : ℕ) : Type 0 where
  pub below : i < length cs1 → at ≡ length (cards_words yk (take i cs1))
  pub above : length cs1 ≤ i → at ≡ g.hi + length (cards_words yk (take (i - length cs1) cs2))

-- FINDING A CARD: its index among all cards, and where it stands; their count and the array's end where there is none
pub record Located (w : List ℕ) (g : Gap) (yk : ℕ → Bool) (cs1 cs2 : List Card) (o s : ℕ) (r : Place) : Type 0 where
  pub index : r.index ≡ index_of o s (cs1 ++ cs2)
  pub stands : Stands g yk cs1 cs2 r.index r.at
  pub found : r.index < length (cs1 ++ cs2) → r.at < length w
  pub missing : length (cs1 ++ cs2) ≤ r.index → r.at ≡ length w

-- where so many stand below the gap, and no card has both owner and number of another
abbrev pub Locates : List ℕ → Gap → ℕ → ℕ → ℕ → Place → Type 0
Locates w g low o s r =
    (yk : ℕ → Bool) (cs1 cs2 : List Card) → Work w g yk cs1 cs2 → low ≡ length cs1 → T (no_two same_card (cs1 ++ cs2)) → Located w g yk cs1 cs2 o s r

-- PLACING THE GAP: after a card, for INSERT; ahead of one, for BEFORE
abbrev pub OpensAfter : List ℕ → Gap → ℕ → List ℕ → Gap → Type 0
OpensAfter w g at v h =
    (yk : ℕ → Bool) (cs1 cs2 : List Card) (i : ℕ) → Work w g yk cs1 cs2 → Stands g yk cs1 cs2 i at → i < length (cs1 ++ cs2)
    → Work v h yk (take (i + 1) (cs1 ++ cs2)) (drop (i + 1) (cs1 ++ cs2))

abbrev pub OpensAhead : List ℕ → Gap → ℕ → List ℕ → Gap → Type 0
OpensAhead w g at v h =
    (yk : ℕ → Bool) (cs1 cs2 : List Card) (i : ℕ) → Work w g yk cs1 cs2 → Stands g yk cs1 cs2 i at → i ≤ length (cs1 ++ cs2)
    → Work v h yk (take i (cs1 ++ cs2)) (drop i (cs1 ++ cs2))

-- ahead of the card that n words of cards come before
abbrev pub OpensAt : List ℕ → Gap → ℕ → List ℕ → Gap → Type 0
OpensAt w g n v h =
    (yk : ℕ → Bool) (cs1 cs2 : List Card) (i : ℕ) → Work w g yk cs1 cs2 → length (cards_words yk (take i (cs1 ++ cs2))) ≡ n → i ≤ length (cs1 ++ cs2)
    → Work v h yk (take i (cs1 ++ cs2)) (drop i (cs1 ++ cs2))

-- A NEW CARD of the set or deck n, which is not yanked; lo passes hi where its words do not fit, and only there
pub record PutCard (w : List ℕ) (yk : ℕ → Bool) (cs1 cs2 : List Card) (c : Card) (v : List ℕ) (h : Gap) : Type 0 where
  pub work : h.lo ≤ h.hi → Work v h yk (cs1 ++ (c ∷ [])) cs2
  pub fits : h.lo ≤ h.hi → length (cards_words yk (cs1 ++ (c ∷ []))) + length (cards_words yk cs2) ≤ length w
  pub crowded : h.hi < h.lo → length w < length (cards_words yk (cs1 ++ (c ∷ []))) + length (cards_words yk cs2)

abbrev pub PutsCard : List ℕ → Gap → List ℕ → ℕ → ℕ → List ℕ → Gap → Type 0
PutsCard w g text seq n v h =
    (yk : ℕ → Bool) (cs1 cs2 : List Card) (line : List ℕ) → text_words line ≡ text → Work w g yk cs1 cs2 → yk n ≡ false → 0 < n → 0 < seq
    → PutCard w yk cs1 cs2 (card_of line seq n) v h

-- DELETE, RESTORE over the cards from the gap up to the one named: they are marked and stand below the gap.
-- 31 of a range: a history of more than 64 bytes, or more words than the array has
abbrev pub within : ℕ → (ℕ → Bool) → List Card → List Card → List Card → Bool
within room yk cs1 marked cs3 = all short_history marked && leb (length (cards_words yk (cs1 ++ marked)) + length (cards_words yk cs3)) room

abbrev pub up_to : ℕ → ℕ → List Card → List Card
up_to o s cs = take (index_of o s cs + 1) cs

abbrev pub beyond_card : ℕ → ℕ → List Card → List Card
beyond_card o s cs = drop (index_of o s cs + 1) cs

-- the gap that is answered is one
abbrev pub KeepsOrder : List ℕ → Result Gap Why → Type 0
KeepsOrder w (Ok h) = Ordered w h
KeepsOrder w (Err y) = Unit {0}

pub record MarkedTo (w : List ℕ) (yk : ℕ → Bool) (cs1 cs2 : List Card) (o s : ℕ) (was : Bool) (n : ℕ) (v : List ℕ) (r : Result Gap Why) : Type 0 where
  pub missing : length cs2 ≤ index_of o s cs2 → r ≡ Err NoCard
  pub limit : index_of o s cs2 < length cs2 → within (length w) yk cs1 (mark_all yk was n (up_to o s cs2)) (beyond_card o s cs2) ≡ false → r ≡ Err Limit
  pub done :
      index_of o s cs2 < length cs2 → within (length w) yk cs1 (mark_all yk was n (up_to o s cs2)) (beyond_card o s cs2) ≡ true
      → (h : Gap) × ((r ≡ Ok h) × Work v h yk (cs1 ++ mark_all yk was n (up_to o s cs2)) (beyond_card o s cs2))

abbrev pub MarksTo : List ℕ → Gap → ℕ → ℕ → Bool → ℕ → List ℕ → Result Gap Why → Type 0
MarksTo w g o s was n v r = (yk : ℕ → Bool) (cs1 cs2 : List Card) → Work w g yk cs1 cs2 → yk n ≡ false → 0 < n → MarkedTo w yk cs1 cs2 o s was n v r

-- the cards from index i up to index j
abbrev pub range_of : ℕ → ℕ → List Card → List Card
range_of i j cs = take (j + 1 - i) (drop i cs)

-- the same of all cards, from the one of index i, directly above the gap, up to the one named, of index j: the gap then stands directly after the range
pub record MarkedBetween (w : List ℕ) (yk : ℕ → Bool) (cs : List Card) (i j : ℕ) (was : Bool) (n : ℕ) (v : List ℕ) (r : Result Gap Why) : Type 0 where
  pub limit : within (length w) yk (take i cs) (mark_all yk was n (range_of i j cs)) (drop (j + 1) cs) ≡ false → r ≡ Err Limit
  pub done :
      within (length w) yk (take i cs) (mark_all yk was n (range_of i j cs)) (drop (j + 1) cs) ≡ true
      → (h : Gap) × ((r ≡ Ok h) × Work v h yk (take i cs ++ mark_all yk was n (range_of i j cs)) (drop (j + 1) cs))

-- BITS SETTLED AGAIN
abbrev pub Resettles : List ℕ → Gap → (ℕ → Bool) → List ℕ → Type 0
Resettles w g new v = (yk : ℕ → Bool) (cs1 cs2 : List Card) → Work w g yk cs1 cs2 → Work v g new cs1 cs2
