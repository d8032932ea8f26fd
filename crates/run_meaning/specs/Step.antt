-- MEANING. What one line does to a library (RULES, "Units", "Corrections", "The run"; rows 20 to 31).
--   the state             UnitKind, TextPlace, State, new_unit, start, unit_number, is_set
--   refusals              Step, refuse, limited
--   one thing changed     with_yanks, with_decks, with_entry, with_cards, change_at
--   text                  new_card, put_in, after_text, put_text
--   units                 is_known, new_deck, after_deck, put_deck, after_ident, put_ident
--   corrections           in_set, with_place
--   YANK                  is_unknown, is_no_set, after_yank, put_yank
--   places of cards       Spot, spot_in, find_from, is_card_of, find, is_backwards, is_yank_part, is_deck_spot, is_barred, place_after
--   INSERT, BEFORE        insert_after, insert_before
--   DELETE, RESTORE       marked, over_range, number_at, mark_in, after_mark, mark_range
--   a line                obey, step
use Rattle.std.specs.Prelude.{ℕ, zero, suc, ◌-◌, Bool, true, false, ◌&&◌, ◌||◌, not, List, [], ◌∷◌, ◌++◌, eqb, ltb, length, take, drop, if◌then◌else◌}
use Rattle.std.specs.Bool.{beq}
use Rattle.std.proofs.Math.Option.{Option, none, some}
use Rattle.words.specs.Base.{any, place_from}
use Rattle.words.specs.Text.{trim}
use Rattle.words_lines.specs.Directive.{directive, yank_names}
use Rattle.words_lines.specs.declared.CardName.{CardName}
use Rattle.words_lines.specs.declared.Line.{Line}
use Rattle.words_lines.specs.declared.Line.TheVariants.{Text, Skipped, Deck as DeckLine·, Comdeck, Ident, Insert, Before, Delete, Restore, Yank as YankLine, Outside as LineOutside, Long as LineLong, Malformed as LineMalformed, NotCarried as LineNotCarried}
use Rattle.library.specs.Library.{Card, Deck, Library, parts, reserved, entry_of, deck_names}
use Rattle.library.specs.Yanks.{active, yanked}
use Rattle.library.specs.Image.{within_limits}
use Rattle.run_meaning.specs.declared.Why.{Why}
use Rattle.run_meaning.specs.declared.Why.TheVariants.{Outside, Long, Malformed, NotCarried, Nowhere, Known, Unknown, NoSet, NoCard, Backwards, Barred, Limit}

-- THE STATE
pub data UnitKind : Type 0 where
  no_unit deck_unit set_unit : UnitKind

-- where a text line goes: nowhere (24), into YANK$$$ (30), or into deck k, ahead of its card i; both are counted from 0, the deck card not counted
pub data TextPlace : Type 0 where
  nowhere in_yanks : TextPlace
  in_deck : ℕ → ℕ → TextPlace

-- next: the number of the unit's next new card
pub record State : Type 0 where
  pub lib : Library
  pub kind : UnitKind
  pub next : ℕ
  pub place : TextPlace

-- all that is known where a unit starts
abbrev pub new_unit : Library → UnitKind → ℕ → TextPlace → State
new_unit l k n p = record { lib = l; kind = k; next = n; place = p }

abbrev pub start : Library → State
start l = new_unit l no_unit 0 nowhere

-- a unit's name is the directory's last, so its number is the count of entries
abbrev pub unit_number : Library → ℕ
unit_number l = length l.directory

abbrev pub is_set : UnitKind → Bool
is_set no_unit = false
is_set deck_unit = false
is_set set_unit = true

-- REFUSALS
pub data Step : Type 0 where
  went : State → Step
  refused : Why → Step

abbrev pub refuse : Bool → Why → Step → Step
refuse true w s = refused w
refuse false w s = s

-- 31, line by line
abbrev pub limited : State → Step
limited s = refuse (not (within_limits s.lib)) Limit (went s)

-- LIBRARIES WITH ONE THING CHANGED
abbrev pub with_yanks : Library → List Card → Library
with_yanks l ys = record { directory = l.directory; yanks = ys; decks = l.decks }

abbrev pub with_decks : Library → List Deck → Library
with_decks l ds = record { directory = l.directory; yanks = l.yanks; decks = ds }

abbrev pub with_entry : Library → ℕ → Library
with_entry l w = record { directory = l.directory ++ (w ∷ []); yanks = l.yanks; decks = l.decks }

abbrev pub with_cards : (List Card → List Card) → Deck → Deck
with_cards f d = record { number = d.number; common = d.common; line = d.line; cards = f d.cards }

abbrev pub change_at : (List Card → List Card) → ℕ → List Deck → List Deck
change_at f k [] = []
change_at f zero (d ∷ ds) = with_cards f d ∷ ds
change_at f (suc k) (d ∷ ds) = d ∷ change_at f k ds

-- TEXT: a new card is owned by the unit, has the unit's next number, and its owner's byte alone; wherever it goes, the next one has the number after it
abbrev pub new_card : State → List ℕ → Card
new_card s l = record { line = trim l; seq = s.next; owner = unit_number s.lib; later = [] }

abbrev pub put_in : ℕ → Card → List Card → List Card
put_in i c cs = take i cs ++ (c ∷ drop i cs)

abbrev pub after_text : State → List ℕ → ℕ → ℕ → State
after_text s l k i =
    record {
      lib = with_decks s.lib (change_at (put_in i (new_card s l)) k s.lib.decks);
      kind = s.kind;
      next = suc s.next;
      place = in_deck k (suc i);
    }

abbrev pub put_text : State → List ℕ → TextPlace → Step
put_text s l nowhere = refused Nowhere
put_text s l in_yanks = refused Barred
put_text s l (in_deck k i) = limited (after_text s l k i)

-- UNITS: 25 where the name is reserved or in the directory; else it becomes the directory's last entry
abbrev pub is_known : Library → ℕ → Bool
is_known l w = eqb w reserved || not (eqb (entry_of l.directory w) 0)

-- DECK, COMDECK: a new deck comes after all others, with the line as its deck card, which is number 1; so the unit's next card is number 2, and goes to the deck's front
abbrev pub new_deck : Library → Bool → List ℕ → Deck
new_deck l common line = record { number = suc (unit_number l); common = common; line = trim line; cards = [] }

abbrev pub after_deck : State → Bool → List ℕ → ℕ → State
after_deck s common line w =
    new_unit (with_entry (with_decks s.lib (s.lib.decks ++ (new_deck s.lib common line ∷ []))) w) deck_unit 2
    (in_deck (length s.lib.decks) 0)

abbrev pub put_deck : State → Bool → List ℕ → ℕ → Step
put_deck s common line w = refuse (is_known s.lib w) Known (limited (after_deck s common line w))

abbrev pub after_ident : State → ℕ → State
after_ident s w = new_unit (with_entry s.lib w) set_unit 1 nowhere

abbrev pub put_ident : State → ℕ → Step
put_ident s w = refuse (is_known s.lib w) Known (limited (after_ident s w))

-- CORRECTIONS: outside a set they answer 24
abbrev pub in_set : State → Step → Step
in_set s r = refuse (not (is_set s.kind)) Nowhere r

abbrev pub with_place : State → TextPlace → State
with_place s p = record { lib = s.lib; kind = s.kind; next = s.next; place = p }

-- YANK: 26 where any name is unknown, then 27 where any is no other set's; else the line is a new card, the last of YANK$$$, and text has no place any more
abbrev pub is_unknown : Library → ℕ → Bool
is_unknown l w = not (is_known l w)

abbrev pub is_no_set : Library → ℕ → Bool
is_no_set l w = any (eqb w) (deck_names l) || eqb (entry_of l.directory w) (unit_number l)

abbrev pub after_yank : State → List ℕ → State
after_yank s l =
    record {
      lib = with_yanks s.lib (s.lib.yanks ++ (new_card s l ∷ []));
      kind = s.kind;
      next = suc s.next;
      place = nowhere;
    }

abbrev pub put_yank : State → List ℕ → Step
put_yank s l =
    in_set s
    (refuse (any (is_unknown s.lib) (yank_names l)) Unknown
    (refuse (any (is_no_set s.lib) (yank_names l)) NoSet
    (limited (after_yank s l))))

-- PLACES OF CARDS: a part of the library, YANK$$$ being 0 and the decks following, and a card of it, a deck's card 0 being its deck card
pub record Spot : Type 0 where
  pub part : ℕ
  pub index : ℕ

abbrev pub spot_in : ℕ → Option ℕ → Option Spot → Option Spot
spot_in p none later = later
spot_in p (some i) later = some (record { part = p; index = i })

abbrev pub find_from : (Card → Bool) → ℕ → List (List Card) → Option Spot
find_from is p [] = none
find_from is p (cs ∷ ps) = let later = find_from is (suc p) ps in spot_in p (place_from is 0 cs) later

abbrev pub is_card_of : ℕ → ℕ → Card → Bool
is_card_of own seq c = eqb c.owner own && eqb c.seq seq

unfoldable pub find : Library → CardName → Option Spot
find l r =
    let own : ℕ = entry_of l.directory r.name in
    let found = find_from (is_card_of own r.seq) 0 (parts l) in
    if eqb own 0 then none else found

-- 29, and 30 for a range: it leaves its part, or begins at a deck card
abbrev pub is_backwards : Spot → Spot → Bool
is_backwards a b = ltb b.part a.part || (eqb a.part b.part && ltb b.index a.index)

abbrev pub is_yank_part : Spot → Bool
is_yank_part a = eqb a.part 0

abbrev pub is_deck_spot : Spot → Bool
is_deck_spot a = not (is_yank_part a) && eqb a.index 0

abbrev pub is_barred : Spot → Spot → Bool
is_barred a b = not (eqb a.part b.part) || is_deck_spot a

-- the place directly after a card. A deck's cards are counted from 0 with the deck card, its places for text (`in_deck k i`) from 0 without it: so the place
-- after card i of part p is ahead of card i, not counting the deck card. Part p is deck p - 1, as part 0 is YANK$$$
abbrev pub place_after : Spot → TextPlace
place_after a = if is_yank_part a then in_yanks else in_deck (a.part - 1) a.index

-- INSERT opens the place after the card, BEFORE the one ahead of it: 28 where there is no such card; 30 in YANK$$$, and of BEFORE at a deck card
abbrev pub insert_after : State → Option Spot → Step
insert_after s none = refused NoCard
insert_after s (some a) = refuse (is_yank_part a) Barred (went (with_place s (place_after a)))

abbrev pub insert_before : State → Option Spot → Step
insert_before s none = refused NoCard
insert_before s (some a) =
    refuse (is_yank_part a || is_deck_spot a) Barred (went (with_place s (in_deck (a.part - 1) (a.index - 1))))

-- DELETE (`was` is true) and RESTORE (false): a card that is active, or is not, as `was` says, gets one more byte, of set n, which turns that over; any other stays
abbrev pub marked : (ℕ → Bool) → Bool → ℕ → Card → Card
marked yk was n c =
    if beq (active yk c) was
    then record { line = c.line; seq = c.seq; owner = c.owner; later = c.later ++ (record { number = n; activating = not was } ∷ []) }
    else c

-- the cards from i up to j
abbrev pub over_range : (Card → Card) → ℕ → ℕ → List Card → List Card
over_range f i j [] = []
over_range f (suc i) j (c ∷ cs) = c ∷ over_range f i (j - 1) cs
over_range f zero zero (c ∷ cs) = f c ∷ cs
over_range f zero (suc j) (c ∷ cs) = f c ∷ over_range f zero j cs

-- the deck in which a part's cards stand: 0 for YANK$$$
abbrev pub number_at : List Deck → ℕ → ℕ
number_at [] k = 0
number_at (d ∷ ds) zero = d.number
number_at (d ∷ ds) (suc k) = number_at ds k

abbrev pub mark_in : Library → Bool → ℕ → ℕ → ℕ → Library
mark_in l was zero i j = with_yanks l (over_range (marked (yanked l 0) was (unit_number l)) i j l.yanks)
mark_in l was (suc k) i j =
    with_decks l (change_at (over_range (marked (yanked l (number_at l.decks k)) was (unit_number l)) (i - 1) (j - 1)) k l.decks)

abbrev pub after_mark : State → Bool → Spot → Spot → State
after_mark s was a b =
    record {
      lib = mark_in s.lib was a.part a.index b.index;
      kind = s.kind;
      next = s.next;
      place = place_after b;
    }

abbrev pub mark_range : State → Bool → Option Spot → Option Spot → Step
mark_range s was none b = refused NoCard
mark_range s was (some a) none = refused NoCard
mark_range s was (some a) (some b) =
    refuse (is_backwards a b) Backwards
    (refuse (is_barred a b) Barred
    (limited (after_mark s was a b)))

-- A LINE
abbrev pub obey : State → List ℕ → Line → Step
obey s l LineOutside = refused Outside
obey s l LineLong = refused Long
obey s l LineMalformed = refused Malformed
obey s l LineNotCarried = refused NotCarried
obey s l Text = put_text s l s.place
obey s l Skipped = went s
obey s l (DeckLine· w) = put_deck s false l w
obey s l (Comdeck w) = put_deck s true l w
obey s l (Ident w) = put_ident s w
obey s l YankLine = put_yank s l
obey s l (Insert r) = in_set s (insert_after s (find s.lib r))
obey s l (Before r) = in_set s (insert_before s (find s.lib r))
obey s l (Delete a b) = in_set s (mark_range s true (find s.lib a) (find s.lib b))
obey s l (Restore a b) = in_set s (mark_range s false (find s.lib a) (find s.lib b))

unfoldable pub step : State → List ℕ → Step
step s l = obey s l (directive l)
