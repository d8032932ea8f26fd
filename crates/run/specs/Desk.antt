-- CODE. The state of a run in code, a struct beside lent arrays, and the state of the definitions that it stands for.
--   31                   word_count, fit_tests, fitted
--   the numbers          Sane, SaneAfter
--   where text goes      moved_desk, TextGoes
--   the relation         Tables, Held, HeldUnder
--   a step               Answered
use Rattle.run_meaning.specs.declared.Why.{Why}
use Rattle.std.specs.Prelude.{ℕ, ◌+◌, ◌-◌, ◌≤◌, ◌≡◌, Bool, List, [], ◌∷◌, ◌++◌, leb, length, take, if◌then◌else◌, Result, Ok, Err}
use Rattle.words.specs.Base.{all_of, member}
use Rattle.library.specs.Library.{Card, Library, stream, deck_names}
use Rattle.library.specs.Yanks.{yanked}
use Rattle.library.specs.Image.{cards_words}
use Rattle.run_meaning.specs.Step.{TextPlace, nowhere, in_yanks, in_deck, State, is_set, Step, went, refused}
use Rattle.run_meaning.specs.Safe.{Safe}
use Rattle.library.specs.Counts.{within_counts}
use Rattle.run_meaning.specs.Flat.{HasPlace, flat_place, deck_numbers}
use Rattle.run.specs.GapWords.{Ordered}
use Rattle.library_yanks_bits.specs.SettledBits.{flagged}
use Rattle.run.specs.Work.{Work}
use Rattle.run.specs.declared.gap.Gap.{Gap}
use Rattle.run.specs.declared.desk.Desk.{Desk}
use Rattle.run.specs.declared.desk.TextAt.{TextAt}
use Rattle.run.specs.declared.desk.TextAt.TheVariants.{Nowhere as TextNowhere, Yanks as TextYanks, Gap as TextGap}
use Rattle.run_meaning.specs.declared.Why.TheVariants.{Limit}

-- the words of the library: the header with YANK$$$ in the deck list, the tables, the cards on both sides of the gap
abbrev pub word_count : Desk → ℕ
word_count d = 3 + d.entries + d.decks + d.gap.lo + (65536 - d.gap.hi)

-- 31 by counts: the words fit the array, and no limit is passed
abbrev pub fit_tests : Desk → List Bool
fit_tests d = leb d.gap.lo d.gap.hi ∷ within_counts d.entries (d.decks + 1) d.cards (word_count d) ∷ []

abbrev pub fitted : Desk → Result Desk Why
fitted d = if all_of (fit_tests d) then Ok d else Err Limit

-- what keeps the code safe, whatever the state stands for
pub record Sane (w : List ℕ) (d : Desk) : Type 0 where
  pub ordered : Ordered w d.gap
  pub room : length w ≡ 65536
  pub entries : d.entries ≤ 1023
  pub decks : d.decks ≤ 254
  pub cards : d.cards ≤ 16383
  pub next : d.next ≤ d.cards + 1
  pub yanks : d.yanks ≤ d.cards
  pub low : d.low ≤ d.cards

abbrev pub SaneAfter : List ℕ → Result Desk Why → Type 0
SaneAfter w (Ok d) = Sane w d
SaneAfter w (Err y) = Unit {0}

-- the gap moved, n cards below it: text goes there
abbrev pub moved_desk : Desk → Gap → ℕ → Desk
moved_desk d h n =
    record { gap = h; low = n; entries = d.entries; decks = d.decks; cards = d.cards; yanks = d.yanks; lead = d.lead; set = d.set; next = d.next; place = TextGap }

-- n cards stand below the gap
abbrev pub TextGoes : Library → ℕ → TextAt → TextPlace → Type 0
TextGoes l n TextNowhere nowhere = Unit {0}
TextGoes l n TextNowhere in_yanks = ⊥
TextGoes l n TextNowhere (in_deck k i) = ⊥
TextGoes l n TextYanks nowhere = ⊥
TextGoes l n TextYanks in_yanks = Unit {0}
TextGoes l n TextYanks (in_deck k i) = ⊥
TextGoes l n TextGap nowhere = ⊥
TextGoes l n TextGap in_yanks = ⊥
TextGoes l n TextGap (in_deck k i) = HasPlace l.decks k i × (n ≡ flat_place l k i)

-- the directory, the deck list, and which numbers are decks'
pub record Tables (dir names decks : List ℕ) (d : Desk) (l : Library) : Type 0 where
  pub directory : take d.entries dir ≡ l.directory
  pub entries : d.entries ≡ length l.directory
  pub listed : take (d.decks + 1) names ≡ deck_names l
  pub count : d.decks ≡ length l.decks
  pub marked : (n : ℕ) → flagged decks n ≡ member n (deck_numbers l)

-- THE RELATION: w has the words of the stream's cards, parted by the gap
pub record Held (w dir names decks flags : List ℕ) (d : Desk) (s : State) : Type 0 where
  pub below : List Card
  pub above : List Card
  pub work : Work w d.gap (yanked s.lib 0) below above
  pub whole : below ++ above ≡ stream s.lib
  pub low : d.low ≡ length below
  pub cards : d.cards ≡ length (stream s.lib)
  pub tables : Tables dir names decks d s.lib
  pub yanks : d.yanks ≡ length s.lib.yanks
  pub leads : d.lead ≡ length (cards_words (yanked s.lib 0) s.lib.yanks)
  pub settled : (n : ℕ) → flagged flags n ≡ yanked s.lib 0 n
  pub set : d.set ≡ is_set s.kind
  pub next : d.next ≡ s.next
  pub place : TextGoes s.lib (length below) d.place s.place
  pub safe : Safe s

-- the same where the words have the bits of other flags: a library not settled yet
pub record HeldUnder (yk : ℕ → Bool) (w dir names decks : List ℕ) (d : Desk) (s : State) : Type 0 where
  pub below : List Card
  pub above : List Card
  pub work : Work w d.gap yk below above
  pub whole : below ++ above ≡ stream s.lib
  pub low : d.low ≡ length below
  pub cards : d.cards ≡ length (stream s.lib)
  pub tables : Tables dir names decks d s.lib
  pub yanks : d.yanks ≡ length s.lib.yanks
  pub leads : d.lead ≡ length (cards_words yk s.lib.yanks)
  pub set : d.set ≡ is_set s.kind
  pub next : d.next ≡ s.next
  pub place : TextGoes s.lib (length below) d.place s.place
  pub safe : Safe s

-- A STEP: it is refused for the same reason, or the new state is held
abbrev pub Answered : List ℕ → List ℕ → List ℕ → List ℕ → List ℕ → Result Desk Why → Step → Type 0
Answered w dir names decks flags (Ok d) (went t) = Held w dir names decks flags d t
Answered w dir names decks flags (Err y) (refused z) = y ≡ z
Answered w dir names decks flags (Ok d) (refused z) = ⊥
Answered w dir names decks flags (Err y) (went t) = ⊥
