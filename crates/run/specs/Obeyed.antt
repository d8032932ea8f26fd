-- CODE. What the functions that obey a line promise: for every state that is held, the step of the definitions.
--   a new card    PutsLine
--   text          TextSteps
--   units         StaysSane, IdentSteps, asks_deck, DeckSteps
use Rattle.run_meaning.specs.declared.Why.{Why}
use Rattle.std.specs.Prelude.{ℕ, ◌≤◌, ◌<◌, ◌≡◌, Bool, true, false, List, T, length, Result}
use Rattle.words.specs.Base.{all}
use Rattle.words.specs.Display.{in_chart}
use Rattle.words.specs.Text.{trim}
use Rattle.words_lines.specs.Directive.{directive}
use Rattle.words_lines.specs.declared.Line.{Line}
use Rattle.words_lines.specs.declared.Line.TheVariants.{Text, Ident, Deck as DeckLine·, Comdeck}
use Rattle.library.specs.Library.{Card}
use Rattle.run_meaning.specs.Step.{State, step}
use Rattle.run.specs.CardHeads.{card_of}
use Rattle.run.specs.Work.{Work, PutCard}
use Rattle.run.specs.Desk.{Sane, SaneAfter, Held, Answered}
use Rattle.run.specs.declared.gap.Gap.{Gap}
use Rattle.run.specs.declared.desk.Desk.{Desk}

abbrev pub PutsLine : List ℕ → Gap → List ℕ → ℕ → ℕ → List ℕ → Gap → Type 0
PutsLine w g line seq n v h =
    (yk : ℕ → Bool) (cs1 cs2 : List Card) → T (all in_chart line) → length line ≤ 80 → Work w g yk cs1 cs2 → yk n ≡ false → 0 < n → 0 < seq
    → PutCard w yk cs1 cs2 (card_of (trim line) seq n) v h

abbrev pub TextSteps : List ℕ → Desk → List ℕ → List ℕ → Result Desk Why → Type 0
TextSteps w d line v r =
    (dir names decks flags : List ℕ) (s : State) → directive line ≡ Text → Held w dir names decks flags d s → Answered v dir names decks flags r (step s line)

-- a step that leaves the cards' words as they are
abbrev pub StaysSane : Desk → Result Desk Why → Type 0
StaysSane d r = (w : List ℕ) → Sane w d → SaneAfter w r

abbrev pub IdentSteps : List ℕ → Desk → ℕ → List ℕ → Result Desk Why → Type 0
IdentSteps dir d word new r =
    (w names decks flags line : List ℕ) (s : State) → Sane w d → directive line ≡ Ident word → Held w dir names decks flags d s
    → Answered w new names decks flags r (step s line)

-- a line that starts a deck unit, of a normal deck or of a common one
abbrev pub asks_deck : Bool → ℕ → Line
asks_deck true w = Comdeck w
asks_deck false w = DeckLine· w

abbrev pub DeckSteps : List ℕ → List ℕ → List ℕ → List ℕ → Desk → ℕ → List ℕ → List ℕ → List ℕ → List ℕ → List ℕ → Result Desk Why → Type 0
DeckSteps w dir names decks d word line v newDir newNames newDecks r =
    (common : Bool) (flags : List ℕ) (s : State) → directive line ≡ asks_deck common word → Held w dir names decks flags d s
    → Answered v newDir newNames newDecks flags r (step s line)
