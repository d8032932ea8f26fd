-- CODE. What the functions that change YANK$$$ promise: bits settled again, DELETE and RESTORE, YANK.
--   settling           Resettled
--   DELETE, RESTORE    asks_mark, MarkSteps
--   YANK               YankSteps
--   any line           Arrays, HeldIn, AnsweredIn, ObeysLine, corrects, CorrectsLine
use Rattle.run_meaning.specs.declared.Why.{Why}
use Rattle.std.specs.Prelude.{ℕ, ◌≡◌, Bool, true, false, List, T, eqb, Result}
use Rattle.words_lines.specs.Directive.{directive}
use Rattle.words_lines.specs.declared.CardName.{CardName}
use Rattle.words_lines.specs.declared.Line.{Line}
use Rattle.words_lines.specs.declared.Line.TheVariants.{Text, Skipped, Deck as DeckLine·, Comdeck, Ident, Insert, Before, Delete, Restore, Yank as YankLine, Outside, Long, Malformed, NotCarried}
use Rattle.run_meaning.specs.Step.{State, Step, step}
use Rattle.run.specs.Desk.{Held, HeldUnder, Answered}
use Rattle.run.specs.declared.desk.Desk.{Desk}

-- whatever flags the words had the bits of, they have those of the yanked sets afterwards
abbrev pub Resettled : List ℕ → List ℕ → Desk → List ℕ → List ℕ → Type 0
Resettled w dir d v newFlags =
    (yk : ℕ → Bool) (names decks : List ℕ) (s : State) → HeldUnder yk w dir names decks d s → Held v dir names decks newFlags d s

-- DELETE of what was active, RESTORE of what was not
abbrev pub asks_mark : Bool → CardName → CardName → Line
asks_mark true a b = Delete a b
asks_mark false a b = Restore a b

abbrev pub MarkSteps : List ℕ → List ℕ → List ℕ → List ℕ → Desk → Bool → CardName → CardName → List ℕ → List ℕ → Result Desk Why → Type 0
MarkSteps w dir decks flags d was a b v newFlags e =
    (names line : List ℕ) (s : State) → directive line ≡ asks_mark was a b → Held w dir names decks flags d s
    → Answered v dir names decks newFlags e (step s line)

abbrev pub YankSteps : List ℕ → List ℕ → List ℕ → List ℕ → Desk → List ℕ → List ℕ → List ℕ → Result Desk Why → Type 0
YankSteps w dir names flags d line v newFlags e =
    (decks : List ℕ) (s : State) → directive line ≡ YankLine → Held w dir names decks flags d s → Answered v dir names decks newFlags e (step s line)

-- ANY LINE: the arrays before and after
pub record Arrays : Type 0 where
  pub words : List ℕ
  pub dir : List ℕ
  pub names : List ℕ
  pub decks : List ℕ
  pub flags : List ℕ

abbrev pub HeldIn : Arrays → Desk → State → Type 0
HeldIn a d s = Held a.words a.dir a.names a.decks a.flags d s

abbrev pub AnsweredIn : Arrays → Result Desk Why → Step → Type 0
AnsweredIn a r t = Answered a.words a.dir a.names a.decks a.flags r t

abbrev pub ObeysLine : Arrays → Desk → List ℕ → Arrays → Result Desk Why → Type 0
ObeysLine a d line b r = (s : State) → HeldIn a d s → AnsweredIn b r (step s line)

-- a line that is no text, is not skipped and starts no unit: a correction, or one that is refused for what it is
abbrev pub corrects : Line → Bool
corrects Text = false
corrects Skipped = false
corrects (DeckLine· w) = false
corrects (Comdeck w) = false
corrects (Ident w) = false
corrects (Insert a) = true
corrects (Before a) = true
corrects (Delete a b) = true
corrects (Restore a b) = true
corrects YankLine = true
corrects Outside = true
corrects Long = true
corrects Malformed = true
corrects NotCarried = true

abbrev pub CorrectsLine : Arrays → Desk → List ℕ → Line → Arrays → Result Desk Why → Type 0
CorrectsLine a d line asked b r = T (corrects asked) → directive line ≡ asked → ObeysLine a d line b r
