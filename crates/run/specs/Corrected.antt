-- CODE. What the functions that obey a correction promise: for every state that is held, the step of the definitions.
--   a card sought    SoughtAt, SoughtAs, SeeksCard, Within
--   a deck card      titled
--   INSERT, BEFORE   InsertSteps, BeforeSteps, SeeksPlace
use Rattle.run_meaning.specs.declared.Why.{Why}
use Rattle.std.specs.Prelude.{ℕ, ◌≤◌, ◌<◌, ◌≡◌, Bool, true, ◌&&◌, List, eqb, length, Option as Answer, Some, None, Result, Ok, Err}
use Rattle.std.proofs.Math.Option.{Option, none, some}
use Rattle.words_lines.specs.Directive.{directive}
use Rattle.words_lines.specs.declared.CardName.{CardName}
use Rattle.words_lines.specs.declared.Line.TheVariants.{Insert, Before}
use Rattle.library.specs.Library.{Card, Library, parts, stream, entry_of}
use Rattle.library.specs.Yanks.{yanked}
use Rattle.run_meaning.specs.Step.{State, Spot, is_card_of, find, step}
use Rattle.run_meaning.specs.Flat.{index_by, Stood, flat}
use Rattle.library_yanks_bits.specs.SettledBits.{flagged}
use Rattle.run.specs.Work.{Stands}
use Rattle.run.specs.Desk.{Held, Answered}
use Rattle.run.specs.declared.gap.Gap.{Gap}
use Rattle.run.specs.declared.desk.Desk.{Desk}
use Rattle.run.specs.declared.fixes.Sought.{Sought}

-- the card at a spot: its index in the stream, the word it begins at, its owner's number
pub record SoughtAt (l : Library) (g : Gap) (cs1 cs2 : List Card) (r : CardName) (f : Sought) (a : Spot) : Type 0 where
  pub stood : Stood (parts l) a.part a.index
  pub index : flat l a ≡ f.index
  pub stands : Stands g (yanked l 0) cs1 cs2 f.index f.at
  pub own : f.own ≡ entry_of l.directory r.name
  pub first : f.index ≡ index_by (is_card_of f.own r.seq) (stream l)

-- the card that is answered is the one that is found, and none is where there is none
abbrev pub SoughtAs : Library → Gap → List Card → List Card → CardName → Answer Sought → Option Spot → Type 0
SoughtAs l g cs1 cs2 r None none = Unit {0}
SoughtAs l g cs1 cs2 r (Some f) (some a) = SoughtAt l g cs1 cs2 r f a
SoughtAs l g cs1 cs2 r (Some f) none = ⊥
SoughtAs l g cs1 cs2 r None (some a) = ⊥

abbrev pub SeeksCard : List ℕ → List ℕ → Desk → CardName → Answer Sought → Type 0
SeeksCard w dir d r f =
    (names decks flags : List ℕ) (s : State) (held : Held w dir names decks flags d s)
    → SoughtAs s.lib d.gap held.below held.above r f (find s.lib r)

-- what keeps the code safe, whatever the state stands for
pub record Within (w : List ℕ) (d : Desk) (f : Sought) : Type 0 where
  pub own : f.own ≤ 1023
  pub at : f.at ≤ length w
  pub index : f.index < d.cards

-- by owner and number, the decks' numbers being flagged
abbrev pub titled : List ℕ → ℕ → ℕ → Bool
titled decks own seq = eqb seq 1 && flagged decks own

abbrev pub InsertSteps : List ℕ → List ℕ → Desk → CardName → List ℕ → Result Desk Why → Type 0
InsertSteps w dir d r v e =
    (names decks flags line : List ℕ) (s : State) → directive line ≡ Insert r → Held w dir names decks flags d s → Answered v dir names decks flags e (step s line)

abbrev pub BeforeSteps : List ℕ → List ℕ → List ℕ → Desk → CardName → List ℕ → Result Desk Why → Type 0
BeforeSteps w dir decks d r v e =
    (names flags line : List ℕ) (s : State) → directive line ≡ Before r → Held w dir names decks flags d s → Answered v dir names decks flags e (step s line)

-- the card of an INSERT or a BEFORE: in a set, found, and not in YANK$$$; or why both are refused
abbrev pub SeeksPlace : List ℕ → List ℕ → Desk → CardName → Result Sought Why → Type 0
SeeksPlace w dir d r (Ok f) = Within w d f × (SeeksCard w dir d r (Some f) × ((d.set ≡ true) × (d.yanks ≤ f.index)))
SeeksPlace w dir d r (Err y) = InsertSteps w dir d r w (Err y) × ((decks : List ℕ) → BeforeSteps w dir decks d r w (Err y))
