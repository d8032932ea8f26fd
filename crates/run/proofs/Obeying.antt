-- What each step promises is what its line asks; a line that is refused or skipped changes no array.
use Rattle.run_meaning.specs.declared.Why.{Why}
use Rattle.std.specs.Prelude.{true, false, Result, Ok, Err}
use Prim.Native.Nat.{ℕ}
use mathlib.Core.Path.{◌≡◌, refl, sym, subst}
use mathlib.Core.Bool.{Bool}
use mathlib.Core.List.{List, [], ◌∷◌}
use lib.Dec.{T}
use types.Run.{OneOf, miss}
use denote.Enum.Declared.{tag_of}
use Rattle.words_lines.specs.contracts.Line.{the_type}
use Rattle.words_lines.specs.Directive.{directive}
use Rattle.words_lines.specs.declared.CardName.{CardName}
use Rattle.words_lines.specs.declared.Line.{Line}
use Rattle.words_lines.specs.declared.Line.TheVariants.{Text, Skipped, Deck as DeckLine·, Comdeck, Ident, Insert, Before, Delete, Restore, Yank as YankLine, Outside as LineOutside, Long as LineLong, Malformed as LineMalformed, NotCarried as LineNotCarried}
use Rattle.run_meaning.specs.Step.{obey, step}
use Rattle.run.specs.Desk.{Sane}
use Rattle.run.specs.Obeyed.{TextSteps, IdentSteps, asks_deck, DeckSteps}
use Rattle.run.specs.Corrected.{InsertSteps, BeforeSteps}
use Rattle.run.specs.Resettled.{MarkSteps, YankSteps, Arrays, AnsweredIn, ObeysLine, corrects, CorrectsLine}
use Rattle.run.specs.Streamed.{in_arrays}
use Rattle.run.specs.declared.desk.Desk.{Desk}
use Rattle.run_meaning.specs.declared.Why.TheVariants.{Outside, Long, Malformed, NotCarried}

-- a line that is skipped, and those that are refused for what they are
pub skipped-obeys : (a : Arrays) (d : Desk) (line : List ℕ) → directive line ≡ Skipped → ObeysLine a d line a (Ok d)
unfolding step
skipped-obeys a d line e s held = subst (λ (x : Line). AnsweredIn a (Ok d) (obey s line x)) (sym e) held

pub outside-obeys : (a : Arrays) (d : Desk) (line : List ℕ) → directive line ≡ LineOutside → ObeysLine a d line a (Err Outside)
unfolding step
outside-obeys a d line e s held = subst (λ (x : Line). AnsweredIn a (Err Outside) (obey s line x)) (sym e) refl

pub long-obeys : (a : Arrays) (d : Desk) (line : List ℕ) → directive line ≡ LineLong → ObeysLine a d line a (Err Long)
unfolding step
long-obeys a d line e s held = subst (λ (x : Line). AnsweredIn a (Err Long) (obey s line x)) (sym e) refl

pub malformed-obeys : (a : Arrays) (d : Desk) (line : List ℕ) → directive line ≡ LineMalformed → ObeysLine a d line a (Err Malformed)
unfolding step
malformed-obeys a d line e s held = subst (λ (x : Line). AnsweredIn a (Err Malformed) (obey s line x)) (sym e) refl

pub carried-obeys : (a : Arrays) (d : Desk) (line : List ℕ) → directive line ≡ LineNotCarried → ObeysLine a d line a (Err NotCarried)
unfolding step
carried-obeys a d line e s held = subst (λ (x : Line). AnsweredIn a (Err NotCarried) (obey s line x)) (sym e) refl

-- the kinds that an arm for all others is left with, by their numbers
abbrev pub other_kinds : List ℕ
other_kinds = 5 ∷ 6 ∷ 7 ∷ 8 ∷ 9 ∷ 10 ∷ 11 ∷ 12 ∷ 13 ∷ []

abbrev pub last_kinds : List ℕ
last_kinds = 0 ∷ 1 ∷ 2 ∷ 3 ∷ 4 ∷ 13 ∷ []

pub others-correct : (x : Line) → OneOf other_kinds (tag_of the_type x) → T (corrects x)
others-correct Text k = miss other_kinds 0 tt k
others-correct Skipped k = miss other_kinds 1 tt k
others-correct (DeckLine· w) k = miss other_kinds 2 tt k
others-correct (Comdeck w) k = miss other_kinds 3 tt k
others-correct (Ident w) k = miss other_kinds 4 tt k
others-correct (Insert a) k = tt
others-correct (Before a) k = tt
others-correct (Delete a b) k = tt
others-correct (Restore a b) k = tt
others-correct YankLine k = tt
others-correct LineOutside k = tt
others-correct LineLong k = tt
others-correct LineMalformed k = tt
others-correct LineNotCarried k = tt

pub last-obeys : (a : Arrays) (d : Desk) (line : List ℕ) (x : Line) → OneOf last_kinds (tag_of the_type x) → CorrectsLine a d line x a (Err NotCarried)
last-obeys a d line Text k t e = absurd t
last-obeys a d line Skipped k t e = absurd t
last-obeys a d line (DeckLine· w) k t e = absurd t
last-obeys a d line (Comdeck w) k t e = absurd t
last-obeys a d line (Ident w) k t e = absurd t
last-obeys a d line (Insert u) k t e = absurd (miss last_kinds 5 tt k)
last-obeys a d line (Before u) k t e = absurd (miss last_kinds 6 tt k)
last-obeys a d line (Delete u v) k t e = absurd (miss last_kinds 7 tt k)
last-obeys a d line (Restore u v) k t e = absurd (miss last_kinds 8 tt k)
last-obeys a d line YankLine k t e = absurd (miss last_kinds 9 tt k)
last-obeys a d line LineOutside k t e = absurd (miss last_kinds 10 tt k)
last-obeys a d line LineLong k t e = absurd (miss last_kinds 11 tt k)
last-obeys a d line LineMalformed k t e = absurd (miss last_kinds 12 tt k)
last-obeys a d line LineNotCarried k t e = carried-obeys a d line e

-- text, units, corrections
module _ (w dir names decks flags : List ℕ) (d : Desk) (line : List ℕ) (r : Result Desk Why) where
  pub text-obeys : (v : List ℕ) → directive line ≡ Text → TextSteps w d line v r → ObeysLine (in_arrays w dir names decks flags) d line (in_arrays v dir names decks flags) r
  text-obeys v e h s held = h dir names decks flags s e held

  pub ident-obeys : (word : ℕ) (newDir : List ℕ) → Sane w d → directive line ≡ Ident word → IdentSteps dir d word newDir r
      → ObeysLine (in_arrays w dir names decks flags) d line (in_arrays w newDir names decks flags) r
  ident-obeys word newDir sane e h s held = h w names decks flags line s sane e held

  pub deck-obeys : (common : Bool) (word : ℕ) (v newDir newNames newDecks : List ℕ) → directive line ≡ asks_deck common word
      → DeckSteps w dir names decks d word line v newDir newNames newDecks r → ObeysLine (in_arrays w dir names decks flags) d line (in_arrays v newDir newNames newDecks flags) r
  deck-obeys common word v newDir newNames newDecks e h s held = h common flags s e held

  pub insert-obeys : (c : CardName) (v : List ℕ) → directive line ≡ Insert c → InsertSteps w dir d c v r
      → ObeysLine (in_arrays w dir names decks flags) d line (in_arrays v dir names decks flags) r
  insert-obeys c v e h s held = h names decks flags line s e held

  pub before-obeys : (c : CardName) (v : List ℕ) → directive line ≡ Before c → BeforeSteps w dir decks d c v r
      → ObeysLine (in_arrays w dir names decks flags) d line (in_arrays v dir names decks flags) r
  before-obeys c v e h s held = h names flags line s e held

  pub delete-obeys : (a b : CardName) (v newFlags : List ℕ) → directive line ≡ Delete a b → MarkSteps w dir decks flags d true a b v newFlags r
      → ObeysLine (in_arrays w dir names decks flags) d line (in_arrays v dir names decks newFlags) r
  delete-obeys a b v newFlags e h s held = h names line s e held

  pub restore-obeys : (a b : CardName) (v newFlags : List ℕ) → directive line ≡ Restore a b → MarkSteps w dir decks flags d false a b v newFlags r
      → ObeysLine (in_arrays w dir names decks flags) d line (in_arrays v dir names decks newFlags) r
  restore-obeys a b v newFlags e h s held = h names line s e held

  pub yank-obeys : (v newFlags : List ℕ) → directive line ≡ YankLine → YankSteps w dir names flags d line v newFlags r
      → ObeysLine (in_arrays w dir names decks flags) d line (in_arrays v dir names decks newFlags) r
  yank-obeys v newFlags e h s held = h decks s e held
