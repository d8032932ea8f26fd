-- CODE. What the parts of YANK promise: the tests of its names by the lists as they are lent, and its card under the flags of before.
--   names        names_in, unknown_in, no_set_in
--   the card     LeadAfter, Settling, PutsYank
use Rattle.run_meaning.specs.declared.Why.{Why}
use Rattle.std.specs.Prelude.{ℕ, ◌≤◌, ◌≡◌, Bool, true, ◌||◌, not, List, map, eqb, length, Result, Ok, Err}
use Rattle.words.specs.Base.{member}
use Rattle.words.specs.Spelt.{word_of_name}
use Rattle.words_lines.specs.Directive.{directive, params}
use Rattle.words_lines.specs.declared.Line.TheVariants.{Yank as YankLine}
use Rattle.library.specs.Library.{reserved, entry_of}
use Rattle.run_meaning.specs.Step.{State, limited, after_yank, step}
use Rattle.run.specs.Desk.{Held, Answered}
use Rattle.run.specs.Resettled.{Resettled}
use Rattle.run.specs.declared.desk.Desk.{Desk}

-- NAMES: the words of a field's parameters, 0 of one that is no name
abbrev pub names_in : List ℕ → List ℕ
names_in f = map word_of_name (params f)

-- 26, by the directory
abbrev pub unknown_in : List ℕ → ℕ → Bool
unknown_in directory w = not (eqb w reserved || not (eqb (entry_of directory w) 0))

-- 27, by the set's own number, the directory and the deck list
abbrev pub no_set_in : ℕ → List ℕ → List ℕ → ℕ → Bool
no_set_in n directory deckList w = member w deckList || eqb (entry_of directory w) n

-- THE CARD: all words of YANK$$$ stand below the gap
abbrev pub LeadAfter : Result Desk Why → Type 0
LeadAfter (Ok d) = d.lead ≤ d.gap.lo
LeadAfter (Err y) = Unit {0}

-- the bits settled again where the step went
abbrev pub Settling : List ℕ → List ℕ → Result Desk Why → List ℕ → List ℕ → Type 0
Settling w dir (Ok d) v newFlags = Resettled w dir d v newFlags
Settling w dir (Err y) v newFlags = Unit {0}

-- what a YANK line answers, once they are
abbrev pub PutsYank : List ℕ → Desk → List ℕ → List ℕ → Result Desk Why → Type 0
PutsYank w d line v e =
    (dir names decks flags u newFlags : List ℕ) (s : State) → directive line ≡ YankLine → Held w dir names decks flags d s → d.set ≡ true
    → step s line ≡ limited (after_yank s line) → length u ≡ 65536 → Settling v dir e u newFlags → Answered u dir names decks newFlags e (step s line)
