-- MEANING. The walk over chosen decks and calls (RULES, "The compile file"; rows 40 to 44).
--   a line of 91 bytes    printed
--   decks by name         Found, found_in, look_in, called_deck
--   the walk              Walk, halt_at, then_on, Inner, open_deck, at_card, walk_cards, called, walk_decks
use Rattle.std.specs.Prelude.{ℕ, zero, suc, List, [], ◌∷◌, ◌++◌, eqb, ltb, length, if◌then◌else◌}
use Rattle.words.specs.Display.{blank}
use Rattle.words.specs.Names.{name_of, numeral, left_justified, right_justified}
use Rattle.words_lines.specs.Directive.{call_of}
use Rattle.words_lines.specs.declared.Call.{Call}
use Rattle.words_lines.specs.declared.Call.TheVariants.{Not, Of, Malformed}
use Rattle.library.specs.Library.{reserved}
use Rattle.compile_walk.specs.View.{Shown, DeckView}
use Rattle.compile_walk.specs.declared.Stop.{Stop}
use Rattle.compile_walk.specs.declared.Stop.TheVariants.{NoDeck, NotCommon, Deep, Many, Space}

-- the first 72 columns of the line, filled up with blanks; a blank; the owner's name, filled up to 9 columns; the sequence number at the right end of 8; byte 10
unfoldable pub printed : Shown → List ℕ
printed c =
    left_justified 72 c.line ++ (blank ∷ (left_justified 9 (name_of c.name) ++ (right_justified 8 (numeral c.seq) ++ (10 ∷ []))))

-- DECKS BY NAME: 40 where there is none; 41 where it is YANK$$$ or a normal one
pub data Found : Type 0 where
  missing not_common : Found
  common : List Shown → Found

abbrev pub found_in : DeckView → Found
found_in d = if d.common then common d.lines else not_common

abbrev pub look_in : ℕ → List DeckView → Found
look_in w [] = missing
look_in w (d ∷ ds) = let later = look_in w ds in if eqb w d.name then found_in d else later

unfoldable pub called_deck : ℕ → List DeckView → Found
called_deck w ds = if eqb w reserved then not_common else look_in w ds

-- THE WALK: lines so far, in order, and calls so far; or a refusal with the card
pub data Walk : Type 0 where
  walked : List (List ℕ) → ℕ → Walk
  halted : Stop → ℕ → ℕ → Walk

abbrev pub halt_at : Stop → Shown → Walk
halt_at k c = halted k c.owner c.seq

abbrev pub then_on : Walk → (List (List ℕ) → ℕ → Walk) → Walk
then_on (walked ls n) f = f ls n
then_on (halted k o s) f = halted k o s

-- how a called deck's cards are walked from the lines and calls given, for the card that calls it
abbrev pub Inner : Type 0
Inner = Shown → List Shown → List (List ℕ) → ℕ → Walk

abbrev pub open_deck : Shown → Found → (List Shown → Walk) → Walk
open_deck c missing f = halt_at NoDeck c
open_deck c not_common f = halt_at NotCommon c
open_deck c (common cs) f = f cs

-- one card: a CALL opens a deck, or is 40 where it is malformed; any other card is written, or is 44 where `room` lines stand already
abbrev pub at_card : List DeckView → ℕ → Inner → Shown → Call → List (List ℕ) → ℕ → Walk
at_card ds room inner c Malformed ls n = halt_at NoDeck c
at_card ds room inner c (Of w) ls n = open_deck c (called_deck w ds) (λ cs. inner c cs ls n)
at_card ds room inner c Not ls n = if ltb (length ls) room then walked (ls ++ (printed c ∷ [])) n else halt_at Space c

abbrev pub walk_cards : List DeckView → ℕ → Inner → List Shown → List (List ℕ) → ℕ → Walk
walk_cards ds room inner [] ls n = walked ls n
walk_cards ds room inner (c ∷ cs) ls n = then_on (at_card ds room inner c (call_of c.line) ls n) (λ ls' n'. walk_cards ds room inner cs ls' n')

-- a called deck, with so many levels left, eight for a CALL in a normal deck: 42 where none is left, then 43 where 4,096 calls were opened already
abbrev pub called : List DeckView → ℕ → ℕ → Inner
called ds room zero c cs ls n = halt_at Deep c
called ds room (suc depth) c cs ls n = if ltb n 4096 then walk_cards ds room (called ds room depth) cs ls (suc n) else halt_at Many c

-- the chosen decks, in order
abbrev pub walk_decks : List DeckView → ℕ → List DeckView → List (List ℕ) → ℕ → Walk
walk_decks ds room [] ls n = walked ls n
walk_decks ds room (d ∷ rest) ls n =
    then_on (walk_cards ds room (called ds room 8) d.lines ls n) (λ ls' n'. walk_decks ds room rest ls' n')
