-- PROMISE. The units of a stream (RULES, "Units").
--   what a line is to its unit     Role, role_of
--   names                          unit_names, set_names, names_yanked, gather, names_of, sets_of, yanked_names
--   streams of sets                starts_deck, only_sets
--   a set that only yanks          yanks_or_skips, only_yanks, opens_yanking, is_yanking_set
use Rattle.std.specs.Prelude.{ℕ, Bool, true, false, not, List, [], ◌∷◌, ◌++◌}
use Rattle.words.specs.Base.{all}
use Rattle.words_lines.specs.Directive.{directive, yank_names}
use Rattle.words_lines.specs.declared.Line.{Line}
use Rattle.words_lines.specs.declared.Line.TheVariants.{Text, Skipped, Deck as DeckLine·, Comdeck, Ident, Insert, Before, Delete, Restore, Yank as YankLine, Outside as LineOutside, Long as LineLong, Malformed as LineMalformed, NotCarried as LineNotCarried}

-- it starts a unit of this name, yanks, is skipped, or does something else
pub data Role : Type 0 where
  deck_start set_start : ℕ → Role
  yank_line skipped_line other_line : Role

abbrev pub role_of : Line → Role
role_of (DeckLine· w) = deck_start w
role_of (Comdeck w) = deck_start w
role_of (Ident w) = set_start w
role_of YankLine = yank_line
role_of Skipped = skipped_line
role_of Text = other_line
role_of (Insert r) = other_line
role_of (Before r) = other_line
role_of (Delete a b) = other_line
role_of (Restore a b) = other_line
role_of LineOutside = other_line
role_of LineLong = other_line
role_of LineMalformed = other_line
role_of LineNotCarried = other_line

-- NAMES: of the unit that a line starts; of the set that it starts; of what a YANK line names
abbrev pub unit_names : Role → List ℕ
unit_names (deck_start w) = w ∷ []
unit_names (set_start w) = w ∷ []
unit_names yank_line = []
unit_names skipped_line = []
unit_names other_line = []

abbrev pub set_names : Role → List ℕ
set_names (deck_start w) = []
set_names (set_start w) = w ∷ []
set_names yank_line = []
set_names skipped_line = []
set_names other_line = []

abbrev pub names_yanked : Role → List ℕ → List ℕ
names_yanked (deck_start w) l = []
names_yanked (set_start w) l = []
names_yanked yank_line l = yank_names l
names_yanked skipped_line l = []
names_yanked other_line l = []

-- those of all lines, in order
abbrev pub gather : (List ℕ → List ℕ) → List (List ℕ) → List ℕ
gather names [] = []
gather names (l ∷ ls) = names l ++ gather names ls

abbrev pub names_of : List (List ℕ) → List ℕ
names_of ls = gather (λ l. unit_names (role_of (directive l))) ls

abbrev pub sets_of : List (List ℕ) → List ℕ
sets_of ls = gather (λ l. set_names (role_of (directive l))) ls

abbrev pub yanked_names : List (List ℕ) → List ℕ
yanked_names ls = gather (λ l. names_yanked (role_of (directive l)) l) ls

-- STREAMS OF SETS: no unit is a deck's
abbrev pub starts_deck : Role → Bool
starts_deck (deck_start w) = true
starts_deck (set_start w) = false
starts_deck yank_line = false
starts_deck skipped_line = false
starts_deck other_line = false

abbrev pub only_sets : List (List ℕ) → Bool
only_sets ls = all (λ l. not (starts_deck (role_of (directive l)))) ls

-- A SET THAT ONLY YANKS: one IDENT line, then YANK lines, with skipped lines anywhere
abbrev pub yanks_or_skips : Role → Bool
yanks_or_skips (deck_start w) = false
yanks_or_skips (set_start w) = false
yanks_or_skips yank_line = true
yanks_or_skips skipped_line = true
yanks_or_skips other_line = false

abbrev pub only_yanks : List (List ℕ) → Bool
only_yanks ls = all (λ l. yanks_or_skips (role_of (directive l))) ls

-- what is asked of the lines after a first one: `on` where it is skipped, `after` where it is the IDENT line
abbrev pub opens_yanking : Role → Bool → Bool → Bool
opens_yanking (deck_start w) on after = false
opens_yanking (set_start w) on after = after
opens_yanking yank_line on after = false
opens_yanking skipped_line on after = on
opens_yanking other_line on after = false

abbrev pub is_yanking_set : List (List ℕ) → Bool
is_yanking_set [] = false
is_yanking_set (l ∷ ls) = opens_yanking (role_of (directive l)) (is_yanking_set ls) (only_yanks ls)
