-- MEANING. When a set is yanked and a card is active (RULES, "When a card is active").
--   a card's activity          last_says, active
--   what a YANK card acts on   Target, covers, is_yank, targets
--   the rule                   Yank, yanks_of, yanked_by, Solves
--   its solution               settled, settled_yanks, yanked
use Rattle.std.specs.Prelude.{ℕ, zero, suc, ◌-◌, ◌≡◌, Bool, true, false, ◌&&◌, List, [], ◌∷◌, map, eqb, length, if◌then◌else◌}
use Rattle.words.specs.Base.{any, member}
use Rattle.words_lines.specs.Directive.{directive, yank_names}
use Rattle.words_lines.specs.declared.Line.{Line}
use Rattle.words_lines.specs.declared.Line.TheVariants.{Text, Skipped, Deck as DeckLine·, Comdeck, Ident, Insert, Before, Delete, Restore, Yank as YankLine, Outside, Long, Malformed, NotCarried}
use Rattle.library.specs.Library.{Byte, Card, Library, history, entry_of}

-- bytes with yanked numbers count for nothing; the last of the others says whether the card is active, and where there are none it is not:
-- what the bytes so far say, and then what the rest of them make of it
abbrev pub last_says : (ℕ → Bool) → Bool → List Byte → Bool
last_says yanked so [] = so
last_says yanked so (b ∷ bs) = last_says yanked (if yanked b.number then so else b.activating) bs

-- under what is yanked in the deck where the card stands
unfoldable pub active : (ℕ → Bool) → Card → Bool
active yanked c = last_says yanked false (history c)

-- what a card of YANK$$$ acts on, and whether that is the bytes numbered n of the cards in a deck (0: YANK$$$ itself)
pub data Target : Type 0 where
  whole_set : ℕ → Target

abbrev pub covers : ℕ → ℕ → Target → Bool
covers deck n (whole_set m) = eqb n m

abbrev pub is_yank : Line → Bool
is_yank YankLine = true
is_yank Text = false
is_yank Skipped = false
is_yank (DeckLine· w) = false
is_yank (Comdeck w) = false
is_yank (Ident w) = false
is_yank (Insert r) = false
is_yank (Before r) = false
is_yank (Delete a b) = false
is_yank (Restore a b) = false
is_yank Outside = false
is_yank Long = false
is_yank Malformed = false
is_yank NotCarried = false

unfoldable pub targets : List ℕ → List ℕ → List Target
targets directory l = if is_yank (directive l) then map (λ w. whole_set (entry_of directory w)) (yank_names l) else []

-- a card of YANK$$$ as it counts for yanking
pub record Yank : Type 0 where
  pub acts : List Target
  pub bytes : List Byte

unfoldable pub yanks_of : Library → List Yank
yanks_of l = map (λ c. record { acts = targets l.directory c.line; bytes = history c }) l.yanks

-- THE RULE: a number is yanked where a card of YANK$$$ acts on it and is active, given what is yanked in YANK$$$ itself
abbrev pub yanked_by : List Yank → (ℕ → Bool) → ℕ → ℕ → Bool
yanked_by ys in_yanks deck n = any (λ y. any (covers deck n) y.acts && last_says in_yanks false y.bytes) ys

-- which numbers are yanked in YANK$$$: a solution of the rule
abbrev pub Solves : List Yank → (ℕ → Bool) → Type 0
Solves ys f = (n : ℕ) → f n ≡ yanked_by ys f 0 n

-- number by number, from top on downwards: the yanked ones among the k highest, each told by those above it
abbrev pub settled : List Yank → ℕ → ℕ → List ℕ
settled ys top zero = []
settled ys top (suc k) =
    let higher : List ℕ = settled ys top k in
    if yanked_by ys (λ n. member n higher) 0 (top - k) then ((top - k) ∷ higher) else higher

unfoldable pub settled_yanks : Library → List ℕ
settled_yanks l = settled (yanks_of l) (length l.directory) (length l.directory)

-- whether the bytes numbered n are yanked on the cards of a deck (0: YANK$$$)
unfoldable pub yanked : Library → ℕ → ℕ → Bool
yanked l = let ys : List Yank = yanks_of l in let s : List ℕ = settled_yanks l in λ deck n. yanked_by ys (λ m. member m s) deck n
