-- A line that starts no deck unit adds no deck.
use Prim.Native.Nat.{ℕ, zero, suc, ◌-◌}
use mathlib.Core.Path.{◌≡◌, refl, ap, ◌∙◌}
use mathlib.Core.Bool.{Bool, true, false, not, ◌||◌}
use mathlib.Core.List.{List, [], ◌∷◌}
use mathlib.Core.Option.{Option, none, some}
use lib.Dec.{T}
use lib.ListN.{length}
use Rattle.words.specs.Base.{any}
use Rattle.words_lines.specs.Directive.{directive, yank_names}
use Rattle.words_lines.specs.declared.Line.{Line}
use Rattle.words_lines.specs.declared.Line.TheVariants.{Text, Skipped, Deck as DeckLine·, Comdeck, Ident, Insert, Before, Delete, Restore, Yank as YankLine, Outside as LineOutside, Long as LineLong, Malformed as LineMalformed, NotCarried as LineNotCarried}
use Rattle.library.specs.Library.{Card, Deck, Library}
use Rattle.run_meaning.specs.Step.{TextPlace, nowhere, in_yanks, in_deck, State, went, limited, change_at, after_text, put_text, is_known, after_ident, with_place, is_unknown, is_no_set, after_yank, Spot, is_backwards, is_yank_part, is_deck_spot, is_barred, place_after, insert_after, insert_before, mark_in, after_mark, mark_range, find, obey, step}
use Rattle.run_meaning.specs.Units.{role_of, starts_deck}
use Rattle.run_meaning.specs.declared.Why.TheVariants.{Known, Unknown as UnknownName, NoSet, Backwards, Barred}
use Rattle.run_meaning.proofs.HoldsThrough.{Went, refuse-went, limited-went, in-set-went}

pub length-change : (f : List Card → List Card) (k : ℕ) (ds : List Deck) → length (change_at f k ds) ≡ length ds
length-change f k [] = refl
length-change f zero (d ∷ ds) = refl
length-change f (suc k) (d ∷ ds) = ap suc (length-change f k ds)

pub mark-decks : (l : Library) (was : Bool) (p i j : ℕ) → length (mark_in l was p i j).decks ≡ length l.decks
mark-decks l was zero i j = refl
mark-decks l was (suc k) i j = length-change _ k l.decks

abbrev pub HasDecks : ℕ → State → Type 0
HasDecks n s = length s.lib.decks ≡ n

module _ (n : ℕ) where
  text-decks : (s : State) (l : List ℕ) (p : TextPlace) → HasDecks n s → Went (HasDecks n) (put_text s l p)
  text-decks s l nowhere h = tt
  text-decks s l in_yanks h = tt
  text-decks s l (in_deck k i) h = limited-went (HasDecks n) (after_text s l k i) (length-change _ k s.lib.decks ∙ h)

  after-decks : (s : State) (o : Option Spot) → HasDecks n s → Went (HasDecks n) (insert_after s o)
  after-decks s none h = tt
  after-decks s (some a) h = refuse-went (HasDecks n) (is_yank_part a) Barred (went (with_place s (place_after a))) (λ _. h)

  before-decks : (s : State) (o : Option Spot) → HasDecks n s → Went (HasDecks n) (insert_before s o)
  before-decks s none h = tt
  before-decks s (some a) h =
      refuse-went (HasDecks n) (is_yank_part a || is_deck_spot a) Barred (went (with_place s (in_deck (a.part - 1) (a.index - 1)))) (λ _. h)

  range-decks : (s : State) (was : Bool) (a b : Option Spot) → HasDecks n s → Went (HasDecks n) (mark_range s was a b)
  range-decks s was none b h = tt
  range-decks s was (some a) none h = tt
  range-decks s was (some a) (some b) h =
      refuse-went (HasDecks n) (is_backwards a b) Backwards _
      (λ _. refuse-went (HasDecks n) (is_barred a b) Barred (limited (after_mark s was a b))
      (λ _. limited-went (HasDecks n) (after_mark s was a b) (mark-decks s.lib was a.part a.index b.index ∙ h)))

  obey-decks : (s : State) (l : List ℕ) (a : Line) → T (not (starts_deck (role_of a))) → HasDecks n s → Went (HasDecks n) (obey s l a)
  obey-decks s l LineOutside t h = tt
  obey-decks s l LineLong t h = tt
  obey-decks s l LineMalformed t h = tt
  obey-decks s l LineNotCarried t h = tt
  obey-decks s l Text t h = text-decks s l s.place h
  obey-decks s l Skipped t h = h
  obey-decks s l (DeckLine· w) t h = absurd t
  obey-decks s l (Comdeck w) t h = absurd t
  obey-decks s l (Ident w) t h =
      refuse-went (HasDecks n) (is_known s.lib w) Known (limited (after_ident s w)) (λ _. limited-went (HasDecks n) (after_ident s w) h)
  obey-decks s l YankLine t h =
      in-set-went (HasDecks n) s _
      (λ _. refuse-went (HasDecks n) (any (is_unknown s.lib) (yank_names l)) UnknownName _
      (λ _. refuse-went (HasDecks n) (any (is_no_set s.lib) (yank_names l)) NoSet (limited (after_yank s l))
      (λ _. limited-went (HasDecks n) (after_yank s l) h)))
  obey-decks s l (Insert r) t h = in-set-went (HasDecks n) s (insert_after s (find s.lib r)) (λ _. after-decks s (find s.lib r) h)
  obey-decks s l (Before r) t h = in-set-went (HasDecks n) s (insert_before s (find s.lib r)) (λ _. before-decks s (find s.lib r) h)
  obey-decks s l (Delete a b) t h =
      in-set-went (HasDecks n) s (mark_range s true (find s.lib a) (find s.lib b)) (λ _. range-decks s true (find s.lib a) (find s.lib b) h)
  obey-decks s l (Restore a b) t h =
      in-set-went (HasDecks n) s (mark_range s false (find s.lib a) (find s.lib b)) (λ _. range-decks s false (find s.lib a) (find s.lib b) h)

pub step-decks : (n : ℕ) (s : State) (l : List ℕ) → T (not (starts_deck (role_of (directive l)))) → HasDecks n s → Went (HasDecks n) (step s l)
unfolding step
step-decks n s l t h = obey-decks n s l (directive l) t h
