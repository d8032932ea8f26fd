-- Each line adds the cards that are counted for it, and a mark leaves as many cards as there were.
use Prim.Native.Nat.{ℕ, zero, suc, ◌+◌, ◌-◌}
use native.Mathlib.Omega.{arith}
use mathlib.Core.Path.{◌≡◌, refl, sym, ap, ◌∙◌, subst}
use mathlib.Core.Bool.{Bool, true, false, ◌||◌}
use mathlib.Core.List.{List, [], ◌∷◌, map}
use mathlib.Core.Option.{Option, none, some}
use lib.ListN.{length, length-append}
use Rattle.words.specs.Base.{any}
use Rattle.words_lines.specs.Directive.{directive, yank_names}
use Rattle.words_lines.specs.declared.Line.{Line}
use Rattle.words_lines.specs.declared.Line.TheVariants.{Text, Skipped, Deck as DeckLine·, Comdeck, Ident, Insert, Before, Delete, Restore, Yank as YankLine, Outside as LineOutside, Long as LineLong, Malformed as LineMalformed, NotCarried as LineNotCarried}
use Rattle.library.specs.Library.{Card, Deck, Library, deck_card, deck_cards, joined, stream}
use Rattle.library.proofs.InsertedElement.{inserted-length, inserted-left, inserted-right, inserted-end}
use Rattle.run_meaning.specs.Step.{TextPlace, nowhere, in_yanks, in_deck, State, Step, went, refused, limited, change_at, new_card, after_text, put_text, is_known, new_deck, after_deck, put_deck, after_ident, with_place, is_unknown, is_no_set, after_yank, Spot, is_backwards, is_yank_part, is_deck_spot, is_barred, place_after, insert_after, insert_before, over_range, mark_in, after_mark, mark_range, find, obey, step}
use Rattle.run_meaning.specs.Run.{steps}
use Rattle.run_meaning.specs.Kept.{cards_of, cards_added}
use Rattle.run_meaning.specs.declared.Why.TheVariants.{Known, Unknown as UnknownName, NoSet, Backwards, Barred}
use Rattle.run_meaning.proofs.HoldsThrough.{Went, Ended, refuse-went, limited-went, in-set-went, onward-ended}
use Rattle.run_meaning.specs.Safe.{Open, Safe}
use Rattle.run_meaning.proofs.ChangedParts.{inserted-change, inserted-deck}
use Rattle.run_meaning.proofs.StepSound.{step-safe}

-- MARKS
length-range : (f : Card → Card) (i j : ℕ) (cs : List Card) → length (over_range f i j cs) ≡ length cs
length-range f i j [] = refl
length-range f (suc i) j (c ∷ cs) = ap suc (length-range f i (j - 1) cs)
length-range f zero zero (c ∷ cs) = refl
length-range f zero (suc j) (c ∷ cs) = ap suc (length-range f zero j cs)

length-same : (f : List Card → List Card) → ((cs : List Card) → length (f cs) ≡ length cs) → (k : ℕ) (ds : List Deck)
    → length (joined (map deck_cards (change_at f k ds))) ≡ length (joined (map deck_cards ds))
length-same f h k [] = refl
length-same f h zero (d ∷ ds) =
    omega (arith, length-append (deck_card d ∷ f d.cards) (joined (map deck_cards ds)), length-append (deck_cards d) (joined (map deck_cards ds)), h d.cards)
length-same f h (suc k) (d ∷ ds) =
    omega (arith, length-append (deck_cards d) (joined (map deck_cards (change_at f k ds))), length-append (deck_cards d) (joined (map deck_cards ds)), length-same f h k ds)

-- A STATE WITH SO MANY CARDS
abbrev pub HasCards : ℕ → State → Type 0
HasCards n s = length (stream s.lib) ≡ n

stream-length : (l : Library) → length (stream l) ≡ length l.yanks + length (joined (map deck_cards l.decks))
unfolding stream
stream-length l = length-append l.yanks (joined (map deck_cards l.decks))

mark-cards : (l : Library) (was : Bool) (p i j : ℕ) → length (stream (mark_in l was p i j)) ≡ length (stream l)
mark-cards l was zero i j = stream-length (mark_in l was zero i j) ∙ ap (λ (n : ℕ). n + length (joined (map deck_cards l.decks))) (length-range _ i j l.yanks) ∙ sym (stream-length l)
mark-cards l was (suc k) i j =
    stream-length (mark_in l was (suc k) i j) ∙ ap (λ (n : ℕ). length l.yanks + n) (length-same _ (length-range _ (i - 1) (j - 1)) k l.decks) ∙ sym (stream-length l)

text-cards : (s : State) (l : List ℕ) (p : TextPlace) → Open s.lib s.next p → Went (HasCards (length (stream s.lib) + 1)) (put_text s l p)
unfolding stream
text-cards s l nowhere o = tt
text-cards s l in_yanks o = tt
text-cards s l (in_deck k i) o =
    limited-went (HasCards (length (stream s.lib) + 1)) (after_text s l k i)
    (inserted-length (new_card s l) (inserted-left (new_card s l) s.lib.yanks (inserted-change (new_card s l) i k s.lib.decks o.0)) ∙ omega arith)

deck-cards : (s : State) (common : Bool) (l : List ℕ) (w : ℕ) → Went (HasCards (length (stream s.lib) + 1)) (put_deck s common l w)
unfolding stream
deck-cards s common l w =
    let d : Deck = new_deck s.lib common l in
    refuse-went (HasCards (length (stream s.lib) + 1)) (is_known s.lib w) Known (limited (after_deck s common l w))
    (λ _. limited-went (HasCards (length (stream s.lib) + 1)) (after_deck s common l w)
    (inserted-length (deck_card d) (inserted-left (deck_card d) s.lib.yanks (inserted-deck d refl s.lib.decks)) ∙ omega arith))

ident-cards : (s : State) (w : ℕ) → HasCards (length (stream s.lib) + 0) (after_ident s w)
unfolding stream
ident-cards s w = omega arith

yank-cards : (s : State) (l : List ℕ) → HasCards (length (stream s.lib) + 1) (after_yank s l)
unfolding stream
yank-cards s l = inserted-length (new_card s l) (inserted-right (new_card s l) (joined (map deck_cards s.lib.decks)) (inserted-end (new_card s l) s.lib.yanks)) ∙ omega arith

module _ (n : ℕ) where
  after-cards : (s : State) (o : Option Spot) → HasCards n s → Went (HasCards n) (insert_after s o)
  after-cards s none h = tt
  after-cards s (some a) h = refuse-went (HasCards n) (is_yank_part a) Barred (went (with_place s (place_after a))) (λ _. h)

  before-cards : (s : State) (o : Option Spot) → HasCards n s → Went (HasCards n) (insert_before s o)
  before-cards s none h = tt
  before-cards s (some a) h =
      refuse-went (HasCards n) (is_yank_part a || is_deck_spot a) Barred (went (with_place s (in_deck (a.part - 1) (a.index - 1)))) (λ _. h)

  range-cards : (s : State) (was : Bool) (a b : Option Spot) → HasCards n s → Went (HasCards n) (mark_range s was a b)
  range-cards s was none b h = tt
  range-cards s was (some a) none h = tt
  range-cards s was (some a) (some b) h =
      refuse-went (HasCards n) (is_backwards a b) Backwards _
      (λ _. refuse-went (HasCards n) (is_barred a b) Barred (limited (after_mark s was a b))
      (λ _. limited-went (HasCards n) (after_mark s was a b) (mark-cards s.lib was a.part a.index b.index ∙ h)))

-- A LINE
obey-cards : (s : State) (l : List ℕ) (a : Line) → Safe s → Went (HasCards (length (stream s.lib) + cards_of a)) (obey s l a)
obey-cards s l LineOutside h = tt
obey-cards s l LineLong h = tt
obey-cards s l LineMalformed h = tt
obey-cards s l LineNotCarried h = tt
obey-cards s l Text h = text-cards s l s.place h.place
obey-cards s l Skipped h = omega arith
obey-cards s l (DeckLine· w) h = deck-cards s false l w
obey-cards s l (Comdeck w) h = deck-cards s true l w
obey-cards s l (Ident w) h =
    refuse-went _ (is_known s.lib w) Known (limited (after_ident s w)) (λ _. limited-went (HasCards (length (stream s.lib) + 0)) (after_ident s w) (ident-cards s w))
obey-cards s l YankLine h =
    in-set-went _ s _
    (λ _. refuse-went _ (any (is_unknown s.lib) (yank_names l)) UnknownName _
    (λ _. refuse-went _ (any (is_no_set s.lib) (yank_names l)) NoSet (limited (after_yank s l))
    (λ _. limited-went (HasCards (length (stream s.lib) + 1)) (after_yank s l) (yank-cards s l))))
obey-cards s l (Insert r) h = in-set-went _ s (insert_after s (find s.lib r)) (λ _. after-cards (length (stream s.lib) + 0) s (find s.lib r) (omega arith))
obey-cards s l (Before r) h = in-set-went _ s (insert_before s (find s.lib r)) (λ _. before-cards (length (stream s.lib) + 0) s (find s.lib r) (omega arith))
obey-cards s l (Delete a b) h =
    in-set-went _ s (mark_range s true (find s.lib a) (find s.lib b)) (λ _. range-cards (length (stream s.lib) + 0) s true (find s.lib a) (find s.lib b) (omega arith))
obey-cards s l (Restore a b) h =
    in-set-went _ s (mark_range s false (find s.lib a) (find s.lib b)) (λ _. range-cards (length (stream s.lib) + 0) s false (find s.lib a) (find s.lib b) (omega arith))

step-cards : (s : State) (l : List ℕ) → Safe s → Went (HasCards (length (stream s.lib) + cards_of (directive l))) (step s l)
unfolding step
step-cards s l h = obey-cards s l (directive l) h

went-both : (P Q : State → Type 0) (r : Step) → Went P r → Went Q r → Went (λ t. P t × Q t) r
went-both P Q (went t) p q = (p, q)
went-both P Q (refused w) p q = tt

pub steps-cards : (s : State) (n : ℕ) (ls : List (List ℕ)) → Safe s → (k : ℕ) → HasCards k s → Ended (HasCards (k + cards_added ls)) (steps s n ls)
steps-cards s n [] h k e = omega arith
steps-cards s n (l ∷ ls) h k e =
    let m : ℕ = length (stream s.lib) + cards_of (directive l) in
    onward-ended (λ t. Safe t × HasCards m t) (HasCards (k + cards_added (l ∷ ls))) (step s l) (λ t. steps t (suc n) ls) n
    (went-both Safe (HasCards m) (step s l) (step-safe s l h) (step-cards s l h))
    (λ t p. subst (λ (j : ℕ). Ended (HasCards j) (steps t (suc n) ls)) (omega arith) (steps-cards t (suc n) ls p.0 m p.1))
