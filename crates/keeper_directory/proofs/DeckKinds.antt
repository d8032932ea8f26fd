-- Each deck's kind stands at its number, as the deck cards stand. Assumes nothing.
--   kind-out, shown-kind     one deck card
--   cards-decks              those of all cards are those of the decks that they part into
--   decks-kinds              each deck's kind stands at its number
use Rattle.std.specs.Prelude.{if◌then◌else◌}
use Prim.Native.Nat.{ℕ, ◌≤◌, ◌<◌}
use native.Mathlib.Omega.{arith}
use mathlib.Core.Path.{◌≡◌, refl, sym, ap, ◌∙◌, subst}
use mathlib.Core.Bool.{Bool, true, false, not, ◌||◌}
use mathlib.Core.List.{List, [], ◌∷◌, map}
use borrow.Author.Tests.{eqb-true, eqb-false}
use lib.Dec.{T, eqb}
use lib.ListN.{length, get_or, set, length-set}
use lib.Seq.{set_out, get_or-set_same, get_or-set_other}
use Rattle.words.specs.Base.{any}
use Rattle.library.specs.Library.{Deck, DeckLine, not_deck, bad_deck, deck_of, deck_line}
use Rattle.library.specs.Check.{Stored, part_at, parted_by}
use Rattle.library.specs.Asked.{deck_line_of}
use Rattle.library.specs.declared.Seen.{Seen}
use Rattle.library.specs.Sound.{no_two}
use Rattle.library.proofs.EachTest.{and_parts}
use Rattle.library.specs.declared.DeckLine.{DeckLine as DeckAnswer}
use Rattle.library.specs.declared.DeckLine.TheVariants.{NotDeck, BadDeck, Deck as DeckOf, Common as CommonOf}
use Rattle.library_image.specs.Places.{seen_at, line_in}
use Rattle.library_check.specs.Walks.{Walk}
use Rattle.library_check.proofs.Showing.{shown-owner}
use Rattle.library_check.proofs.Decking.{shown-deck}
use Rattle.keeper_directory.specs.Keeper.{deck_byte, deck_kind}
use Rattle.keeper_directory.specs.Parts.{kind_put, kinds_of}

-- ONE DECK CARD
pub kind-out : (kinds : List ℕ) (n : ℕ) (a : DeckAnswer) → length kinds ≤ n → kinds ≡ kind_put kinds n a
kind-out kinds n NotDeck h = refl
kind-out kinds n BadDeck h = refl
kind-out kinds n (DeckOf w) h = sym (set_out kinds n 68 h)
kind-out kinds n (CommonOf w) h = sym (set_out kinds n 67 h)

-- a card as it is seen
pub shown-kind : (d ws : List ℕ) (at : ℕ) (s : Stored) (w : Walk d ws at s) (r : Seen) (sees : r ≡ seen_at ws at) (a : DeckAnswer) → a ≡ deck_line_of (deck_line (line_in ws r.text r.next))
    → (kinds after : List ℕ) → after ≡ kind_put kinds r.owner a → (t : List Stored) → kinds_of (s ∷ t) kinds ≡ kinds_of t after
shown-kind d ws at s w r sees a reads kinds after e t =
    let o : r.owner ≡ s.card.owner = shown-owner d ws at s w r sees in
    let k : a ≡ deck_line_of (deck_line s.card.line) = shown-deck d ws at s w r sees a reads in
    sym (ap (kinds_of t) (e ∙ (λ i. kind_put kinds (o i) (k i))))

-- THE DECKS that cards part into
abbrev pub decks_kinds : List Deck → List ℕ → List ℕ
decks_kinds [] kinds = kinds
decks_kinds (d ∷ ds) kinds = decks_kinds ds (set kinds d.number (deck_byte d.common))

pub cards-decks : (ss : List Stored) (kinds : List ℕ) → kinds_of ss kinds ≡ decks_kinds (parted_by ss).decks kinds
cards-decks [] kinds = refl
cards-decks (s ∷ ss) kinds = go (deck_line s.card.line) (cards-decks ss)
  where
    go : (l : DeckLine) → ((ks : List ℕ) → kinds_of ss ks ≡ decks_kinds (parted_by ss).decks ks)
        → kinds_of ss (kind_put kinds s.card.owner (deck_line_of l)) ≡ decks_kinds (part_at l s.card (parted_by ss)).decks kinds
    go not_deck on = on kinds
    go bad_deck on = on kinds
    go (deck_of true w) on = on (set kinds s.card.owner 67)
    go (deck_of false w) on = on (set kinds s.card.owner 68)

-- EACH DECK'S KIND: a number that is none of theirs keeps what it has
others-stay : (ds : List Deck) (kinds : List ℕ) (n : ℕ) → T (not (any (eqb n) (map (λ d. d.number) ds))) → get_or (decks_kinds ds kinds) n 0 ≡ get_or kinds n 0
others-stay [] kinds n t = refl
others-stay (d ∷ ds) kinds n t = go (eqb n d.number) refl t (others-stay ds (set kinds d.number (deck_byte d.common)) n)
  where
    go : (b : Bool) → eqb n d.number ≡ b → T (not (b || any (eqb n) (map (λ e. e.number) ds)))
        → (T (not (any (eqb n) (map (λ e. e.number) ds))) → get_or (decks_kinds ds (set kinds d.number (deck_byte d.common))) n 0 ≡ get_or (set kinds d.number (deck_byte d.common)) n 0)
        → get_or (decks_kinds ds (set kinds d.number (deck_byte d.common))) n 0 ≡ get_or kinds n 0
    go true e u on = absurd u
    go false e u on = on u ∙ get_or-set_other kinds d.number n (deck_byte d.common) 0 (eqb-false n d.number e)

pub decks-kinds : (ds : List Deck) (kinds : List ℕ) (n : ℕ) → n < length kinds → get_or kinds n 0 ≡ 83 → T (no_two eqb (map (λ d. d.number) ds)) → get_or (decks_kinds ds kinds) n 0 ≡ deck_kind n ds
decks-kinds [] kinds n h e t = e
decks-kinds (d ∷ ds) kinds n h e t =
    go (eqb d.number n) refl
    (λ q u. decks-kinds ds (set kinds d.number (deck_byte d.common)) n (omega (arith, length-set kinds d.number (deck_byte d.common))) q u)
  where
    q : T (not (any (eqb d.number) (map (λ e. e.number) ds))) × T (no_two eqb (map (λ e. e.number) ds))
    q = and_parts (not (any (eqb d.number) (map (λ e. e.number) ds))) (no_two eqb (map (λ e. e.number) ds)) t

    go : (c : Bool) → eqb d.number n ≡ c
        → (get_or (set kinds d.number (deck_byte d.common)) n 0 ≡ 83 → T (no_two eqb (map (λ e. e.number) ds)) → get_or (decks_kinds ds (set kinds d.number (deck_byte d.common))) n 0 ≡ deck_kind n ds)
        → get_or (decks_kinds ds (set kinds d.number (deck_byte d.common))) n 0 ≡ (if c then deck_byte d.common else deck_kind n ds)
    go true p on =
        let is : d.number ≡ n = eqb-true d.number n p in
        let none : T (not (any (eqb n) (map (λ e. e.number) ds))) = subst (λ (m : ℕ). T (not (any (eqb m) (map (λ e. e.number) ds)))) is q.0 in
        others-stay ds (set kinds d.number (deck_byte d.common)) n none
        ∙ ap (λ (m : ℕ). get_or (set kinds m (deck_byte d.common)) n 0) is ∙ get_or-set_same kinds n (deck_byte d.common) 0 h
    go false p on =
        let ne : n ≡ d.number → ⊥ = λ z. eqb-false d.number n p (sym z) in
        on (get_or-set_other kinds d.number n (deck_byte d.common) 0 ne ∙ e) q.1
