-- A range marked in one part: the tables, the count of YANK$$$ and all that is not in that part stay.
use Prim.Native.Nat.{ℕ, zero, suc, ◌+◌, ◌-◌, ◌≤◌, ◌<◌}
use native.Mathlib.Omega.{arith}
use mathlib.Core.Path.{◌≡◌, refl, sym, ap, ◌∙◌, subst}
use mathlib.Core.Bool.{Bool, true, false, ◌||◌, not}
use mathlib.Core.List.{List, [], ◌∷◌, map}
use lib.Dec.{T, eqb, eqb→eq}
use lib.ListN.{length, take}
use Rattle.library.specs.Library.{Card, Deck, Library, deck_cards, parts, stream, deck_names}
use Rattle.library.specs.Yanks.{yanked}
use Rattle.run_meaning.specs.Step.{in_deck, unit_number, change_at, marked, over_range, number_at, mark_in, Spot, is_deck_spot, is_barred}
use Rattle.run_meaning.specs.Flat.{ahead, Stood, flat, HasPlace, flat_place}
use Rattle.run.specs.Desk.{TextGoes, Tables}
use Rattle.run.specs.declared.desk.Desk.{Desk}
use Rattle.run.specs.declared.desk.TextAt.TheVariants.{Gap as TextGap}
use Rattle.run_meaning.proofs.FlatFind.{stood-below}
use Rattle.run_meaning.proofs.FlatFlags.{flags-decks}
use Rattle.run_meaning.proofs.FlatLimits.{range-cards}
use Rattle.run.proofs.Texting.{ahead-change, tables-change}

-- the marks of a range in deck k
abbrev marks_at : Library → Bool → ℕ → Card → Card
marks_at l was k = marked (yanked l (number_at l.decks k)) was (unit_number l)

pub mark-tables : (dir names decks : List ℕ) (d e : Desk) (l : Library) (was : Bool) (p i j : ℕ) → e.entries ≡ d.entries → e.decks ≡ d.decks
    → Tables dir names decks d l → Tables dir names decks e (mark_in l was p i j)
unfolding deck_names
mark-tables dir names decks d e l was zero i j x y t = record {
  directory = ap (λ (n : ℕ). take n dir) x ∙ t.directory;
  entries = x ∙ t.entries;
  listed = ap (λ (n : ℕ). take (n + 1) names) y ∙ t.listed;
  count = y ∙ t.count;
  marked = t.marked;
}
mark-tables dir names decks d e l was (suc k) i j x y t = tables-change dir names decks d e l (over_range (marks_at l was k) (i - 1) (j - 1)) k x y t

pub mark-yanks : (l : Library) (was : Bool) (p i j : ℕ) → length (mark_in l was p i j).yanks ≡ length l.yanks
mark-yanks l was zero i j = range-cards (marked (yanked l 0) was (unit_number l)) i j l.yanks
mark-yanks l was (suc k) i j = refl

not-zero : (P : Type 0) → eqb 0 0 ≡ false → P
not-zero P e = let z : ◌≡◌ {A = ℕ} 0 1 = cc in absurd (omega arith)

not-suc : (P : Type 0) (k : ℕ) → eqb (suc k) 0 ≡ true → P
not-suc P k e = let z : suc k ≡ 0 = eqb→eq (suc k) 0 (subst (λ (b : Bool). T b) (sym e) tt) in absurd (omega (arith, z))

-- IN A DECK: YANK$$$ stays, and what is yanked
pub mark-same-yanks : (l : Library) (was : Bool) (p i j : ℕ) → eqb p 0 ≡ false → (mark_in l was p i j).yanks ≡ l.yanks
mark-same-yanks l was zero i j e = not-zero _ e
mark-same-yanks l was (suc k) i j e = refl

pub mark-same-flags : (l : Library) (was : Bool) (p i j : ℕ) → eqb p 0 ≡ false → yanked (mark_in l was p i j) ≡ yanked l
mark-same-flags l was zero i j e = not-zero _ e
mark-same-flags l was (suc k) i j e = flags-decks l (change_at (over_range (marks_at l was k) (i - 1) (j - 1)) k l.decks)

-- and text goes directly after the range
place-marked : (f : Card → Card) (x y k j : ℕ) (ds : List Deck) → Stood (map deck_cards ds) k j → HasPlace (change_at (over_range f x y) k ds) k j
place-marked f x y k j [] h = absurd h
place-marked f x y zero j (d ∷ ds) h = omega (arith, h, range-cards f x y d.cards)
place-marked f x y (suc k) j (d ∷ ds) h = place-marked f x y k j ds h

pub mark-place : (l : Library) (was : Bool) (p i j n : ℕ) → eqb p 0 ≡ false → Stood (parts l) p j → n ≡ ahead (parts l) p + j + 1
    → TextGoes (mark_in l was p i j) n TextGap (in_deck (p - 1) j)
mark-place l was zero i j n e h q = not-zero _ e
mark-place l was (suc k) i j n e h q =
    let m : k ≡ suc k - 1 = omega arith in
    let new : Library = mark_in l was (suc k) i j in
    subst (λ (x : ℕ). HasPlace new.decks x j × (n ≡ flat_place new x j)) m
    (place-marked (marks_at l was k) (i - 1) (j - 1) k j l.decks h, omega (arith, q, ahead-change (over_range (marks_at l was k) (i - 1) (j - 1)) k l.decks))

-- IN YANK$$$: the decks stay
pub mark-same-decks : (l : Library) (was : Bool) (p i j : ℕ) → eqb p 0 ≡ true → (mark_in l was p i j).decks ≡ l.decks
mark-same-decks l was zero i j e = refl
mark-same-decks l was (suc k) i j e = not-suc _ k e

-- a range that is not barred is in one part and does not begin at a deck card
pub unbarred : (a b : Spot) → is_barred a b ≡ false → (a.part ≡ b.part) × (is_deck_spot a ≡ false)
unbarred a b e = go (eqb a.part b.part) (is_deck_spot a) (eqb→eq a.part b.part) refl e
  where
    go : (x y : Bool) → (T x → a.part ≡ b.part) → is_deck_spot a ≡ y → (not x || y) ≡ false → (a.part ≡ b.part) × (is_deck_spot a ≡ false)
    go true y f q h = (f tt, q ∙ h)
    go false y f q h = let z : ◌≡◌ {A = ℕ} 0 1 = cc in absurd (omega arith)

pub index-order : (l : Library) (a b : Spot) → a.part ≡ b.part → flat l a ≤ flat l b → a.index ≤ b.index
index-order l a b e le = let f : ahead (parts l) a.part ≡ ahead (parts l) b.part = ap (ahead (parts l)) e in omega (arith, le)

-- a spot's card is one of the stream's
pub spot-below : (l : Library) (a : Spot) → Stood (parts l) a.part a.index → flat l a < length (stream l)
unfolding stream
spot-below l a h = stood-below (parts l) a.part a.index h
