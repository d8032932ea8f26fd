-- A compile file sees of a merged library the first's decks and then the second's, each card as active.
use Rattle.std.specs.Prelude.{if◌then◌else◌}
use Prim.Native.Nat.{ℕ, ◌+◌, ◌≤◌, ◌<◌}
use mathlib.Core.Path.{◌≡◌, refl, sym, ap, ap₂, ◌∙◌}
use mathlib.Core.Bool.{Bool, true, false}
use mathlib.Core.List.{List, [], ◌∷◌, ◌++◌, map}
use lib.ListN.{length}
use Rattle.library.specs.Each.{Each}
use Rattle.library.specs.Library.{Card, Deck, history, name_at}
use Rattle.library.specs.Yanks.{active, yanked}
use Rattle.library.specs.Growth.{Within}
use Rattle.library.specs.Sound.{SoundCard, SoundDeck}
use Rattle.library.proofs.EachTest.{each_map}
use Rattle.library.proofs.YankTargets.{card-numbers, deck-number}
use Rattle.library.proofs.NameAtEnd.{name-append}
use Rattle.compile_walk.specs.View.{Shown, DeckView, shown_card, shown, view_decks, view, full_choice}
use Rattle.library_raise.specs.RaisedCards.{raise_card, raise_deck}
use Rattle.merge_meaning.specs.Merge.{merge}
use Rattle.merge_meaning.specs.Merged.{raise_deck_number}
use Rattle.demands.specs.MergedFile.{raise_shown, raise_view, ViewMerged}
use Rattle.library.proofs.NumbersBeyond.{name-beyond}
use Rattle.merge_meaning.proofs.MergedFlags.{positive, counted, yanked-first, yanked-raised}
use Rattle.library_raise.proofs.RaisedCardWords.{active-raised}
use Rattle.merge_meaning.proofs.MergedImage.{active-agree, raised-number}

-- THE FIRST'S
module _ (first second : List ℕ) where
  pub shown-first : (f g : ℕ → Bool) → ((n : ℕ) → n ≤ length first → g n ≡ f n) → (cs : List Card) → Each (SoundCard first) cs → shown g (first ++ second) cs ≡ shown f first cs
  shown-first f g h [] s = refl
  shown-first f g h (c ∷ cs) s =
      let act : active g c ≡ active f c = active-agree g f c (each_map _ _ (λ b r. h b.number r) (history c) (counted first c s.0)) in
      let name : name_at (first ++ second) c.owner ≡ name_at first c.owner = name-append first second c.owner (card-numbers first c s.0).0 in
      let rest : shown g (first ++ second) cs ≡ shown f first cs = shown-first f g h cs s.1 in
      λ i. if act i then (record { line = c.line; owner = c.owner; name = name i; seq = c.seq } ∷ rest i) else rest i

  pub decks-first : (f g : ℕ → ℕ → Bool) → ((deck n : ℕ) → n ≤ length first → g deck n ≡ f deck n) → (ds : List Deck) → Each (SoundDeck first) ds → view_decks g (first ++ second) ds ≡ view_decks f first ds
  decks-first f g h [] s = refl
  decks-first f g h (d ∷ ds) s =
      let name : name_at (first ++ second) d.number ≡ name_at first d.number = name-append first second d.number (deck-number first d s.0) in
      let lines : shown (g d.number) (first ++ second) d.cards ≡ shown (f d.number) first d.cards = shown-first (f d.number) (g d.number) (h d.number) d.cards s.0.cards in
      let rest : view_decks g (first ++ second) ds ≡ view_decks f first ds = decks-first f g h ds s.1 in
      λ i. record { name = name i; common = d.common; lines = lines i } ∷ rest i

  -- THE SECOND'S
  abbrev k : ℕ
  k = length first

  pick-raise : (b : Bool) (x : Shown) (xs : List Shown) → map (raise_shown k) (if b then (x ∷ xs) else xs) ≡ (if b then (raise_shown k x ∷ map (raise_shown k) xs) else map (raise_shown k) xs)
  pick-raise true x xs = refl
  pick-raise false x xs = refl

  shown-second : (f g : ℕ → Bool) → ((n : ℕ) → 0 < n → g (k + n) ≡ f n) → (cs : List Card) → Each (SoundCard second) cs
      → shown g (first ++ second) (map (raise_card k) cs) ≡ map (raise_shown k) (shown f second cs)
  shown-second f g h [] s = refl
  shown-second f g h (c ∷ cs) s =
      let act : active g (raise_card k c) ≡ active f c = active-raised k f g h c (positive second c s.0) in
      let name : name_at (first ++ second) (k + c.owner) ≡ name_at second c.owner = name-beyond first second c.owner (card-numbers second c s.0).0.0 in
      let rest : shown g (first ++ second) (map (raise_card k) cs) ≡ map (raise_shown k) (shown f second cs) = shown-second f g h cs s.1 in
      (λ i. if act i then (record { line = c.line; owner = k + c.owner; name = name i; seq = c.seq } ∷ rest i) else rest i)
      ∙ sym (pick-raise (active f c) (shown_card second c) (shown f second cs))

  pub decks-second : (f g : ℕ → ℕ → Bool) → ((deck n : ℕ) → 0 < n → g (raise_deck_number k deck) (k + n) ≡ f deck n) → (ds : List Deck) → Each (SoundDeck second) ds
      → view_decks g (first ++ second) (map (raise_deck k) ds) ≡ map (raise_view k) (view_decks f second ds)
  decks-second f g h [] s = refl
  decks-second f g h (d ∷ ds) s =
      let w : Within 0 (length second) d.number = deck-number second d s.0 in
      let yk : (n : ℕ) → 0 < n → g (k + d.number) (k + n) ≡ f d.number n =
      λ n pos. ap (λ (x : ℕ). g x (k + n)) (sym (raised-number k d.number w.0)) ∙ h d.number n pos in
      let name : name_at (first ++ second) (k + d.number) ≡ name_at second d.number = name-beyond first second d.number w.0 in
      let lines : shown (g (k + d.number)) (first ++ second) (map (raise_card k) d.cards) ≡ map (raise_shown k) (shown (f d.number) second d.cards) =
      shown-second (f d.number) (g (k + d.number)) yk d.cards s.0.cards in
      let rest : view_decks g (first ++ second) (map (raise_deck k) ds) ≡ map (raise_view k) (view_decks f second ds) = decks-second f g h ds s.1 in
      λ i. record { name = name i; common = d.common; lines = lines i } ∷ rest i

pub view-append : (yk : ℕ → ℕ → Bool) (directory : List ℕ) (ds es : List Deck) → view_decks yk directory (ds ++ es) ≡ view_decks yk directory ds ++ view_decks yk directory es
view-append yk directory [] es = refl
view-append yk directory (d ∷ ds) es =
    ap {B = List DeckView} (λ r. record { name = name_at directory d.number; common = d.common; lines = shown (yk d.number) directory d.cards } ∷ r) (view-append yk directory ds es)

pub view-merged : ViewMerged
unfolding view
view-merged l m g =
    let k : ℕ = length l.directory in
    view-append (yanked (merge l m)) (l.directory ++ m.directory) l.decks (map (raise_deck k) m.decks)
    ∙ ap₂ (λ (a b : List DeckView). a ++ b)
    (decks-first l.directory m.directory (yanked l) (yanked (merge l m)) (yanked-first l m g) l.decks g.first.decks)
    (decks-second l.directory m.directory (yanked m) (yanked (merge l m)) (yanked-raised l m g) m.decks g.second.decks)

-- THE CHOICE
pub choice-append : (ds es : List DeckView) → full_choice (ds ++ es) ≡ full_choice ds ++ full_choice es
choice-append [] es = refl
choice-append (d ∷ ds) es = go d.common (choice-append ds es)
  where
    go : (b : Bool) → full_choice (ds ++ es) ≡ full_choice ds ++ full_choice es
        → (if b then full_choice (ds ++ es) else (d ∷ full_choice (ds ++ es))) ≡ (if b then full_choice ds else (d ∷ full_choice ds)) ++ full_choice es
    go true e = e
    go false e = ap {B = List DeckView} (λ r. d ∷ r) e

pub choice-raise : (k : ℕ) (ds : List DeckView) → full_choice (map (raise_view k) ds) ≡ map (raise_view k) (full_choice ds)
choice-raise k [] = refl
choice-raise k (d ∷ ds) = go d.common (choice-raise k ds)
  where
    go : (b : Bool) → full_choice (map (raise_view k) ds) ≡ map (raise_view k) (full_choice ds)
        → (if b then full_choice (map (raise_view k) ds) else (raise_view k d ∷ full_choice (map (raise_view k) ds))) ≡ map (raise_view k) (if b then full_choice ds else (d ∷ full_choice ds))
    go true e = e
    go false e = ap {B = List DeckView} (λ r. raise_view k d ∷ r) e
