-- What is yanked in a merged library after one more set decides which cards are active and what is seen.
use Prim.Native.Nat.{ℕ, suc, ◌+◌, ◌≤◌, ◌<◌}
use native.Mathlib.Omega.{arith}
use mathlib.Core.Path.{◌≡◌, refl, ap, ap₂, ◌∙◌}
use mathlib.Core.Bool.{Bool, false, not, beq}
use mathlib.Core.List.{List, [], ◌∷◌, ◌++◌, map, append_assoc}
use lib.ListN.{length}
use Rattle.library.specs.Library.{Card, Library, history}
use Rattle.library.specs.Yanks.{active, yanked}
use Rattle.library.specs.Growth.{count}
use Rattle.library.specs.Sound.{SoundCard, Sound}
use Rattle.library.proofs.EachTest.{each_map}
use Rattle.library.proofs.NameAtEnd.{deck-append}
use Rattle.library.proofs.SettledFlags.{flags, flags-yanked}
use Rattle.run_meaning.proofs.FlatFlags.{above-free}
use Rattle.compile_walk.specs.View.{DeckView, view_decks, view}
use Rattle.compile_walk.proofs.ViewBack.{taken_back_library}
use Rattle.library_raise.specs.RaisedCards.{raise_card, raise_deck}
use Rattle.merge_meaning.specs.Merge.{merge}
use Rattle.merge_meaning.specs.Merged.{Mergeable, raise_deck_number}
use Rattle.demands.specs.MergedFile.{raise_view}
use Rattle.demands.specs.MergedYank.{turned}
use Rattle.merge_meaning.proofs.MergedFlags.{positive, counted, yanked-first, yanked-raised}
use Rattle.library_raise.proofs.RaisedCardWords.{active-raised}
use Rattle.merge_meaning.proofs.MergedImage.{active-agree}
use Rattle.demands.proofs.MergedView.{decks-first, decks-second, view-append}

pub own-free : (l : Library) → Sound l → flags l (suc (count l)) ≡ false
own-free l s = ap (λ (f : ℕ → Bool). f (suc (count l))) (flags-yanked l s) ∙ above-free l s (suc (count l)) (omega arith)

-- ACTIVITY, from flags
module _ (l m : Library) (new : Library) where
  abbrev k : ℕ
  k = length l.directory

  pub active-first : (f : ℕ → ℕ → Bool) → ((deck n : ℕ) → n ≤ k → yanked new deck n ≡ f deck n) → (deck : ℕ) (c : Card) → SoundCard l.directory c → active (yanked new deck) c ≡ active (f deck) c
  active-first f h deck c s = active-agree (yanked new deck) (f deck) c (each_map _ _ (λ b r. h deck b.number r) (history c) (counted l.directory c s))

  pub active-second : (f : ℕ → ℕ → Bool) → ((deck n : ℕ) → 0 < n → yanked new (raise_deck_number k deck) (k + n) ≡ f deck n) → (deck : ℕ) (c : Card) → SoundCard m.directory c
      → active (yanked new (raise_deck_number k deck)) (raise_card k c) ≡ active (f deck) c
  active-second f h deck c s = active-raised k (f deck) (yanked new (raise_deck_number k deck)) (h deck) c (positive m.directory c s)

-- WHAT IS TURNED, from flags
module _ (l m : Library) (q : Mergeable l m) (new x : Library) where
  pub turned-first : ((deck n : ℕ) → n ≤ length l.directory → yanked new deck n ≡ yanked x deck n)
      → (deck : ℕ) (c : Card) → SoundCard l.directory c → turned (merge l m) new deck c ≡ turned l x deck c
  turned-first h deck c s =
      ap₂ (λ (a b : Bool). not (beq a b)) (active-first l m (merge l m) (yanked l) (yanked-first l m q) deck c s) (active-first l m new (yanked x) h deck c s)

  pub turned-second : ((deck n : ℕ) → 0 < n → yanked new (raise_deck_number (length l.directory) deck) (length l.directory + n) ≡ yanked x deck n)
      → (deck : ℕ) (c : Card) → SoundCard m.directory c
      → turned (merge l m) new (raise_deck_number (length l.directory) deck) (raise_card (length l.directory) c) ≡ turned m x deck c
  turned-second h deck c s =
      ap₂ (λ (a b : Bool). not (beq a b)) (active-second l m (merge l m) (yanked m) (yanked-raised l m q) deck c s) (active-second l m new (yanked x) h deck c s)

-- WHAT A COMPILE FILE SEES, from flags: one more name at the end of a directory changes nothing
pub view-end : (l : Library) → Sound l → (yk : ℕ → ℕ → Bool) (w : ℕ) → view_decks yk (l.directory ++ (w ∷ [])) l.decks ≡ view_decks yk l.directory l.decks
view-end l s yk w = decks-first l.directory (w ∷ []) yk yk (λ deck n le. refl) l.decks s.decks

pub view-after : (l m : Library) (q : Mergeable l m) (w : ℕ) (own : List Card) (f g : ℕ → ℕ → Bool) → let new : Library = taken_back_library (merge l m) w own in
    ((deck n : ℕ) → n ≤ length l.directory → yanked new deck n ≡ f deck n)
    → ((deck n : ℕ) → 0 < n → yanked new (raise_deck_number (length l.directory) deck) (length l.directory + n) ≡ g deck n)
    → view new ≡ view_decks f l.directory l.decks ++ map (raise_view (length l.directory)) (view_decks g m.directory m.decks)
unfolding view
view-after l m q w own f g h j =
    let new : Library = taken_back_library (merge l m) w own in
    let k : ℕ = length l.directory in
    let more : List ℕ = m.directory ++ (w ∷ []) in
    ap (λ (d : List ℕ). view_decks (yanked new) d (l.decks ++ map (raise_deck k) m.decks)) (append_assoc l.directory m.directory (w ∷ []))
    ∙ view-append (yanked new) (l.directory ++ more) l.decks (map (raise_deck k) m.decks)
    ∙ ap₂ (λ (a b : List DeckView). a ++ b) (decks-first l.directory more f (yanked new) h l.decks q.first.decks)
    (decks-second l.directory more g (yanked new) j m.decks (each_map _ _ (deck-append m.directory (w ∷ [])) m.decks q.second.decks)
    ∙ ap (map (raise_view k)) (view-end m q.second g w))
