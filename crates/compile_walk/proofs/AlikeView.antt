-- What a compile file sees is the same for libraries that differ only in lines of cards that are off.
use Rattle.std.specs.Prelude.{if◌then◌else◌}
use Prim.Native.Nat.{ℕ}
use mathlib.Core.Path.{◌≡◌, refl, ap, ap₂, ◌∙◌, fun_ext}
use mathlib.Core.Bool.{Bool, true, false}
use mathlib.Core.List.{List, [], ◌∷◌}
use lib.Dec.{T}
use Rattle.library.specs.Library.{Card, Deck, Library, name_at}
use Rattle.library.specs.Yanks.{active, yanked}
use Rattle.library.specs.Sound.{Sound}
use Rattle.library.specs.Alike.{Pairwise, LikeCard, LikeDeck, Alike}
use Rattle.library.proofs.AlikeFlags.{active-like, yanked-alike}
use Rattle.compile_walk.specs.View.{Shown, shown_card, shown, view_decks, view}

module _ (directory : List ℕ) where
  card-like : (yk : ℕ → Bool) (c d : Card) → LikeCard yk c d → d.line ≡ c.line → shown_card directory d ≡ shown_card directory c
  card-like yk c d k e = λ i. record { line = e i; owner = k.owner i; name = name_at directory (k.owner i); seq = k.seq i }

  shown-like : (yk : ℕ → Bool) (cs ds : List Card) → Pairwise (LikeCard yk) cs ds → shown yk directory ds ≡ shown yk directory cs
  shown-like yk [] [] h = refl
  shown-like yk [] (d ∷ ds) h = absurd h
  shown-like yk (c ∷ cs) [] h = absurd h
  shown-like yk (c ∷ cs) (d ∷ ds) h =
      ap (λ (b : Bool). if b then (shown_card directory d ∷ shown yk directory ds) else shown yk directory ds) (active-like yk c d h.0)
      ∙ go (active yk c) (λ t. card-like yk c d h.0 (h.0.line t)) (shown-like yk cs ds h.1)
    where
      go : (b : Bool) → (T b → shown_card directory d ≡ shown_card directory c) → shown yk directory ds ≡ shown yk directory cs
          → (if b then (shown_card directory d ∷ shown yk directory ds) else shown yk directory ds) ≡ (if b then (shown_card directory c ∷ shown yk directory cs) else shown yk directory cs)
      go true e r = ap₂ {C = List Shown} ◌∷◌ (e tt) r
      go false e r = r

  decks-like : (yk : ℕ → ℕ → Bool) (ds es : List Deck) → Pairwise (LikeDeck yk) ds es → view_decks yk directory es ≡ view_decks yk directory ds
  decks-like yk [] [] h = refl
  decks-like yk [] (e ∷ es) h = absurd h
  decks-like yk (d ∷ ds) [] h = absurd h
  decks-like yk (d ∷ ds) (e ∷ es) h =
      let k : LikeDeck yk d e = h.0 in
      let lines : shown (yk e.number) directory e.cards ≡ shown (yk d.number) directory d.cards =
      ap (λ (n : ℕ). shown (yk n) directory e.cards) k.number ∙ shown-like (yk d.number) d.cards e.cards k.cards in
      let rest : view_decks yk directory es ≡ view_decks yk directory ds = decks-like yk ds es h.1 in
      λ i. record { name = name_at directory (k.number i); common = k.common i; lines = lines i } ∷ rest i

pub view-alike : (l m : Library) → Sound l → Sound m → Alike l m → view m ≡ view l
unfolding view
view-alike l m s t a =
    let yk : yanked m ≡ yanked l = fun_ext (λ deck. fun_ext (yanked-alike l m s t a deck)) in
    ap (λ (f : ℕ → ℕ → Bool). view_decks f m.directory m.decks) yk
    ∙ ap (λ (d : List ℕ). view_decks (yanked l) d m.decks) a.directory
    ∙ decks-like l.directory (yanked l) l.decks m.decks a.decks
