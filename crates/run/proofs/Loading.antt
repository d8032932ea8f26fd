-- An accepted image copied to the arrays of a run: its cards, their count, and the numbers of its decks.
use Rattle.std.specs.Prelude.{if◌then◌else◌}
use Prim.Native.Nat.{ℕ, suc, ◌+◌, ◌-◌, ◌≤◌, ◌<◌}
use native.Mathlib.Omega.{arith}
use native.Mathlib.Nat.{zero-add}
use mathlib.Core.Path.{◌≡◌, refl, sym, ap, ap₂, ◌∙◌}
use mathlib.Core.Bool.{Bool, true, false, ◌&&◌, ◌||◌}
use mathlib.Core.List.{List, [], ◌∷◌, ◌++◌, map}
use lib.Dec.{T, eqb}
use lib.ListN.{length, take, drop, length-drop}
use lib.Seq.{take_all, length-take-le}
use Rattle.words.specs.Base.{member, all}
use Rattle.library.specs.Each.{Each}
use Rattle.library.specs.Library.{Byte, Card, Deck, Library, deck_cards, joined, stream, name_at, entry_of, deck_names}
use Rattle.library.specs.Yanks.{yanked}
use Rattle.library.specs.Image.{cards_words}
use Rattle.library.specs.Check.{good, check}
use Rattle.library.specs.Sound.{no_two, same_name, is_entry, SoundDeck, Sound}
use Rattle.library.proofs.EachTest.{and_parts}
use Rattle.library.proofs.EntryNames.{entry-name}
use Rattle.words_lists.specs.Over.{over}
use Rattle.words_lists.proofs.OverLists.{over-all}
use Rattle.run.specs.CardHeads.{Fits}
use Rattle.run.specs.CardSeek.{index_of}
use Rattle.library.proofs.LimitsByCount.{words}
use Rattle.library.proofs.ImageParts.{image-long, cards-are}
use Rattle.run_meaning.specs.Flat.{index_by, deck_numbers, is_deck_card}
use Rattle.library_yanks_bits.specs.SettledBits.{flagged}
use Rattle.run.specs.Loaded.{titled_card}
use Rattle.run_meaning.proofs.FlatFind.{eqb_yes, eqb_no}
use Rattle.run_meaning.proofs.FlatStream.{cards-flat}
use Rattle.run_meaning.proofs.FlatDecks.{deck-spot-card}

-- THE CARDS OF AN IMAGE, under the flags of YANK$$$
module _ (old : List ℕ) (l : Library) (ok : check old ≡ good l) where
  pub loaded-long : length old ≡ 3 + length l.directory + length l.decks + length (cards_words (yanked l 0) (stream l))
  unfolding words
  loaded-long = image-long old l ok

  pub loaded-cards : drop (2 + length l.directory + suc (length l.decks)) old ≡ cards_words (yanked l 0) (stream l)
  loaded-cards = cards-are old l ok ∙ cards-flat l

-- COPIED to an array's start
pub copied-part : (xs ys : List ℕ) (a k : ℕ) → a + k ≤ length xs → k ≤ length ys → over 0 (take (a + k - a) (drop a xs)) ys ≡ take k (drop a xs) ++ drop k ys
copied-part xs ys a k inside room =
    let same : a + k - a ≡ k = omega arith in
    let long : length (take k (drop a xs)) ≡ k = length-take-le k (drop a xs) (omega (arith, length-drop a xs)) in
    ap (λ (i : ℕ). over 0 (take i (drop a xs)) ys) same ∙ over-all (take k (drop a xs)) ys (omega arith)
    ∙ ap (λ (i : ℕ). take k (drop a xs) ++ drop i ys) long

pub copied-rest : (xs ys : List ℕ) (a : ℕ) → length xs ≤ length ys → over 0 (take (length xs - a) (drop a xs)) ys ≡ drop a xs ++ drop (length xs - a) ys
copied-rest xs ys a room =
    ap (λ (v : List ℕ). over 0 v ys) (take_all (length xs - a) (drop a xs) (omega (arith, length-drop a xs)))
    ∙ over-all (drop a xs) ys (omega (arith, length-drop a xs)) ∙ ap (λ (i : ℕ). drop a xs ++ drop i ys) (length-drop a xs)

-- COUNTED: no card is owned by 0
pub none-of-zero : (cs : List Card) → Each Fits cs → index_of 0 0 cs ≡ length cs
unfolding index_of
none-of-zero [] f = refl
none-of-zero (c ∷ cs) f =
    let a : 0 < c.owner = f.0.first.0 in
    ap (λ (b : Bool). if b && eqb c.seq 0 then 0 else (suc (index_of 0 0 cs))) (eqb_no c.owner 0 (λ e. omega arith)) ∙ ap suc (none-of-zero cs f.1)

-- THE DECKS' NUMBERS by their names
numbers-back : (directory : List ℕ) → T (no_two same_name directory) → (ds : List Deck) → Each (SoundDeck directory) ds
    → map (entry_of directory) (map (λ d. name_at directory d.number) ds) ≡ map (λ d. d.number) ds
numbers-back directory once [] h = refl
numbers-back directory once (d ∷ ds) h =
    let named : T (is_entry directory d.number) = (and_parts (is_entry directory d.number) (all (λ (b : Byte). is_entry directory b.number) []) h.0.first.named).0 in
    ap₂ {C = List ℕ} (λ (x : ℕ) (xs : List ℕ). x ∷ xs) (entry-name directory once d.number named) (numbers-back directory once ds h.1)

pub listed-numbers : (l : Library) → Sound l → map (entry_of l.directory) (drop 1 (deck_names l)) ≡ deck_numbers l
unfolding deck_names
listed-numbers l s = numbers-back l.directory s.names l.decks s.decks

-- YANK$$$ ENDS at the first deck card
abbrev Opens : (Card → Bool) → List Card → Type 0
Opens p [] = Unit {0}
Opens p (c ∷ cs) = p c ≡ true

index-after : (p : Card → Bool) (cs ds : List Card) → ((i : ℕ) (c : Card) (rest : List Card) → i < length cs → drop i (cs ++ ds) ≡ c ∷ rest → p c ≡ false) → Opens p ds
    → index_by p (cs ++ ds) ≡ length cs
index-after p [] [] f o = refl
index-after p [] (d ∷ ds) f o = ap (λ (b : Bool). if b then 0 else (suc (index_by p ds))) o
index-after p (c ∷ cs) ds f o =
    ap (λ (b : Bool). if b then 0 else (suc (index_by p (cs ++ ds)))) (f 0 c (cs ++ ds) (omega arith) refl)
    ∙ ap suc (index-after p cs ds (λ i x rest lt e. f (suc i) x rest (omega arith) e) o)

deck-opens : (ds : List Deck) → Opens (is_deck_card (map (λ d. d.number) ds)) (joined (map deck_cards ds))
deck-opens [] = tt
deck-opens (d ∷ ds) = ap (λ (b : Bool). b || member d.number (map (λ x. x.number) ds)) (eqb_yes d.number d.number refl)

pub yanks-end : (l : Library) → Sound l → index_by (is_deck_card (deck_numbers l)) (stream l) ≡ length l.yanks
unfolding stream
yanks-end l s = index-after (is_deck_card (deck_numbers l)) l.yanks (joined (map deck_cards l.decks)) plain (deck-opens l.decks)
  where
    plain : (i : ℕ) (c : Card) (rest : List Card) → i < length l.yanks → drop i (l.yanks ++ joined (map deck_cards l.decks)) ≡ c ∷ rest → is_deck_card (deck_numbers l) c ≡ false
    plain i c rest lt e =
        sym (deck-spot-card l s (record { part = 0; index = i }) lt c rest (ap (λ (j : ℕ). drop j (stream l)) (zero-add i) ∙ e))

pub titles-end : (l : Library) → Sound l → (decks : List ℕ) → ((m : ℕ) → flagged decks m ≡ member m (deck_numbers l)) → index_by (titled_card decks) (stream l) ≡ length l.yanks
titles-end l s decks h = (λ i. index_by (λ c. eqb c.seq 1 && h c.owner i) (stream l)) ∙ yanks-end l s
