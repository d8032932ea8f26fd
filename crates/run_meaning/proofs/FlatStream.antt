-- What each change of a library does to its stream: a card put in, one at the end, a range changed.
use Prim.Native.Nat.{ℕ, zero, suc, ◌+◌, ◌-◌, ◌≤◌, ◌<◌}
use native.Mathlib.Omega.{arith}
use mathlib.Core.Path.{◌≡◌, refl, sym, ap, ap₂, ◌∙◌, subst, fun_ext}
use mathlib.Core.Bool.{Bool, false, ◌&&◌, ◌||◌, not}
use mathlib.Core.List.{List, [], ◌∷◌, ◌++◌, map, append_assoc}
use lib.Dec.{eqb}
use lib.ListN.{length, take, drop}
use lib.Seq.{take-append-le, drop-append-le, take-append-add, drop-append-add}
use Rattle.words.specs.Base.{any}
use Rattle.library.specs.Library.{Card, Deck, Library, deck_card, deck_cards, joined, parts, stream}
use Rattle.library.specs.Yanks.{Target, whole_set, covers, Yank, last_says, yanked_by, yanks_of, settled_yanks, yanked}
use Rattle.library.specs.Image.{cards_words, decks_words, tables, encode}
use Rattle.library.proofs.LimitsByCount.{cards-append}
use Rattle.run_meaning.specs.Step.{unit_number, with_yanks, with_decks, with_entry, change_at, put_in, marked, over_range, number_at, mark_in, Spot, is_deck_spot}
use Rattle.run_meaning.specs.Flat.{ahead, Stood, flat, HasPlace, flat_place, between}
use Rattle.run_meaning.proofs.FlatFind.{eqb_no}

-- ONE CARD PUT IN
put_right : (c : Card) (xs ys : List Card) (v g : ℕ) → v ≡ length xs + g → put_in v c (xs ++ ys) ≡ xs ++ put_in g c ys
put_right c xs ys v g e =
    ap (λ (k : ℕ). put_in k c (xs ++ ys)) e
    ∙ ap₂ (λ (a b : List Card). a ++ (c ∷ b)) (take-append-add xs ys g) (drop-append-add xs ys g)
    ∙ append_assoc xs (take g ys) (c ∷ drop g ys)

put-left : (c : Card) (xs ys : List Card) (g : ℕ) → g ≤ length xs → put_in g c (xs ++ ys) ≡ put_in g c xs ++ ys
put-left c xs ys g le =
    ap₂ (λ (a b : List Card). a ++ (c ∷ b)) (take-append-le g xs ys le) (drop-append-le g xs ys le)
    ∙ sym (append_assoc (take g xs) (c ∷ drop g xs) ys)

put-decks : (c : Card) (i k : ℕ) (ds : List Deck) → HasPlace ds k i
    → joined (map deck_cards (change_at (put_in i c) k ds)) ≡ put_in (ahead (map deck_cards ds) k + suc i) c (joined (map deck_cards ds))
put-decks c i k [] h = absurd h
put-decks c i zero (d ∷ ds) h =
    let rest : List Card = joined (map deck_cards ds) in
    let e : suc i ≡ 0 + suc i = omega arith in
    ap {B = List Card} (λ r. deck_card d ∷ r) (sym (put-left c d.cards rest i h)) ∙ ap (λ (n : ℕ). put_in n c (deck_cards d ++ rest)) e
put-decks c i (suc k) (d ∷ ds) h =
    let rest : List Card = joined (map deck_cards ds) in
    ap (λ (r : List Card). deck_cards d ++ r) (put-decks c i k ds h)
    ∙ sym (put_right c (deck_cards d) rest (length (deck_cards d) + ahead (map deck_cards ds) k + suc i) (ahead (map deck_cards ds) k + suc i) (omega arith))

pub text-flat : (l : Library) (c : Card) (k i : ℕ) → HasPlace l.decks k i
    → stream (with_decks l (change_at (put_in i c) k l.decks)) ≡ put_in (flat_place l k i) c (stream l)
unfolding stream
text-flat l c k i h =
    let ds : List (List Card) = map deck_cards l.decks in
    ap (λ (r : List Card). l.yanks ++ r) (put-decks c i k l.decks h)
    ∙ sym (put_right c l.yanks (joined ds) (length l.yanks + ahead ds k + suc i) (ahead ds k + suc i) (omega arith))

pub yank-flat : (l : Library) (c : Card) → stream (with_yanks l (l.yanks ++ (c ∷ []))) ≡ put_in (length l.yanks) c (stream l)
unfolding stream
yank-flat l c =
    let rest : List Card = joined (map deck_cards l.decks) in
    append_assoc l.yanks (c ∷ []) rest ∙ sym (put_right c l.yanks rest (length l.yanks) 0 (omega arith))

-- A DECK AT THE END
decks-end : (d : Deck) → d.cards ≡ [] → (ds : List Deck) → joined (map deck_cards (ds ++ (d ∷ []))) ≡ joined (map deck_cards ds) ++ (deck_card d ∷ [])
decks-end d e [] = ap {B = List Card} (λ (r : List Card). deck_card d ∷ (r ++ [])) e
decks-end d e (x ∷ ds) =
    ap (λ (r : List Card). deck_cards x ++ r) (decks-end d e ds) ∙ sym (append_assoc (deck_cards x) (joined (map deck_cards ds)) (deck_card d ∷ []))

pub deck-flat : (l : Library) (d : Deck) (w : ℕ) → d.cards ≡ [] → stream (with_entry (with_decks l (l.decks ++ (d ∷ []))) w) ≡ stream l ++ (deck_card d ∷ [])
unfolding stream
deck-flat l d w e =
    ap (λ (r : List Card). l.yanks ++ r) (decks-end d e l.decks) ∙ sym (append_assoc l.yanks (joined (map deck_cards l.decks)) (deck_card d ∷ []))

pub entry-flat : (l : Library) (w : ℕ) → stream (with_entry l w) ≡ stream l
unfolding stream
entry-flat l w = refl

-- A RANGE OF CARDS CHANGED
module _ (f : Card → Card) where
  range_none : (xs ys : List Card) (i j : ℕ) → over_range f (length xs + i) (length xs + j) (xs ++ ys) ≡ xs ++ over_range f i j ys
  range_none [] ys i j =
      let e : 0 + i ≡ i = omega arith in let g : 0 + j ≡ j = omega arith in ap₂ (λ (a b : ℕ). over_range f a b ys) e g
  range_none (x ∷ xs) ys i j =
      let e : suc (length xs) + i ≡ suc (length xs + i) = omega arith in
      let g : suc (length xs) + j - 1 ≡ length xs + j = omega arith in
      ap (λ (a : ℕ). over_range f a (suc (length xs) + j) (x ∷ (xs ++ ys))) e
      ∙ ap {B = List Card} (λ r. x ∷ r) (ap (λ (b : ℕ). over_range f (length xs + i) b (xs ++ ys)) g ∙ range_none xs ys i j)

  range-right : (xs ys : List Card) (v w i j : ℕ) → v ≡ length xs + i → w ≡ length xs + j → over_range f v w (xs ++ ys) ≡ xs ++ over_range f i j ys
  range-right xs ys v w i j e g = ap₂ (λ (a b : ℕ). over_range f a b (xs ++ ys)) e g ∙ range_none xs ys i j

  range-left : (xs ys : List Card) (i j : ℕ) → i ≤ j → j < length xs → over_range f i j (xs ++ ys) ≡ over_range f i j xs ++ ys
  range-left [] ys i j le lt = absurd (omega arith)
  range-left (x ∷ xs) ys (suc i) j le lt = ap {B = List Card} (λ r. x ∷ r) (range-left xs ys i (j - 1) (omega arith) (omega arith))
  range-left (x ∷ xs) ys zero zero le lt = refl
  range-left (x ∷ xs) ys zero (suc j) le lt = ap {B = List Card} (λ r. f x ∷ r) (range-left xs ys zero j (omega arith) (omega arith))

  -- the cards ahead of it, those in it, and those after it
  range-start : (j : ℕ) (xs : List Card) → over_range f 0 j xs ≡ map f (take (suc j) xs) ++ drop (suc j) xs
  range-start j [] = refl
  range-start zero (x ∷ xs) = refl
  range-start (suc j) (x ∷ xs) = ap {B = List Card} (λ r. f x ∷ r) (range-start j xs)

  pub range-cut : (i j : ℕ) (xs : List Card) → i ≤ j → over_range f i j xs ≡ take i xs ++ (map f (between i j xs) ++ drop (suc j) xs)
  range-cut i j [] le = sym (ap₂ (λ (a b : List Card). a ++ (map f (take (suc (j - i)) b) ++ [])) (lib.Seq.take-nil i) (lib.Seq.drop-nil i))
  range-cut zero j (x ∷ xs) le =
      let n : j ≡ j - 0 = omega arith in range-start j (x ∷ xs) ∙ ap (λ (k : ℕ). map f (take (suc k) (x ∷ xs)) ++ drop (suc j) (x ∷ xs)) n
  range-cut (suc i) zero (x ∷ xs) le = absurd (omega arith)
  range-cut (suc i) (suc j) (x ∷ xs) le =
      let e : suc j - 1 ≡ j = omega arith in
      let n : j - i ≡ suc j - suc i = omega arith in
      ap {B = List Card} (λ r. x ∷ r)
      (ap (λ (b : ℕ). over_range f i b xs) e ∙ range-cut i j xs (omega arith) ∙ ap (λ (k : ℕ). take i xs ++ (map f (take (suc k) (drop i xs)) ++ drop (suc j) xs)) n)

  range-decks : (i j k : ℕ) (ds : List Deck) → 0 < i → i ≤ j → Stood (map deck_cards ds) k j
      → joined (map deck_cards (change_at (over_range f (i - 1) (j - 1)) k ds)) ≡ over_range f (ahead (map deck_cards ds) k + i) (ahead (map deck_cards ds) k + j) (joined (map deck_cards ds))
  range-decks i j k [] pos le s = absurd s
  range-decks zero j zero (d ∷ ds) pos le s = absurd (omega arith)
  range-decks (suc i) zero zero (d ∷ ds) pos le s = absurd (omega arith)
  range-decks (suc i) (suc j) zero (d ∷ ds) pos le s =
      let rest : List Card = joined (map deck_cards ds) in
      let a : 0 + suc i ≡ suc i = omega arith in
      let b : 0 + suc j ≡ suc j = omega arith in
      let c : suc i - 1 ≡ i = omega arith in
      let e : suc j - 1 ≡ j = omega arith in
      ap {B = List Card} (λ r. deck_card d ∷ (r ++ rest)) (ap₂ (λ (x y : ℕ). over_range f x y d.cards) c e)
      ∙ ap {B = List Card} (λ r. deck_card d ∷ r) (sym (range-left d.cards rest i j (omega arith) (omega arith)))
      ∙ ap {B = List Card} (λ r. deck_card d ∷ r) (ap (λ (y : ℕ). over_range f i y (d.cards ++ rest)) (sym e))
      ∙ sym (ap₂ (λ (x y : ℕ). over_range f x y (deck_cards d ++ rest)) a b)
  range-decks i j (suc k) (d ∷ ds) pos le s =
      let rest : List Card = joined (map deck_cards ds) in
      let h : ℕ = ahead (map deck_cards ds) k in
      ap (λ (r : List Card). deck_cards d ++ r) (range-decks i j k ds pos le s)
      ∙ sym (range-right (deck_cards d) rest (length (deck_cards d) + h + i) (length (deck_cards d) + h + j) (h + i) (h + j) (omega arith) (omega arith))

-- what is yanked is yanked in every deck
pub yanked-deck : (l : Library) (deck : ℕ) → yanked l deck ≡ yanked l 0
unfolding yanked
yanked-deck l deck = fun_ext (λ n. rule n (yanks_of l))
  where
    cover : (n : ℕ) (ts : List Target) → any (covers deck n) ts ≡ any (covers 0 n) ts
    cover n [] = refl
    cover n (whole_set m ∷ ts) = ap (λ (b : Bool). eqb n m || b) (cover n ts)

    in-yanks : ℕ → Bool
    in-yanks m = Rattle.words.specs.Base.member m (settled_yanks l)

    rule : (n : ℕ) (ys : List Yank) → yanked_by ys in-yanks deck n ≡ yanked_by ys in-yanks 0 n
    rule n [] = refl
    rule n (y ∷ ys) = ap₂ (λ (a b : Bool). (a && last_says in-yanks false y.bytes) || b) (cover n y.acts) (rule n ys)

-- the marks of a directive, one and the same in every deck
abbrev pub marks : Library → Bool → Card → Card
marks l was = marked (yanked l 0) was (unit_number l)

-- a range in one part, which does not begin at a deck card
pub mark-flat : (l : Library) (was : Bool) (a b : Spot) → Stood (parts l) b.part b.index → a.part ≡ b.part → is_deck_spot a ≡ false → a.index ≤ b.index
    → stream (mark_in l was a.part a.index b.index) ≡ over_range (marks l was) (flat l a) (flat l b) (stream l)
unfolding stream
mark-flat l was a b s e off le = go a.part b.part e s off
  where
    ps : List (List Card)
    ps = map deck_cards l.decks

    i : ℕ
    i = a.index

    j : ℕ
    j = b.index

    positive : (n : ℕ) → eqb n 0 ≡ false → 0 < n
    positive zero h = let z : ◌≡◌ {A = ℕ} 0 1 = cc in absurd (omega arith)
    positive (suc n) h = omega arith

    go : (p q : ℕ) → p ≡ q → Stood (parts l) q j → (not (eqb p 0) && eqb i 0) ≡ false
        → stream (mark_in l was p i j) ≡ over_range (marks l was) (ahead (parts l) p + i) (ahead (parts l) q + j) (stream l)
    go zero (suc q) f u h = absurd (omega arith)
    go (suc p) zero f u h = absurd (omega arith)
    go zero zero f u h =
        let x : i ≡ 0 + i = omega arith in
        let y : j ≡ 0 + j = omega arith in
        sym (range-left (marks l was) l.yanks (joined ps) i j le u) ∙ ap₂ (λ (v w : ℕ). over_range (marks l was) v w (l.yanks ++ joined ps)) x y
    go (suc p) (suc q) f u h =
        let g : q ≡ p = omega arith in
        let pos : 0 < i = positive i (ap (λ (x : Bool). not x && eqb i 0) (sym (eqb_no (suc p) 0 (λ z. omega (arith, z)))) ∙ h) in
        let v : Stood ps p j = subst (λ (k : ℕ). Stood ps k j) g u in
        let n : ℕ = length l.yanks in
        ap (λ (yk : ℕ → Bool). l.yanks ++ joined (map deck_cards (change_at (over_range (marked yk was (unit_number l)) (i - 1) (j - 1)) p l.decks))) (yanked-deck l (number_at l.decks p))
        ∙ ap (λ (r : List Card). l.yanks ++ r) (range-decks (marks l was) i j p l.decks pos le v)
        ∙ sym (range-right (marks l was) l.yanks (joined ps) (n + ahead ps p + i) (n + ahead ps q + j) (ahead ps p + i) (ahead ps p + j) (omega arith) (omega (arith, ap (ahead ps) g)))

-- THE WORDS: tables, then the words of the stream's cards
decks-words : (l : Library) (ds : List Deck) → decks_words (yanked l) ds ≡ cards_words (yanked l 0) (joined (map deck_cards ds))
decks-words l [] = refl
decks-words l (d ∷ ds) =
    ap₂ (λ (a b : List ℕ). a ++ b) (ap (λ (yk : ℕ → Bool). cards_words yk (deck_cards d)) (yanked-deck l d.number)) (decks-words l ds)
    ∙ sym (cards-append (yanked l 0) (deck_cards d) (joined (map deck_cards ds)))

pub cards-flat : (l : Library) → cards_words (yanked l 0) l.yanks ++ decks_words (yanked l) l.decks ≡ cards_words (yanked l 0) (stream l)
unfolding stream
cards-flat l =
    ap (λ (r : List ℕ). cards_words (yanked l 0) l.yanks ++ r) (decks-words l l.decks) ∙ sym (cards-append (yanked l 0) l.yanks (joined (map deck_cards l.decks)))

pub encode-flat : (l : Library) → encode l ≡ tables l ++ cards_words (yanked l 0) (stream l)
unfolding encode
encode-flat l = ap (λ (r : List ℕ). tables l ++ r) (cards-flat l)
