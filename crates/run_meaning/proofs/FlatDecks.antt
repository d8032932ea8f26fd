-- Deck cards of the stream are told by owner and number, and a range is barred exactly where it has one.
use Prim.Native.Nat.{ℕ, zero, suc, ◌+◌, ◌-◌, ◌≤◌, ◌<◌}
use native.Mathlib.Omega.{arith}
use mathlib.Core.Path.{◌≡◌, refl, sym, ap, ap₂, ◌∙◌, subst}
use mathlib.Core.Bool.{Bool, true, false, ◌&&◌, ◌||◌, not}
use mathlib.Core.List.{List, [], ◌∷◌, ◌++◌, map}
use lib.Dec.{T, eqb, eqb→eq, eqb_refl, eqb-suc-suc, T_not, not_T}
use lib.ListN.{length, take, drop}
use lib.Seq.{take-append-le, drop-append-le, drop-append-add}
use Rattle.words.specs.Base.{any, member}
use Rattle.words.proofs.TestParts.{and_both, or-false}
use Rattle.library.specs.Each.{Each}
use Rattle.library.specs.Library.{Card, Deck, Library, deck_card, deck_cards, joined, parts, stream}
use Rattle.library.specs.Sound.{no_two, same_card, Sound}
use Rattle.library.proofs.AppendedLists.{each-parts}
use Rattle.library.proofs.EachTest.{each_map, each_two, each-of-map, and_parts}
use Rattle.library.proofs.NoTwo.{any_none, same_turn}
use Rattle.run_meaning.specs.Step.{Spot, is_card_of, is_deck_spot, is_barred}
use Rattle.run_meaning.specs.Flat.{index_by, ahead, Stood, flat, between, deck_numbers, is_deck_card}
use Rattle.run_meaning.proofs.FlatFind.{eqb_yes, eqb_no, Passing, index-passes}

-- PARTS THAT BEGIN WITH THE ONE CARD THAT PASSES
pub between-shift : (cs ds : List Card) (x y v w : ℕ) → v ≡ length cs + x → w ≡ length cs + y → between v w (cs ++ ds) ≡ between x y ds
between-shift cs ds x y v w e f =
    let n : suc (w - v) ≡ suc (y - x) = omega arith in
    ap₂ take n (ap (λ (k : ℕ). drop k (cs ++ ds)) e ∙ drop-append-add cs ds x)

pub between_left : (cs ds : List Card) (i j : ℕ) → i ≤ j → j < length cs → between i j (cs ++ ds) ≡ between i j cs
between_left cs ds i j le lt =
    ap (take (suc (j - i))) (drop-append-le i cs ds (omega arith))
    ∙ take-append-le (suc (j - i)) (drop i cs) ds (omega (arith, lib.ListN.length-drop i cs))

same-between : (cs : List Card) (v w i j : ℕ) → v ≡ i → w ≡ j → between v w cs ≡ between i j cs
same-between cs v w i j e f = ap₂ (λ (x y : ℕ). between x y cs) e f

module _ (dk : Card → Bool) where
  abbrev Plain : List Card → Type 0
  Plain cs = Each (λ c. T (not (dk c))) cs

  abbrev HeadOnly : List Card → Type 0
  HeadOnly [] = ⊥
  HeadOnly (c ∷ cs) = T (dk c) × Plain cs

  plain-any : (n i : ℕ) (cs : List Card) → Plain cs → any dk (take n (drop i cs)) ≡ false
  plain-any zero i cs h = refl
  plain-any (suc n) i [] h = ap (λ (r : List Card). any dk (take (suc n) r)) (lib.Seq.drop-nil i)
  plain-any (suc n) zero (c ∷ cs) h = go (dk c) h.0 (plain-any n zero cs h.1)
    where
      go : (b : Bool) → T (not b) → any dk (take n cs) ≡ false → (b || any dk (take n cs)) ≡ false
      go true t e = absurd t
      go false t e = e
  plain-any (suc n) (suc i) (c ∷ cs) h = plain-any (suc n) i cs h.1

  or_yes : (a b : Bool) → b ≡ true → (a || b) ≡ true
  or_yes true b e = refl
  or_yes false b e = e

  or-first : (a b : Bool) → T a → (a || b) ≡ true
  or-first true b t = refl
  or-first false b t = absurd t

  -- a range that begins in a part and goes beyond it has the next part's first card
  beyond-any : (cs rest : List Card) (c : Card) (i n : ℕ) → T (dk c) → i ≤ length cs → length cs < i + n → any dk (take n (drop i (cs ++ (c ∷ rest)))) ≡ true
  beyond-any cs rest c i zero t le lt = absurd (omega arith)
  beyond-any [] rest c zero (suc n) t le lt = or-first (dk c) (any dk (take n rest)) t
  beyond-any [] rest c (suc i) (suc n) t le lt = absurd (omega arith)
  beyond-any (x ∷ cs) rest c zero (suc n) t le lt = or_yes (dk x) _ (beyond-any cs rest c zero n t (omega arith) (omega arith))
  beyond-any (x ∷ cs) rest c (suc i) (suc n) t le lt = beyond-any cs rest c i (suc n) t (omega arith) (omega arith)

  beyond-part : (cs : List Card) (ps : List (List Card)) (i j q : ℕ) → i < length cs → Stood ps q j → Each HeadOnly ps → (w : ℕ) → w ≡ length cs + (ahead ps q + j)
      → any dk (between i w (cs ++ joined ps)) ≡ true
  beyond-part cs [] i j q lt s h w e = absurd s
  beyond-part cs ([] ∷ ps) i j q lt s h w e = absurd h.0
  beyond-part cs ((c ∷ ds) ∷ ps) i j q lt s h w e = beyond-any cs (ds ++ joined ps) c i (suc (w - i)) h.0.0 (omega arith) (omega arith)

  within-part : (cs : List Card) (i j : ℕ) → HeadOnly cs → i ≤ j → j < length cs → any dk (between i j cs) ≡ eqb i 0
  within-part [] i j h le lt = absurd h
  within-part (c ∷ cs) zero j h le lt = or-first (dk c) _ h.0
  within-part (c ∷ cs) (suc i) j h le lt = plain-any (suc (j - suc i)) i cs h.1 ∙ sym (eqb_no (suc i) 0 (λ e. omega (arith, e)))

  range-any : (ps : List (List Card)) (p i q j : ℕ) → Each HeadOnly ps → Stood ps p i → Stood ps q j → ahead ps p + i ≤ ahead ps q + j
      → any dk (between (ahead ps p + i) (ahead ps q + j) (joined ps)) ≡ (not (eqb p q) || eqb i 0)
  range-any [] p i q j h s t le = absurd s
  range-any (cs ∷ ps) zero i zero j h s t le =
      ap (any dk) (same-between (cs ++ joined ps) (0 + i) (0 + j) i j (omega arith) (omega arith))
      ∙ ap (any dk) (between_left cs (joined ps) i j (omega arith) t)
      ∙ within-part cs i j h.0 (omega arith) t
  range-any (cs ∷ ps) zero i (suc q) j h s t le =
      ap (any dk) (same-between (cs ++ joined ps) (0 + i) (length cs + ahead ps q + j) i (length cs + ahead ps q + j) (omega arith) refl)
      ∙ beyond-part cs ps i j q s t h.1 (length cs + ahead ps q + j) (omega arith)
      ∙ sym (ap (λ (x : Bool). not x || eqb i 0) (eqb_no 0 (suc q) (λ e. omega (arith, e))))
  range-any (cs ∷ ps) (suc p) i zero j h s t le = absurd (omega (arith, t))
  range-any (cs ∷ ps) (suc p) i (suc q) j h s t le =
      ap (any dk) (between-shift cs (joined ps) (ahead ps p + i) (ahead ps q + j) (length cs + ahead ps p + i) (length cs + ahead ps q + j) (omega arith) (omega arith))
      ∙ range-any ps p i q j h.1 s t (omega arith)
      ∙ sym (ap (λ (x : Bool). not x || eqb i 0) (eqb-suc-suc p q))

  barred-any : (l : Library) (a b : Spot) → Plain l.yanks → Each HeadOnly (map deck_cards l.decks) → Stood (parts l) a.part a.index → Stood (parts l) b.part b.index
      → flat l a ≤ flat l b → is_barred a b ≡ any dk (between (flat l a) (flat l b) (stream l))
  unfolding stream
  barred-any l a b y h s t le = sym (go a.part b.part s t le)
    where
      ps : List (List Card)
      ps = map deck_cards l.decks

      i : ℕ
      i = a.index

      j : ℕ
      j = b.index

      go : (p q : ℕ) → Stood (parts l) p i → Stood (parts l) q j → ahead (parts l) p + i ≤ ahead (parts l) q + j
          → any dk (between (ahead (parts l) p + i) (ahead (parts l) q + j) (l.yanks ++ joined ps)) ≡ (not (eqb p q) || (not (eqb p 0) && eqb i 0))
      go zero zero u v w =
          ap (any dk) (same-between (l.yanks ++ joined ps) (0 + i) (0 + j) i j (omega arith) (omega arith))
          ∙ ap (any dk) (between_left l.yanks (joined ps) i j (omega arith) v)
          ∙ plain-any (suc (j - i)) i l.yanks y
      go zero (suc q) u v w =
          ap (any dk) (same-between (l.yanks ++ joined ps) (0 + i) (length l.yanks + ahead ps q + j) i (length l.yanks + ahead ps q + j) (omega arith) refl)
          ∙ beyond-part l.yanks ps i j q u v h (length l.yanks + ahead ps q + j) (omega arith)
          ∙ sym (ap (λ (x : Bool). not x || false) (eqb_no 0 (suc q) (λ e. omega (arith, e))))
      go (suc p) zero u v w = absurd (omega (arith, v))
      go (suc p) (suc q) u v w =
          ap (any dk) (between-shift l.yanks (joined ps) (ahead ps p + i) (ahead ps q + j) (length l.yanks + ahead ps p + i) (length l.yanks + ahead ps q + j) (omega arith) (omega arith))
          ∙ range-any ps p i q j h u v (omega arith)
          ∙ sym (ap₂ (λ (x z : Bool). not x || (not z && eqb i 0)) (eqb-suc-suc p q) (eqb_no (suc p) 0 (λ e. omega (arith, e))))

abbrev Unlike : Card → Card → Type 0
Unlike c d = T (not (same_card c d))

unlike-turn : (c d : Card) → Unlike c d → Unlike d c
unlike-turn c d t = not_T (same_card d c) (λ u. T_not (same_card c d) t (same_turn d c u))

-- each of the first is unlike each of the second, and no two of the second are alike
apart : (xs ys : List Card) → T (no_two same_card (xs ++ ys)) → Each (λ x. Each (Unlike x) ys) xs × T (no_two same_card ys)
apart [] ys t = (tt, t)
apart (x ∷ xs) ys t =
    let p = and_parts (not (any (same_card x) (xs ++ ys))) (no_two same_card (xs ++ ys)) t in
    let r = apart xs ys p.1 in (((each-parts (Unlike x) xs ys (any_none (same_card x) (xs ++ ys) p.0)).1, r.0), r.1)

-- a card unlike all cards of the decks is unlike their deck cards, and unlike their other cards
unlike-decks : (c : Card) (ds : List Deck) → Each (Unlike c) (joined (map deck_cards ds)) → Each (λ d. Unlike c (deck_card d) × Each (Unlike c) d.cards) ds
unlike-decks c [] h = tt
unlike-decks c (d ∷ ds) h = let r = each-parts (Unlike c) d.cards (joined (map deck_cards ds)) h.1 in ((h.0, r.0), unlike-decks c ds r.1)

turned : {A B : Type 0} (P : A → B → Type 0) (xs : List A) (ys : List B) → Each (λ x. Each (P x) ys) xs → Each (λ y. Each (λ x. P x y) xs) ys
turned P xs [] h = tt
turned P xs (y ∷ ys) h = (each_map _ _ (λ x r. r.0) xs h, turned P xs ys (each_map _ _ (λ x r. r.1) xs h))

-- every deck card is unlike the other cards of all decks
decks-apart : (ds : List Deck) → T (no_two same_card (joined (map deck_cards ds))) → Each (λ d. Each (λ e. Each (Unlike (deck_card d)) e.cards) ds) ds
decks-apart [] t = tt
decks-apart (d ∷ ds) t =
    let rest : List Card = joined (map deck_cards ds) in
    let p = and_parts (not (any (same_card (deck_card d)) (d.cards ++ rest))) (no_two same_card (d.cards ++ rest)) t in
    let first = each-parts (Unlike (deck_card d)) d.cards rest (any_none (same_card (deck_card d)) (d.cards ++ rest) p.0) in
    let q = apart d.cards rest p.1 in
    let cross : Each (λ c. Each (λ e. Unlike c (deck_card e)) ds) d.cards = each_map _ _ (λ c u. each_map _ _ (λ e r. r.0) ds (unlike-decks c ds u)) d.cards q.0 in
    let back : Each (λ e. Each (Unlike (deck_card e)) d.cards) ds =
    each_map _ _ (λ e u. each_map _ _ (λ c r. unlike-turn c (deck_card e) r) d.cards u) ds (turned (λ c e. Unlike c (deck_card e)) d.cards ds cross) in (
      (first.0, each_map _ _ (λ e r. r.1) ds (unlike-decks (deck_card d) ds first.1)),
      each_two _ _ _ (λ e u v. (u, v)) ds back (decks-apart ds q.1),
    )

-- unlike every deck card: not owned by a deck and numbered 1
no-deck-card : (c : Card) (ds : List Deck) → Each (λ d. Unlike (deck_card d) c) ds → T (not (is_deck_card (map (λ d. d.number) ds) c))
no-deck-card c ds h = not_T (is_deck_card (map (λ d. d.number) ds) c) (λ t. let q = and_parts (eqb c.seq 1) (member c.owner (map (λ d. d.number) ds)) t in go ds h (eqb→eq c.seq 1 q.0) q.1)
  where
    go : (es : List Deck) → Each (λ d. Unlike (deck_card d) c) es → c.seq ≡ 1 → T (member c.owner (map (λ d. d.number) es)) → ⊥
    go [] u e t = t
    go (d ∷ es) u e t = step (eqb c.owner d.number) (eqb→eq c.owner d.number) (go es u.1 e) t
      where
        step : (b : Bool) → (T b → c.owner ≡ d.number) → (T (member c.owner (map (λ d. d.number) es)) → ⊥) → T (b || member c.owner (map (λ d. d.number) es)) → ⊥
        step true f g v =
            T_not (same_card (deck_card d) c) u.0
            (and_both (eqb d.number c.owner) (eqb 1 c.seq) (subst (λ (m : ℕ). T (eqb d.number m)) (sym (f tt)) (eqb_refl d.number)) (subst (λ (m : ℕ). T (eqb 1 m)) (sym e) tt))
        step false f g v = g v

-- a deck's own card is one
deck-card : (ns : List ℕ) (d : Deck) → T (member d.number ns) → T (is_deck_card ns (deck_card d))
deck-card ns d t = t

numbers-in : (ds : List Deck) (ns : List ℕ) → ((n : ℕ) → T (member n (map (λ d. d.number) ds)) → T (member n ns)) → Each (λ d. T (member d.number ns)) ds
numbers-in [] ns f = tt
numbers-in (d ∷ ds) ns f = (
  f d.number (first (eqb d.number d.number) (eqb_refl d.number) (member d.number (map (λ e. e.number) ds))),
  numbers-in ds ns (λ n t. f n (later (eqb n d.number) (member n (map (λ e. e.number) ds)) t)),
)
  where
    first : (b : Bool) → T b → (c : Bool) → T (b || c)
    first true t c = tt
    first false t c = absurd t

    later : (b c : Bool) → T c → T (b || c)
    later true c t = tt
    later false c t = t

module _ (l : Library) (s : Sound l) where
  abbrev dk : Card → Bool
  dk = is_deck_card (deck_numbers l)

  once : T (no_two same_card (l.yanks ++ joined (map deck_cards l.decks)))
  unfolding stream
  once = s.once

  yanks-plain : Each (λ c. T (not (dk c))) l.yanks
  yanks-plain =
      each_map _ _ (λ c u. no-deck-card c l.decks (each_map _ _ (λ d r. unlike-turn c (deck_card d) r.0) l.decks (unlike-decks c l.decks u)))
      l.yanks (apart l.yanks (joined (map deck_cards l.decks)) once).0

  decks-plain : Each (λ e. Each (λ c. T (not (dk c))) e.cards) l.decks
  decks-plain =
      each_map _ _ (λ e u. each_map _ _ (λ c r. no-deck-card c l.decks r) e.cards (turned (λ d c. Unlike (deck_card d) c) l.decks e.cards u))
      l.decks (turned (λ d e. Each (Unlike (deck_card d)) e.cards) l.decks l.decks (decks-apart l.decks (apart l.yanks (joined (map deck_cards l.decks)) once).1))

  decks-head : Each (HeadOnly dk) (map deck_cards l.decks)
  decks-head =
      each-of-map (HeadOnly dk) deck_cards l.decks
      (each_two _ _ (λ d. HeadOnly dk (deck_cards d)) (λ d u v. (deck-card (deck_numbers l) d u, v)) l.decks (numbers-in l.decks (deck_numbers l) (λ n t. t)) decks-plain)

  -- 30 of a range: it has a deck card
  pub barred-flat : (a b : Spot) → Stood (parts l) a.part a.index → Stood (parts l) b.part b.index → flat l a ≤ flat l b
      → is_barred a b ≡ any (is_deck_card (deck_numbers l)) (between (flat l a) (flat l b) (stream l))
  barred-flat a b u v le = barred-any dk l a b yanks-plain decks-head u v le

  -- 30 of a card: it is one
  pub deck-spot-card : (a : Spot) → Stood (parts l) a.part a.index → (c : Card) (rest : List Card) → drop (flat l a) (stream l) ≡ c ∷ rest
      → is_deck_spot a ≡ is_deck_card (deck_numbers l) c
  deck-spot-card a u c rest e =
      let one : suc (flat l a - flat l a) ≡ 1 = omega arith in
      ap (λ (x : Bool). not x || is_deck_spot a) (sym (eqb_yes a.part a.part refl))
      ∙ barred-flat a a u u (omega arith)
      ∙ ap (any dk) (ap₂ {C = List Card} take one e)
      ∙ or-false (dk c)

  -- 30 of a card that was found by owner and number
  pub deck-spot-named : (own seq : ℕ) (a : Spot) → Stood (parts l) a.part a.index → flat l a ≡ index_by (is_card_of own seq) (stream l)
      → index_by (is_card_of own seq) (stream l) < length (stream l) → is_deck_spot a ≡ (eqb seq 1 && member own (deck_numbers l))
  deck-spot-named own seq a u e lt =
      let p : Passing (is_card_of own seq) (stream l) = index-passes (is_card_of own seq) (stream l) lt in
      let q = and_parts (eqb p.card.owner own) (eqb p.card.seq seq) p.passes in
      deck-spot-card a u p.card p.rest (ap (λ (k : ℕ). drop k (stream l)) e ∙ p.at)
      ∙ ap₂ (λ (x y : ℕ). eqb x 1 && member y (deck_numbers l)) (eqb→eq p.card.seq seq q.1) (eqb→eq p.card.owner own q.0)
