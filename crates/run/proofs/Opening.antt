-- The gap moved to where a card begins or ends parts the cards there: nothing else has changed.
use Prim.Native.Nat.{ℕ, zero, suc, ◌+◌, ◌-◌, ◌≤◌, ◌<◌}
use native.Mathlib.Omega.{arith}
use native.Mathlib.Numerals.{add-one}
use mathlib.Core.Path.{◌≡◌, refl, sym, ap, ◌∙◌}
use mathlib.Core.Bool.{Bool, true, false}
use mathlib.Core.List.{List, [], ◌∷◌, ◌++◌, append_assoc}
use lib.Dec.{ltb}
use lib.ListN.{length, take, drop, length-append, take-append-drop}
use lib.Seq.{take_all, take-append-le, take-append-add, drop-append-le, drop-append-add, drop_at, drop-drop}
use borrow.Author.Tests.{ltb-true, ltb-false}
use Rattle.run.proofs.Walking.{card-len, some-heads, cards-append, cards-snoc}
use Rattle.run.proofs.Locating.{Standings, index-le, card-at, cards-at, each_append, each_take, each-drop, lo-is, hi-is, whole, short-at}
use Rattle.words.specs.Base.{all}
use Rattle.library.specs.Each.{Each}
use Rattle.library.specs.Library.{Card}
use Rattle.library.specs.Image.{card_words, cards_words}
use Rattle.run.specs.CardHeads.{text_of, heads_len, Fits, SeesAny}
use Rattle.run.specs.GapWords.{Ordered, Moves}
use Rattle.run.specs.CardSeek.{index_of}
use Rattle.run.specs.Work.{Work, Stands, Locates, OpensAfter, OpensAhead, OpensAt}
use Rattle.run.specs.declared.gap.Gap.{Gap}
use Rattle.run.specs.declared.card.Seen.{Seen}
use Rattle.run.specs.declared.seek.Place.{Place}

-- the cards up to one, and that one
take_more : (cs : List Card) (p : ℕ) (c : Card) → drop p cs ≡ c ∷ drop (suc p) cs → p < length cs → take (suc p) cs ≡ take p cs ++ (c ∷ [])
take_more [] p c e h = absurd (omega arith)
take_more (d ∷ cs) zero c e h = let q : d ≡ c = cc in λ i. q i ∷ []
take_more (d ∷ cs) (suc p) c e h = ap {B = List Card} (λ t. d ∷ t) (take_more cs p c e (omega arith))

each_first : (c : Card) (a b : List Card) → a ≡ c ∷ b → Each Fits a → Fits c
each_first c a b e f = (rw e at f).0

-- a card of a run of cards, with the words up to it and after it
pub record At (yk : ℕ → Bool) (cs : List Card) (p : ℕ) : Type 0 where
  pub card : Card
  pub fits : Fits card
  pub words : cards_words yk cs ≡ (cards_words yk (take p cs) ++ card_words yk card) ++ cards_words yk (drop (p + 1) cs)
  pub long : length (cards_words yk (take (p + 1) cs)) ≡ length (cards_words yk (take p cs)) + (heads_len card + length (text_of card))

pub at_place : (yk : ℕ → Bool) (cs : List Card) (p : ℕ) → Each Fits cs → p < length cs → At yk cs p
at_place yk cs p f h =
    let c = card-at cs p h in
    let up : cards_words yk (take (p + 1) cs) ≡ cards_words yk (take p cs) ++ card_words yk c.0 =
    rw (add-one p) (ap (cards_words yk) (take_more cs p c.0 c.1 h) ∙ cards-snoc yk (take p cs) c.0) in
    record {
      card = c.0;
      fits = each_first c.0 (drop p cs) (drop (suc p) cs) c.1 (each-drop p cs f);
      words =
          rw (add-one p) (cards-at yk cs p c.0 c.1 ∙ sym
          (append_assoc (cards_words yk (take p cs)) (card_words yk c.0) (cards_words yk (drop (suc p) cs))));
      long =
          ap length up ∙ length-append (cards_words yk (take p cs)) (card_words yk c.0)
          ∙ ap (λ (n : ℕ). length (cards_words yk (take p cs)) + n) (card-len yk c.0);
    }

-- the words of cards, taken apart
pub cards-split : (yk : ℕ → Bool) (cs : List Card) (p : ℕ) → cards_words yk cs ≡ cards_words yk (take p cs) ++ cards_words yk (drop p cs)
cards-split yk cs p = ap (cards_words yk) (sym (take-append-drop p cs)) ∙ cards-append yk (take p cs) (drop p cs)

module _ (w : List ℕ) (g : Gap) (order : Ordered w g) (yk : ℕ → Bool) (cs1 cs2 : List Card) (k : Work w g yk cs1 cs2) where
  abbrev cs : List Card
  cs = cs1 ++ cs2

  size : length cs ≡ length cs1 + length cs2
  size = length-append cs1 cs2

  -- the gap moved to a card below it, and to one above it
  module _ (p : ℕ) (v : List ℕ) (h : Gap) (m : Moves w g p v h) where
    pub moved-below : (i : ℕ) → i ≤ length cs1 → length (cards_words yk (take i cs1)) ≡ p → Work v h yk (take i cs) (drop i cs)
    moved-below i le e =
        let part =
        m.down (cards_words yk (take i cs1)) (cards_words yk (drop i cs1)) (cards_words yk cs2)
        (record { under = k.parted.under ∙ cards-split yk cs1 i; over = k.parted.over }) e in
        rw (take-append-le i cs1 cs2 le, drop-append-le i cs1 cs2 le) (record {
          parted = record { under = part.under; over = part.over ∙ sym (cards-append yk (drop i cs1) cs2) };
          fit1 = each_take i cs1 k.fit1;
          fit2 = each_append (drop i cs1) cs2 (each-drop i cs1 k.fit1) k.fit2;
        })

    pub moved-above : (i j : ℕ) → i ≡ length cs1 + j → g.hi + length (cards_words yk (take j cs2)) ≡ p → Work v h yk (take i cs) (drop i cs)
    moved-above i j is e =
        let part =
        m.up (cards_words yk cs1) (cards_words yk (take j cs2)) (cards_words yk (drop j cs2))
        (record { under = k.parted.under; over = k.parted.over ∙ cards-split yk cs2 j }) e in
        let tk : take i cs ≡ cs1 ++ take j cs2 = ap (λ (n : ℕ). take n cs) is ∙ take-append-add cs1 cs2 j in
        let dr : drop i cs ≡ drop j cs2 = ap (λ (n : ℕ). drop n cs) is ∙ drop-append-add cs1 cs2 j in
        rw (tk, dr) (record {
          parted = record { under = part.under ∙ sym (cards-append yk cs1 (take j cs2)); over = part.over };
          fit1 = each_append cs1 (take j cs2) k.fit1 (each_take j cs2 k.fit2);
          fit2 = each-drop j cs2 k.fit2;
        })

  module _ (i at : ℕ) (stands : Stands g yk cs1 cs2 i at) where
    choose : {A : Type 0} → (i < length cs1 → A) → (length cs1 ≤ i → A) → A
    choose {A} x y = go (ltb i (length cs1)) refl
      where
        go : (b : Bool) → ltb i (length cs1) ≡ b → A
        go true e = x (ltb-true i (length cs1) e)
        go false e = y (ltb-false i (length cs1) e)

    ahead-work : (v : List ℕ) (h : Gap) → Moves w g at v h → Work v h yk (take i cs) (drop i cs)
    ahead-work v h m =
        choose (λ x. moved-below at v h m i (omega arith) (sym (stands.below x)))
        (λ y. moved-above at v h m i (i - length cs1) (omega arith) (sym (stands.above y)))

    below-size : (x : i < length cs1)
        → (at < length w) × (at + (heads_len (at_place yk cs1 i k.fit1 x).card + length (text_of (at_place yk cs1 i k.fit1 x).card)) ≡ length
        (cards_words yk (take (i + 1) cs1)))
    below-size x =
        let a = at_place yk cs1 i k.fit1 x in
        let n1 : at ≡ length (cards_words yk (take i cs1)) = stands.below x in
        let n2 : length (cards_words yk (take i cs1)) < g.lo = short-at w g order yk cs1 cs2 k i x in
        let n3 : length (cards_words yk (take (i + 1) cs1)) ≡ length (cards_words yk (take i cs1)) + (heads_len a.card + length (text_of a.card)) =
        a.long in
        (omega arith, omega arith)

    above-size : (y : length cs1 ≤ i) (z : i - length cs1 < length cs2)
        → (at < length w) × (at + (heads_len (at_place yk cs2 (i - length cs1) k.fit2 z).card + length
        (text_of (at_place yk cs2 (i - length cs1) k.fit2 z).card)) ≡ g.hi + length (cards_words yk (take (i - length cs1 + 1) cs2)))
    above-size y z =
        let j : ℕ = i - length cs1 in
        let a = at_place yk cs2 j k.fit2 z in
        let n1 : at ≡ g.hi + length (cards_words yk (take j cs2)) = stands.above y in
        let n3 : length (cards_words yk (take (j + 1) cs2)) ≡ length (cards_words yk (take j cs2)) + (heads_len a.card + length (text_of a.card)) =
        a.long in
        let n4 : length (cards_words yk cs2) ≡ length (cards_words yk (take (j + 1) cs2)) + length (cards_words yk (drop (j + 1) cs2)) =
        ap length (cards-split yk cs2 (j + 1)) ∙ length-append (cards_words yk (take (j + 1) cs2)) (cards_words yk (drop (j + 1) cs2)) in
        let n5 : g.hi + length (cards_words yk cs2) ≡ length w = hi-is w g order yk cs1 cs2 k in
        let n6 : 0 < heads_len a.card = some-heads a.card in
        (omega arith, omega arith)

    inside : i < length cs → at < length w
    inside h = choose (λ x. (below-size x).0) (λ y. (above-size y (let n : length cs ≡ length cs1 + length cs2 = size in omega arith)).0)

    past_all : i ≡ length cs → at ≡ length w
    past_all e =
        let n : length cs ≡ length cs1 + length cs2 = size in
        let all : length cs2 ≤ i - length cs1 = omega arith in
        stands.above (omega arith) ∙ ap (λ (t : List Card). g.hi + length (cards_words yk t)) (take_all (i - length cs1) cs2 all)
        ∙ hi-is w g order yk cs1 cs2 k

    module _ (c : Seen) (sees : SeesAny w at c) (v : List ℕ) (h : Gap) (m : Moves w g (at + c.heads + c.count) v h) where
      after-below : i < length cs1 → Work v h yk (take (i + 1) cs) (drop (i + 1) cs)
      after-below x =
          let a = at_place yk cs1 i k.fit1 x in
          let xs : List ℕ = cards_words yk (take i cs1) in
          let ms : List ℕ = cards_words yk (drop (i + 1) cs1) in
          let n1 : at ≡ length xs = stands.below x in
          let here : drop at w ≡ card_words yk a.card ++ (ms ++ drop g.lo w) =
          ap (λ (t : List ℕ). drop at t) (whole w g order yk cs1 cs2 k ∙ ap (λ (t : List ℕ). t ++ drop g.lo w) a.words ∙ append_assoc
          (xs ++ card_words yk a.card) ms (drop g.lo w) ∙ append_assoc xs (card_words yk a.card) (ms ++ drop g.lo w))
          ∙ drop_at xs (card_words yk a.card ++ (ms ++ drop g.lo w)) at (sym n1) in
          let z = sees yk a.card (ms ++ drop g.lo w) here a.fits in
          let n2 : c.heads ≡ heads_len a.card = z.heads in
          let n3 : c.count ≡ length (text_of a.card) = z.count in
          let n4 : at + (heads_len a.card + length (text_of a.card)) ≡ length (cards_words yk (take (i + 1) cs1)) = (below-size x).1 in
          moved-below (at + c.heads + c.count) v h m (i + 1) (omega arith) (omega arith)

      after-above : length cs1 ≤ i → i - length cs1 < length cs2 → Work v h yk (take (i + 1) cs) (drop (i + 1) cs)
      after-above y x =
          let j : ℕ = i - length cs1 in
          let a = at_place yk cs2 j k.fit2 x in
          let xs : List ℕ = cards_words yk (take j cs2) in
          let ms : List ℕ = cards_words yk (drop (j + 1) cs2) in
          let n1 : at ≡ g.hi + length xs = stands.above y in
          let here : drop at w ≡ card_words yk a.card ++ ms =
          ap (λ (n : ℕ). drop n w) n1 ∙ sym (drop-drop (length xs) g.hi w)
          ∙ ap (λ (t : List ℕ). drop (length xs) t) (k.parted.over ∙ a.words ∙ append_assoc xs (card_words yk a.card) ms)
          ∙ drop_at xs (card_words yk a.card ++ ms) (length xs) refl in
          let z = sees yk a.card ms here a.fits in
          let n2 : c.heads ≡ heads_len a.card = z.heads in
          let n3 : c.count ≡ length (text_of a.card) = z.count in
          let n4 : at + (heads_len a.card + length (text_of a.card)) ≡ g.hi + length (cards_words yk (take (j + 1) cs2)) = (above-size y x).1 in
          moved-above (at + c.heads + c.count) v h m (i + 1) (j + 1) (omega arith) (omega arith)

      after-work : i < length cs → Work v h yk (take (i + 1) cs) (drop (i + 1) cs)
      after-work l = choose after-below (λ y. after-above y (let n : length cs ≡ length cs1 + length cs2 = size in omega arith))

  -- a place counted in words from the start
  module _ (i n : ℕ) (words : length (cards_words yk (take i cs)) ≡ n) where
    upto-below : i ≤ length cs1 → length (cards_words yk (take i cs1)) ≡ n
    upto-below x = ap (λ (t : List Card). length (cards_words yk t)) (sym (take-append-le i cs1 cs2 x)) ∙ words

    upto-above : length cs1 ≤ i → g.lo + length (cards_words yk (take (i - length cs1) cs2)) ≡ n
    upto-above y =
        let is : i ≡ length cs1 + (i - length cs1) = omega arith in
        let tk : take i cs ≡ cs1 ++ take (i - length cs1) cs2 = ap (λ (z : ℕ). take z cs) is ∙ take-append-add cs1 cs2 (i - length cs1) in
        let l : length (cards_words yk cs1) ≡ g.lo = lo-is w g order yk cs1 cs2 k in
        let a : length (cards_words yk (take i cs)) ≡ length (cards_words yk cs1) + length (cards_words yk (take (i - length cs1) cs2)) =
        ap (λ (t : List Card). length (cards_words yk t)) tk ∙ ap length (cards-append yk cs1 (take (i - length cs1) cs2))
        ∙ length-append (cards_words yk cs1) (cards_words yk (take (i - length cs1) cs2)) in
        omega arith

    stands-low : n < g.lo → Stands g yk cs1 cs2 i n
    stands-low h =
        record {
          below = λ x. sym (upto-below (omega arith));
          above = λ y. absurd
              (let e : g.lo + length (cards_words yk (take (i - length cs1) cs2)) ≡ n = upto-above y in omega arith);
        }

    stands-high : g.lo ≤ n → Stands g yk cs1 cs2 i (n + (g.hi - g.lo))
    stands-high h =
        record {
          below = λ x. absurd (let a : length (cards_words yk (take i cs1)) < g.lo = short-at w g order yk cs1 cs2 k i x in let b : length
              (cards_words yk (take i cs1)) ≡ n = upto-below (omega arith) in omega arith);
          above = λ y. let e : g.lo + length (cards_words yk (take (i - length cs1) cs2)) ≡ n = upto-above y in omega arith;
        }

-- BY PLACES
module _ (w : List ℕ) (g : Gap) (order : Ordered w g) where
  pub locates : (low o s : ℕ) (r : Place) → Standings w g low o s r → Locates w g low o s r
  locates low o s r all yk cs1 cs2 k el once =
      let t = all yk cs1 cs2 k el once in
      let e : r.index ≡ index_of o s (cs1 ++ cs2) = t.index in
      let le : index_of o s (cs1 ++ cs2) ≤ length (cs1 ++ cs2) = index-le o s (cs1 ++ cs2) in
      record {
        index = e;
        stands = t.stands;
        found = λ h. inside w g order yk cs1 cs2 k r.index r.at t.stands h;
        missing = λ h. past_all w g order yk cs1 cs2 k r.index r.at t.stands (omega arith);
      }

  pub opens-ahead : (at : ℕ) (v : List ℕ) (h : Gap) → Moves w g at v h → OpensAhead w g at v h
  opens-ahead at v h m yk cs1 cs2 i k stands le = ahead-work w g order yk cs1 cs2 k i at stands v h m

  pub opens-none : (at : ℕ) → length w ≤ at → (v : List ℕ) (h : Gap) → OpensAfter w g at v h
  opens-none at out v h yk cs1 cs2 i k stands l = absurd (let n : at < length w = inside w g order yk cs1 cs2 k i at stands l in omega arith)

  pub opens-after : (at : ℕ) (c : Seen) → SeesAny w at c → (v : List ℕ) (h : Gap) → Moves w g (at + c.heads + c.count) v h → OpensAfter w g at v h
  opens-after at c sees v h m yk cs1 cs2 i k stands l = after-work w g order yk cs1 cs2 k i at stands c sees v h m l

  pub opens-low : (n : ℕ) → n < g.lo → (v : List ℕ) (h : Gap) → OpensAhead w g n v h → OpensAt w g n v h
  opens-low n low v h o yk cs1 cs2 i k words le = o yk cs1 cs2 i k (stands-low w g order yk cs1 cs2 k i n words low) le

  pub opens-high : (n : ℕ) → g.lo ≤ n → (v : List ℕ) (h : Gap) → OpensAhead w g (n + (g.hi - g.lo)) v h → OpensAt w g n v h
  opens-high n high v h o yk cs1 cs2 i k words le = o yk cs1 cs2 i k (stands-high w g order yk cs1 cs2 k i n words high) le
