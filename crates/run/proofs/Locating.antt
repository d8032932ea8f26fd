-- A card is looked for above the gap and then below it, and its index counts through both.
use Rattle.std.specs.Prelude.{if◌then◌else◌}
use Prim.Native.Nat.{ℕ, zero, suc, ◌+◌, ◌-◌, ◌≤◌, ◌<◌}
use native.Mathlib.Omega.{arith}
use native.Mathlib.Nat.{zero-add}
use mathlib.Core.Path.{◌≡◌, refl, sym, ap, ◌∙◌}
use mathlib.Core.Bool.{Bool, true, false, ◌&&◌, ◌||◌, not}
use mathlib.Core.List.{List, [], ◌∷◌, ◌++◌, append-nil}
use lib.Dec.{T, T_not, eqb, eqb→eq}
use lib.ListN.{length, take, drop, length-append, length-drop, take-append-drop}
use lib.Seq.{length-take-le, take_all}
use borrow.Author.Tests.{eq-eqb, eqb-true, eqb-false}
use Rattle.words.specs.Base.{any}
use Rattle.words.proofs.TestParts.{true-T, and_both}
use Rattle.library.specs.Each.{Each}
use Rattle.library.specs.Library.{Card}
use Rattle.library.specs.Image.{card_words, cards_words}
use Rattle.library.specs.Sound.{no_two, same_card}
use Rattle.library.proofs.EachTest.{and_parts}
use Rattle.run_meaning.specs.Step.{is_card_of}
use Rattle.run.specs.CardHeads.{text_of, heads_len, Fits}
use Rattle.run.specs.GapWords.{Ordered}
use Rattle.run.specs.CardSeek.{index_of, CardRun, Found, Finds}
use Rattle.run.specs.Work.{Work, Stands}
use Rattle.run.specs.declared.gap.Gap.{Gap}
use Rattle.run.specs.declared.seek.Place.{Place}
use Rattle.run.proofs.Walking.{card-len, some-heads, cards-append}

-- places
pub index-le : (o s : ℕ) (cs : List Card) → index_of o s cs ≤ length cs
unfolding index_of
index-le o s [] = omega arith
index-le o s (c ∷ cs) = go (eqb c.owner o && eqb c.seq s) (index-le o s cs)
  where
    go : (b : Bool) → index_of o s cs ≤ length cs → (if b then 0 else (suc (index_of o s cs))) ≤ suc (length cs)
    go true h = omega arith
    go false h = omega arith

pub index-first : (o s : ℕ) (a b : List Card) → index_of o s a < length a → index_of o s (a ++ b) ≡ index_of o s a
unfolding index_of
index-first o s [] b h = absurd (omega arith)
index-first o s (c ∷ a) b h = go (eqb c.owner o && eqb c.seq s) (index-first o s a b) h
  where
    go : (t : Bool) → (index_of o s a < length a → index_of o s (a ++ b) ≡ index_of o s a) → (if t then 0 else (suc (index_of o s a))) < suc (length a)
        → (if t then 0 else (suc (index_of o s (a ++ b)))) ≡ (if t then 0 else (suc (index_of o s a)))
    go true r k = refl
    go false r k = ap suc (r (omega arith))

pub index-second : (o s : ℕ) (a b : List Card) → index_of o s a ≡ length a → index_of o s (a ++ b) ≡ length a + index_of o s b
unfolding index_of
index-second o s [] b h = sym (zero-add (index_of o s b))
index-second o s (c ∷ a) b h = go (eqb c.owner o && eqb c.seq s) (index-second o s a b) h
  where
    go : (t : Bool) → (index_of o s a ≡ length a → index_of o s (a ++ b) ≡ length a + index_of o s b)
        → (if t then 0 else (suc (index_of o s a))) ≡ suc (length a) → (if t then 0 else (suc (index_of o s (a ++ b)))) ≡ suc (length a) + index_of o s b
    go true r k = absurd (omega arith)
    go false r k = let e : index_of o s (a ++ b) ≡ length a + index_of o s b = r (omega arith) in omega arith

-- no two cards have one owner and number, so where one above the gap has them, none below it has
any-index : (o s : ℕ) (cs : List Card) → index_of o s cs < length cs → T (any (is_card_of o s) cs)
unfolding index_of
any-index o s [] h = absurd (omega arith)
any-index o s (c ∷ cs) h = go (eqb c.owner o && eqb c.seq s) (any-index o s cs) h
  where
    go : (b : Bool) → (index_of o s cs < length cs → T (any (is_card_of o s) cs)) → (if b then 0 else (suc (index_of o s cs))) < suc (length cs) → T (b || any (is_card_of o s) cs)
    go true r k = tt
    go false r k = r (omega arith)

like-named : (o s : ℕ) (c d : Card) → T (is_card_of o s c) → T (is_card_of o s d) → T (same_card c d)
like-named o s c d p q =
    let a = and_parts (eqb c.owner o) (eqb c.seq s) p in
    let b = and_parts (eqb d.owner o) (eqb d.seq s) q in
    and_both (eqb c.owner d.owner) (eqb c.seq d.seq)
    (true-T (eqb c.owner d.owner) (eq-eqb c.owner d.owner (eqb→eq c.owner o a.0 ∙ sym (eqb→eq d.owner o b.0))))
    (true-T (eqb c.seq d.seq) (eq-eqb c.seq d.seq (eqb→eq c.seq s a.1 ∙ sym (eqb→eq d.seq s b.1))))

any-like : (o s : ℕ) (c : Card) → T (is_card_of o s c) → (a b : List Card) → T (any (is_card_of o s) b) → T (any (same_card c) (a ++ b))
any-like o s c p [] [] h = absurd h
any-like o s c p [] (d ∷ b) h = go (is_card_of o s d) (same_card c d) (like-named o s c d p) (any-like o s c p [] b) h
  where
    go : (x y : Bool) → (T x → T y) → (T (any (is_card_of o s) b) → T (any (same_card c) b)) → T (x || any (is_card_of o s) b) → T (y || any (same_card c) b)
    go true true f r t = tt
    go true false f r t = absurd (f tt)
    go false true f r t = tt
    go false false f r t = r t
any-like o s c p (d ∷ a) b h = go (same_card c d) (any-like o s c p a b h)
  where
    go : (x : Bool) → T (any (same_card c) (a ++ b)) → T (x || any (same_card c) (a ++ b))
    go true t = tt
    go false t = t

pub none_below : (o s : ℕ) (a b : List Card) → T (no_two same_card (a ++ b)) → T (any (is_card_of o s) b) → index_of o s a ≡ length a
unfolding index_of
none_below o s [] b t h = refl
none_below o s (c ∷ a) b t h = let p = and_parts (not (any (same_card c) (a ++ b))) (no_two same_card (a ++ b)) t in go (eqb c.owner o && eqb c.seq s) (λ x. x) p.0 (none_below o s a b p.1 h)
  where
    go : (x : Bool) → (T x → T (is_card_of o s c)) → T (not (any (same_card c) (a ++ b))) → index_of o s a ≡ length a → (if x then 0 else (suc (index_of o s a))) ≡ suc (length a)
    go true f n r = absurd (T_not (any (same_card c) (a ++ b)) n (any-like o s c (f tt) a b h))
    go false f n r = ap suc r

-- the card at a place
pub card-at : (cs : List Card) (p : ℕ) → p < length cs → (c : Card) × (drop p cs ≡ c ∷ drop (suc p) cs)
card-at [] p h = absurd (omega arith)
card-at (c ∷ cs) zero h = (c, refl)
card-at (c ∷ cs) (suc p) h =
    let r = card-at cs p (omega arith) in
    (r.0, r.1)

pub cards-at : (yk : ℕ → Bool) (cs : List Card) (p : ℕ) (c : Card) → drop p cs ≡ c ∷ drop (suc p) cs
    → cards_words yk cs ≡ cards_words yk (take p cs) ++ (card_words yk c ++ cards_words yk (drop (suc p) cs))
cards-at yk cs p c e =
    ap (cards_words yk) (sym (take-append-drop p cs)) ∙ cards-append yk (take p cs) (drop p cs)
    ∙ ap (λ (t : List Card). cards_words yk (take p cs) ++ cards_words yk t) e

pub each_append : (a b : List Card) → Each Fits a → Each Fits b → Each Fits (a ++ b)
each_append [] b f g = g
each_append (c ∷ a) b f g = (f.0, each_append a b f.1 g)

pub each_take : (p : ℕ) (cs : List Card) → Each Fits cs → Each Fits (take p cs)
each_take zero cs f = tt
each_take (suc p) [] f = tt
each_take (suc p) (c ∷ cs) f = (f.0, each_take p cs f.1)

pub each-drop : (p : ℕ) (cs : List Card) → Each Fits cs → Each Fits (drop p cs)
each-drop zero cs f = f
each-drop (suc p) [] f = tt
each-drop (suc p) (c ∷ cs) f = each-drop p cs f.1

-- a place with its index
pub record Standing (g : Gap) (yk : ℕ → Bool) (cs1 cs2 : List Card) (o s : ℕ) (r : Place) : Type 0 where
  pub index : r.index ≡ index_of o s (cs1 ++ cs2)
  pub stands : Stands g yk cs1 cs2 r.index r.at

abbrev pub Standings : List ℕ → Gap → ℕ → ℕ → ℕ → Place → Type 0
Standings w g low o s r =
    (yk : ℕ → Bool) (cs1 cs2 : List Card) → Work w g yk cs1 cs2 → low ≡ length cs1 → T (no_two same_card (cs1 ++ cs2)) → Standing g yk cs1 cs2 o s r

-- both parts are runs of cards
module _ (w : List ℕ) (g : Gap) (order : Ordered w g) (yk : ℕ → Bool) (cs1 cs2 : List Card) (k : Work w g yk cs1 cs2) where
  pub lo-is : length (cards_words yk cs1) ≡ g.lo
  lo-is = sym (ap length k.parted.under) ∙ length-take-le g.lo w (omega arith)

  pub hi-is : g.hi + length (cards_words yk cs2) ≡ length w
  hi-is =
      let e : length (drop g.hi w) ≡ length w - g.hi = length-drop g.hi w in
      let f : length (drop g.hi w) ≡ length (cards_words yk cs2) = ap length k.parted.over in
      omega arith

  pub whole : w ≡ cards_words yk cs1 ++ drop g.lo w
  whole = sym (take-append-drop g.lo w) ∙ ap (λ (t : List ℕ). t ++ drop g.lo w) k.parted.under

  pub run-below : CardRun w 0 g.lo yk cs1 (drop g.lo w)
  run-below = record { words = whole; end = zero-add (length (cards_words yk cs1)) ∙ lo-is; fit = k.fit1 }

  pub run-above : CardRun w g.hi (length w) yk cs2 []
  run-above = record { words = k.parted.over ∙ sym (append-nil (cards_words yk cs2)); end = hi-is; fit = k.fit2 }

  -- short of lo exactly where the card is below
  pub short-at : (p : ℕ) → p < length cs1 → length (cards_words yk (take p cs1)) < g.lo
  short-at p h =
      let c = card-at cs1 p h in
      let e : length (cards_words yk cs1) ≡ length (cards_words yk (take p cs1)) + length (card_words yk c.0 ++ cards_words yk (drop (suc p) cs1)) =
      ap length (cards-at yk cs1 p c.0 c.1)
      ∙ length-append (cards_words yk (take p cs1)) (card_words yk c.0 ++ cards_words yk (drop (suc p) cs1)) in
      let f : length (card_words yk c.0 ++ cards_words yk (drop (suc p) cs1))
      ≡ length (card_words yk c.0) + length (cards_words yk (drop (suc p) cs1)) =
      length-append (card_words yk c.0) (cards_words yk (drop (suc p) cs1)) in
      let m : length (card_words yk c.0) ≡ heads_len c.0 + length (text_of c.0) = card-len yk c.0 in
      let n : 0 < heads_len c.0 = some-heads c.0 in
      let l : length (cards_words yk cs1) ≡ g.lo = lo-is in
      omega arith

  module _ (o s : ℕ) (a : Place) (fa : Found 0 yk cs1 o s a) where
    a_at : a.at ≡ length (cards_words yk (take (index_of o s cs1) cs1))
    a_at = fa.at ∙ zero-add (length (cards_words yk (take (index_of o s cs1) cs1)))

    full : index_of o s cs1 ≡ length cs1 → a.at ≡ g.lo
    full e =
        let t : take (index_of o s cs1) cs1 ≡ cs1 = take_all (index_of o s cs1) cs1 (omega arith) in a_at
        ∙ ap (λ (z : List Card). length (cards_words yk z)) t ∙ lo-is

    pub located-below : a.at < g.lo → Standing g yk cs1 cs2 o s a
    located-below h =
        let le : index_of o s cs1 ≤ length cs1 = index-le o s cs1 in
        let lt : index_of o s cs1 < length cs1 = go le in
        let ix : a.index ≡ index_of o s cs1 = fa.index in
        record {
          index = ix ∙ sym (index-first o s cs1 cs2 lt);
          stands = record {
            below = λ q. a_at ∙ ap (λ (n : ℕ). length (cards_words yk (take n cs1))) (sym ix);
            above = λ q. absurd (omega arith);
          };
        }
      where
        go : index_of o s cs1 ≤ length cs1 → index_of o s cs1 < length cs1
        go le = dec (eqb (index_of o s cs1) (length cs1)) refl
          where
            dec : (b : Bool) → eqb (index_of o s cs1) (length cs1) ≡ b → index_of o s cs1 < length cs1
            dec true e = absurd (let z : a.at ≡ g.lo = full (eqb-true (index_of o s cs1) (length cs1) e) in omega arith)
            dec false e = let d : index_of o s cs1 ≡ length cs1 → ⊥ = eqb-false (index_of o s cs1) (length cs1) e in omega arith

    pub located-above : g.lo ≤ a.at → (b : Place) → Found g.hi yk cs2 o s b → (r : Place) → r.at ≡ b.at → r.index ≡ a.index + b.index
        → Standing g yk cs1 cs2 o s r
    located-above h b fb r ra ri =
        let le : index_of o s cs1 ≤ length cs1 = index-le o s cs1 in
        let eq : index_of o s cs1 ≡ length cs1 = dec (eqb (index_of o s cs1) (length cs1)) refl le in
        let ia : a.index ≡ index_of o s cs1 = fa.index in
        let ib : b.index ≡ index_of o s cs2 = fb.index in
        let rest : r.index - length cs1 ≡ index_of o s cs2 = omega arith in
        record {
          index = ri ∙ (λ i. fa.index i + fb.index i) ∙ ap (λ (n : ℕ). n + index_of o s cs2) eq ∙ sym (index-second o s cs1 cs2 eq);
          stands = record {
            below = λ q. absurd (omega arith);
            above = λ q. ra ∙ fb.at ∙ ap (λ (n : ℕ). g.hi + length (cards_words yk (take n cs2))) (sym rest);
          };
        }
      where
        dec : (b : Bool) → eqb (index_of o s cs1) (length cs1) ≡ b → index_of o s cs1 ≤ length cs1 → index_of o s cs1 ≡ length cs1
        dec true e le = eqb-true (index_of o s cs1) (length cs1) e
        dec false e le =
            let d : index_of o s cs1 ≡ length cs1 → ⊥ = eqb-false (index_of o s cs1) (length cs1) e in
            let lt : index_of o s cs1 < length cs1 = omega arith in
            let z : length (cards_words yk (take (index_of o s cs1) cs1)) < g.lo = short-at (index_of o s cs1) lt in
            let y : a.at ≡ length (cards_words yk (take (index_of o s cs1) cs1)) = a_at in
            absurd (omega arith)

  module _ (o s : ℕ) (b : Place) (fb : Found g.hi yk cs2 o s b) where
    pub located-high : b.at < length w → (low : ℕ) → low ≡ length cs1 → T (no_two same_card (cs1 ++ cs2)) → (r : Place) → r.at ≡ b.at → r.index ≡ low + b.index
        → Standing g yk cs1 cs2 o s r
    located-high h low el once r ra ri =
        let le : index_of o s cs2 ≤ length cs2 = index-le o s cs2 in
        let lt : index_of o s cs2 < length cs2 = dec (eqb (index_of o s cs2) (length cs2)) refl le in
        let none : index_of o s cs1 ≡ length cs1 = none_below o s cs1 cs2 once (any-index o s cs2 lt) in
        let ib : b.index ≡ index_of o s cs2 = fb.index in
        let rest : r.index - length cs1 ≡ index_of o s cs2 = omega arith in
        record {
          index = ri ∙ (λ i. el i + ib i) ∙ sym (index-second o s cs1 cs2 none);
          stands = record {
            below = λ q. absurd (omega arith);
            above = λ q. ra ∙ fb.at ∙ ap (λ (n : ℕ). g.hi + length (cards_words yk (take n cs2))) (sym rest);
          };
        }
      where
        dec : (x : Bool) → eqb (index_of o s cs2) (length cs2) ≡ x → index_of o s cs2 ≤ length cs2 → index_of o s cs2 < length cs2
        dec true e le =
            let n : index_of o s cs2 ≡ length cs2 = eqb-true (index_of o s cs2) (length cs2) e in
            let t : take (index_of o s cs2) cs2 ≡ cs2 = take_all (index_of o s cs2) cs2 (omega arith) in
            let z : b.at ≡ g.hi + length (cards_words yk cs2) = fb.at ∙ ap (λ (x : List Card). g.hi + length (cards_words yk x)) t in
            let y : g.hi + length (cards_words yk cs2) ≡ length w = hi-is in
            absurd (omega arith)
        dec false e le = let d : index_of o s cs2 ≡ length cs2 → ⊥ = eqb-false (index_of o s cs2) (length cs2) e in omega arith

module _ (w : List ℕ) (g : Gap) (order : Ordered w g) (low o s : ℕ) where
  pub locate-high : (b : Place) → Finds w g.hi (length w) o s b → b.at < length w → (r : Place) → r.at ≡ b.at → r.index ≡ low + b.index → Standings w g low o s r
  locate-high b fb h r ra ri yk cs1 cs2 k el once = located-high w g order yk cs1 cs2 k o s b (fb yk cs2 [] (run-above w g order yk cs1 cs2 k)) h low el once r ra ri

module _ (w : List ℕ) (g : Gap) (order : Ordered w g) (low o s : ℕ) (a : Place) (fa : Finds w 0 g.lo o s a) where
  pub locate-below : a.at < g.lo → Standings w g low o s a
  locate-below h yk cs1 cs2 k el once = located-below w g order yk cs1 cs2 k o s a (fa yk cs1 (drop g.lo w) (run-below w g order yk cs1 cs2 k)) h

  pub locate-above : g.lo ≤ a.at → (b : Place) → Finds w g.hi (length w) o s b → (r : Place) → r.at ≡ b.at → r.index ≡ a.index + b.index
      → Standings w g low o s r
  locate-above h b fb r ra ri yk cs1 cs2 k el once =
      located-above w g order yk cs1 cs2 k o s a (fa yk cs1 (drop g.lo w) (run-below w g order yk cs1 cs2 k)) h b
      (fb yk cs2 [] (run-above w g order yk cs1 cs2 k)) r ra ri
