-- Cards stand one after another, each as long as its heads and its text, so a walk misses none.
use Rattle.std.specs.Prelude.{if◌then◌else◌}
use Prim.Native.Nat.{ℕ, zero, suc, ◌+◌, ◌/◌, ◌%◌, ◌^◌, ◌≤◌, ◌<◌}
use native.Mathlib.Omega.{arith}
use native.Mathlib.Nat.{add-zero, zero-add}
use mathlib.Core.Path.{◌≡◌, refl, sym, ap, ap₂, ◌∙◌, subst}
use mathlib.Core.Bool.{Bool, true, false, ◌&&◌}
use mathlib.Core.List.{List, [], ◌∷◌, ◌++◌, append_assoc, append-nil}
use lib.Dec.{T, eqb}
use lib.ListN.{length, take, drop, get_or, length-append}
use lib.Seq.{drop-drop, drop_at, take_at}
use borrow.Author.Tests.{eq-eqb, eqb-true}
use Rattle.library.specs.Each.{Each}
use Rattle.library.specs.Library.{Card}
use Rattle.library.specs.Image.{card_words, cards_words}
use Rattle.run.specs.CardHeads.{text_of, heads_of, heads_len, Fits, beyond, SeesAny}
use Rattle.run.specs.CardSeek.{index_of, named_at, CardRun, Found, Finds}
use Rattle.run.specs.declared.card.Seen.{Seen}
use Rattle.run.specs.declared.seek.Place.{Place}
use Rattle.run.proofs.Heads.{heads-len}
use Rattle.run.proofs.Seeing.{seen_at, seen-at}

pub card-len : (yk : ℕ → Bool) (c : Card) → length (card_words yk c) ≡ heads_len c + length (text_of c)
unfolding card_words heads_of
card-len yk c = length-append (heads_of yk c) (text_of c) ∙ ap (λ (n : ℕ). n + length (text_of c)) (heads-len yk c)

pub some-heads : (c : Card) → 0 < heads_len c
unfolding heads_len heads_of
some-heads c = omega arith

pub cards-append : (yk : ℕ → Bool) (a b : List Card) → cards_words yk (a ++ b) ≡ cards_words yk a ++ cards_words yk b
cards-append yk [] b = refl
cards-append yk (c ∷ a) b =
    ap (λ (l : List ℕ). card_words yk c ++ l) (cards-append yk a b) ∙ sym (append_assoc (card_words yk c) (cards_words yk a) (cards_words yk b))

pub cards-snoc : (yk : ℕ → Bool) (a : List Card) (c : Card) → cards_words yk (a ++ (c ∷ [])) ≡ cards_words yk a ++ card_words yk c
cards-snoc yk a c = cards-append yk a (c ∷ []) ∙ ap (λ (l : List ℕ). cards_words yk a ++ l) (append-nil (card_words yk c))

-- standing at a card's first word, i cards passed
pub record Stand (w : List ℕ) (from to at i : ℕ) (yk : ℕ → Bool) (cs : List Card) (rest : List ℕ) : Type 0 where
  pub past : List Card
  pub ahead : List Card
  pub is : cs ≡ past ++ ahead
  pub long : length past ≡ i
  pub here : drop at w ≡ cards_words yk ahead ++ rest
  pub reached : from + length (cards_words yk past) ≡ at
  pub left : at + length (cards_words yk ahead) ≡ to
  pub fit : Each Fits ahead

unfoldable pub stand-start : (w : List ℕ) (from to : ℕ) (yk : ℕ → Bool) (cs : List Card) (rest : List ℕ) → CardRun w from to yk cs rest
    → Stand w from to from 0 yk cs rest
stand-start w from to yk cs rest r =
    record { past = []; ahead = cs; is = refl; long = refl; here = r.words; reached = add-zero from; left = r.end; fit = r.fit }

module _ {w : List ℕ} {from to at i : ℕ} {yk : ℕ → Bool} {cs : List Card} {rest : List ℕ} (s : Stand w from to at i yk cs rest) where
  -- short of the end, there is a card
  pub stand-in : at < to → (c : Card) × ((more : List Card) × (s.ahead ≡ c ∷ more))
  stand-in h = go s.ahead s.left
    where
      go : (a : List Card) → at + length (cards_words yk a) ≡ to → (c : Card) × ((more : List Card) × (a ≡ c ∷ more))
      go [] e = absurd (omega arith)
      go (c ∷ more) e = (c, (more, refl))

  -- at the end, there is none
  pub stand-out : to ≤ at → s.ahead ≡ []
  stand-out h = go s.ahead s.left
    where
      go : (a : List Card) → at + length (cards_words yk a) ≡ to → a ≡ []
      go [] e = refl
      go (c ∷ more) e =
          let l : length (card_words yk c ++ cards_words yk more) ≡ length (card_words yk c) + length (cards_words yk more) =
          length-append (card_words yk c) (cards_words yk more) in
          let m : length (card_words yk c) ≡ heads_len c + length (text_of c) = card-len yk c in
          absurd (omega (arith, some-heads c))

  module _ (c : Card) (more : List Card) (e : s.ahead ≡ c ∷ more) where
    pub stand-words : drop at w ≡ card_words yk c ++ (cards_words yk more ++ rest)
    stand-words = s.here ∙ ap (λ (l : List Card). cards_words yk l ++ rest) e ∙ append_assoc (card_words yk c) (cards_words yk more) rest

    pub stand-fits : Fits c
    stand-fits = (rw e at s.fit).0

    unfoldable pub stand-next : (n : ℕ) → at + (heads_len c + length (text_of c)) ≡ n → Stand w from to n (i + 1) yk cs rest
    stand-next n d =
        let len : length (card_words yk c) ≡ heads_len c + length (text_of c) = card-len yk c in
        let nx : n ≡ at + length (card_words yk c) = omega arith in
        let go : drop n w ≡ cards_words yk more ++ rest =
        ap (λ (k : ℕ). drop k w) nx ∙ sym (drop-drop (length (card_words yk c)) at w)
        ∙ ap (λ (l : List ℕ). drop (length (card_words yk c)) l) stand-words
        ∙ drop_at (card_words yk c) (cards_words yk more ++ rest) (length (card_words yk c)) refl in
        let before : length (cards_words yk (s.past ++ (c ∷ []))) ≡ length (cards_words yk s.past) + length (card_words yk c) =
        ap length (cards-snoc yk s.past c) ∙ length-append (cards_words yk s.past) (card_words yk c) in
        let after : length (cards_words yk s.ahead) ≡ length (card_words yk c) + length (cards_words yk more) =
        ap (λ (l : List Card). length (cards_words yk l)) e ∙ length-append (card_words yk c) (cards_words yk more) in
        let f : from + length (cards_words yk s.past) ≡ at = s.reached in
        let g : at + length (cards_words yk s.ahead) ≡ to = s.left in
        let lp : length s.past ≡ i = s.long in
        record {
          past = s.past ++ (c ∷ []);
          ahead = more;
          is = s.is ∙ ap (λ (l : List Card). s.past ++ l) e ∙ sym (append_assoc s.past (c ∷ []) more);
          long = length-append s.past (c ∷ []) ∙ ap (λ (k : ℕ). k + 1) lp;
          here = go;
          reached = omega arith;
          left = omega arith;
          fit = (rw e at s.fit).1;
        }

-- LOOKING FOR A CARD
index-here : (o s : ℕ) (c : Card) (more : List Card) → c.owner ≡ o → c.seq ≡ s → index_of o s (c ∷ more) ≡ 0
unfolding index_of
index-here o s c more p q = rw (eq-eqb c.owner o p, eq-eqb c.seq s q)

index-later : (o s : ℕ) (c : Card) (more : List Card) → (c.owner ≡ o → c.seq ≡ s → ⊥) → index_of o s (c ∷ more) ≡ suc (index_of o s more)
unfolding index_of
index-later o s c more differ = go (eqb c.owner o) (eqb c.seq s) refl refl
  where
    go : (x y : Bool) → eqb c.owner o ≡ x → eqb c.seq s ≡ y → (if x && y then 0 else (suc (index_of o s more))) ≡ suc (index_of o s more)
    go true true p q = absurd (differ (eqb-true c.owner o p) (eqb-true c.seq s q))
    go true false p q = refl
    go false y p q = refl

take_past : (a b : List Card) (n k : ℕ) → k ≡ length a + n → take k (a ++ b) ≡ a ++ take n b
take_past [] b n k e = ap (λ (m : ℕ). take m b) (e ∙ zero-add n)
take_past (c ∷ a) b n zero e = absurd (omega arith)
take_past (c ∷ a) b n (suc k) e = ap {B = List Card} (λ r. c ∷ r) (take_past a b n k (omega arith))

pub record Looking (w : List ℕ) (from to o s at i : ℕ) (yk : ℕ → Bool) (cs : List Card) (rest : List ℕ) : Type 0 where
  pub stand : Stand w from to at i yk cs rest
  pub same : index_of o s cs ≡ i + index_of o s stand.ahead

abbrev pub Looks : List ℕ → ℕ → ℕ → ℕ → ℕ → ℕ → ℕ → Type 0
Looks w from to o s at i = (yk : ℕ → Bool) (cs : List Card) (rest : List ℕ) → CardRun w from to yk cs rest → Looking w from to o s at i yk cs rest

module _ {w : List ℕ} {from to o s : ℕ} where
  pub look-start : Looks w from to o s from 0
  unfolding stand-start
  look-start yk cs rest r = record { stand = stand-start w from to yk cs rest r; same = sym (zero-add (index_of o s cs)) }

  found-by : {at i : ℕ} {yk : ℕ → Bool} {cs : List Card} {rest : List ℕ} (l : Looking w from to o s at i yk cs rest)
      → index_of o s l.stand.ahead ≡ 0
      → (r : Place) → r.at ≡ at → r.index ≡ i → Found from yk cs o s r
  found-by {at} {i} {yk} {cs} {rest} l z r a n =
      let t = l.stand in
      let p : index_of o s cs ≡ i = l.same ∙ ap (λ (k : ℕ). i + k) z ∙ add-zero i in
      let q : take (index_of o s cs) cs ≡ t.past =
      ap (λ (k : ℕ). take k cs) p ∙ ap (λ (l : List Card). take i l) t.is ∙ take_at t.past t.ahead i t.long in
      record { index = n ∙ sym p; at = a ∙ sym t.reached ∙ ap (λ (l : List Card). from + length (cards_words yk l)) (sym q) }

  module _ {at i : ℕ} (l : Looks w from to o s at i) where
    module _ (r : Seen) (sees : SeesAny w at r) (h : at < to) where
      pub look-found : r.owner ≡ o → r.seq ≡ s → (z : Place) → z.at ≡ at → z.index ≡ i → (yk : ℕ → Bool) (cs : List Card) (rest : List ℕ)
          → CardRun w from to yk cs rest → Found from yk cs o s z
      look-found p q z a n yk cs rest run =
          let k = l yk cs rest run in
          let c = stand-in k.stand h in
          let e : k.stand.ahead ≡ c.0 ∷ c.1.0 = c.1.1 in
          let v =
          sees yk c.0 (cards_words yk c.1.0 ++ rest) (stand-words k.stand c.0 c.1.0 e) (stand-fits k.stand c.0 c.1.0 e)
          in
          found-by k (ap (index_of o s) e ∙ index-here o s c.0 c.1.0 (sym v.owner ∙ p) (sym v.seq ∙ q)) z a n

      pub look-on : (r.owner ≡ o → r.seq ≡ s → ⊥) → Looks w from to o s (at + r.heads + r.count) (i + 1)
      unfolding stand-next
      look-on differ yk cs rest run =
          let k = l yk cs rest run in
          let c = stand-in k.stand h in
          let e : k.stand.ahead ≡ c.0 ∷ c.1.0 = c.1.1 in
          let v =
          sees yk c.0 (cards_words yk c.1.0 ++ rest) (stand-words k.stand c.0 c.1.0 e) (stand-fits k.stand c.0 c.1.0 e)
          in
          let hd : r.heads ≡ heads_len c.0 = v.heads in
          let ct : r.count ≡ length (text_of c.0) = v.count in
          let pl : index_of o s k.stand.ahead ≡ suc (index_of o s c.1.0) =
          ap (index_of o s) e ∙ index-later o s c.0 c.1.0 (λ p q. differ (v.owner ∙ p) (v.seq ∙ q)) in
          let sm : index_of o s cs ≡ i + index_of o s k.stand.ahead = k.same in
          record { stand = stand-next k.stand c.0 c.1.0 e (at + r.heads + r.count) (omega arith); same = omega arith }

    pub look-end : to ≤ at → (z : Place) → z.at ≡ to → z.index ≡ i → (yk : ℕ → Bool) (cs : List Card) (rest : List ℕ) → CardRun w from to yk cs rest
        → Found from yk cs o s z
    unfolding index_of
    look-end h z a n yk cs rest run =
        let k = l yk cs rest run in
        let e : k.stand.ahead ≡ [] = stand-out k.stand h in
        let left : at + length (cards_words yk k.stand.ahead) ≡ to = k.stand.left in
        let none : length (cards_words yk k.stand.ahead) ≡ 0 = ap (λ (l : List Card). length (cards_words yk l)) e in
        let same : at ≡ to = omega arith in
        found-by k (ap (index_of o s) e) z (a ∙ sym same) n

    -- the first word tells
    pub look-here : at < to → named_at w at o s ≡ true → (z : Place) → z.at ≡ at → z.index ≡ i → Finds w from to o s z
    look-here h e =
        let x : ℕ = get_or w at 0 in
        let p = go (eqb (x / 2 ^ 18 % 2 ^ 18) s) (eqb (x % 2 ^ 16) o) refl refl e in
        look-found (seen_at w at) (seen-at w at) h p.1 p.0
      where
        go : (a b : Bool) → eqb (get_or w at 0 / 2 ^ 18 % 2 ^ 18) s ≡ a → eqb (get_or w at 0 % 2 ^ 16) o ≡ b → (a && b) ≡ true
            → (get_or w at 0 / 2 ^ 18 % 2 ^ 18 ≡ s) × (get_or w at 0 % 2 ^ 16 ≡ o)
        go true true p q f = (eqb-true (get_or w at 0 / 2 ^ 18 % 2 ^ 18) s p, eqb-true (get_or w at 0 % 2 ^ 16) o q)
        go true false p q f = let z : ◌≡◌ {A = ℕ} 0 1 = cc in absurd (omega arith)
        go false b p q f = let z : ◌≡◌ {A = ℕ} 0 1 = cc in absurd (omega arith)

    pub look-next : at < to → named_at w at o s ≡ false → (n : ℕ) → n ≡ beyond w at → Looks w from to o s n (i + 1)
    look-next h e n q =
        subst (λ (m : ℕ). Looks w from to o s m (i + 1)) (sym q)
        (look-on (seen_at w at) (seen-at w at) h (λ own num. go (eq-eqb (get_or w at 0 / 2 ^ 18 % 2 ^ 18) s num) (eq-eqb (get_or w at 0 % 2 ^ 16) o own) e))
      where
        go : {a b : Bool} → a ≡ true → b ≡ true → (a && b) ≡ false → ⊥
        go {a} {b} p q f = let z : ◌≡◌ {A = Bool} true false = sym (ap₂ (λ (x y : Bool). x && y) p q) ∙ f in subst (λ (x : Bool). T x) z tt

    -- the walk goes on from here
    pub look-find : (r : Place) → Finds w at to o s r → (z : Place) → z.at ≡ r.at → z.index ≡ i + r.index → Finds w from to o s z
    look-find r f z za zi yk cs rest run =
        let k = l yk cs rest run in
        let t = k.stand in
        let n : ℕ = index_of o s t.ahead in
        let v = f yk t.ahead rest (record { words = t.here; end = t.left; fit = t.fit }) in
        let x : r.index ≡ n = v.index in
        let y : r.at ≡ at + length (cards_words yk (take n t.ahead)) = v.at in
        let m : index_of o s cs ≡ i + n = k.same in
        let p : from + length (cards_words yk t.past) ≡ at = t.reached in
        let c : length (cards_words yk (take (index_of o s cs) cs)) ≡ length (cards_words yk t.past ++ cards_words yk (take n t.ahead)) =
        ap (λ (cards : List Card). length (cards_words yk cards)) (ap (take (index_of o s cs)) t.is ∙ take_past t.past t.ahead n (index_of o s cs) (m ∙ ap (λ (u : ℕ). u + n) (sym t.long)))
        ∙ ap length (cards-append yk t.past (take n t.ahead)) in
        let d : length (cards_words yk t.past ++ cards_words yk (take n t.ahead)) ≡ length (cards_words yk t.past) + length (cards_words yk (take n t.ahead)) =
        length-append (cards_words yk t.past) (cards_words yk (take n t.ahead)) in
        record { index = omega arith; at = omega arith }
