-- A walk over the cards of a range finds a deck card exactly where the range has one.
use Prim.Native.Nat.{ℕ, zero, suc, ◌+◌, ◌-◌, ◌≤◌, ◌<◌}
use native.Mathlib.Omega.{arith}
use mathlib.Core.Path.{◌≡◌, refl, sym, ap, ◌∙◌}
use mathlib.Core.Bool.{Bool, true, false, ◌||◌}
use mathlib.Core.List.{List, [], ◌∷◌, ◌++◌}
use lib.ListN.{length, take, get_or-eq_default}
use Rattle.words.specs.Base.{any}
use Rattle.library.specs.Library.{Card}
use Rattle.library.specs.Image.{cards_words}
use Rattle.run.specs.CardHeads.{text_of, heads_len, SeesAny, Sees}
use Rattle.run.specs.CardSeek.{CardRun}
use Rattle.run.specs.Corrected.{titled}
use Rattle.run.specs.RangeSteps.{is_title, HasTitle}
use Rattle.run.specs.declared.card.Seen.{Seen}
use Rattle.run.proofs.Walking.{stand-start, stand-in, stand-out, stand-words, stand-fits, stand-next}

-- what is left of the walk: the cards from `at` on, of which the first `left` decide
pub record Rest (w decks : List ℕ) (at left : ℕ) (yk : ℕ → Bool) (cs : List Card) (n : ℕ) (rest : List ℕ) : Type 0 where
  pub more : List Card
  pub run : CardRun w at (length w) yk more rest
  pub same : any (is_title decks) (take n cs) ≡ any (is_title decks) (take left more)

abbrev pub Rests : List ℕ → List ℕ → ℕ → ℕ → ℕ → ℕ → Type 0
Rests w decks from n at left = (yk : ℕ → Bool) (cs : List Card) (rest : List ℕ) → CardRun w from (length w) yk cs rest → Rest w decks at left yk cs n rest

-- none of no cards
none_left : (decks : List ℕ) (k : ℕ) (cs : List Card) → k ≡ 0 → any (is_title decks) (take k cs) ≡ false
none_left decks zero cs e = refl
none_left decks (suc k) cs e = absurd (omega (arith, e))

no-cards : (decks : List ℕ) (k : ℕ) (cs : List Card) → cs ≡ [] → any (is_title decks) (take k cs) ≡ false
no-cards decks zero cs e = refl
no-cards decks (suc k) cs e = ap (λ (x : List Card). any (is_title decks) (take (suc k) x)) e

taken : (decks : List ℕ) (k : ℕ) → 0 < k → (c : Card) (cs : List Card) → any (is_title decks) (take k (c ∷ cs)) ≡ (is_title decks c || any (is_title decks) (take (k - 1) cs))
taken decks zero lt c cs = absurd (omega arith)
taken decks (suc k) lt c cs = let e : k ≡ suc k - 1 = omega arith in ap (λ (m : ℕ). is_title decks c || any (is_title decks) (take m cs)) e

module _ (w decks : List ℕ) (from n : ℕ) where
  pub rest-start : Rests w decks from n from n
  rest-start yk cs rest r = record { more = cs; run = r; same = refl }

  module _ (at left : ℕ) (l : Rests w decks from n at left) where
    pub rest-done : left ≡ 0 → HasTitle w decks from n false
    rest-done z yk cs rest r = let k = l yk cs rest r in sym (k.same ∙ none_left decks left k.more z)

    pub rest_end : length w ≤ at → HasTitle w decks from n false
    unfolding stand-start
    rest_end h yk cs rest r =
        let k = l yk cs rest r in
        sym (k.same ∙ no-cards decks left k.more (stand-out (stand-start w at (length w) yk k.more rest k.run) h))

    module _ (s : Seen) (sees : SeesAny w at s) (h : at < length w) (pos : 0 < left) where
      -- the card that is seen comes first
      first_of : (yk : ℕ → Bool) (rest : List ℕ) (more : List Card) → CardRun w at (length w) yk more rest
          → (c : Card) × ((later : List Card) × ((more ≡ c ∷ later) × (Sees yk c s × CardRun w (at + s.heads + s.count) (length w) yk later rest)))
      unfolding stand-start stand-next
      first_of yk rest more r =
          let t = stand-start w at (length w) yk more rest r in
          let c = stand-in t h in
          let e : more ≡ c.0 ∷ c.1.0 = c.1.1 in
          let v = sees yk c.0 (cards_words yk c.1.0 ++ rest) (stand-words t c.0 c.1.0 e) (stand-fits t c.0 c.1.0 e) in
          let hd : s.heads ≡ heads_len c.0 = v.heads in
          let ct : s.count ≡ length (text_of c.0) = v.count in
          let next = stand-next t c.0 c.1.0 e (at + s.heads + s.count) (omega arith) in
          (c.0, (c.1.0, (e, (v, record { words = next.here; end = next.left; fit = next.fit }))))

      seen-title : (yk : ℕ → Bool) (c : Card) → Sees yk c s → (b : Bool) → titled decks s.owner s.seq ≡ b → is_title decks c ≡ b
      seen-title yk c v b e = (λ i. titled decks (sym v.owner i) (sym v.seq i)) ∙ e

      pub rest-found : titled decks s.owner s.seq ≡ true → HasTitle w decks from n true
      rest-found e yk cs rest r =
          let k = l yk cs rest r in
          let f = first_of yk rest k.more k.run in
          sym (k.same ∙ ap (λ (x : List Card). any (is_title decks) (take left x)) f.1.1.0 ∙ taken decks left pos f.0 f.1.0
          ∙ ap (λ (b : Bool). b || any (is_title decks) (take (left - 1) f.1.0)) (seen-title yk f.0 f.1.1.1.0 true e))

      pub rest-on : titled decks s.owner s.seq ≡ false → Rests w decks from n (at + s.heads + s.count) (left - 1)
      rest-on e yk cs rest r =
          let k = l yk cs rest r in
          let f = first_of yk rest k.more k.run in
          record {
            more = f.1.0;
            run = f.1.1.1.1;
            same = k.same ∙ ap (λ (x : List Card). any (is_title decks) (take left x)) f.1.1.0 ∙ taken decks left pos f.0 f.1.0
                ∙ ap (λ (b : Bool). b || any (is_title decks) (take (left - 1) f.1.0)) (seen-title yk f.0 f.1.1.1.0 false e);
          }
