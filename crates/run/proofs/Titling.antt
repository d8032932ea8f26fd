-- The walk goes from card to card up to the first deck card; no card passed was one.
use Rattle.std.specs.Prelude.{if◌then◌else◌}
use Prim.Native.Nat.{ℕ, suc, ◌+◌, ◌≤◌, ◌<◌}
use native.Mathlib.Omega.{arith}
use native.Mathlib.Nat.{add-zero, zero-add}
use mathlib.Core.Path.{◌≡◌, sym, ap, ap₂, ◌∙◌}
use mathlib.Core.Bool.{Bool, true, false}
use mathlib.Core.List.{List, [], ◌∷◌, ◌++◌}
use lib.ListN.{length, take}
use lib.Seq.{take_at}
use Rattle.library.specs.Library.{Card}
use Rattle.library.specs.Image.{cards_words}
use Rattle.run.specs.CardHeads.{text_of, heads_len, SeesAny}
use Rattle.run.specs.CardSeek.{CardRun}
use Rattle.run_meaning.specs.Flat.{index_by}
use Rattle.run.specs.Corrected.{titled}
use Rattle.run.specs.Loaded.{titled_card, Titled, FindsTitle}
use Rattle.run.specs.declared.card.Seen.{Seen}
use Rattle.run.specs.declared.seek.Place.{Place}
use Rattle.run.proofs.Walking.{Stand, stand-start, stand-in, stand-out, stand-words, stand-fits, stand-next}

by-here : (p : Card → Bool) (c : Card) (more : List Card) → p c ≡ true → index_by p (c ∷ more) ≡ 0
by-here p c more e = ap (λ (b : Bool). if b then 0 else (suc (index_by p more))) e

by-later : (p : Card → Bool) (c : Card) (more : List Card) → p c ≡ false → index_by p (c ∷ more) ≡ suc (index_by p more)
by-later p c more e = ap (λ (b : Bool). if b then 0 else (suc (index_by p more))) e

pub record Passed (w : List ℕ) (to : ℕ) (decks : List ℕ) (at i : ℕ) (yk : ℕ → Bool) (cs : List Card) (rest : List ℕ) : Type 0 where
  pub stand : Stand w 0 to at i yk cs rest
  pub same : index_by (titled_card decks) cs ≡ i + index_by (titled_card decks) stand.ahead

abbrev pub Passes : List ℕ → ℕ → List ℕ → ℕ → ℕ → Type 0
Passes w to decks at i = (yk : ℕ → Bool) (cs : List Card) (rest : List ℕ) → CardRun w 0 to yk cs rest → Passed w to decks at i yk cs rest

module _ {w : List ℕ} {to : ℕ} {decks : List ℕ} where
  pub pass-start : Passes w to decks 0 0
  unfolding stand-start
  pass-start yk cs rest r = record { stand = stand-start w 0 to yk cs rest r; same = sym (zero-add (index_by (titled_card decks) cs)) }

  found-by : {at i : ℕ} {yk : ℕ → Bool} {cs : List Card} {rest : List ℕ} (l : Passed w to decks at i yk cs rest)
      → index_by (titled_card decks) l.stand.ahead ≡ 0 → (r : Place) → r.at ≡ at → r.index ≡ i → Titled decks yk cs r
  found-by {at} {i} {yk} {cs} {rest} l z r a n =
      let t = l.stand in
      let p : index_by (titled_card decks) cs ≡ i = l.same ∙ ap (λ (k : ℕ). i + k) z ∙ add-zero i in
      let q : take (index_by (titled_card decks) cs) cs ≡ t.past =
      ap (λ (k : ℕ). take k cs) p ∙ ap (λ (l : List Card). take i l) t.is ∙ take_at t.past t.ahead i t.long in
      let m : at ≡ length (cards_words yk t.past) = sym t.reached ∙ zero-add (length (cards_words yk t.past)) in
      record { index = n ∙ sym p; at = a ∙ m ∙ ap (λ (l : List Card). length (cards_words yk l)) (sym q) }

  module _ {at i : ℕ} (l : Passes w to decks at i) where
    module _ (r : Seen) (sees : SeesAny w at r) (h : at < to) where
      pub pass-found : titled decks r.owner r.seq ≡ true → (z : Place) → z.at ≡ at → z.index ≡ i → FindsTitle w to decks z
      pass-found p z a n yk cs rest run =
          let k = l yk cs rest run in
          let c = stand-in k.stand h in
          let e : k.stand.ahead ≡ c.0 ∷ c.1.0 = c.1.1 in
          let v = sees yk c.0 (cards_words yk c.1.0 ++ rest) (stand-words k.stand c.0 c.1.0 e) (stand-fits k.stand c.0 c.1.0 e) in
          found-by k (ap (index_by (titled_card decks)) e ∙ by-here (titled_card decks) c.0 c.1.0 (ap₂ (titled decks) (sym v.owner) (sym v.seq) ∙ p)) z a n

      pub pass_on : titled decks r.owner r.seq ≡ false → Passes w to decks (at + r.heads + r.count) (i + 1)
      unfolding stand-next
      pass_on p yk cs rest run =
          let k = l yk cs rest run in
          let c = stand-in k.stand h in
          let e : k.stand.ahead ≡ c.0 ∷ c.1.0 = c.1.1 in
          let v = sees yk c.0 (cards_words yk c.1.0 ++ rest) (stand-words k.stand c.0 c.1.0 e) (stand-fits k.stand c.0 c.1.0 e) in
          let hd : r.heads ≡ heads_len c.0 = v.heads in
          let ct : r.count ≡ length (text_of c.0) = v.count in
          let pl : index_by (titled_card decks) k.stand.ahead ≡ suc (index_by (titled_card decks) c.1.0) =
          ap (index_by (titled_card decks)) e ∙ by-later (titled_card decks) c.0 c.1.0 (ap₂ (titled decks) (sym v.owner) (sym v.seq) ∙ p) in
          let sm : index_by (titled_card decks) cs ≡ i + index_by (titled_card decks) k.stand.ahead = k.same in
          record { stand = stand-next k.stand c.0 c.1.0 e (at + r.heads + r.count) (omega arith); same = omega arith }

    pub pass-end : to ≤ at → (z : Place) → z.at ≡ to → z.index ≡ i → FindsTitle w to decks z
    pass-end h z a n yk cs rest run =
        let k = l yk cs rest run in
        let e : k.stand.ahead ≡ [] = stand-out k.stand h in
        let left : at + length (cards_words yk k.stand.ahead) ≡ to = k.stand.left in
        let none : length (cards_words yk k.stand.ahead) ≡ 0 = ap (λ (l : List Card). length (cards_words yk l)) e in
        let same : at ≡ to = omega arith in
        found-by k (ap (index_by (titled_card decks)) e) z (a ∙ sym same) n
