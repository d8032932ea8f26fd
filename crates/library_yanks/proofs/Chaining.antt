-- Cards linked by their owners, the last first, and followed along the links. Assumes nothing.
--   Linking, link_start, link-more, link-end    each card goes ahead of its owner's others
--   Following, follow-start, follow-more, follow-end    one owner's cards
use Rattle.std.specs.Prelude.{if◌then◌else◌}
use Prim.Native.Nat.{ℕ, suc, ◌-◌, ◌≤◌, ◌<◌}
use native.Mathlib.Omega.{arith}
use mathlib.Core.Path.{◌≡◌, refl, sym, ap, ◌∙◌, subst}
use mathlib.Core.Bool.{Bool, true, false}
use mathlib.Core.List.{List, [], ◌∷◌}
use borrow.Author.Tests.{eqb-true, eqb-false}
use lib.Dec.{eqb}
use lib.ListN.{length, get_or, set, length-set}
use lib.Seq.{get_or-set_same, get_or-set_other}
use Rattle.library.specs.Each.{Each}
use Rattle.library.proofs.EachTest.{each_map}
use Rattle.library.specs.declared.Seen.{Seen}
use Rattle.library_index.proofs.Zeros.{zeros, zeros-zero}
use Rattle.library_image.specs.Places.{next_at, seen_at, places_in}
use Rattle.library_yanks.specs.Flags.{onto, backward, owned, acted, acted_all, Chain, Linked}
use Rattle.library_image.proofs.CardPlaces.{next-inside, places-more, places-end}

-- CHAINS: a link of a place beyond leaves them
module _ (ws link : List ℕ) (at v : ℕ) where
  chain-set : (s : ℕ) (ps : List ℕ) → Each (λ p. p < at) ps → Chain ws link s ps → Chain ws (set link at v) s ps
  chain-set s [] h c = c
  chain-set s (p ∷ ps) h c =
      let lt : p < at = h.0 in
      let e : get_or (set link at v) p 0 ≡ get_or link p 0 = get_or-set_other link at p v 0 (λ q. omega arith) in
      (c.0, (c.1.0, (omega (arith, e, c.1.1.0), subst (λ (k : ℕ). Chain ws (set link at v) k ps) (sym e) (chain-set (get_or link p 0) ps h.1 c.1.1.1))))

  chain-below : (s : ℕ) (ps : List ℕ) → Each (λ p. p < at) ps → Chain ws link s ps → s < suc at
  chain-below s [] h c = omega arith
  chain-below s (p ∷ ps) h c = omega (arith, h.0, c.0)

each_owned : (ws : List ℕ) (n at : ℕ) (ps : List ℕ) → Each (λ p. p < at) ps → Each (λ p. p < at) (owned ws n ps)
each_owned ws n at [] h = tt
each_owned ws n at (p ∷ ps) h = go (eqb (seen_at ws p).owner n) (each_owned ws n at ps h.1)
  where
    go : (b : Bool) → Each (λ q. q < at) (owned ws n ps) → Each (λ q. q < at) (if b then (p ∷ owned ws n ps) else owned ws n ps)
    go true e = (h.0, e)
    go false e = e

-- LINKING: those passed are linked, the last first
pub record Linking (ws first link : List ℕ) (at : ℕ) : Type 0 where
  pub back : List ℕ
  pub whole : onto back (places_in ws at) ≡ backward ws
  pub below : Each (λ p. p < at) back
  pub chains : (n : ℕ) → n < length first → Chain ws link (get_or first n 0) (owned ws n back)

module _ (ws : List ℕ) where
  pub link_start : (link : List ℕ) (size : ℕ) → Linking ws (zeros size) link 0
  unfolding backward
  link_start link size =
      record {
        back = [];
        whole = refl;
        below = tt;
        chains = λ n h. zeros-zero size n;
      }

  module _ (first link : List ℕ) (at : ℕ) (inv : Linking ws first link at) where
    module _ (h : at < length ws) (room : at < length link) (s : Seen) (is : s ≡ seen_at ws at) where
      abbrev own : ℕ
      own = (seen_at ws at).owner

      abbrev link2 : List ℕ
      link2 = set link at (get_or first own 0)

      abbrev first2 : List ℕ
      first2 = set first own (suc at)

      chain_more : (n : ℕ) → n < length first → Chain ws link2 (get_or first2 n 0) (owned ws n (at ∷ inv.back))
      chain_more n lt = go (eqb own n) refl
        where
          under : Each (λ p. p < at) (owned ws n inv.back)
          under = each_owned ws n at inv.back inv.below

          old : Chain ws link (get_or first n 0) (owned ws n inv.back)
          old = inv.chains n lt

          kept : Chain ws link2 (get_or first n 0) (owned ws n inv.back)
          kept = chain-set ws link at (get_or first own 0) (get_or first n 0) (owned ws n inv.back) under old

          go : (b : Bool) → eqb own n ≡ b → Chain ws link2 (get_or first2 n 0) (if b then (at ∷ owned ws n inv.back) else owned ws n inv.back)
          go true e =
              let same : own ≡ n = eqb-true own n e in
              let head : get_or first2 n 0 ≡ suc at = ap (λ (k : ℕ). get_or (set first k (suc at)) n 0) same ∙ get_or-set_same first n (suc at) 0 lt in
              let tail : get_or link2 at 0 ≡ get_or first n 0 = get_or-set_same link at (get_or first own 0) 0 room ∙ ap (λ (k : ℕ). get_or first k 0) same in
              let low : get_or first n 0 < suc at = chain-below ws link at 0 (get_or first n 0) (owned ws n inv.back) under old in
              (head, (h, (omega (arith, head, tail, low), subst (λ (k : ℕ). Chain ws link2 k (owned ws n inv.back)) (sym tail) kept)))
          go false e =
              let other : get_or first2 n 0 ≡ get_or first n 0 = get_or-set_other first own n (suc at) 0 (λ q. eqb-false own n e (sym q)) in
              subst (λ (k : ℕ). Chain ws link2 k (owned ws n inv.back)) (sym other) kept

      next-linked : Linking ws first2 link2 (next_at ws at)
      next-linked =
          record {
            back = at ∷ inv.back;
            whole = ap (onto inv.back) (sym (places-more ws at h)) ∙ inv.whole;
            below = ((next-inside ws at h).0, each_map (λ p. p < at) (λ p. p < next_at ws at) (λ p r. omega (arith, r, (next-inside ws at h).0)) inv.back inv.below);
            chains = λ n lt. chain_more n (omega (arith, lt, length-set first own (suc at)));
          }

      pub link-more : (f l : List ℕ) → f ≡ set first s.owner (suc at) → l ≡ set link at (get_or first s.owner 0) → Linking ws f l s.next
      link-more f l p q =
          let o : s.owner ≡ own = ap (λ (v : Seen). v.owner) is in
          let a : f ≡ first2 = p ∙ ap (λ (k : ℕ). set first k (suc at)) o in
          let b : l ≡ link2 = q ∙ ap (λ (k : ℕ). set link at (get_or first k 0)) o in
          let m : s.next ≡ next_at ws at = ap (λ (v : Seen). v.next) is in
          subst (λ (k : ℕ). Linking ws f l k) (sym m)
          (subst (λ (x : List ℕ). Linking ws x l (next_at ws at)) (sym a) (subst (λ (x : List ℕ). Linking ws first2 x (next_at ws at)) (sym b) next-linked))

    pub link-end : length ws ≤ at → Linked ws first link
    link-end h n lt =
        let e : inv.back ≡ backward ws = ap (onto inv.back) (sym (places-end ws at h)) ∙ inv.whole in
        subst (λ (ps : List ℕ). Chain ws link (get_or first n 0) (owned ws n ps)) e (inv.chains n lt)

-- FOLLOWING: those left do what is still to do
pub record Following (d ws link goal now : List ℕ) (s : ℕ) : Type 0 where
  pub left : List ℕ
  pub chain : Chain ws link s left
  pub rest : acted_all d ws left now ≡ goal

pub follow-start : (d ws link : List ℕ) (ps flags : List ℕ) (s : ℕ) → Chain ws link s ps → Following d ws link (acted_all d ws ps flags) flags s
follow-start d ws link ps flags s c = record { left = ps; chain = c; rest = refl }

module _ (d ws link goal now : List ℕ) (s : ℕ) (inv : Following d ws link goal now s) where
  pub record Next : Type 0 where
    pub inside : s - 1 < length ws
    pub falls : get_or link (s - 1) 0 < s
    pub on : (after : List ℕ) → after ≡ acted d ws now (s - 1) → Following d ws link goal after (get_or link (s - 1) 0)

  pub follow-next : 0 < s → Next
  follow-next h = go inv.left inv.chain inv.rest
    where
      go : (ps : List ℕ) → Chain ws link s ps → acted_all d ws ps now ≡ goal → Next
      go [] c e = absurd (omega (arith, c))
      go (p ∷ ps) c e =
          let is : s - 1 ≡ p = omega (arith, c.0) in
          record {
            inside = omega (arith, is, c.1.0);
            falls = subst (λ (k : ℕ). get_or link k 0 < s) (sym is) c.1.1.0;
            on = λ after x.
                record {
                  left = ps;
                  chain = subst (λ (k : ℕ). Chain ws link (get_or link k 0) ps) (sym is) c.1.1.1;
                  rest = ap (acted_all d ws ps) (x ∙ ap (acted d ws now) is) ∙ e;
                };
          }

  pub follow-end : s ≤ 0 → now ≡ goal
  follow-end h = go inv.left inv.chain inv.rest
    where
      go : (ps : List ℕ) → Chain ws link s ps → acted_all d ws ps now ≡ goal → now ≡ goal
      go [] c e = e
      go (p ∷ ps) c e = absurd (omega (arith, c.0))
