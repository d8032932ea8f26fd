-- A key's ways lead through the tree to where it stands, and where they end it stands nowhere. Assumes nothing.
--   tree-none                        no key yet
--   Seeking, seek-..                 the search, one law for each way out of it
use Prim.Native.Nat.{ℕ, zero, suc, ◌+◌, ◌*◌, ◌/◌, ◌%◌, ◌≤◌, ◌<◌}
use native.Mathlib.Omega.{arith}
use mathlib.Core.Path.{◌≡◌, refl, sym, ap, ◌∙◌, subst}
use mathlib.Core.Bool.{Bool, true, false}
use mathlib.Core.List.{List}
use lib.Dec.{eqb}
use lib.ListN.{get_or, set, replicate, length-set, length-replicate}
use lib.Seq.{get_or-set_same, get_or-set_other}
use borrow.Author.Tests.{eqb-true, eqb-false}
use borrow.Author.Count.{below_more}
use Rattle.library_index_twice.specs.KeyTree.{way_of, Leads, Tree, Stood}
use Rattle.library_index_twice.proofs.WaysKept.{Keeps, lead-on, leads-kept}
use Rattle.library_index_twice.proofs.KeysAhead.{in-ahead, not-ahead}

-- NO KEY YET
no_way : (n w : ℕ) → get_or (replicate {A = ℕ} n 0) w 0 ≡ 0
no_way zero w = refl
no_way (suc n) zero = refl
no_way (suc n) (suc w) = no_way n w

pub tree-none : (keys : List ℕ) → Tree keys (replicate {A = ℕ} 65536 0) 0
tree-none keys = record {
  long = length-replicate {A = ℕ} 65536 0;
  rises = λ at rest h. absurd (omega (arith, no_way 65536 (way_of at rest)));
  leads = λ m lt. absurd (omega arith);
}

-- THE SEARCH: where the key stood lies ahead, and what lies ahead lies on the key's ways, with more of them too
pub record Seeking (keys ways : List ℕ) (n key at rest : ℕ) : Type 0 where
  pub inside : 0 < n → at < n
  pub ahead : (m : ℕ) → m < n → get_or keys m 0 ≡ key → (k : ℕ) × Leads ways k at rest m
  pub whole : (ways' : List ℕ) → Keeps ways ways' → (m k : ℕ) → Leads ways' k at rest m → (j : ℕ) × Leads ways' j 0 key m

module _ (keys ways : List ℕ) (n : ℕ) (tree : Tree keys ways n) where
  abbrev key : ℕ
  key = get_or keys n 0

  pub seek-start : Seeking keys ways n key 0 key
  seek-start = record {
    inside = λ h. h;
    ahead = λ m lt e. subst (λ (x : ℕ). (k : ℕ) × Leads ways k 0 x m) e (tree.leads m lt);
    whole = λ ways' keeps m k l. (k, l);
  }

  module _ (at rest : ℕ) (seek : Seeking keys ways n key at rest) (lt : at < n) where
    pub seek_found : get_or keys at 0 ≡ key → Stood keys n true ways
    seek_found e = (
      sym (in-ahead key n at keys lt e),
      λ f. absurd (let z : ◌≡◌ {A = ℕ} 0 1 = cc in omega arith),
    )

    module _ (other : get_or keys at 0 ≡ key → ⊥) where
      pub seek-on : 0 < get_or ways (way_of at rest) 0 → Seeking keys ways n key (get_or ways (way_of at rest) 0) (rest / 4)
      seek-on h = record {
        inside = λ p. (tree.rises at rest h).1;
        ahead = λ m l e. further m e (seek.ahead m l e);
        whole = λ ways' keeps m k l. seek.whole ways' keeps m (suc k) (lead-on ways ways' keeps at rest m k h l);
      }
        where
          further : (m : ℕ) → get_or keys m 0 ≡ key → (k : ℕ) × Leads ways k at rest m → (k : ℕ) × Leads ways k (get_or ways (way_of at rest) 0) (rest / 4) m
          further m e (zero, l) = absurd (other (ap (λ (i : ℕ). get_or keys i 0) l ∙ e))
          further m e (suc k, l) = (k, l.1)

      module _ (ends : get_or ways (way_of at rest) 0 ≡ 0) (few : n ≤ 16383) where
        abbrev ways' : List ℕ
        ways' = set ways (way_of at rest) n

        none : (m : ℕ) → m < n → get_or keys m 0 ≡ key → ⊥
        none m l e = go (seek.ahead m l e)
          where
            go : (k : ℕ) × Leads ways k at rest m → ⊥
            go (zero, p) = other (ap (λ (i : ℕ). get_or keys i 0) p ∙ e)
            go (suc k, p) = let h : 0 < get_or ways (way_of at rest) 0 = p.0 in omega arith

        this : get_or ways' (way_of at rest) 0 ≡ n
        this = get_or-set_same ways (way_of at rest) n 0 (omega (arith, tree.long))

        keeps : Keeps ways ways'
        keeps w h = get_or-set_other ways (way_of at rest) w n 0 (λ e. let z : get_or ways w 0 ≡ get_or ways (way_of at rest) 0 = ap (λ (v : ℕ). get_or ways v 0) e in omega arith)

        new : (j : ℕ) × Leads ways' j 0 key n
        new = seek.whole ways' keeps n 1 (omega (arith, this), this)

        rising : (i r : ℕ) → 0 < get_or ways' (way_of i r) 0 → (i < get_or ways' (way_of i r) 0) × (get_or ways' (way_of i r) 0 < n + 1)
        rising i r h = go (eqb (way_of i r) (way_of at rest)) refl
          where
            go : (b : Bool) → eqb (way_of i r) (way_of at rest) ≡ b → (i < get_or ways' (way_of i r) 0) × (get_or ways' (way_of i r) 0 < n + 1)
            go true e =
                let z : i * 4 + r % 4 ≡ at * 4 + rest % 4 = eqb-true (way_of i r) (way_of at rest) e in
                let v : get_or ways' (way_of i r) 0 ≡ n = ap (λ (w : ℕ). get_or ways' w 0) z ∙ this in
                (omega (arith, v), omega (arith, v))
            go false e =
                let v : get_or ways' (way_of i r) 0 ≡ get_or ways (way_of i r) 0 = get_or-set_other ways (way_of at rest) (way_of i r) n 0 (eqb-false (way_of i r) (way_of at rest) e) in
                let p = tree.rises i r (subst (λ (x : ℕ). 0 < x) v h) in
                (omega (arith, v, p.0), omega (arith, v, p.1))

        leading : (m : ℕ) → m < n + 1 → (k : ℕ) × Leads ways' k 0 (get_or keys m 0) m
        leading =
            below_more (λ m. (k : ℕ) × Leads ways' k 0 (get_or keys m 0) m) n
            (λ m l. let p = tree.leads m l in (p.0, leads-kept ways ways' keeps p.0 0 (get_or keys m 0) m p.1)) new

        pub seek-put : Stood keys n false (set ways (way_of at rest) n)
        seek-put = (
          sym (not-ahead key n keys none),
          λ e. record { long = length-set ways (way_of at rest) n ∙ tree.long; rises = rising; leads = leading },
        )
