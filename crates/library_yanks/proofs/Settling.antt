-- The owners passed from the highest down write down the one solution of the yank rule.
-- activity hangs on numbers from its owner's on, which are settled by then. Assumes nothing.
--   Lower          what is asked of a card of YANK$$$
--   ran-settles    the flags are the solution
use Prim.Native.Nat.{ℕ, zero, suc, ◌≤◌, ◌<◌}
use native.Mathlib.Omega.{arith}
use mathlib.Core.Path.{◌≡◌, refl, sym, ap, ap₂, ◌∙◌}
use mathlib.Core.Bool.{Bool, true, false, ◌&&◌, ◌||◌}
use mathlib.Core.List.{List, [], ◌∷◌}
use lib.Dec.{eqb, leb}
use lib.ListN.{length}
use borrow.Author.Tests.{eqb-true, eqb-false, le-leb, lt-leb, leb-true, leb-false}
use Rattle.words.proofs.TestParts.{or-false, or_assoc}
use Rattle.words.specs.Base.{any}
use Rattle.library.specs.Each.{Each}
use Rattle.library.specs.Library.{Card, history}
use Rattle.library.specs.Yanks.{covers, targets, last_says}
use Rattle.library_yanks.specs.Ran.{applied, apply_if, passed, ran, no_flag}
use Rattle.library.proofs.EachTest.{each_map}
use Rattle.library.proofs.OneSolution.{says-agree}

-- a card that names only numbers below its owner's, which is in the directory and the lowest of its history
pub record Lower (d : List ℕ) (c : Card) : Type 0 where
  pub names : (n : ℕ) → any (covers 0 n) (targets d c.line) ≡ true → (0 < n) × (n < c.owner)
  pub own : c.owner ≤ length d
  pub rises : Each (λ b. c.owner ≤ b.number) (history c)

-- OR in a row
or_swap : (q r a b : Bool) → ((q || r) || (a || b)) ≡ ((q || a) || (r || b))
or_swap true r a b = refl
or_swap false true true b = refl
or_swap false true false b = refl
or_swap false false a b = refl

and-swap : (a b : Bool) → (a && b) ≡ (b && a)
and-swap true true = refl
and-swap true false = refl
and-swap false true = refl
and-swap false false = refl

and-or : (a b x : Bool) → ((a || b) && x) ≡ ((a && x) || (b && x))
and-or true true true = refl
and-or true true false = refl
and-or true false true = refl
and-or true false false = refl
and-or false b x = refl

any-agree : (p q : Card → Bool) (cs : List Card) → Each (λ c. p c ≡ q c) cs → any p cs ≡ any q cs
any-agree p q [] h = refl
any-agree p q (c ∷ cs) h = ap₂ ◌||◌ h.0 (any-agree p q cs h.1)

-- from k on: above k, or k itself
from-split : (k o : ℕ) → leb k o ≡ (leb (suc k) o || eqb o k)
from-split k o = go (leb (suc k) o) (eqb o k) refl refl
  where
    go : (a b : Bool) → leb (suc k) o ≡ a → eqb o k ≡ b → leb k o ≡ (a || b)
    go true b e f = let h : suc k ≤ o = leb-true (suc k) o e in le-leb k o (omega arith)
    go false true e f = let h : o ≡ k = eqb-true o k f in le-leb k o (omega arith)
    go false false e f = let h : o < suc k = leb-false (suc k) o e in let g : o ≡ k → ⊥ = eqb-false o k f in lt-leb k o (omega arith)

module _ (d : List ℕ) (F : ℕ → Bool) where
  -- a card that acts on j under F
  abbrev acts : ℕ → Card → Bool
  acts j c = any (covers 0 j) (targets d c.line) && last_says F false (history c)

  abbrev above : ℕ → ℕ → List Card → Bool
  above k j cs = any (λ c. leb k c.owner && acts j c) cs

  abbrev of : ℕ → ℕ → List Card → Bool
  of k j cs = any (λ c. eqb c.owner k && acts j c) cs

  split : (k j : ℕ) (cs : List Card) → above k j cs ≡ (above (suc k) j cs || of k j cs)
  split k j [] = refl
  split k j (c ∷ cs) =
      ap₂ ◌||◌ (ap (λ (b : Bool). b && acts j c) (from-split k c.owner) ∙ and-or (leb (suc k) c.owner) (eqb c.owner k) (acts j c)) (split k j cs)
      ∙ or_swap (leb (suc k) c.owner && acts j c) (eqb c.owner k && acts j c) (above (suc k) j cs) (of k j cs)

  -- flags that are settled from k on
  abbrev Agree : ℕ → (ℕ → Bool) → Type 0
  Agree k f = (m : ℕ) → k ≤ m → f m ≡ F m

  module _ (k : ℕ) (c : Card) (low : Lower d c) (own : c.owner ≡ k) (f : ℕ → Bool) (agree : Agree k f) where
    same-says : last_says f false (history c) ≡ last_says F false (history c)
    same-says =
        says-agree f F false (history c)
        (each_map (λ b. c.owner ≤ b.number) (λ b. f b.number ≡ F b.number) (λ b h. agree b.number (omega (arith, h))) (history c) low.rises)

    applied-is : (j : ℕ) → applied d f c j ≡ (f j || acts j c)
    applied-is j =
        ap (λ (b : Bool). f j || (b && any (covers 0 j) (targets d c.line))) same-says
        ∙ ap (λ (b : Bool). f j || b) (and-swap (last_says F false (history c)) (any (covers 0 j) (targets d c.line)))

    applied-agrees : Agree k (applied d f c)
    applied-agrees m le = applied-is m ∙ go (any (covers 0 m) (targets d c.line)) refl
      where
        go : (b : Bool) → any (covers 0 m) (targets d c.line) ≡ b → (f m || (b && last_says F false (history c))) ≡ F m
        go true e = let q : m < c.owner = (low.names m e).1 in absurd (omega arith)
        go false e = or-false (f m) ∙ agree m le

  -- THE CARDS OF ONE OWNER
  pass : (k : ℕ) (cs : List Card) → Each (Lower d) cs → (f : ℕ → Bool) → Agree k f → (j : ℕ) → passed d k f cs j ≡ (f j || of k j cs)
  pass k [] h f a j = sym (or-false (f j))
  pass k (c ∷ cs) h f a j = go (eqb c.owner k) refl (λ g b. pass k cs h.1 g b j)
    where
      go : (b : Bool) → eqb c.owner k ≡ b → ((g : ℕ → Bool) → Agree k g → passed d k g cs j ≡ (g j || of k j cs))
          → passed d k (apply_if d f c b) cs j ≡ (f j || ((b && acts j c) || of k j cs))
      go true e on =
          let own : c.owner ≡ k = eqb-true c.owner k e in
          on (applied d f c) (applied-agrees k c h.0 own f a) ∙ ap (λ (b : Bool). b || of k j cs) (applied-is k c h.0 own f a j) ∙ or_assoc (f j) (acts j c) (of k j cs)
      go false e on = on f a

  module _ (ys : List Card) (low : Each (Lower d) ys) (solves : (n : ℕ) → F n ≡ any (acts n) ys) where
    -- who acts on m is above m
    settled-from : (k m : ℕ) → k ≤ m → above (suc k) m ys ≡ F m
    settled-from k m le = any-agree _ _ ys (each_map (Lower d) (λ c. (leb (suc k) c.owner && acts m c) ≡ acts m c) one ys low) ∙ sym (solves m)
      where
        one : (c : Card) → Lower d c → (leb (suc k) c.owner && acts m c) ≡ acts m c
        one c l = go (any (covers 0 m) (targets d c.line)) refl
          where
            go : (b : Bool) → any (covers 0 m) (targets d c.line) ≡ b
                → (leb (suc k) c.owner && (b && last_says F false (history c))) ≡ (b && last_says F false (history c))
            go true e = let q : m < c.owner = (l.names m e).1 in ap (λ (x : Bool). x && last_says F false (history c)) (le-leb (suc k) c.owner (omega arith))
            go false e = and-swap (leb (suc k) c.owner) false

    none_above : (j : ℕ) → above (suc (length d)) j ys ≡ false
    none_above j = any-agree _ (λ c. false) ys (each_map (Lower d) (λ c. (leb (suc (length d)) c.owner && acts j c) ≡ false) one ys low) ∙ never ys
      where
        one : (c : Card) → Lower d c → (leb (suc (length d)) c.owner && acts j c) ≡ false
        one c l = let q : c.owner ≤ length d = l.own in ap (λ (x : Bool). x && acts j c) (lt-leb (suc (length d)) c.owner (omega arith))

        never : (cs : List Card) → any (λ c. false) cs ≡ false
        never [] = refl
        never (c ∷ cs) = never cs

    -- OWNERS FROM THE HIGHEST DOWN
    down : (n : ℕ) (f : ℕ → Bool) → ((j : ℕ) → f j ≡ above (suc n) j ys) → (j : ℕ) → ran d ys n f j ≡ above 1 j ys
    down zero f h j = h j
    down (suc n) f h j =
        down n (passed d (suc n) f ys)
        (λ i. pass (suc n) ys low f (λ m le. h m ∙ settled-from (suc n) m le) i ∙ ap (λ (b : Bool). b || of (suc n) i ys) (h i) ∙ sym (split (suc n) i ys)) j

    pub ran-settles : (j : ℕ) → ran d ys (length d) no_flag j ≡ F j
    ran-settles j = down (length d) no_flag (λ i. sym (none_above i)) j ∙ settled-from 0 j (omega arith)
