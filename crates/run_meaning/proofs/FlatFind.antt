-- A card is found in its part exactly where the stream has it, and spots stand in the order of the stream.
use Rattle.std.specs.Prelude.{if◌then◌else◌}
use Prim.Native.Nat.{ℕ, zero, suc, ◌+◌, ◌≤◌, ◌<◌}
use native.Mathlib.Omega.{arith}
use mathlib.Core.Path.{◌≡◌, refl, sym, ap, ◌∙◌, subst}
use mathlib.Core.Bool.{Bool, true, false, ◌&&◌, ◌||◌, not}
use mathlib.Core.List.{List, [], ◌∷◌, ◌++◌}
use mathlib.Core.Option.{Option, none, some}
use lib.Dec.{T, eqb, ltb, eqb→eq, eqb_refl, ltb→lt, lt→ltb, nltb→le}
use lib.ListN.{length, drop, length-append}
use Rattle.words.specs.Base.{place_from}
use Rattle.words.proofs.TestParts.{T-true, bool_iff}
use Rattle.words_lines.specs.declared.CardName.{CardName}
use Rattle.library.specs.Library.{Card, Library, joined, parts, stream, entry_of}
use Rattle.run_meaning.specs.Step.{Spot, spot_in, find_from, is_card_of, find, is_backwards, is_yank_part}
use Rattle.run_meaning.specs.Flat.{index_by, ahead, Stood, flat, FoundAs}

-- THE SEARCH
-- in a first part of len cards, rest being the index in what follows, k the index in both, and n ahead
abbrev Placed : ℕ → ℕ → ℕ → ℕ → Option ℕ → Type 0
Placed n len rest k none = k ≡ len + rest
Placed n len rest k (some i) = (i ≡ n + k) × (k < len)

placed : (is : Card → Bool) (n : ℕ) (xs ys : List Card) → Placed n (length xs) (index_by is ys) (index_by is (xs ++ ys)) (place_from is n xs)
placed is n [] ys = omega arith
placed is n (x ∷ xs) ys = go (is x) (place_from is (suc n) xs) (placed is (suc n) xs ys)
  where
    k : ℕ
    k = index_by is (xs ++ ys)

    go : (b : Bool) (o : Option ℕ) → Placed (suc n) (length xs) (index_by is ys) k o
        → Placed n (suc (length xs)) (index_by is ys) (if b then 0 else suc k) (if b then some n else o)
    go true o h = (omega arith, omega arith)
    go false none h = omega (arith, h)
    go false (some i) h = (omega (arith, h.0), omega (arith, h.1))

-- among parts of which the first is number p
abbrev FoundIn : ℕ → List (List Card) → ℕ → Option Spot → Type 0
FoundIn p ps k none = k ≡ length (joined ps)
FoundIn p ps k (some a) = (q : ℕ) × (a.part ≡ p + q) × Stood ps q a.index × (ahead ps q + a.index ≡ k)

found_in_lem : (is : Card → Bool) (p : ℕ) (ps : List (List Card)) → FoundIn p ps (index_by is (joined ps)) (find_from is p ps)
found_in_lem is p [] = refl
found_in_lem is p (cs ∷ ps) = go (place_from is 0 cs) (find_from is (suc p) ps) (placed is 0 cs (joined ps)) (found_in_lem is (suc p) ps)
  where
    k : ℕ
    k = index_by is (cs ++ joined ps)

    go : (i : Option ℕ) (o : Option Spot) → Placed 0 (length cs) (index_by is (joined ps)) k i → FoundIn (suc p) ps (index_by is (joined ps)) o
        → FoundIn p (cs ∷ ps) k (spot_in p i o)
    go (some i) o h r = (0, omega arith, omega (arith, h.0, h.1), omega (arith, h.0))
    go none none h r = omega (arith, h, r, length-append cs (joined ps))
    go none (some a) h r = (suc r.0, omega (arith, r.1), r.2, omega (arith, h, r.3))

-- the owner of a card's name, 0 where there is none, and the index of the card so named
abbrev pub own_of : Library → CardName → ℕ
own_of l r = entry_of l.directory r.name

pub find-unknown : (l : Library) (r : CardName) → own_of l r ≡ 0 → find l r ≡ none
unfolding find
find-unknown l r e = go (eqb (own_of l r) 0) (subst (λ (n : ℕ). T (eqb n 0)) (sym e) tt)
  where
    go : (b : Bool) → T b → (if b then none else find_from (is_card_of (own_of l r) r.seq) 0 (parts l)) ≡ none
    go true t = refl
    go false t = absurd t

pub find-flat : (l : Library) (r : CardName) → 0 < own_of l r → FoundAs l (index_by (is_card_of (own_of l r) r.seq) (stream l)) (find l r)
unfolding find stream
find-flat l r pos = go (eqb (own_of l r) 0) (eqb→eq (own_of l r) 0) (find_from is 0 (parts l)) (found_in_lem is 0 (parts l))
  where
    is : Card → Bool
    is = is_card_of (own_of l r) r.seq

    same : (o : Option Spot) → FoundIn 0 (parts l) (index_by is (stream l)) o → FoundAs l (index_by is (stream l)) o
    same none h = h
    same (some a) h =
        let e : h.0 ≡ a.part = omega (arith, h.1) in
        subst (λ (q : ℕ). Stood (parts l) q a.index × (ahead (parts l) q + a.index ≡ index_by is (stream l))) e (h.2, h.3)

    go : (b : Bool) → (T b → own_of l r ≡ 0) → (o : Option Spot) → FoundIn 0 (parts l) (index_by is (stream l)) o
        → FoundAs l (index_by is (stream l)) (if b then none else o)
    go true f o h = let z : entry_of l.directory r.name ≡ 0 = f tt in absurd (omega arith)
    go false f o h = same o h

-- the card at an index that was found passes
pub record Passing (is : Card → Bool) (cs : List Card) : Type 0 where
  pub card : Card
  pub rest : List Card
  pub at : drop (index_by is cs) cs ≡ card ∷ rest
  pub passes : T (is card)

pub index-passes : (is : Card → Bool) (cs : List Card) → index_by is cs < length cs → Passing is cs
index-passes is [] lt = absurd (omega arith)
index-passes is (c ∷ cs) lt = go (is c) refl (index-passes is cs) lt
  where
    go : (b : Bool) → is c ≡ b → (index_by is cs < length cs → Passing is cs) → (if b then 0 else suc (index_by is cs)) < suc (length cs) → Passing is (c ∷ cs)
    go true e f h = record { card = c; rest = cs; at = ap (λ (b : Bool). drop (if b then 0 else suc (index_by is cs)) (c ∷ cs)) e; passes = subst (λ (b : Bool). T b) (sym e) tt }
    go false e f h =
        let p : Passing is cs = f (omega (arith, h)) in
        record { card = p.card; rest = p.rest; at = ap (λ (b : Bool). drop (if b then 0 else suc (index_by is cs)) (c ∷ cs)) e ∙ p.at; passes = p.passes }

-- ORDER
pub stood-below : (ps : List (List Card)) (p i : ℕ) → Stood ps p i → ahead ps p + i < length (joined ps)
stood-below [] p i s = absurd s
stood-below (cs ∷ ps) zero i s = omega (arith, s, length-append cs (joined ps))
stood-below (cs ∷ ps) (suc p) i s = omega (arith, stood-below ps p i s, length-append cs (joined ps))

-- tests of numbers that are known
pub ltb_yes : (m n : ℕ) → m < n → ltb m n ≡ true
ltb_yes m n lt = T-true (ltb m n) (lt→ltb m n lt)

pub ltb_no : (m n : ℕ) → n ≤ m → ltb m n ≡ false
ltb_no m n le = bool_iff (ltb m n) false (λ t. let lt : m < n = ltb→lt m n t in absurd (omega arith)) (λ t. absurd t)

pub eqb_no : (m n : ℕ) → (m ≡ n → ⊥) → eqb m n ≡ false
eqb_no m n ne = bool_iff (eqb m n) false (λ t. absurd (ne (eqb→eq m n t))) (λ t. absurd t)

pub eqb_yes : (m n : ℕ) → m ≡ n → eqb m n ≡ true
eqb_yes m n e = T-true (eqb m n) (subst (λ (k : ℕ). T (eqb m k)) e (eqb_refl m))

-- which of two numbers is lower
pub compared : (P : Type 0) (m n : ℕ) → (m < n → P) → (m ≡ n → P) → (n < m → P) → P
compared P m n lower same higher = go (ltb m n) (ltb n m) (ltb→lt m n) (nltb→le m n) (ltb→lt n m) (nltb→le n m)
  where
    go : (x y : Bool) → (T x → m < n) → (T (not x) → n ≤ m) → (T y → n < m) → (T (not y) → m ≤ n) → P
    go true y a b c d = lower (a tt)
    go false true a b c d = higher (c tt)
    go false false a b c d = let p : n ≤ m = b tt in let q : m ≤ n = d tt in same (omega arith)

pub flat-lower : (ps : List (List Card)) (p i q j : ℕ) → Stood ps p i → q < p → Stood ps q j → ahead ps q + j < ahead ps p
flat-lower [] p i q j s lt t = absurd s
flat-lower (cs ∷ ps) zero i q j s lt t = absurd (omega arith)
flat-lower (cs ∷ ps) (suc p) i zero j s lt t = omega (arith, t)
flat-lower (cs ∷ ps) (suc p) i (suc q) j s lt t = omega (arith, flat-lower ps p i q j s (omega arith) t)

-- a range that is backwards is so in the stream
pub backwards-flat : (l : Library) (a b : Spot) → Stood (parts l) a.part a.index → Stood (parts l) b.part b.index
    → is_backwards a b ≡ ltb (flat l b) (flat l a)
backwards-flat l a b s t = compared (is_backwards a b ≡ ltb (flat l b) (flat l a)) a.part b.part less same more
  where
    ps : List (List Card)
    ps = parts l

    less : a.part < b.part → is_backwards a b ≡ ltb (flat l b) (flat l a)
    less lt =
        ap (λ (x : Bool). x || (eqb a.part b.part && ltb b.index a.index)) (ltb_no b.part a.part (omega arith))
        ∙ ap (λ (x : Bool). x && ltb b.index a.index) (eqb_no a.part b.part (λ e. omega (arith, e)))
        ∙ sym (ltb_no (flat l b) (flat l a) (omega (arith, flat-lower ps b.part b.index a.part a.index t lt s)))

    more : b.part < a.part → is_backwards a b ≡ ltb (flat l b) (flat l a)
    more lt =
        ap (λ (x : Bool). x || (eqb a.part b.part && ltb b.index a.index)) (ltb_yes b.part a.part lt)
        ∙ sym (ltb_yes (flat l b) (flat l a) (omega (arith, flat-lower ps a.part a.index b.part b.index s lt t)))

    same : a.part ≡ b.part → is_backwards a b ≡ ltb (flat l b) (flat l a)
    same e =
        let f : ahead ps a.part ≡ ahead ps b.part = ap (ahead ps) e in
        ap (λ (x : Bool). x || (eqb a.part b.part && ltb b.index a.index)) (ltb_no b.part a.part (omega (arith, e)))
        ∙ ap (λ (x : Bool). x && ltb b.index a.index) (eqb_yes a.part b.part e)
        ∙ bool_iff (ltb b.index a.index) (ltb (flat l b) (flat l a))
        (λ u. lt→ltb (flat l b) (flat l a) (omega (arith, f, ltb→lt b.index a.index u)))
        (λ u. lt→ltb b.index a.index (omega (arith, f, ltb→lt (flat l b) (flat l a) u)))

-- YANK$$$ is the stream's first part
pub yank-part-flat : (l : Library) (a : Spot) → Stood (parts l) a.part a.index → is_yank_part a ≡ ltb (flat l a) (length l.yanks)
yank-part-flat l a s = go a.part s
  where
    go : (p : ℕ) → Stood (parts l) p a.index → eqb p 0 ≡ ltb (ahead (parts l) p + a.index) (length l.yanks)
    go zero h = sym (ltb_yes (0 + a.index) (length l.yanks) (omega (arith, h)))
    go (suc p) h = eqb_no (suc p) 0 (λ e. omega (arith, e)) ∙ sym (ltb_no (ahead (parts l) (suc p) + a.index) (length l.yanks) (omega arith))
