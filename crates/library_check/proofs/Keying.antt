-- Two cards share owner and number just where their keys are the same, since a number has 18 bits. Assumes nothing.
--   word-key, shares-keys                    the key of a card
--   Listing, list-..                         the keys of the cards, one after another
--   Placing, place-..                        a card by how many are ahead of it
--   twice-none, twice-at                     row 10 by the first key that stands twice
use Rattle.std.specs.Prelude.{Some, None, if◌then◌else◌}
use Prim.Native.Nat.{ℕ, suc, ◌+◌, ◌-◌, ◌*◌, ◌/◌, ◌%◌, ◌^◌, ◌≤◌, ◌<◌}
use native.Mathlib.Omega.{arith}
use native.Mathlib.Nat.{add-zero}
use native.Mathlib.Numerals.{add-one}
use mathlib.Core.Path.{◌≡◌, refl, sym, ap, ap₂, ◌∙◌, subst}
use mathlib.Core.Bool.{Bool, true, false, ◌&&◌, ◌||◌}
use mathlib.Core.List.{List, [], ◌∷◌, ◌++◌, map, append_assoc, append-nil}
use mathlib.Core.Option.{some}
use lib.Dec.{eqb}
use lib.ListN.{length, get_or, take, drop, set, length-append, length-map, length-drop, drop_of_length-le}
use lib.Seq.{take_all, take-suc-set, length-take-le, drop-cons, get_or-drop}
use borrow.Author.Tests.{eq-eqb, ne_eqb, eqb-true, eqb-false}
use Rattle.words.specs.Base.{any, member, is_nil}
use Rattle.library_index_twice.specs.Twice.{twice_from, first_twice}
use Rattle.library.specs.Each.{Each}
use Rattle.library.specs.Check.{Stored, raw_bytes, threes, used, shares_both, row10_from, row10}
use Rattle.library.specs.declared.Seen.{Seen}
use Rattle.library_image.specs.Places.{seen_at}
use Rattle.library_tables.specs.Found.{found}
use Rattle.library_check.specs.Walks.{Walk, Spans}
use Rattle.library_check.specs.Rows.{key_of, Row10}
use Rattle.library_check.specs.Keys.{Listed, first_place, Stands}
use Rattle.library_check.proofs.Spanning.{Going, Still, still-start, still-on, still-end}
use Rattle.library_check.proofs.Showing.{shown-next, shown-place}

abbrev pub Numbered : Stored → Type 0
Numbered s = s.card.seq < 2 ^ 18

pub walk-numbered : (d ws : List ℕ) (at : ℕ) (s : Stored) → Walk d ws at s → s.card.seq < 2 ^ 18
walk-numbered d ws at s w = let e : s.card.seq ≡ get_or (drop at ws) 0 0 / 2 ^ 18 % 2 ^ 18 = ap (λ (t : Stored). t.card.seq) w.is in omega arith

-- a card's owner and number stand in its first word
first-used : (x : ℕ) (xs : List ℕ) → get_or (used (x ∷ xs)) 0 0 ≡ x
first-used x xs = go (eqb x 0) refl (is_nil (used xs))
  where
    go : (b : Bool) → eqb x 0 ≡ b → (c : Bool) → get_or (if b && c then [] else (x ∷ used xs)) 0 0 ≡ x
    go true e true = sym (eqb-true x 0 e)
    go true e false = refl
    go false e c = refl

module _ (d ws : List ℕ) (at : ℕ) (s : Stored) (w : Walk d ws at s) where
  abbrev x : ℕ
  x = get_or ws at 0

  word-owner : s.card.owner ≡ x % 2 ^ 16
  word-owner =
      let p : 0 < w.heads = w.some-heads in
      let e : w.heads ≡ suc (w.heads - 1) = omega arith in
      let c : take w.heads (drop at ws) ≡ x ∷ take (w.heads - 1) (drop (suc at) ws) = ap (λ (k : ℕ). take k (drop at ws)) e ∙ ap (take (suc (w.heads - 1))) (drop-cons ws at 0 w.inside) in
      ap (λ (t : Stored). t.card.owner) w.is ∙ ap (λ (l : List ℕ). get_or (used (raw_bytes l)) 0 0 % 2 ^ 16) c ∙ ap (λ (b : ℕ). b % 2 ^ 16) (first-used (x % 2 ^ 18) (threes (take (w.heads - 1) (drop (suc at) ws)))) ∙ omega arith

  word-seq : s.card.seq ≡ x / 2 ^ 18 % 2 ^ 18
  word-seq =
      let f : get_or (drop at ws) 0 0 ≡ x = get_or-drop at ws 0 0 ∙ ap (λ (n : ℕ). get_or ws n 0) (add-zero at) in
      ap (λ (t : Stored). t.card.seq) w.is ∙ ap (λ (y : ℕ). y / 2 ^ 18 % 2 ^ 18) f

  pub word-key : x % 2 ^ 16 * 2 ^ 18 + x / 2 ^ 18 % 2 ^ 18 ≡ key_of s
  word-key = ap₂ (λ (a b : ℕ). a * 2 ^ 18 + b) (sym word-owner) (sym word-seq)

key-same : (a b m n : ℕ) → m < 2 ^ 18 → n < 2 ^ 18 → (eqb a b && eqb m n) ≡ eqb (a * 2 ^ 18 + m) (b * 2 ^ 18 + n)
key-same a b m n p q = go (eqb a b) (eqb m n) refl refl
  where
    go : (x y : Bool) → eqb a b ≡ x → eqb m n ≡ y → (x && y) ≡ eqb (a * 2 ^ 18 + m) (b * 2 ^ 18 + n)
    go true true e f = let u : a ≡ b = eqb-true a b e in let v : m ≡ n = eqb-true m n f in sym (eq-eqb (a * 2 ^ 18 + m) (b * 2 ^ 18 + n) (omega arith))
    go true false e f = let v : m ≡ n → ⊥ = eqb-false m n f in let u : a ≡ b = eqb-true a b e in sym (ne_eqb (a * 2 ^ 18 + m) (b * 2 ^ 18 + n) (λ z. v (omega arith)))
    go false y e f = let u : a ≡ b → ⊥ = eqb-false a b e in sym (ne_eqb (a * 2 ^ 18 + m) (b * 2 ^ 18 + n) (λ z. u (omega arith)))

pub shares-keys : (s : Stored) → s.card.seq < 2 ^ 18 → (ahead : List Stored) → Each Numbered ahead → any (shares_both s) ahead ≡ any (λ t. eqb (key_of s) (key_of t)) ahead
shares-keys s num [] h = refl
shares-keys s num (t ∷ ts) h = ap₂ ◌||◌ (key-same s.card.owner t.card.owner s.card.seq t.card.seq num h.0) (shares-keys s num ts h.1)

-- THE KEYS OF THE CARDS: those of the cards ahead are listed, and those left are to be
abbrev pub Listing : List ℕ → List ℕ → ℕ → List ℕ → ℕ → ℕ → Type 0
Listing d ws from keys n at = Still d ws from (length ws) at (map key_of) (λ t. take n keys ++ map key_of t)

pub list-start : (d ws : List ℕ) (from : ℕ) (keys : List ℕ) → Listing d ws from keys 0 from
list-start d ws from keys = still-start d ws from (length ws) (map key_of)

module _ (d ws : List ℕ) (from : ℕ) (keys : List ℕ) (n at : ℕ) (inv : Listing d ws from keys n at) where
  -- row 5 let no more cards in than keys have room
  pub list_full : length keys ≡ 16384 → n ≡ length keys → (ss : List Stored) → Spans d ws from (length ws) ss → length ss ≤ 16383 → ⊥
  list_full long full ss h m =
      let g = inv ss h in
      let e : length (map key_of ss) ≡ length (take n keys ++ map key_of g.left) = ap length g.holds in
      omega (arith, length-map ss key_of, length-append (take n keys) (map key_of g.left), length-take-le n keys (omega arith))

  pub list-end : length ws ≤ at → (ss : List Stored) → Spans d ws from (length ws) ss → map key_of ss ≡ take n keys
  list-end le ss h = still-end d ws from (length ws) (map key_of) at (λ t. take n keys ++ map key_of t) inv le ss h ∙ append-nil (take n keys)

  pub list_on : (r : Seen) → r ≡ seen_at ws at → at < length ws → n < length keys → (v : ℕ) → v ≡ get_or ws at 0 % 2 ^ 16 * 2 ^ 18 + get_or ws at 0 / 2 ^ 18 % 2 ^ 18
      → Listing d ws from (set keys n v) (n + 1) r.next
  list_on r sees lt room v is =
      still-on d ws from (length ws) (map key_of) at (λ t. take n keys ++ map key_of t) inv lt r.next (λ t. take (n + 1) (set keys n v) ++ map key_of t)
      (λ s w. (shown-next d ws at s w r sees, λ t. one_more s w t))
    where
      one_more : (s : Stored) (w : Walk d ws at s) (t : List Stored) → (take n keys ++ key_of s ∷ map key_of t) ≡ (take (n + 1) (set keys n v) ++ map key_of t)
      one_more s w t =
          ap (λ (k : ℕ). take n keys ++ k ∷ map key_of t) (sym (is ∙ word-key d ws at s w)) ∙ sym (append_assoc (take n keys) (v ∷ []) (map key_of t))
          ∙ ap (λ (l : List ℕ). l ++ map key_of t) (sym (ap (λ (m : ℕ). take m (set keys n v)) (add-one n) ∙ take-suc-set keys n v room))

-- A CARD BY ITS COUNT: those left at a place are all but the first i
abbrev pub Placing : List ℕ → List ℕ → ℕ → ℕ → ℕ → ℕ → Type 0
Placing d ws from k i at = (ss : List Stored) → Spans d ws from (length ws) ss → k < length ss → Going d ws at (length ws) (λ t. drop k ss ≡ drop (k - i) t)

pub place-start : (d ws : List ℕ) (from k : ℕ) → Placing d ws from k 0 from
place-start d ws from k ss h lt = let z : k ≡ k - 0 = omega arith in record { left = ss; spans = h; holds = ap (λ (m : ℕ). drop m ss) z }

module _ (d ws : List ℕ) (from k i at : ℕ) (inv : Placing d ws from k i at) where
  -- card k is one of those left
  some_left : (ss : List Stored) → k < length ss → drop k ss ≡ drop (k - i) [] → ⊥
  some_left ss lt e =
      let z : length (drop k ss) ≡ length (drop (k - i) []) = ap length e in
      omega (arith, length-drop k ss, length-drop {A = Stored} (k - i) [])

  pub place-on : (r : Seen) → r ≡ seen_at ws at → i < k → Placing d ws from k (i + 1) r.next
  place-on r sees more ss h lt = let g = inv ss h lt in go g.left g.spans g.holds
    where
      go : (t : List Stored) → Spans d ws at (length ws) t → drop k ss ≡ drop (k - i) t → Going d ws r.next (length ws) (λ t. drop k ss ≡ drop (k - (i + 1)) t)
      go [] sp e = absurd (some_left ss lt e)
      go (s ∷ t) sp e =
          let z : k - i ≡ suc (k - (i + 1)) = omega arith in
          record {
            left = t;
            spans = subst (λ (m : ℕ). Spans d ws m (length ws) t) (sym (shown-next d ws at s sp.0 r sees)) sp.1;
            holds = e ∙ ap (λ (m : ℕ). drop m (s ∷ t)) z;
          }

  pub place_end : k ≤ i → (ss : List Stored) → Spans d ws from (length ws) ss → k < length ss → some at ≡ first_place (drop k ss)
  place_end le ss h lt = let g = inv ss h lt in go g.left g.spans g.holds
    where
      go : (t : List Stored) → Spans d ws at (length ws) t → drop k ss ≡ drop (k - i) t → some at ≡ first_place (drop k ss)
      go [] sp e = absurd (some_left ss lt e)
      go (s ∷ t) sp e =
          let z : k - i ≡ 0 = omega arith in
          sym (ap first_place (e ∙ ap (λ (m : ℕ). drop m (s ∷ t)) z) ∙ ap some (shown-place d ws at s sp.0 (seen_at ws at) refl))

-- ROW 10
any-key : (k : ℕ) (ahead : List Stored) → any (λ t. eqb k (key_of t)) ahead ≡ member k (map key_of ahead)
any-key k [] = refl
any-key k (t ∷ ts) = ap (λ (b : Bool). eqb k (key_of t) || b) (any-key k ts)

all-numbered : (d ws : List ℕ) (at end : ℕ) (ss : List Stored) → Spans d ws at end ss → Each Numbered ss
all-numbered d ws at end [] h = tt
all-numbered d ws at end (s ∷ ss) h = (walk-numbered d ws at s h.0, all-numbered d ws h.0.next end ss h.1)

key-first : (ahead ss : List Stored) → Each Numbered ahead → Each Numbered ss → row10_from ahead ss ≡ first_place (drop (twice_from (map key_of ahead) (map key_of ss)) ss)
key-first ahead [] p q = refl
key-first ahead (s ∷ ss) p q =
    ap (λ (b : Bool). if b then some s.place else row10_from (s ∷ ahead) ss) (shares-keys s q.0 ahead p ∙ any-key (key_of s) ahead)
    ∙ go (member (key_of s) (map key_of ahead)) (twice_from (map key_of (s ∷ ahead)) (map key_of ss)) (key-first (s ∷ ahead) ss (q.0, p) q.1)
  where
    go : (b : Bool) (on : ℕ) → row10_from (s ∷ ahead) ss ≡ first_place (drop on ss)
        → (if b then some s.place else row10_from (s ∷ ahead) ss) ≡ first_place (drop (if b then 0 else suc on) (s ∷ ss))
    go true on e = refl
    go false on e = e

module _ (ws : List ℕ) (from : ℕ) (keys : List ℕ) (n : ℕ) (within : n ≤ length keys) (few : n ≤ 16384) (listed : Listed ws from (take n keys)) (k : ℕ) (is : k ≡ first_twice (take 16384 (take n keys))) where
  module _ (d : List ℕ) (ss : List Stored) (h : Spans d ws from (length ws) ss) (m : length ss ≤ 16383) where
    count : length ss ≡ n
    count = sym (length-map ss key_of) ∙ ap length (listed d ss h m) ∙ length-take-le n keys within

    at_key : row10 ss ≡ first_place (drop k ss)
    at_key =
        let z : length (take n keys) ≡ n = length-take-le n keys within in
        let e : first_twice (map key_of ss) ≡ k = ap first_twice (listed d ss h m ∙ sym (take_all 16384 (take n keys) (omega arith))) ∙ sym is in
        key-first [] ss tt (all-numbered d ws from (length ws) ss h) ∙ ap (λ (j : ℕ). first_place (drop j ss)) e

  pub twice-none : n ≤ k → Row10 ws from None
  twice-none le d ss h m =
      let past : length ss ≤ k = omega (arith, count d ss h m) in
      sym (ap found (at_key d ss h m ∙ ap first_place (drop_of_length-le ss past)))

  pub twice-at : k < n → (r : ℕ) → Stands ws from k r → Row10 ws from (Some r)
  twice-at lt r stands d ss h m = ap found (stands d ss h (omega (arith, count d ss h m)) ∙ sym (at_key d ss h m))
