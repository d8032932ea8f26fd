-- Stored bytes say what the history says: unused bytes are zero and say nothing. Assumes nothing.
--   all-used                     unused bytes
--   history-raw                  the history is the stored bytes
--   shown-active, shown-bits     a card's activity and bits, from its words
use Rattle.std.specs.Prelude.{if◌then◌else◌}
use Prim.Native.Nat.{ℕ, ◌+◌, ◌/◌, ◌%◌, ◌^◌, ◌≤◌, ◌<◌}
use native.Mathlib.Omega.{arith}
use mathlib.Core.Path.{◌≡◌, refl, sym, ap, ap₂, ◌∙◌}
use mathlib.Core.Bool.{Bool, true, false, ◌&&◌, ◌||◌, beq}
use mathlib.Core.List.{List, [], ◌∷◌, map}
use lib.Dec.{eqb, leb}
use lib.ListN.{get_or, take, drop}
use borrow.Author.Tests.{eq-eqb, ne_eqb, eqb-true, eqb-false, leb-true}
use Rattle.words.specs.Base.{all, same, is_nil}
use Rattle.words_lines.proofs.NamesByWord.{and_left, and_right}
use Rattle.library.specs.Each.{Each}
use Rattle.library.specs.Library.{Byte, history}
use Rattle.library.specs.Yanks.{last_says, active}
use Rattle.library.specs.Image.{bit, byte_bits}
use Rattle.library.specs.Check.{Stored, Fields, fields_of, card_of, threes, raw_bytes, used, byte_of, rising, first_activates, form_tests, ok_bits}
use Rattle.library_image.specs.Places.{seen_at}
use Rattle.library_check.specs.Walks.{Walk}
use Rattle.library_yanks.specs.Bytes.{part, say_all}
use Rattle.library_check.specs.Rows.{ok_bit, ok_card_bits}
use Rattle.library.specs.declared.Seen.{Seen}
use Rattle.library.proofs.EachTest.{each_map}
use Rattle.library.proofs.CardWithin.{all_pass}
use Rattle.library.proofs.AnyAndAll.{no_true}
use Rattle.library_yanks.proofs.Weighing.{say-used}
use Rattle.library_check.proofs.Showing.{shown-heads, shown-act}

-- UNUSED BYTES
all-used : (q : ℕ → Bool) → ((x : ℕ) → eqb x 0 ≡ true → q x ≡ true) → (xs : List ℕ) → all q (used xs) ≡ all q xs
all-used q pass [] = refl
all-used q pass (x ∷ xs) = go (eqb x 0) refl (used xs) refl (all-used q pass xs)
  where
    go : (b : Bool) → eqb x 0 ≡ b → (u : List ℕ) → used xs ≡ u → all q (used xs) ≡ all q xs → all q (if b && is_nil u then [] else (x ∷ u)) ≡ (q x && all q xs)
    go true z [] e ih = ap (all q) (sym e) ∙ ih ∙ ap (λ (b : Bool). b && all q xs) (sym (pass x z))
    go true z (v ∷ u) e ih = ap (λ (l : List ℕ). q x && all q l) (sym e) ∙ ap (λ (b : Bool). q x && b) ih
    go false z u e ih = ap (λ (l : List ℕ). q x && all q l) (sym e) ∙ ap (λ (b : Bool). q x && b) ih

each-used : (P : ℕ → Type 0) (xs : List ℕ) → Each P xs → Each P (used xs)
each-used P [] h = tt
each-used P (x ∷ xs) h = go (eqb x 0 && is_nil (used xs)) (each-used P xs h.1)
  where
    go : (b : Bool) → Each P (used xs) → Each P (if b then [] else (x ∷ used xs))
    go true u = tt
    go false u = (h.0, u)

-- the bytes of words fit 18 bits
Small : ℕ → Type 0
Small b = b < 2 ^ 18

threes-small : (hs : List ℕ) → Each Small (threes hs)
unfolding Small
threes-small [] = tt
threes-small (x ∷ hs) = (omega arith, (omega arith, (omega arith, threes-small hs)))

raw-small : (hs : List ℕ) → Each Small (raw_bytes hs)
unfolding Small
raw-small [] = tt
raw-small (x ∷ hs) = (omega arith, threes-small hs)

-- THE HISTORY: numbers from n on
pub rising-each : (n : ℕ) (bs : List ℕ) → rising n bs ≡ true → Each (λ b. n ≤ b % 2 ^ 16) bs
rising-each n [] e = tt
rising-each n (b ∷ bs) e =
    let le : n ≤ b % 2 ^ 16 = leb-true n (b % 2 ^ 16) (and_left (leb n (b % 2 ^ 16)) (rising (b % 2 ^ 16) bs) e) in
    (le, each_map (λ x. b % 2 ^ 16 ≤ x % 2 ^ 16) (λ x. n ≤ x % 2 ^ 16) (λ x h. omega (arith, h)) bs (rising-each (b % 2 ^ 16) bs (and_right (leb n (b % 2 ^ 16)) (rising (b % 2 ^ 16) bs) e)))

pub history-raw : (f : Fields) → first_activates f.raw ≡ true → history (card_of f) ≡ map byte_of f.raw
history-raw f e = go f.raw e
  where
    go : (raw : List ℕ) → first_activates raw ≡ true → ◌≡◌ {A = List Byte} (record { number = get_or raw 0 0 % 2 ^ 16; activating = true } ∷ map byte_of (drop 1 raw)) (map byte_of raw)
    go [] e = no_true e
    go (b ∷ bs) e = λ i. record { number = b % 2 ^ 16; activating = sym e i } ∷ map byte_of bs

say-raw : (yk : ℕ → Bool) (so : Bool) (bs : List ℕ) → Each (λ b. 1 ≤ b % 2 ^ 16) bs → say_all yk so bs ≡ last_says yk so (map byte_of bs)
say-raw yk so [] h = refl
say-raw yk so (b ∷ bs) h =
    let p : 1 ≤ b % 2 ^ 16 = h.0 in
    let o : Bool = if yk (b % 2 ^ 16) then so else eqb (b / 2 ^ 16 % 2) 1 in
    ap (λ (z : Bool). say_all yk (if z then so else o) bs) (ne_eqb b 0 (λ e. omega arith)) ∙ say-raw yk o bs h.1

module _ (b : ℕ) (pos : 1 ≤ b % 2 ^ 16) (lt : b < 2 ^ 18) where
  one_bit : (y a t : Bool) → eqb (b / 2 ^ 16 % 2) 1 ≡ a → eqb (b / 2 ^ 17) 1 ≡ t → eqb b (bit y 17 + bit a 16 + b % 2 ^ 16) ≡ beq t y
  one_bit true true true p q = let u : b / 2 ^ 16 % 2 ≡ 1 = eqb-true _ _ p in let v : b / 2 ^ 17 ≡ 1 = eqb-true _ _ q in eq-eqb b (bit true 17 + bit true 16 + b % 2 ^ 16) (omega arith)
  one_bit true false true p q = let u : b / 2 ^ 16 % 2 ≡ 1 → ⊥ = eqb-false _ _ p in let v : b / 2 ^ 17 ≡ 1 = eqb-true _ _ q in eq-eqb b (bit true 17 + bit false 16 + b % 2 ^ 16) (omega arith)
  one_bit false true false p q = let u : b / 2 ^ 16 % 2 ≡ 1 = eqb-true _ _ p in let v : b / 2 ^ 17 ≡ 1 → ⊥ = eqb-false _ _ q in eq-eqb b (bit false 17 + bit true 16 + b % 2 ^ 16) (omega arith)
  one_bit false false false p q = let u : b / 2 ^ 16 % 2 ≡ 1 → ⊥ = eqb-false _ _ p in let v : b / 2 ^ 17 ≡ 1 → ⊥ = eqb-false _ _ q in eq-eqb b (bit false 17 + bit false 16 + b % 2 ^ 16) (omega arith)
  one_bit true a false p q = let v : b / 2 ^ 17 ≡ 1 → ⊥ = eqb-false _ _ q in ne_eqb b (bit true 17 + bit a 16 + b % 2 ^ 16) (high a v)
    where
      high : (a : Bool) → (b / 2 ^ 17 ≡ 1 → ⊥) → b ≡ bit true 17 + bit a 16 + b % 2 ^ 16 → ⊥
      high true v e = omega arith
      high false v e = omega arith
  one_bit false a true p q = let v : b / 2 ^ 17 ≡ 1 = eqb-true _ _ q in ne_eqb b (bit false 17 + bit a 16 + b % 2 ^ 16) (low a v)
    where
      low : (a : Bool) → b / 2 ^ 17 ≡ 1 → b ≡ bit false 17 + bit a 16 + b % 2 ^ 16 → ⊥
      low true v e = omega arith
      low false v e = omega arith

bits-same : (yk : ℕ → Bool) (bs : List ℕ) → Each (λ b. 1 ≤ b % 2 ^ 16) bs → Each Small bs → same bs (map (byte_bits yk) (map byte_of bs)) ≡ all (ok_bit yk) bs
unfolding Small
bits-same yk [] h k = refl
bits-same yk (b ∷ bs) h k =
    let p : 1 ≤ b % 2 ^ 16 = h.0 in
    ap₂ ◌&&◌
    (one_bit b p k.0 (yk (b % 2 ^ 16)) (eqb (b / 2 ^ 16 % 2) 1) (eqb (b / 2 ^ 17) 1) refl refl
    ∙ ap (λ (z : Bool). z || beq (eqb (b / 2 ^ 17) 1) (yk (b % 2 ^ 16))) (sym (ne_eqb b 0 (λ e. omega arith))))
    (bits-same yk bs h.1 k.1)

-- A CARD
module _ (d ws : List ℕ) (at : ℕ) (s : Stored) (w : Walk d ws at s) (r : Seen) (sees : r ≡ seen_at ws at) (yk : ℕ → Bool) where
  abbrev f : Fields
  f = fields_of (drop at ws) w.heads

  abbrev hs : List ℕ
  hs = take w.heads (drop at ws)

  positive : Each (λ b. 1 ≤ b % 2 ^ 16) f.raw
  positive = rising-each 1 f.raw (all_pass (form_tests d f) w.form).1.1.0

  is-history : history (card_of f) ≡ map byte_of f.raw
  is-history = history-raw f (all_pass (form_tests d f) w.form).1.0

  says-heads : last_says yk false (history (card_of f)) ≡ say_all yk false (raw_bytes hs)
  says-heads = ap (last_says yk false) is-history ∙ sym (say-raw yk false f.raw positive) ∙ say-used yk false (raw_bytes hs)

  pub shown-active : last_says yk false (history s.card) ≡ say_all yk false (raw_bytes (part at r.text ws))
  shown-active = ap (λ (t : Stored). last_says yk false (history t.card)) w.is ∙ says-heads ∙ ap (λ (l : List ℕ). say_all yk false (raw_bytes l)) (shown-heads d ws at s w r sees)

  bits-heads : same f.raw (map (byte_bits yk) (history (card_of f))) ≡ all (ok_bit yk) (raw_bytes hs)
  bits-heads =
      ap (λ (h : List Byte). same f.raw (map (byte_bits yk) h)) is-history ∙ bits-same yk f.raw positive (each-used Small (raw_bytes hs) (raw-small hs))
      ∙ all-used (ok_bit yk) (λ x z. ap (λ (b : Bool). b || beq (eqb (x / 2 ^ 17) 1) (yk (x % 2 ^ 16))) z) (raw_bytes hs)

  pub shown-bits : ok_bits yk s ≡ ok_card_bits yk r.active (raw_bytes (part at r.text ws))
  unfolding active
  shown-bits =
      ap (ok_bits yk) w.is ∙ ap₂ ◌&&◌ (ap (beq f.act) says-heads) bits-heads
      ∙ ap₂ (ok_card_bits yk) (ap (λ (t : Stored). t.act) (sym w.is) ∙ sym (shown-act d ws at s w r sees)) (ap raw_bytes (shown-heads d ws at s w r sees))
