-- Cards that were read stand in the words one after another. Assumes nothing.
--   read-walks          what `read_cards` reads, the words walk
use Rattle.std.specs.Prelude.{if◌then◌else◌}
use Prim.Native.Nat.{ℕ, zero, suc, ◌+◌, ◌/◌, ◌%◌, ◌^◌, ◌≤◌, ◌<◌}
use native.Mathlib.Omega.{arith}
use mathlib.Core.Path.{◌≡◌, refl, sym, ap, subst}
use mathlib.Core.Bool.{Bool, true, false, not}
use mathlib.Core.List.{List, [], ◌∷◌}
use mathlib.Core.Option.{Option, none, some}
use lib.ListN.{length, get_or, drop, length-drop}
use lib.Seq.{drop-drop}
use Rattle.words.specs.Base.{place_from}
use Rattle.words.specs.Text.{is_text}
use Rattle.library_check.specs.Walks.{Walks}
use Rattle.library.specs.declared.Fault.TheVariants.{Form, Text}
use Rattle.library.specs.Check.{Stored, Fields, Cards, cards, fault, also, fields_of, stored_of, is_last_word, ok_form, read_card, read_cards}
use Rattle.library.proofs.CardWithin.{Formed, formed-at}

-- the cards that are read, and how many they may be
abbrev pub Read : List ℕ → List ℕ → ℕ → ℕ → List Stored → Type 0
Read directory ws left at ss = Walks directory ws at ss × (length ss ≤ left)

-- one card, then what `on` says of those after it
module _ (directory ws : List ℕ) (left at : ℕ) (ss : List Stored) (inside : at < length ws)
    (on : (k : ℕ) (ts : List Stored) → read_cards directory left (drop k (drop at ws)) (at + k) ≡ cards ts → Read directory ws left (at + k) ts) where
  abbrev after : ℕ → Cards
  after k = read_cards directory left (drop k (drop at ws)) (at + k)

  module _ (k : ℕ) (p : place_from is_last_word 1 (drop at ws) ≡ some k) where
    abbrev f : Fields
    f = fields_of (drop at ws) k

    last : (c : Cards) (l : ℕ) → after l ≡ c → l ≡ k + length f.text → ok_form directory f ≡ true → is_text f.text ≡ true → also (stored_of at f) c ≡ cards ss
        → Read directory ws (suc left) at ss
    unfolding formed-at
    last (fault x n) l q j o t e = absurd (let z : ◌≡◌ {A = ℕ} 0 1 = cc in omega arith)
    last (cards ts) l q j o t e =
        let h : ss ≡ stored_of at f ∷ ts = cc in
        let r : Read directory ws left (at + l) ts = on l ts q in
        let x : Formed directory ws at = formed-at directory ws at inside k p o in
        let w : at + k + get_or ws at 0 / 2 ^ 36 % 2 ^ 18 ≤ length ws = x.within in
        let n : length f.text ≡ get_or ws at 0 / 2 ^ 36 % 2 ^ 18 = x.count in
        subst (λ (s : List Stored). Read directory ws (suc left) at s) (sym h) (
          (
            record {
              heads = k;
              next = at + l;
              inside = inside;
              some-heads = x.some-heads;
              within = omega arith;
              count = omega arith;
              last = p;
              is = refl;
              form = o;
              text = t;
            },
            r.0,
          ),
          omega arith,
        )

    of-text : (b : Bool) → is_text f.text ≡ b → ok_form directory f ≡ true
        → (if not b then fault Text at else also (stored_of at f) (after (k + length f.text))) ≡ cards ss → Read directory ws (suc left) at ss
    of-text true t o e = last (after (k + length f.text)) (k + length f.text) refl refl o t e
    of-text false t o e = absurd (let z : ◌≡◌ {A = ℕ} 0 1 = cc in omega arith)

    of-form : (b : Bool) → ok_form directory f ≡ b
        → (if not b then fault Form at else if not (is_text f.text) then fault Text at else also (stored_of at f) (after (k + length f.text))) ≡ cards ss
        → Read directory ws (suc left) at ss
    of-form true o e = of-text (is_text f.text) refl o e
    of-form false o e = absurd (let z : ◌≡◌ {A = ℕ} 0 1 = cc in omega arith)

  of-place : (o : Option ℕ) → place_from is_last_word 1 (drop at ws) ≡ o → read_card directory at (drop at ws) o after ≡ cards ss → Read directory ws (suc left) at ss
  of-place none p e = absurd (let z : ◌≡◌ {A = ℕ} 0 1 = cc in omega arith)
  of-place (some k) p e = of-form k p (ok_form directory (fields_of (drop at ws) k)) refl e

module _ (directory ws : List ℕ) where
  ended : (left at : ℕ) (ss : List Stored) → drop at ws ≡ [] → ss ≡ [] → Read directory ws left at ss
  ended left at ss d h =
      let len : length (drop at ws) ≡ 0 = ap length d in
      subst (λ (s : List Stored). Read directory ws left at s) (sym h) (omega (arith, length-drop at ws), omega arith)

  walk_from : (left : ℕ) (l : List ℕ) (at : ℕ) (ss : List Stored) → drop at ws ≡ l → read_cards directory left l at ≡ cards ss → Read directory ws left at ss
  walk_from zero [] at ss d e = ended zero at ss d (cc)
  walk_from zero (w ∷ l) at ss d e = absurd (let z : ◌≡◌ {A = ℕ} 0 1 = cc in omega arith)
  walk_from (suc left) [] at ss d e = ended (suc left) at ss d (cc)
  walk_from (suc left) (w ∷ l) at ss d e =
      let len : length (drop at ws) ≡ suc (length l) = ap length d in
      let inside : at < length ws = omega (arith, length-drop at ws) in
      of-place directory ws left at ss inside
      (λ k ts q. walk_from left (drop k (drop at ws)) (at + k) ts (sym (drop-drop k at ws)) q)
      (place_from is_last_word 1 (drop at ws)) refl
      (subst (λ (r : List ℕ). read_card directory at r (place_from is_last_word 1 r) (λ k. read_cards directory left (drop k r) (at + k)) ≡ cards ss) (sym d) e)

  pub read-walks : (left at : ℕ) (ss : List Stored) → read_cards directory left (drop at ws) at ≡ cards ss → Walks directory ws at ss × (length ss ≤ left)
  read-walks left at ss e = walk_from left (drop at ws) at ss refl e
