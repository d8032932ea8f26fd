-- What is seen of a card that was read is the card. Assumes nothing.
--   seen-at                   what is seen at a place
--   shown-..                  each thing that is seen
use Rattle.std.specs.Prelude.{if◌then◌else◌}
use Prim.Native.Nat.{ℕ, zero, suc, ◌+◌, ◌-◌, ◌/◌, ◌%◌, ◌^◌, ◌≤◌, ◌<◌}
use native.Mathlib.Omega.{arith}
use native.Mathlib.Decide.{dec_le}
use mathlib.Core.Path.{◌≡◌, refl, sym, ap, ap₂, ◌∙◌}
use mathlib.Core.Bool.{Bool, true, false, ◌&&◌}
use mathlib.Core.List.{List, [], ◌∷◌, map}
use mathlib.Core.Option.{some}
use lib.Dec.{eqb}
use lib.ListN.{length, get_or, take, drop, length-take}
use lib.Seq.{drop-drop}
use borrow.Author.Tests.{eq-eqb, ne_eqb, eqb-true, le-leb}
use Rattle.words.specs.Base.{same, is_nil, place_from}
use Rattle.words.specs.Text.{says, is_text}
use Rattle.words_lines.proofs.NamesByWord.{and_right}
use Rattle.library.specs.Image.{head_words}
use Rattle.library.specs.Check.{Stored, Fields, fields_of, card_of, is_last_word, threes, raw_bytes, used, byte_of, first_activates, form_tests}
use Rattle.library_check.specs.Walks.{Walk}
use Rattle.library_yanks.specs.Bytes.{part}
use Rattle.library.specs.declared.Seen.{Seen}
use Rattle.library_image.specs.Places.{text_from, text_at, next_at, seen_at, text_of, line_in}
use Rattle.library_image.proofs.CardPlaces.{text_at_lem}
use Rattle.library.proofs.AnyAndAll.{no_true}
use Rattle.library.proofs.CardWithin.{all_pass, placed-within, first-at}

same_length : (xs ys : List ℕ) → same xs ys ≡ true → length xs ≡ length ys
same_length [] [] e = refl
same_length [] (y ∷ ys) e = no_true e
same_length (x ∷ xs) [] e = no_true e
same_length (x ∷ xs) (y ∷ ys) e = ap suc (same_length xs ys (and_right (eqb x y) (same xs ys) e))

-- a history of one word has one byte, and one of more words has more
one_byte : (hs : List ℕ) → length hs ≤ 1 → is_nil (map byte_of (drop 1 (used (raw_bytes hs)))) ≡ true
one_byte [] h = refl
one_byte (x ∷ []) h = go (eqb (x % 2 ^ 18) 0)
  where
    go : (b : Bool) → is_nil (map byte_of (drop 1 (if b && true then [] else (x % 2 ^ 18 ∷ [])))) ≡ true
    go true = refl
    go false = refl
one_byte (x ∷ y ∷ hs) h = absurd (omega arith)

more_bytes : (hs raw : List ℕ) (act : Bool) (count seq : ℕ) → first_activates raw ≡ true → same (head_words act count seq raw) hs ≡ true → 1 < length hs
    → is_nil (map byte_of (drop 1 raw)) ≡ false
more_bytes hs [] act count seq f e lt = no_true f
more_bytes hs (b ∷ []) act count seq f e lt = absurd (let z : 1 ≡ length hs = same_length (head_words act count seq (b ∷ [])) hs e in omega arith)
more_bytes hs (b ∷ c ∷ bs) act count seq f e lt = refl

-- what is seen of a card with so many words ahead of its text
record SeenAt (ws : List ℕ) (at heads : ℕ) (r : Seen) : Type 0 where
  text : r.text ≡ at + heads
  next : r.next ≡ at + heads + get_or ws at 0 / 2 ^ 36 % 2 ^ 18
  owner : r.owner ≡ (card_of (fields_of (drop at ws) heads)).owner
  seq : r.seq ≡ (fields_of (drop at ws) heads).seq
  active : r.active ≡ (fields_of (drop at ws) heads).act

text-from : (xs : List ℕ) (i n k : ℕ) → place_from is_last_word (suc n) xs ≡ some k → text_from i xs + n ≡ i + k
text-from [] i n k e = absurd (let z : ◌≡◌ {A = ℕ} 0 1 = cc in omega arith)
text-from (x ∷ xs) i n k e = go (is_last_word x) (text-from xs (suc i) (suc n) k) e
  where
    go : (b : Bool) → (place_from is_last_word (suc (suc n)) xs ≡ some k → text_from (suc i) xs + suc n ≡ suc i + k)
        → (if b then some (suc n) else place_from is_last_word (suc (suc n)) xs) ≡ some k → (if b then suc i else text_from (suc i) xs) + n ≡ i + k
    go true on q = let z : suc n ≡ k = cc in omega arith
    go false on q = omega (arith, on q)

-- the first byte that is used is the first byte, or both are zero
first-used : (x : ℕ) (xs : List ℕ) → get_or (used (x ∷ xs)) 0 0 ≡ x
first-used x xs = go (eqb x 0) refl (is_nil (used xs))
  where
    go : (z : Bool) → eqb x 0 ≡ z → (n : Bool) → get_or (if z && n then [] else (x ∷ used xs)) 0 0 ≡ x
    go true e true = sym (eqb-true x 0 e)
    go true e false = refl
    go false e n = refl

first-raw : (ws : List ℕ) (k : ℕ) → 0 < k → get_or (used (raw_bytes (take k ws))) 0 0 ≡ get_or ws 0 0 % 2 ^ 18
first-raw ws zero h = absurd (omega arith)
first-raw [] (suc k) h = refl
first-raw (w ∷ ws) (suc k) h = first-used (w % 2 ^ 18) (threes (take k ws))

unfoldable seen-at : (d ws : List ℕ) (at : ℕ) (s : Stored) (w : Walk d ws at s) (r : Seen) → r ≡ seen_at ws at → SeenAt ws at w.heads r
unfolding next_at
seen-at d ws at s w r e =
    let x : ℕ = get_or ws at 0 in
    let t : text_at ws at ≡ at + w.heads = text_at_lem ws at w.inside ∙ omega (arith, text-from (drop at ws) at 0 w.heads w.last) in
    let within : text_at ws at + x / 2 ^ 36 % 2 ^ 18 ≤ length ws = let a : w.next ≤ length ws = w.within in omega (arith, t, w.count) in
    let n : next_at ws at ≡ text_at ws at + x / 2 ^ 36 % 2 ^ 18 = ap (λ (b : Bool). if b then text_at ws at + x / 2 ^ 36 % 2 ^ 18 else length ws) (le-leb (text_at ws at + x / 2 ^ 36 % 2 ^ 18) (length ws) within) in
    let f : get_or (drop at ws) 0 0 ≡ x = first-at ws at in
    let o : get_or (used (raw_bytes (take w.heads (drop at ws)))) 0 0 ≡ get_or (drop at ws) 0 0 % 2 ^ 18 = first-raw (drop at ws) w.heads w.some-heads in
    record {
      text = ap (λ (v : Seen). v.text) e ∙ t;
      next = ap (λ (v : Seen). v.next) e ∙ n ∙ ap (λ (m : ℕ). m + x / 2 ^ 36 % 2 ^ 18) t;
      owner = ap (λ (v : Seen). v.owner) e ∙ sym (ap (λ (b : ℕ). b % 2 ^ 16) (o ∙ ap (λ (v : ℕ). v % 2 ^ 18) f) ∙ omega arith);
      seq = ap (λ (v : Seen). v.seq) e ∙ ap (λ (v : ℕ). v / 2 ^ 18 % 2 ^ 18) (sym f);
      active = ap (λ (v : Seen). v.active) e ∙ ap (λ (v : ℕ). eqb (v / 2 ^ 58 % 2) 1) (sym f);
    }

module _ (d ws : List ℕ) (at : ℕ) (s : Stored) (w : Walk d ws at s) (r : Seen) (sees : r ≡ seen_at ws at) where
  abbrev fields : Fields
  fields = fields_of (drop at ws) w.heads

  abbrev count : ℕ
  count = get_or ws at 0 / 2 ^ 36 % 2 ^ 18

  seen : SeenAt ws at w.heads r
  seen = seen-at d ws at s w r sees

  pub shown-next : r.next ≡ w.next
  shown-next = seen.next ∙ sym w.count

  shown-within : r.next ≤ length ws
  shown-within = let a : w.next ≤ length ws = w.within in omega (arith, shown-next)

  heads-are : w.heads ≡ r.text - at
  heads-are = omega (arith, seen.text)

  shown-text : part r.text r.next ws ≡ fields.text
  shown-text =
      let a : r.next - r.text ≡ count = omega (arith, seen.text, seen.next) in
      let f : get_or (drop at ws) 0 0 ≡ get_or ws at 0 = first-at ws at in
      ap₂ {B = List ℕ} (λ (n : ℕ) l. take n l) (a ∙ sym (ap (λ (x : ℕ). x / 2 ^ 36 % 2 ^ 18) f)) (ap (λ (n : ℕ). drop n ws) seen.text ∙ sym (drop-drop w.heads at ws))

  pub shown-line : line_in ws r.text r.next ≡ s.card.line
  unfolding line_in
  shown-line =
      ap (λ (b : Bool). if b then text_of (part r.text r.next ws) else []) (le-leb r.next (length ws) shown-within)
      ∙ ap (λ (b : Bool). if b then says (part r.text r.next ws) else []) (ap is_text shown-text ∙ w.text)
      ∙ ap says shown-text ∙ sym (ap (λ (t : Stored). t.card.line) w.is)

  pub shown-place : s.place ≡ at
  shown-place = ap (λ (t : Stored). t.place) w.is

  pub shown-owner : r.owner ≡ s.card.owner
  shown-owner = seen.owner ∙ sym (ap (λ (t : Stored). t.card.owner) w.is)

  pub shown-seq : r.seq ≡ s.card.seq
  shown-seq = seen.seq ∙ sym (ap (λ (t : Stored). t.card.seq) w.is)

  pub shown-act : r.active ≡ s.act
  shown-act = seen.active ∙ sym (ap (λ (t : Stored). t.act) w.is)

  pub shown-heads : take w.heads (drop at ws) ≡ part at r.text ws
  shown-heads = ap (λ (k : ℕ). take k (drop at ws)) heads-are

  heads-length : length (take w.heads (drop at ws)) ≡ w.heads
  heads-length =
      let p : (1 ≤ w.heads) × (w.heads < 1 + length (drop at ws)) = placed-within is_last_word 1 (drop at ws) w.heads w.last in
      length-take w.heads (drop at ws) ∙ omega (arith, p.1)

  -- with one byte the text follows the first word
  pub shown-alone : is_nil s.card.later ≡ eqb r.text (at + 1)
  shown-alone = ap (λ (t : Stored). is_nil t.card.later) w.is ∙ go (dec_le w.heads 1)
    where
      go : Dec (w.heads ≤ 1) → is_nil (map byte_of (drop 1 fields.raw)) ≡ eqb r.text (at + 1)
      go (yes le) =
          let p : 0 < w.heads = w.some-heads in
          one_byte (take w.heads (drop at ws)) (omega (arith, heads-length)) ∙ sym (eq-eqb r.text (at + 1) (omega (arith, seen.text)))
      go (no gt) =
          let p = all_pass (form_tests d fields) w.form in
          more_bytes fields.head fields.raw fields.act _ fields.seq p.1.0 p.1.1.1.1.1.0 (omega (arith, heads-length))
          ∙ sym (ne_eqb r.text (at + 1) (λ e. gt (omega (arith, seen.text))))
