-- Sound cards, written in words, are read back by rows 5 and 6.
use Rattle.std.specs.Prelude.{if◌then◌else◌}
use Prim.Native.Nat.{ℕ, zero, suc, ◌+◌, ◌/◌, ◌%◌, ◌^◌, ◌≤◌, ◌<◌}
use native.Mathlib.Omega.{arith}
use mathlib.Core.Path.{◌≡◌, refl, sym, ap, ◌∙◌, subst}
use mathlib.Core.Bool.{Bool, true, not}
use mathlib.Core.List.{List, [], ◌∷◌, ◌++◌, map, append_assoc}
use mathlib.Core.Option.{Option}
use lib.Dec.{T, eqb, eqb_refl, leb, leb→le, le→leb, lt→ltb}
use lib.ListN.{length, get_or, drop, length-map, length-append}
use lib.Seq.{drop_at}
use Rattle.words.specs.Base.{all, same, place_from}
use Rattle.words.specs.Display.{in_chart}
use Rattle.words.specs.Text.{trim, text_words, says, is_text}
use Rattle.words.proofs.TestParts.{T-true, and_both, same-eq, same_refl}
use Rattle.words.proofs.TextTrip.{says-written, written-is-text, written-fits}
use Rattle.library.specs.Each.{Each}
use Rattle.library.specs.Library.{Byte, Card, history}
use Rattle.library.specs.Yanks.{active}
use Rattle.library.specs.Image.{byte_bits, head_words, card_words}
use Rattle.library.specs.Sound.{line_tests, sound_line, is_entry, never_falls}
use Rattle.library.specs.declared.Fault.TheVariants.{Form, Text}
use Rattle.library.specs.Check.{Stored, is_last_word, byte_of, Fields, card_of, form_tests, ok_form, Cards, cards, fault, also, stored_of, read_card, read_cards}
use Rattle.library.proofs.EachTest.{each_map, all-each, all_of-each, each-all_of}
use Rattle.library.proofs.EntryNames.{is-named}
use Rattle.library.proofs.DealtCards.{Dealt, dealt_words}
use Rattle.library.proofs.ReadAsWritten.{Fit}
use Rattle.library.proofs.BytesBack.{Low, number-back, flag-back, raw-bytes, bytes_back, rising-back, bytes-named}
use Rattle.library.proofs.FieldsBack.{Raw, count-back, head-end, fields_back}

-- A LINE
pub record LineSays (l : List ℕ) : Type 0 where
  pub charted : all in_chart l ≡ true
  pub short : length l ≤ 80
  pub trimmed : trim l ≡ l

pub line-says : (l : List ℕ) → T (sound_line l) → LineSays l
line-says l t =
    let q = all_of-each (line_tests l) t in
    record { charted = T-true (all in_chart l) q.0; short = leb→le (length l) 80 q.1.0; trimmed = same-eq (trim l) l q.1.1.0 }

-- A CARD, as it is written under what is yanked in its deck
abbrev pub raw_of : (ℕ → Bool) → Card → List ℕ
raw_of yk c = map (byte_bits yk) (history c)

abbrev pub head_of : (ℕ → Bool) → Card → List ℕ
head_of yk c = head_words (active yk c) (length (text_words c.line)) c.seq (raw_of yk c)

abbrev pub stored_at : (ℕ → Bool) → ℕ → Card → Stored
stored_at yk n c = record { place = n; card = c; act = active yk c; raw = raw_of yk c }

-- the place after it
abbrev pub past : (ℕ → Bool) → ℕ → Card → ℕ
past yk n c = n + (length (head_of yk c) + length (text_words c.line))

abbrev on_fields : List ℕ → ℕ → ℕ → Fields → (ℕ → Cards) → Cards
on_fields directory n k f next =
    if not (ok_form directory f) then fault Form n
    else if not (is_text f.text) then fault Text n
    else also (stored_of n f) (next (k + length f.text))

module _ (directory : List ℕ) (entries : length directory ≤ 1023) (yk : ℕ → Bool) (c : Card) (fit : Fit directory c) where
  named : Each (λ b. T (is_entry directory b.number)) (history c)
  named = all-each (λ b. is_entry directory b.number) (history c) fit.sound.named

  low : Each Low (history c)
  low = each_map _ _ (λ b t. let q = is-named directory b.number t in (q.above, omega (arith, q.within))) (history c) named

  abbrev text : List ℕ
  text = text_words c.line

  pub line : LineSays c.line
  line = line-says c.line fit.sound.line

  abbrev first : Byte
  first = record { number = c.owner; activating = true }

  abbrev seq-low : c.seq < 2 ^ 18
  seq-low = omega (arith, fit.sound.fits)

  pub text-few : length text ≤ 16
  text-few = written-fits c.line line.short

  abbrev text-low : length text < 2 ^ 18
  text-low = omega (arith, text-few)

  pub raw : Raw (raw_of yk c)
  raw = raw-bytes yk (history c) low

  abbrev kept : Fields
  kept = record { head = head_of yk c; text = text; act = active yk c; seq = c.seq; raw = raw_of yk c }

  -- it is written as itself
  kept-card : card_of kept ≡ c
  kept-card =
      let l : says text ≡ c.line = says-written c.line line.charted ∙ line.trimmed in
      let o : byte_bits yk first % 2 ^ 16 ≡ c.owner = number-back yk first low.0 in
      let h : map byte_of (map (byte_bits yk) c.later) ≡ c.later = bytes_back yk c.later low.1 in
      λ i. record { line = l i; seq = c.seq; owner = o i; later = h i }

  -- and passes row 5
  kept-form : T (ok_form directory kept)
  kept-form =
      let above : 0 < c.owner = low.0.0 in
      let rises : T (never_falls 1 (history c)) = and_both (leb 1 c.owner) (never_falls c.owner c.later) (le→leb 1 c.owner (omega arith)) fit.sound.rises in
      let few : length (raw_of yk c) ≤ 64 = rw (length-map (history c) (byte_bits yk)) fit.short in
      each-all_of (form_tests directory kept) (
        lt→ltb 0 c.seq fit.sound.numbered,
        (
          rw (flag-back yk first low.0) tt,
          (
            rw (rising-back yk 1 (history c) low) rises,
            (
              bytes-named yk directory (history c) low named,
              (
                le→leb (length (raw_of yk c)) 64 few,
                (
                  subst (λ (k : ℕ). T (same (head_words (active yk c) k c.seq (raw_of yk c)) (head_of yk c))) (sym count) (same_refl (head_of yk c)),
                  (subst (λ (k : ℕ). T (eqb (length text) k)) (sym count) (eqb_refl (length text)), tt),
                ),
              ),
            ),
          ),
        ),
      )
    where
      count : get_or (head_of yk c) 0 0 / 2 ^ 36 % 2 ^ 18 ≡ length text
      count = count-back (active yk c) c.seq (byte_bits yk first) (map (byte_bits yk) c.later) text text-low seq-low raw

  -- and row 6
  kept-text : is_text text ≡ true
  kept-text = written-is-text c.line line.charted line.short

  card-back : (n : ℕ) (r : List ℕ) (next : ℕ → Cards)
      → read_card directory n (head_of yk c ++ (text ++ r)) (place_from is_last_word 1 (head_of yk c ++ (text ++ r))) next ≡ also (stored_at yk n c) (next (length (head_of yk c) + length text))
  card-back n r next =
      let b : ℕ = byte_bits yk first in
      let bs : List ℕ = map (byte_bits yk) c.later in
      let ws : List ℕ = head_of yk c ++ (text ++ r) in
      ap (λ (o : Option ℕ). read_card directory n ws o next) (head-end (active yk c) c.seq b bs text text-low seq-low raw (text ++ r))
      ∙ ap (λ (f : Fields). on_fields directory n (length (head_of yk c)) f next) (fields_back (active yk c) c.seq b bs text text-low seq-low raw r)
      ∙ (λ i. if not (T-true (ok_form directory kept) kept-form i) then fault Form n
      else if not (kept-text i) then fault Text n
      else also (record { place = n; card = kept-card i; act = active yk c; raw = raw_of yk c }) (next (length (head_of yk c) + length text)))

-- CARDS, each with the number of its deck
abbrev pub stored_from : (ℕ → ℕ → Bool) → ℕ → List Dealt → List Stored
stored_from yk n [] = []
stored_from yk n (p ∷ ps) =
    stored_at (yk p.deck) n p.card ∷ stored_from yk (past (yk p.deck) n p.card) ps

read_none : (directory : List ℕ) (left n : ℕ) → read_cards directory left [] n ≡ cards []
read_none directory zero n = refl
read_none directory (suc left) n = refl

-- THE LAW
module _ (directory : List ℕ) (entries : length directory ≤ 1023) (yk : ℕ → ℕ → Bool) where
  read_one : (p : Dealt) (ps : List Dealt) (left n : ℕ) → Fit directory p.card
      → read_cards directory (suc left) (card_words (yk p.deck) p.card ++ dealt_words yk ps) n
      ≡ also (stored_at (yk p.deck) n p.card) (read_cards directory left (dealt_words yk ps) (past (yk p.deck) n p.card))
  unfolding card_words
  read_one p ps left n h =
      let c : Card = p.card in
      let y : (ℕ → Bool) = yk p.deck in
      let hd : List ℕ = head_of y c in
      let tx : List ℕ = text_words c.line in
      let rest : List ℕ = dealt_words yk ps in
      let k : ℕ = length hd + length tx in
      let whole : drop k ((hd ++ tx) ++ rest) ≡ rest = drop_at (hd ++ tx) rest k (length-append hd tx) in
      ap (λ (ws : List ℕ). read_cards directory (suc left) ws n) (append_assoc hd tx rest)
      ∙ card-back directory entries y c h n rest (λ j. read_cards directory left (drop j (hd ++ (tx ++ rest))) (n + j))
      ∙ ap (λ (ws : List ℕ). also (stored_at y n c) (read_cards directory left ws (n + k))) (ap (drop k) (sym (append_assoc hd tx rest)) ∙ whole)

  pub read_back : (ps : List Dealt) (left n : ℕ) → length ps ≤ left → Each (λ p. Fit directory p.card) ps → read_cards directory left (dealt_words yk ps) n ≡ cards (stored_from yk n ps)
  read_back [] left n le h = read_none directory left n
  read_back (p ∷ ps) zero n le h = absurd (omega arith)
  read_back (p ∷ ps) (suc left) n le h =
      read_one p ps left n h.0
      ∙ ap (also (stored_at (yk p.deck) n p.card)) (read_back ps left (past (yk p.deck) n p.card) (omega arith) h.1)
