-- Cards that rows 5 and 6 read are written in the words that were read, of sound form and not too many.
use Rattle.std.specs.Prelude.{if◌then◌else◌}
use Prim.Native.Nat.{ℕ, zero, suc, ◌+◌, ◌/◌, ◌%◌, ◌^◌, ◌≤◌, ◌<◌}
use native.Mathlib.Omega.{arith}
use mathlib.Core.Path.{◌≡◌, refl, sym, ap, ◌∙◌, subst}
use mathlib.Core.Bool.{Bool, true, false, not, ◌&&◌}
use mathlib.Core.List.{List, [], ◌∷◌, ◌++◌, map, append_assoc}
use mathlib.Core.Option.{Option, none, some}
use lib.Dec.{T, eqb, eqb→eq, leb, ltb→lt, leb→le, lt→ltb}
use lib.ListN.{length, get_or, take, drop, length-map, take-append-drop}
use lib.Seq.{drop-drop}
use Rattle.words.specs.Base.{all, same, place_from}
use Rattle.words.specs.Display.{in_chart}
use Rattle.words.specs.Text.{trim, text_words, says, is_text}
use Rattle.words.proofs.TestParts.{true-T, and_both, same-eq, same_refl}
use Rattle.words.proofs.TextTrip.{says-in-chart, says-written, written-says, text-short}
use Rattle.library.specs.Each.{Each}
use Rattle.library.specs.Library.{Byte, Card, history, name_at, purged}
use Rattle.library.specs.Image.{head_words}
use Rattle.library.specs.Sound.{line_tests, sound_line, number_tests, is_entry, never_falls, SoundCard}
use Rattle.library.specs.declared.Fault.TheVariants.{Form, Text}
use Rattle.library.specs.Check.{Stored, is_last_word, byte_of, Fields, fields_of, card_of, rising, ok_byte, first_activates, form_tests, ok_form, Cards, cards, fault, also, stored_of, read_card, read_cards}
use Rattle.library.proofs.EachTest.{and_parts, all_of-each, each-all_of}

-- a card as it was read is written in these words
abbrev pub spelled : Stored → List ℕ
spelled s = head_words s.act (length (text_words s.card.line)) s.card.seq s.raw ++ text_words s.card.line

abbrev pub spell_all : List Stored → List ℕ
spell_all [] = []
spell_all (s ∷ ss) = spelled s ++ spell_all ss

-- THE TEXT: accepted words say a line of the character set without trailing blanks
says-trimmed : (ws : List ℕ) → is_text ws ≡ true → trim (says ws) ≡ says ws
says-trimmed ws e = sym (says-written (says ws) (says-in-chart ws)) ∙ ap says (written-says ws e)

pub says-sound : (ws : List ℕ) → is_text ws ≡ true → T (sound_line (says ws))
says-sound ws e =
    each-all_of (line_tests (says ws)) (
      true-T (all in_chart (says ws)) (says-in-chart ws),
      (text-short ws e, (subst (λ (l : List ℕ). T (same l (says ws))) (sym (says-trimmed ws e)) (same_refl (says ws)), tt)),
    )

-- THE HISTORY: bytes that pass row 5 name entries, and never fall
module _ (directory : List ℕ) where
  byte-named : (n m : ℕ) → 0 < n → T (leb n m) → T (leb m (length directory) && not (eqb (name_at directory m) purged)) → T (is_entry directory m)
  byte-named n m pos le ok =
      let q = and_parts (leb m (length directory)) (not (eqb (name_at directory m) purged)) ok in
      each-all_of (number_tests directory m) (lt→ltb 0 m (omega (arith, leb→le n m le)), (q.0, (q.1, tt)))

  abbrev Named : List Byte → Type 0
  Named bs = T (all (λ b. is_entry directory b.number) bs)

  bytes-sound : (n : ℕ) → 0 < n → (bs : List ℕ) → T (rising n bs) → T (all (ok_byte directory) bs) → Named (map byte_of bs) × T (never_falls n (map byte_of bs))
  bytes-sound n pos [] r o = (tt, tt)
  bytes-sound n pos (b ∷ bs) r o =
      let m : ℕ = b % 2 ^ 16 in
      let p = and_parts (leb n m) (rising m bs) r in
      let q = and_parts (ok_byte directory b) (all (ok_byte directory) bs) o in
      let later = bytes-sound m (omega (arith, leb→le n m p.0)) bs p.1 q.1 in (
        and_both (is_entry directory m) (all (λ x. is_entry directory x.number) (map byte_of bs)) (byte-named n m pos p.0 q.0) later.0,
        and_both (leb n m) (never_falls m (map byte_of bs)) p.0 later.1,
      )

  abbrev HistoryOf : List ℕ → Card → Type 0
  HistoryOf raw c = Named (history c) × T (never_falls c.owner c.later) × (length (history c) ≡ length raw)

  history-sound : (line : List ℕ) (seq : ℕ) (raw : List ℕ) → T (first_activates raw) → T (rising 1 raw) → T (all (ok_byte directory) raw)
      → HistoryOf raw (record { line = line; seq = seq; owner = get_or raw 0 0 % 2 ^ 16; later = map byte_of (drop 1 raw) })
  history-sound line seq [] a r o = absurd a
  history-sound line seq (b ∷ bs) a r o =
      let m : ℕ = b % 2 ^ 16 in
      let q = bytes-sound 1 (omega arith) (b ∷ bs) r o in
      (q.0, (and_parts (leb 1 m) (never_falls m (map byte_of bs)) q.1).1, ap suc (length-map bs byte_of))

-- A CARD
pub record Fit (directory : List ℕ) (c : Card) : Type 0 where
  pub sound : SoundCard directory c
  pub short : length (history c) ≤ 64

-- what was read of ws by at most `left` cards
pub record ReadAs (directory : List ℕ) (left : ℕ) (ws : List ℕ) (ss : List Stored) : Type 0 where
  pub whole : spell_all ss ≡ ws
  pub sound : Each (λ s. Fit directory s.card) ss
  pub few : length ss ≤ left

abbrev Read : List ℕ → ℕ → List ℕ → Cards → Type 0
Read directory left ws (cards ss) = ReadAs directory left ws ss
Read directory left ws (fault f p) = Unit {0}

-- a part taken, and what lies beyond it
take_own : (n : ℕ) (xs : List ℕ) → take n xs ++ drop (length (take n xs)) xs ≡ xs
take_own zero xs = refl
take_own (suc n) [] = refl
take_own (suc n) (x ∷ xs) = ap {B = List ℕ} (λ r. x ∷ r) (take_own n xs)

also-read : (directory : List ℕ) (left : ℕ) (s : Stored) (c : Cards) (rest ws : List ℕ)
    → spelled s ++ rest ≡ ws → Fit directory s.card → Read directory left rest c → Read directory (suc left) ws (also s c)
also-read directory left s (cards ss) rest ws e o r =
    let n : length ss ≤ left = r.few in
    record { whole = ap (λ (q : List ℕ). spelled s ++ q) r.whole ∙ e; sound = (o, r.sound); few = omega arith }
also-read directory left s (fault f p) rest ws e o r = tt

-- a card that passes rows 5 and 6, whose words ahead of the text are the first k
module _ (directory : List ℕ) (n : ℕ) (ws : List ℕ) (k : ℕ) where
  abbrev f : Fields
  f = fields_of ws k

  abbrev count : ℕ
  count = get_or f.head 0 0 / 2 ^ 36 % 2 ^ 18

  abbrev rest : List ℕ
  rest = drop (k + length f.text) ws

  form-sound : T (ok_form directory f) → is_text f.text ≡ true → Fit directory (card_of f)
  form-sound form text =
      let q = all_of-each (form_tests directory f) form in
      let h = history-sound directory (says f.text) f.seq f.raw q.1.0 q.1.1.0 q.1.1.1.0 in
      let few : length f.raw ≤ 64 = leb→le (length f.raw) 64 q.1.1.1.1.0 in
      record {
        sound = record { line = says-sound f.text text; numbered = ltb→lt 0 f.seq q.0; fits = omega arith; named = h.0; rises = h.1 };
        short = subst (λ (i : ℕ). i ≤ 64) (sym h.2) few;
      }

  form-whole : T (ok_form directory f) → is_text f.text ≡ true → spelled (stored_of n f) ++ rest ≡ ws
  form-whole form text =
      let q = all_of-each (form_tests directory f) form in
      let same_head : head_words f.act count f.seq f.raw ≡ take k ws = same-eq (head_words f.act count f.seq f.raw) f.head q.1.1.1.1.1.0 in
      let full : length f.text ≡ count = eqb→eq (length f.text) count q.1.1.1.1.1.1.0 in
      ap (λ (t : List ℕ). (head_words f.act (length t) f.seq f.raw ++ t) ++ rest) (written-says f.text text)
      ∙ ap (λ (c : ℕ). (head_words f.act c f.seq f.raw ++ f.text) ++ rest) full
      ∙ ap (λ (h : List ℕ). (h ++ f.text) ++ rest) same_head
      ∙ append_assoc (take k ws) f.text rest
      ∙ ap (λ (r : List ℕ). take k ws ++ (f.text ++ r)) (sym (drop-drop (length f.text) k ws))
      ∙ ap (λ (r : List ℕ). take k ws ++ r) (take_own (get_or ws 0 0 / 2 ^ 36 % 2 ^ 18) (drop k ws))
      ∙ take-append-drop k ws

  on-form : (left : ℕ) (next : ℕ → Cards) → ((j : ℕ) → Read directory left (drop j ws) (next j)) → (a b : Bool) → ok_form directory f ≡ a → is_text f.text ≡ b
      → Read directory (suc left) ws (if not a then fault Form n else if not b then fault Text n else also (stored_of n f) (next (k + length f.text)))
  on-form left next h false b p q = tt
  on-form left next h true false p q = tt
  on-form left next h true true p q =
      let t : T (ok_form directory f) = true-T (ok_form directory f) p in
      also-read directory left (stored_of n f) (next (k + length f.text)) rest ws (form-whole t q) (form-sound t q) (h (k + length f.text))

on-card : (directory : List ℕ) (left n : ℕ) (ws : List ℕ) (o : Option ℕ) (next : ℕ → Cards) → ((k : ℕ) → Read directory left (drop k ws) (next k))
    → Read directory (suc left) ws (read_card directory n ws o next)
on-card directory left n ws none next h = tt
on-card directory left n ws (some k) next h =
    let f : Fields = fields_of ws k in
    on-form directory n ws k left next h (ok_form directory f) (is_text f.text) refl refl

cards-read : (directory : List ℕ) (left : ℕ) (ws : List ℕ) (n : ℕ) → Read directory left ws (read_cards directory left ws n)
cards-read directory zero [] n = record { whole = refl; sound = tt; few = omega arith }
cards-read directory zero (w ∷ ws) n = tt
cards-read directory (suc left) [] n = record { whole = refl; sound = tt; few = omega arith }
cards-read directory (suc left) (w ∷ ws) n =
    on-card directory left n (w ∷ ws) (place_from is_last_word 1 (w ∷ ws))
    (λ k. read_cards directory left (drop k (w ∷ ws)) (n + k)) (λ k. cards-read directory left (drop k (w ∷ ws)) (n + k))

-- THE LAW
pub read_as : (directory : List ℕ) (left : ℕ) (ws : List ℕ) (n : ℕ) (ss : List Stored) → read_cards directory left ws n ≡ cards ss → ReadAs directory left ws ss
read_as directory left ws n ss e = subst (λ (c : Cards). Read directory left ws c) e (cards-read directory left ws n)
