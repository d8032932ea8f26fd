-- The words of cards, raised, are the words of the cards with raised numbers, under flags carried along.
use Rattle.std.specs.Prelude.{if◌then◌else◌}
use Prim.Native.Nat.{ℕ, suc, ◌+◌, ◌^◌, ◌≤◌, ◌<◌}
use native.Mathlib.Omega.{arith}
use native.Mathlib.Nat.{zero-add}
use mathlib.Core.Path.{◌≡◌, refl, sym, ap, ◌∙◌}
use mathlib.Core.Bool.{Bool, true, false}
use mathlib.Core.List.{List, [], ◌∷◌, ◌++◌, map, append_assoc, append-nil}
use lib.ListN.{length, take, drop, length-append}
use lib.Seq.{take_at, drop_at}
use Rattle.words.specs.Text.{text_words}
use Rattle.library.specs.Each.{Each}
use Rattle.library.specs.Library.{Byte, Card, Deck, history, deck_card, deck_cards}
use Rattle.library.specs.Yanks.{last_says, active}
use Rattle.library.specs.Image.{bit, byte_bits, head_words, card_words, cards_words, decks_words}
use Rattle.library.proofs.EachTest.{each_map}
use Rattle.library.proofs.FieldsBack.{Raw}
use Rattle.library.proofs.BytesBack.{Low, raw-bytes}
use Rattle.library.specs.CardWords.{card_len, cards_by}
use Rattle.library_yanks_bits.proofs.Cards.{no-cards}
use Rattle.library_raise.specs.Raised.{byte_raised, card_raised, raised_words}
use Rattle.library_raise.specs.RaisedCards.{raise_byte, raise_card, raise_deck}
use Rattle.library_raise.specs.RaisedFits.{RaisesByte, Raises, Carries}
use Rattle.library_raise.proofs.ByteRaised.{raise-used}
use Rattle.library_raise.proofs.CardRaised.{none-raised}
use Rattle.library_raise.proofs.RaisedHeads.{head-raised}
use Rattle.library_raise.proofs.RaisedLength.{card-long, cards-enough}

no_words : (n : ℕ) → raised_words n [] ≡ []
no_words n = no-cards (card_raised n) (none-raised n) 0

-- A HISTORY
module _ (n : ℕ) (yk new : ℕ → Bool) (carries : Carries n yk new) where
  byte-raised : (b : Byte) → RaisesByte n b → byte_raised n (byte_bits yk b) ≡ byte_bits new (raise_byte n b)
  byte-raised b f =
      go (yk b.number) b.activating
      ∙ ap (λ (p : Bool). bit p 17 + bit b.activating 16 + (n + b.number)) (sym (carries b.number f.0))
    where
      go : (p q : Bool) → byte_raised n (bit p 17 + bit q 16 + b.number) ≡ bit p 17 + bit q 16 + (n + b.number)
      go true true = raise-used n (2 ^ 17 + 2 ^ 16 + b.number) (λ e. omega arith) ∙ omega (arith, f.0, f.1)
      go true false = raise-used n (2 ^ 17 + 0 + b.number) (λ e. omega arith) ∙ omega (arith, f.0, f.1)
      go false true = raise-used n (0 + 2 ^ 16 + b.number) (λ e. omega arith) ∙ omega (arith, f.0, f.1)
      go false false = raise-used n (0 + 0 + b.number) (λ e. omega (arith, f.0)) ∙ omega (arith, f.0, f.1)

  bytes-raised : (bs : List Byte) → Each (RaisesByte n) bs → map (byte_raised n) (map (byte_bits yk) bs) ≡ map (byte_bits new) (map (raise_byte n) bs)
  bytes-raised [] f = refl
  bytes-raised (b ∷ bs) f = λ i. byte-raised b f.0 i ∷ bytes-raised bs f.1 i

  pub says-raised : (so : Bool) (bs : List Byte) → Each (λ b. 0 < b.number) bs → last_says new so (map (raise_byte n) bs) ≡ last_says yk so bs
  says-raised so [] f = refl
  says-raised so (b ∷ bs) f =
      ap (λ (p : Bool). last_says new (if p then so else b.activating) (map (raise_byte n) bs)) (carries b.number f.0)
      ∙ says-raised (if yk b.number then so else b.activating) bs f.1

  pub active-raised : (c : Card) → Each (λ b. 0 < b.number) (history c) → active new (raise_card n c) ≡ active yk c
  unfolding active
  active-raised c f = says-raised false (history c) f

  raw : (bs : List Byte) → Each (RaisesByte n) bs → Raw (map (byte_bits yk) bs)
  raw bs f = raw-bytes yk bs (each_map (RaisesByte n) Low (λ b h. let l : n + b.number < 2 ^ 16 = h.1 in (h.0, omega arith)) bs f)

  -- A CARD
  pub record RaisedCard (c : Card) (rest : List ℕ) : Type 0 where
    pub words : card_raised n (card_words yk c ++ rest) ≡ card_words new (raise_card n c) ++ rest
    pub long : card_len (card_words yk c ++ rest) ≡ length (card_words new (raise_card n c))

  pub card-raised : (c : Card) → Raises n c → (rest : List ℕ) → RaisedCard c rest
  unfolding card_words
  card-raised c f rest =
      let own : Byte = record { number = c.owner; activating = true } in
      let text : List ℕ = text_words c.line in
      let t : ℕ = length text in
      let bs : List ℕ = map (byte_bits yk) c.later in
      let hd : List ℕ = head_words (active yk c) t c.seq (byte_bits yk own ∷ bs) in
      let hn : List ℕ = head_words (active new (raise_card n c)) t c.seq (map (byte_bits new) (history (raise_card n c))) in
      let r = raw (history c) f.bytes in
      let h = head-raised n t c.seq (byte_bits yk own) f.count f.below r.0.1 (active yk c) bs (text ++ rest) r.1 in
      let same : head_words (active yk c) t c.seq (map (byte_raised n) (byte_bits yk own ∷ bs)) ≡ hn =
      λ i. head_words (sym (active-raised c (each_map (RaisesByte n) _ (λ b q. q.0) (history c) f.bytes)) i) t c.seq (bytes-raised (history c) f.bytes i) in
      let joined : (hd ++ text) ++ rest ≡ hd ++ (text ++ rest) = append_assoc hd text rest in
      record {
        words = ap (card_raised n) joined ∙ h.words ∙ ap (λ (l : List ℕ). l ++ (text ++ rest)) same ∙ sym (append_assoc hn text rest);
        long = ap card_len joined ∙ h.long ∙ ap (λ (l : List ℕ). length l + t) same ∙ sym (length-append hn text);
      }

  -- CARDS, and what follows them
  enough : (k m : ℕ) (w : List ℕ) → length w ≤ k → length w ≤ m → cards_by (card_raised n) k w ≡ cards_by (card_raised n) m w
  enough = cards-enough (card_raised n) (card-long n) (none-raised n)

  card-then : (c : Card) → Raises n c → (k : ℕ) (tl : List ℕ)
      → cards_by (card_raised n) (suc k) (card_words yk c ++ tl) ≡ card_words new (raise_card n c) ++ cards_by (card_raised n) k tl
  unfolding cards_by
  card-then c f k tl =
      let one : List ℕ = card_words new (raise_card n c) in
      let r = card-raised c f tl in
      let under = (λ i. take (r.long i) (r.words i)) ∙ take_at one tl (length one) refl in
      let over = (λ i. drop (r.long i) (r.words i)) ∙ drop_at one tl (length one) refl in
      λ i. under i ++ cards_by (card_raised n) k (over i)

  pub cards-then : (cs : List Card) → Each (Raises n) cs → (rest : List ℕ)
      → raised_words n (cards_words yk cs ++ rest) ≡ cards_words new (map (raise_card n) cs) ++ raised_words n rest
  cards-then [] f rest = refl
  cards-then (c ∷ cs) f rest =
      let one : List ℕ = card_words new (raise_card n c) in
      let tl : List ℕ = cards_words yk cs ++ rest in
      let w : List ℕ = card_words yk c ++ tl in
      let k : length w ≡ length (card_words yk c) + length tl = length-append (card_words yk c) tl in
      ap (raised_words n) (append_assoc (card_words yk c) (cards_words yk cs) rest) ∙ enough (length w) (suc (length w)) w (omega arith) (omega arith)
      ∙ card-then c f.0 (length w) tl
      ∙ ap (λ (l : List ℕ). one ++ l) (enough (length w) (length tl) tl (omega arith) (omega arith) ∙ cards-then cs f.1 rest)
      ∙ sym (append_assoc one (cards_words new (map (raise_card n) cs)) (raised_words n rest))

  pub cards-raised : (cs : List Card) → Each (Raises n) cs → raised_words n (cards_words yk cs) ≡ cards_words new (map (raise_card n) cs)
  cards-raised cs f =
      ap (raised_words n) (sym (append-nil (cards_words yk cs))) ∙ cards-then cs f [] ∙ ap (λ (l : List ℕ). cards_words new (map (raise_card n) cs) ++ l) (no_words n)
      ∙ append-nil (cards_words new (map (raise_card n) cs))

-- DECKS, and what follows them
abbrev pub RaisesDeck : ℕ → Deck → Type 0
RaisesDeck n d = Raises n (deck_card d) × Each (Raises n) d.cards

module _ (n : ℕ) (yk new : ℕ → ℕ → Bool) (carries : (d : ℕ) → 0 < d → Carries n (yk d) (new (n + d))) where
  pub decks-then : (ds : List Deck) → Each (RaisesDeck n) ds → (rest : List ℕ)
      → raised_words n (decks_words yk ds ++ rest) ≡ decks_words new (map (raise_deck n) ds) ++ raised_words n rest
  decks-then [] f rest = refl
  decks-then (d ∷ ds) f rest =
      let m : ℕ = d.number in
      let old : List ℕ = cards_words (yk m) (deck_cards d) in
      let one : List ℕ = cards_words (new (n + m)) (map (raise_card n) (deck_cards d)) in
      ap (raised_words n) (append_assoc old (decks_words yk ds) rest)
      ∙ cards-then n (yk m) (new (n + m)) (carries m f.0.0.bytes.0.0) (deck_cards d) f.0 (decks_words yk ds ++ rest)
      ∙ ap (λ (l : List ℕ). one ++ l) (decks-then ds f.1 rest) ∙ sym (append_assoc one (decks_words new (map (raise_deck n) ds)) (raised_words n rest))

  pub decks-raised : (ds : List Deck) → Each (RaisesDeck n) ds → raised_words n (decks_words yk ds) ≡ decks_words new (map (raise_deck n) ds)
  decks-raised ds f =
      ap (raised_words n) (sym (append-nil (decks_words yk ds))) ∙ decks-then ds f [] ∙ ap (λ (l : List ℕ). decks_words new (map (raise_deck n) ds) ++ l) (no_words n)
      ∙ append-nil (decks_words new (map (raise_deck n) ds))

-- NOTHING RAISED: by 0 all stays
bytes-zero : (bs : List Byte) → map (raise_byte 0) bs ≡ bs
bytes-zero [] = refl
bytes-zero (b ∷ bs) = λ i. record { number = zero-add b.number i; activating = b.activating } ∷ bytes-zero bs i

pub cards-zero : (cs : List Card) → map (raise_card 0) cs ≡ cs
cards-zero [] = refl
cards-zero (c ∷ cs) = λ i. record { line = c.line; seq = c.seq; owner = zero-add c.owner i; later = bytes-zero c.later i } ∷ cards-zero cs i

pub decks-zero : (ds : List Deck) → map (raise_deck 0) ds ≡ ds
decks-zero [] = refl
decks-zero (d ∷ ds) = λ i. record { number = zero-add d.number i; common = d.common; line = d.line; cards = cards-zero d.cards i } ∷ decks-zero ds i
