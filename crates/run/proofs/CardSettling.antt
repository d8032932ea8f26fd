-- The words of cards, settled, are the words they are written in under the new flags.
use Rattle.std.specs.Int.{from_bool}
use Rattle.std.specs.Prelude.{if◌then◌else◌}
use Prim.Native.Nat.{ℕ, zero, suc, ◌+◌, ◌*◌, ◌/◌, ◌%◌, ◌^◌, ◌≤◌, ◌<◌}
use native.Mathlib.Omega.{arith}
use mathlib.Core.Path.{◌≡◌, refl, sym, ap, ◌∙◌}
use mathlib.Core.Bool.{Bool, true, false}
use mathlib.Core.List.{List, [], ◌∷◌, ◌++◌, map, append_assoc}
use lib.Dec.{eqb}
use lib.ListN.{length, take, drop, length-append}
use lib.Seq.{take_at, drop_at}
use Rattle.words.specs.Text.{text_words}
use Rattle.library.specs.Each.{Each}
use Rattle.library.specs.Library.{Byte, Card}
use Rattle.library.specs.Yanks.{last_says, active}
use Rattle.library.specs.Image.{bit, byte_bits, further_words, card_words, cards_words}
use Rattle.library_yanks_bits.specs.SettledBits.{fix_byte, say_byte, own_bits, own_says, with_active, further_says, card_bits, settled_words}
use Rattle.library.specs.CardWords.{further_len, card_len, cards_by}
use Rattle.library_yanks_bits.proofs.Cards.{one-bits, many-bits, one-len, many-len, no-cards, none-bits}
use Rattle.run.specs.CardHeads.{own_byte, text_of, head_word, heads_of, heads_len, Fits}
use Rattle.run.proofs.Heads.{bits_below, byte-back, count-back}
use Rattle.run.proofs.Fixing.{fix_is, say-is}
use Rattle.run.proofs.Telling.{told}
use Rattle.run.proofs.Growing.{act-set}
use Rattle.run.proofs.Walking.{card-len, some-heads}

-- the head word but for its byte
head-front : (t seq b : ℕ) → t < 2 ^ 18 → seq < 2 ^ 18 → b < 2 ^ 18 → (x y : Bool) (k : ℕ)
    → head_word x y t seq b / 2 ^ 18 * 2 ^ 18 + k ≡ head_word x y t seq k
head-front t seq b p q s true true k = omega arith
head-front t seq b p q s true false k = omega arith
head-front t seq b p q s false true k = omega arith
head-front t seq b p q s false false k = omega arith

head-ends : (t seq b : ℕ) → t < 2 ^ 18 → seq < 2 ^ 18 → b < 2 ^ 18 → (y : Bool)
    → (2 ^ 59 ≤ head_word true y t seq b) × (head_word false y t seq b < 2 ^ 59)
head-ends t seq b p q s true = (omega arith, omega arith)
head-ends t seq b p q s false = (omega arith, omega arith)

bit-number : (b : Bool) → bit b 0 ≡ from_bool b
bit-number true = refl
bit-number false = refl

module _ (new yk : ℕ → Bool) where
  -- the first word
  module _ (c : Card) (f : Fits c) (end : Bool) where
    abbrev t : ℕ
    t = length (text_of c)

    abbrev old : ℕ
    old = head_word end (active yk c) t c.seq (byte_bits yk (own_byte c))

    lb : byte_bits yk (own_byte c) < 2 ^ 18
    lb = bits_below yk (own_byte c) f.first

    byte-new : fix_byte new (old % 2 ^ 18) ≡ byte_bits new (own_byte c)
    byte-new =
        ap (fix_byte new) (byte-back t c.seq (byte_bits yk (own_byte c)) f.count f.below lb end (active yk c))
        ∙ fix_is yk new (own_byte c) f.first

    abbrev first_says : Bool
    first_says = if new c.owner then false else true

    so-new : own_says new old ≡ bit first_says 0
    so-new = ap (say_byte 0) byte-new ∙ say-is new false (own_byte c) f.first

    count-is : old / 2 ^ 36 % 2 ^ 18 ≡ t
    count-is = count-back t c.seq (byte_bits yk (own_byte c)) f.count f.below lb end (active yk c)

    bits_are : own_bits new old ≡ head_word end (active yk c) t c.seq (byte_bits new (own_byte c))
    bits_are =
        ap (λ (k : ℕ). old / 2 ^ 18 * 2 ^ 18 + k) byte-new
        ∙ head-front t c.seq (byte_bits yk (own_byte c)) f.count f.below lb end (active yk c) (byte_bits new (own_byte c))

    first-is : (so : ℕ) (act : Bool) → so ≡ bit act 0
        → with_active (own_bits new old) so ≡ head_word end act t c.seq (byte_bits new (own_byte c))
    first-is so act e =
        (λ i. with_active (bits_are i) ((e ∙ bit-number act) i))
        ∙ act-set end (active yk c) t c.seq (byte_bits new (own_byte c)) act f.count f.below (bits_below new (own_byte c) f.first)

  abbrev own : ℕ → Byte
  own o = record { number = o; activating = true }

  abbrev mk : List ℕ → ℕ → ℕ → List Byte → Card
  mk t s o ms = record { line = t; seq = s; owner = o; later = ms }

  pub record Settled (c : Card) (rest : List ℕ) : Type 0 where
    pub words : card_bits new (card_words yk c ++ rest) ≡ card_words new c ++ rest
    pub long : card_len (card_words yk c ++ rest) ≡ length (card_words new c)

  -- the card
  pub settled-card : new 0 ≡ false → (c : Card) → Fits c → (rest : List ℕ) → Settled c rest
  unfolding card_words heads_of active
  settled-card zero-out c f rest = go c.line c.seq c.owner c.later f
    where
      go : (q : List ℕ) (s o : ℕ) (ms : List Byte) → Fits (mk q s o ms) → Settled (mk q s o ms) rest
      go q s o [] f =
          let c : Card = mk q s o [] in
          let x : ℕ = old c f true in
          let end = (head-ends (length (text_words q)) s (byte_bits yk (own o)) f.count f.below (lb c f true) (active yk c)).0 in
          let n : x / 2 ^ 36 % 2 ^ 18 ≡ length (text_words q) = count-is c f true in
          let l : card_len (x ∷ (text_words q ++ rest)) ≡ 1 + x / 2 ^ 36 % 2 ^ 18 = one-len x (text_words q ++ rest) end in
          record {
            words = one-bits new x (text_words q ++ rest) end
                ∙ (λ i. first-is c f true (own_says new x) (first_says c f true) (so-new c f true) i ∷ (text_words q ++ rest));
            long = omega arith;
          }
      go q s o (m ∷ ms) f =
          let c : Card = mk q s o (m ∷ ms) in
          let x : ℕ = old c f false in
          let fy : List ℕ = further_words (map (byte_bits yk) (m ∷ ms)) in
          let fn : List ℕ = further_words (map (byte_bits new) (m ∷ ms)) in
          let tl : List ℕ = text_words q ++ rest in
          let more = (head-ends (length (text_words q)) s (byte_bits yk (own o)) f.count f.below (lb c f false) (active yk c)).1 in
          let t = told new yk zero-out tl (first_says c f false) m ms f.later in
          let said : further_says new (own_says new x) (fy ++ tl) ≡ bit (last_says new (first_says c f false) (m ∷ ms)) 0 =
          ap (λ (k : ℕ). further_says new k (fy ++ tl)) (so-new c f false) ∙ t.says in
          let n : x / 2 ^ 36 % 2 ^ 18 ≡ length (text_words q) = count-is c f false in
          let joined : ◌≡◌ {A = List ℕ} (x ∷ ((fy ++ text_words q) ++ rest)) (x ∷ (fy ++ tl)) = λ i. x ∷ append_assoc fy (text_words q) rest i in
          let l : card_len (x ∷ (fy ++ tl)) ≡ 1 + further_len (fy ++ tl) + x / 2 ^ 36 % 2 ^ 18 = many-len x (fy ++ tl) more in
          let h : further_len (fy ++ tl) ≡ length fn = t.long in
          let k : length (fn ++ text_words q) ≡ length fn + length (text_words q) = length-append fn (text_words q) in
          let sum : card_len (x ∷ (fy ++ tl)) ≡ 1 + length (fn ++ text_words q) = omega arith in
          record {
            words = ap (card_bits new) joined ∙ many-bits new x (fy ++ tl) more
                ∙ (λ i. first-is c f false (further_says new (own_says new x) (fy ++ tl)) (last_says new (first_says c f false) (m ∷ ms)) said i ∷ t.words i)
                ∙ (λ i. head_word false (active new c) (length (text_words q)) s (byte_bits new (own o)) ∷ sym (append_assoc fn (text_words q) rest) i);
            long = ap card_len joined ∙ sum ∙ omega arith;
          }

  -- CARDS, as many as there are at most
  settled-upto : new 0 ≡ false → (n : ℕ) (cs : List Card) → Each Fits cs → length (cards_words yk cs) ≤ n
      → cards_by (card_bits new) n (cards_words yk cs) ≡ cards_words new cs
  unfolding cards_by
  settled-upto zero-out n [] f h = no-cards (card_bits new) (none-bits new) n
  settled-upto zero-out zero (c ∷ cs) f h =
      let n1 : length (card_words yk c ++ cards_words yk cs) ≡ length (card_words yk c) + length (cards_words yk cs) =
      length-append (card_words yk c) (cards_words yk cs) in
      let n2 : length (card_words yk c) ≡ heads_len c + length (text_of c) = card-len yk c in
      let n3 : 0 < heads_len c = some-heads c in
      absurd (omega arith)
  settled-upto zero-out (suc n) (c ∷ cs) f h =
      let n1 : length (card_words yk c ++ cards_words yk cs) ≡ length (card_words yk c) + length (cards_words yk cs) =
      length-append (card_words yk c) (cards_words yk cs) in
      let n2 : length (card_words yk c) ≡ heads_len c + length (text_of c) = card-len yk c in
      let n3 : 0 < heads_len c = some-heads c in
      let s = settled-card zero-out c f.0 (cards_words yk cs) in
      let under = (λ i. take (s.long i) (s.words i)) ∙ take_at (card_words new c) (cards_words yk cs) (length (card_words new c)) refl in
      let over = (λ i. drop (s.long i) (s.words i)) ∙ drop_at (card_words new c) (cards_words yk cs) (length (card_words new c)) refl in
      (λ i. under i ++ cards_by (card_bits new) n (over i)) ∙ ap (λ (l : List ℕ). card_words new c ++ l) (settled-upto zero-out n cs f.1 (omega arith))

  pub settled-cards : new 0 ≡ false → (cs : List Card) → Each Fits cs → settled_words new (cards_words yk cs) ≡ cards_words new cs
  settled-cards zero-out cs f = settled-upto zero-out (length (cards_words yk cs)) cs f (omega arith)
