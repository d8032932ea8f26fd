-- What is read at a card's first word is the card's own: the fields of a head do not overlap.
use Prim.Native.Nat.{ℕ, ◌/◌, ◌%◌, ◌^◌, ◌<◌}
use native.Mathlib.Omega.{arith}
use native.Mathlib.Nat.{add-zero}
use mathlib.Core.Path.{◌≡◌, refl, sym, ap, ◌∙◌}
use mathlib.Core.Bool.{Bool, true, false}
use lib.Dec.{eqb}
use mathlib.Core.List.{List, ◌++◌, map, append_assoc}
use lib.ListN.{length, drop, get_or}
use lib.Seq.{get_or-drop}
use Rattle.words.specs.Base.{is_nil}
use Rattle.library.specs.Library.{Card}
use Rattle.library.specs.Yanks.{active}
use Rattle.library.specs.Image.{bit, byte_bits, card_words}
use Rattle.run.specs.CardHeads.{own_byte, text_of, head_word, heads_of, heads_len, Fits, head_len, SeesAny}
use Rattle.run.specs.declared.card.Seen.{Seen}
use Rattle.run.proofs.Heads.{bits_below, bits-number, bits-raw, heads-len, heads-read, byte-back, seq-back, count-back, act-back}

abbrev pub head_of : (ℕ → Bool) → Card → ℕ
head_of yk c = head_word (is_nil (map (byte_bits yk) c.later)) (active yk c) (length (text_of c)) c.seq (byte_bits yk (own_byte c))

module _ (w : List ℕ) (at : ℕ) (yk : ℕ → Bool) (c : Card) (rest : List ℕ) (here : drop at w ≡ card_words yk c ++ rest) where
  pub head_at : get_or w at 0 ≡ head_of yk c
  unfolding card_words heads_of
  head_at = ap (λ (n : ℕ). get_or w n 0) (sym (add-zero at)) ∙ sym (get_or-drop at w 0 0) ∙ ap (λ (l : List ℕ). get_or l 0 0) here

  pub heads-at : Fits c → head_len (drop at w) ≡ heads_len c
  unfolding card_words heads_of
  heads-at f =
      rw (here, append_assoc) (heads-read (active yk c) (length (text_of c)) c.seq (byte_bits yk (own_byte c)) (map (byte_bits yk) c.later)
      (text_of c ++ rest) f.count f.below (bits_below yk (own_byte c) f.first) (bits-raw yk c.later f.later)
      ∙ heads-len yk c)

pub seen : (w : List ℕ) (at : ℕ) (r : Seen) → r.owner ≡ get_or w at 0 % 65536 → r.seq ≡ get_or w at 0 / 262144 % 262144
    → r.active ≡ eqb (get_or w at 0 / 288230376151711744 % 2) 1 → r.heads ≡ head_len (drop at w) → r.count ≡ get_or w at 0 / 68719476736 % 262144 → SeesAny w at
    r
seen w at r o s a h n yk c rest here f =
    let e : Bool = is_nil (map (byte_bits yk) c.later) in
    let t : ℕ = length (text_of c) in
    let b : ℕ = byte_bits yk (own_byte c) in
    let lb : b < 2 ^ 18 = bits_below yk (own_byte c) f.first in
    let x : get_or w at 0 ≡ head_of yk c = head_at w at yk c rest here in
    let low : head_of yk c % 2 ^ 18 ≡ b = byte-back t c.seq b f.count f.below lb e (active yk c) in
    let num : b % 2 ^ 16 ≡ c.owner = bits-number yk (own_byte c) f.first in
    record {
      owner = o ∙ ap (λ (y : ℕ). y % 65536) x ∙ own (head_of yk c) b c.owner low num;
      seq = s ∙ ap (λ (y : ℕ). y / 262144 % 262144) x ∙ seq-back t c.seq b f.count f.below lb e (active yk c);
      active = a ∙ ap (λ (y : ℕ). eqb (y / 288230376151711744 % 2) 1) x ∙ ap (λ (y : ℕ). eqb y 1) (act-back t c.seq b f.count f.below lb e (active yk c)) ∙ bit-read (active yk c);
      heads = h ∙ heads-at w at yk c rest here f;
      count = n ∙ ap (λ (y : ℕ). y / 68719476736 % 262144) x ∙ count-back t c.seq b f.count f.below lb e (active yk c);
    }
  where
    bit-read : (x : Bool) → eqb (bit x 0) 1 ≡ x
    bit-read true = refl
    bit-read false = refl

    own : (h b n : ℕ) → h % 2 ^ 18 ≡ b → b % 2 ^ 16 ≡ n → h % 65536 ≡ n
    own h b n p q = omega arith

-- all that is seen at a word
abbrev pub seen_at : List ℕ → ℕ → Seen
seen_at w at =
    record {
      owner = get_or w at 0 % 65536;
      seq = get_or w at 0 / 262144 % 262144;
      active = eqb (get_or w at 0 / 288230376151711744 % 2) 1;
      heads = head_len (drop at w);
      count = get_or w at 0 / 68719476736 % 262144;
    }

pub seen-at : (w : List ℕ) (at : ℕ) → SeesAny w at (seen_at w at)
seen-at w at = seen w at (seen_at w at) refl refl refl refl refl
