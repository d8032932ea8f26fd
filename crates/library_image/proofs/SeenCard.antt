-- What is seen at a place where the words of a sound card stand is that card. Assumes nothing.
--   inside, next-is, after, some_words                     its words
--   owner-is, seq-is, active-is, line-is                   what is seen of it
--   low, raw-is                                            its bytes
use Rattle.std.specs.Prelude.{if◌then◌else◌}
use Prim.Native.Nat.{ℕ, suc, ◌+◌, ◌-◌, ◌*◌, ◌/◌, ◌%◌, ◌^◌, ◌≤◌, ◌<◌}
use native.Mathlib.Omega.{arith}
use native.Mathlib.Nat.{add-zero}
use mathlib.Core.Path.{◌≡◌, refl, sym, ap, ◌∙◌}
use mathlib.Core.Bool.{Bool, true, false}
use mathlib.Core.List.{List, [], ◌∷◌, ◌++◌, map, append_assoc}
use mathlib.Core.Option.{some}
use borrow.Author.Tests.{le-leb}
use lib.Dec.{eqb}
use lib.ListN.{length, get_or, take, drop, length-append, length-drop}
use lib.Seq.{take_at, drop_at, drop-drop, get_or-drop}
use Rattle.words.specs.Base.{place_from, is_nil}
use Rattle.words.specs.Text.{text_words, says}
use Rattle.words.proofs.TextTrip.{says-written, written-is-text, written-fits}
use Rattle.library.specs.Each.{Each}
use Rattle.library.specs.Library.{Byte, Card, history}
use Rattle.library.specs.Yanks.{active}
use Rattle.library.specs.Image.{bit, byte_bits, card_words}
use Rattle.library.specs.Check.{is_last_word, raw_bytes, used, Fields, fields_of}
use Rattle.library.specs.Sound.{is_entry, SoundCard}
use Rattle.library.proofs.EachTest.{each_map, all-each}
use Rattle.library.proofs.EntryNames.{is-named}
use Rattle.library.proofs.BytesBack.{Low, number-back, raw-bytes}
use Rattle.library.proofs.FieldsBack.{Raw, count-back, head-end, fields_back}
use Rattle.library.proofs.ReadBack.{LineSays, raw_of, head_of, line-says}
use Rattle.library_image.specs.Places.{text_from, text_at, next_at, seen_at, text_of, line_in}
use Rattle.library_image.proofs.CardPlaces.{text_at_lem, next-inside}

-- WHERE THE TEXT STARTS, by the place of the first word with bit 59
text-place : (n a k : ℕ) (xs : List ℕ) → place_from is_last_word (suc n) xs ≡ some k → text_from a xs + n ≡ a + k
text-place n a k [] e = absurd (let z : ◌≡◌ {A = ℕ} 0 1 = cc in omega arith)
text-place n a k (x ∷ xs) e = go (is_last_word x) (text-place (suc n) (suc a) k xs) e
  where
    go : (b : Bool) → (place_from is_last_word (suc (suc n)) xs ≡ some k → text_from (suc a) xs + suc n ≡ suc a + k)
        → (if b then some (suc n) else place_from is_last_word (suc (suc n)) xs) ≡ some k → (if b then suc a else text_from (suc a) xs) + n ≡ a + k
    go true on q = let j : suc n ≡ k = cc in omega arith
    go false on q = omega (arith, on q)

-- A CARD: its words stand at a place
module _ (directory ws : List ℕ) (entries : length directory ≤ 1023) where
  module _ (yk : ℕ → Bool) (c : Card) (sound : SoundCard directory c) (at : ℕ) (rest : List ℕ) (stands : drop at ws ≡ card_words yk c ++ rest) where
    abbrev text : List ℕ
    text = text_words c.line

    abbrev first : Byte
    first = record { number = c.owner; activating = true }

    pub low : Each Low (history c)
    low = each_map _ _ (λ b t. let q = is-named directory b.number t in (q.above, omega (arith, q.within))) (history c) (all-each (λ b. is_entry directory b.number) (history c) sound.named)

    raw : Raw (raw_of yk c)
    raw = raw-bytes yk (history c) low

    line : LineSays c.line
    line = line-says c.line sound.line

    seq-low : c.seq < 2 ^ 18
    seq-low = omega (arith, sound.fits)

    text-low : length text < 2 ^ 18
    text-low = omega (arith, written-fits c.line line.short)

    abbrev b : ℕ
    b = byte_bits yk first

    abbrev bs : List ℕ
    bs = map (byte_bits yk) c.later

    words : drop at ws ≡ head_of yk c ++ (text ++ rest)
    unfolding card_words
    words = stands ∙ append_assoc (head_of yk c) text rest

    long : length ws - at ≡ length (head_of yk c) + (length text + length rest)
    long = sym (length-drop at ws) ∙ ap length words ∙ length-append (head_of yk c) (text ++ rest) ∙ ap (λ (n : ℕ). length (head_of yk c) + n) (length-append text rest)

    head-some : 0 < length (head_of yk c)
    head-some = omega arith

    pub inside : at < length ws
    inside = omega (arith, long, head-some)

    fields : fields_of (drop at ws) (length (head_of yk c)) ≡ record { head = head_of yk c; text = text; act = active yk c; seq = c.seq; raw = b ∷ bs }
    fields = ap (λ (r : List ℕ). fields_of r (length (head_of yk c))) words ∙ fields_back (active yk c) c.seq b bs text text-low seq-low raw rest

    word : get_or (drop at ws) 0 0 ≡ get_or ws at 0
    word = get_or-drop at ws 0 0 ∙ ap (λ (n : ℕ). get_or ws n 0) (add-zero at)

    text-is : text_at ws at ≡ at + length (head_of yk c)
    text-is =
        let p : place_from is_last_word 1 (drop at ws) ≡ some (length (head_of yk c)) =
        ap (place_from is_last_word 1) words ∙ head-end (active yk c) c.seq b bs text text-low seq-low raw (text ++ rest) in
        omega (arith, text_at_lem ws at inside, text-place 0 at (length (head_of yk c)) (drop at ws) p)

    count-is : get_or ws at 0 / 2 ^ 36 % 2 ^ 18 ≡ length text
    count-is =
        ap (λ (n : ℕ). n / 2 ^ 36 % 2 ^ 18) (sym word ∙ ap (λ (r : List ℕ). get_or r 0 0) words)
        ∙ count-back (active yk c) c.seq b bs text text-low seq-low raw

    pub next-is : next_at ws at ≡ at + length (card_words yk c)
    unfolding next_at card_words
    next-is =
        let e : text_at ws at + get_or ws at 0 / 2 ^ 36 % 2 ^ 18 ≡ at + length (head_of yk c ++ text) =
        omega (arith, text-is, count-is, length-append (head_of yk c) text) in
        let f : text_at ws at + get_or ws at 0 / 2 ^ 36 % 2 ^ 18 ≤ length ws = omega (arith, e, length-append (head_of yk c) text, long, inside) in
        rw (le-leb (text_at ws at + get_or ws at 0 / 2 ^ 36 % 2 ^ 18) (length ws) f) e

    pub after : drop (next_at ws at) ws ≡ rest
    after =
        ap (λ (n : ℕ). drop n ws) next-is ∙ sym (drop-drop (length (card_words yk c)) at ws) ∙ ap (drop (length (card_words yk c))) stands
        ∙ drop_at (card_words yk c) rest (length (card_words yk c)) refl

    pub active-is : (seen_at ws at).active ≡ active yk c
    active-is = ap (λ (n : ℕ). eqb (n / 2 ^ 58 % 2) 1) (sym word) ∙ ap (λ (f : Fields). f.act) fields

    pub seq-is : get_or ws at 0 / 2 ^ 18 % 2 ^ 18 ≡ c.seq
    seq-is = ap (λ (n : ℕ). n / 2 ^ 18 % 2 ^ 18) (sym word) ∙ ap (λ (f : Fields). f.seq) fields

    pub owner-is : get_or ws at 0 % 2 ^ 16 ≡ c.owner
    owner-is =
        ap (λ (n : ℕ). n % 2 ^ 16) (sym word ∙ ap (λ (r : List ℕ). get_or r 0 0) words) ∙ low_bits (is_nil bs) (active yk c) ∙ number-back yk first low.0
      where
        low_bits : (x y : Bool) → (bit x 59 + bit y 58 + length text * 2 ^ 36 + c.seq * 2 ^ 18 + b) % 2 ^ 16 ≡ b % 2 ^ 16
        low_bits true true = omega arith
        low_bits true false = omega arith
        low_bits false true = omega arith
        low_bits false false = omega arith

    card-length : length (card_words yk c) ≡ length (head_of yk c) + length text
    unfolding card_words
    card-length = length-append (head_of yk c) text

    pub some_words : 0 < length (card_words yk c)
    some_words = omega (arith, card-length, head-some)

    pub line-is : line_in ws (text_at ws at) (next_at ws at) ≡ c.line
    unfolding line_in
    line-is =
        let n : next_at ws at - text_at ws at ≡ length text = omega (arith, next-is, text-is, card-length) in
        let d : drop (text_at ws at) ws ≡ text ++ rest =
        ap (λ (k : ℕ). drop k ws) text-is ∙ sym (drop-drop (length (head_of yk c)) at ws) ∙ ap (drop (length (head_of yk c))) words
        ∙ drop_at (head_of yk c) (text ++ rest) (length (head_of yk c)) refl in
        let t : take (next_at ws at - text_at ws at) (drop (text_at ws at) ws) ≡ text = (λ i. take (n i) (d i)) ∙ take_at text rest (length text) refl in
        ap (λ (x : Bool). if x then text_of (take (next_at ws at - text_at ws at) (drop (text_at ws at) ws)) else []) (le-leb (next_at ws at) (length ws) (next-inside ws at inside).1)
        ∙ ap text_of t ∙ ap (λ (x : Bool). if x then says text else []) (written-is-text c.line line.charted line.short) ∙ says-written c.line line.charted ∙ line.trimmed

    pub raw-is : used (raw_bytes (take (text_at ws at - at) (drop at ws))) ≡ raw_of yk c
    raw-is =
        let k : text_at ws at - at ≡ length (head_of yk c) = omega (arith, text-is) in
        ap (λ (n : ℕ). used (raw_bytes (take n (drop at ws)))) k ∙ ap (λ (f : Fields). f.raw) fields
