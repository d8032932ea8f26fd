-- The words ahead of a card's text give back what they were written from: where they end, and each field.
use Rattle.std.specs.Prelude.{if◌then◌else◌}
use Prim.Native.Nat.{ℕ, zero, suc, ◌+◌, ◌*◌, ◌/◌, ◌%◌, ◌^◌, ◌≤◌, ◌<◌}
use native.Mathlib.Omega.{arith}
use mathlib.Core.Path.{◌≡◌, refl, ap, ◌∙◌}
use mathlib.Core.Bool.{Bool, true, false, not, ◌&&◌}
use mathlib.Core.List.{List, [], ◌∷◌, ◌++◌}
use mathlib.Core.Option.{some}
use borrow.Author.Tests.{le-leb, lt-leb, ne_eqb}
use lib.Dec.{T, eqb}
use lib.ListN.{length, replicate, take, drop}
use lib.Seq.{take_at, drop_at}
use Rattle.words.specs.Base.{place_from, is_nil}
use Rattle.library.specs.Each.{Each}
use Rattle.library.specs.Image.{bit, further_words, head_words}
use Rattle.library.specs.Check.{is_last_word, threes, raw_bytes, used, Fields, fields_of}

-- bytes as they are stored: none is zero, each has 18 bits
abbrev pub Raw : List ℕ → Type 0
Raw bs = Each (λ b. (0 < b) × (b < 2 ^ 18)) bs

-- WHERE THE HEAD ENDS: at the first word with bit 59
last_word_lem : (n w : ℕ) (ws : List ℕ) → 2 ^ 59 ≤ w → place_from is_last_word n (w ∷ ws) ≡ some n
last_word_lem n w ws h = ap (λ (c : Bool). if c then some n else place_from is_last_word (suc n) ws) (le-leb (2 ^ 59) w h)

not_last : (n w : ℕ) (ws : List ℕ) → w < 2 ^ 59 → place_from is_last_word n (w ∷ ws) ≡ place_from is_last_word (suc n) ws
not_last n w ws h = ap (λ (c : Bool). if c then some n else place_from is_last_word (suc n) ws) (lt-leb (2 ^ 59) w h)

further-end : (n : ℕ) (bs r : List ℕ) → Raw bs → T (not (is_nil bs)) → place_from is_last_word (suc n) (further_words bs ++ r) ≡ some (n + length (further_words bs))
further-end n [] r h t = absurd t
further-end n (a ∷ []) r h t = let e : suc n ≡ n + 1 = omega arith in last_word_lem (suc n) (2 ^ 59 + a * 2 ^ 36) r (omega arith) ∙ ap (λ (i : ℕ). some i) e
further-end n (a ∷ b ∷ []) r h t = let e : suc n ≡ n + 1 = omega arith in last_word_lem (suc n) (2 ^ 59 + a * 2 ^ 36 + b * 2 ^ 18) r (omega arith) ∙ ap (λ (i : ℕ). some i) e
further-end n (a ∷ b ∷ c ∷ []) r h t = let e : suc n ≡ n + 1 = omega arith in last_word_lem (suc n) (2 ^ 59 + a * 2 ^ 36 + b * 2 ^ 18 + c) r (omega arith) ∙ ap (λ (i : ℕ). some i) e
further-end n (a ∷ b ∷ c ∷ d ∷ q) r h t =
    let x : a < 2 ^ 18 = h.0.1 in
    let y : b < 2 ^ 18 = h.1.0.1 in
    let z : c < 2 ^ 18 = h.1.1.0.1 in
    let e : suc n + length (further_words (d ∷ q)) ≡ n + suc (length (further_words (d ∷ q))) = omega arith in
    not_last (suc n) (0 + a * 2 ^ 36 + b * 2 ^ 18 + c) (further_words (d ∷ q) ++ r) (omega arith) ∙ further-end (suc n) (d ∷ q) r h.1.1.1 tt ∙ ap (λ (i : ℕ). some i) e

-- THE BYTES
three : {a b c x y z : ℕ} (r : List ℕ) → a ≡ x → b ≡ y → c ≡ z → ◌≡◌ {A = List ℕ} (a ∷ b ∷ c ∷ r) (x ∷ y ∷ z ∷ r)
three r p q s = λ i. p i ∷ q i ∷ s i ∷ r

threes-back : (bs : List ℕ) → Raw bs → (z : ℕ) × (threes (further_words bs) ≡ bs ++ replicate z 0)
threes-back [] h = (0, refl)
threes-back (a ∷ []) h = let l : a < 2 ^ 18 = h.0.1 in (2, three [] (omega arith) (omega arith) (omega arith))
threes-back (a ∷ b ∷ []) h =
    let l : a < 2 ^ 18 = h.0.1 in
    let m : b < 2 ^ 18 = h.1.0.1 in
    (1, three [] (omega arith) (omega arith) (omega arith))
threes-back (a ∷ b ∷ c ∷ r) h =
    let q = threes-back r h.1.1.1 in
    (q.0, go (is_nil r) h.0.1 h.1.0.1 h.1.1.0.1 ∙ ap {B = List ℕ} (λ t. a ∷ b ∷ c ∷ t) q.1)
  where
    go : (e : Bool) → a < 2 ^ 18 → b < 2 ^ 18 → c < 2 ^ 18 → threes ((bit e 59 + a * 2 ^ 36 + b * 2 ^ 18 + c) ∷ further_words r) ≡ a ∷ b ∷ c ∷ threes (further_words r)
    go true l m n = three (threes (further_words r)) (omega arith) (omega arith) (omega arith)
    go false l m n = three (threes (further_words r)) (omega arith) (omega arith) (omega arith)

used-zeros : (z : ℕ) → used (replicate z 0) ≡ []
used-zeros zero = refl
used-zeros (suc z) = ap (λ (r : List ℕ). if is_nil r then [] else (0 ∷ r)) (used-zeros z)

used-full : (bs : List ℕ) (z : ℕ) → Raw bs → used (bs ++ replicate z 0) ≡ bs
used-full [] z h = used-zeros z
used-full (b ∷ bs) z h =
    let pos : 0 < b = h.0.0 in
    ap (λ (r : List ℕ). if eqb b 0 && is_nil r then [] else (b ∷ r)) (used-full bs z h.1)
    ∙ ap (λ (c : Bool). if c && is_nil bs then [] else (b ∷ bs)) (ne_eqb b 0 (λ e. omega arith))

-- ALL OF IT, for a head with its first byte b
module _ (act : Bool) (seq b : ℕ) (bs txt : List ℕ) (lt : length txt < 2 ^ 18) (ls : seq < 2 ^ 18) (lb : Raw (b ∷ bs)) where
  abbrev pub hd : List ℕ
  hd = head_words act (length txt) seq (b ∷ bs)

  abbrev pub w0 : ℕ
  w0 = bit (is_nil bs) 59 + bit act 58 + length txt * 2 ^ 36 + seq * 2 ^ 18 + b

  abbrev Says : Bool → Bool → ℕ → Type 0
  Says x y w = (w / 2 ^ 58 % 2 ≡ (if y then 1 else 0)) × (w / 2 ^ 36 % 2 ^ 18 ≡ length txt) × (w / 2 ^ 18 % 2 ^ 18 ≡ seq) × (w % 2 ^ 18 ≡ b)

  word-says : (x y : Bool) → b < 2 ^ 18 → Says x y (bit x 59 + bit y 58 + length txt * 2 ^ 36 + seq * 2 ^ 18 + b)
  word-says true true l = (omega arith, omega arith, omega arith, omega arith)
  word-says true false l = (omega arith, omega arith, omega arith, omega arith)
  word-says false true l = (omega arith, omega arith, omega arith, omega arith)
  word-says false false l = (omega arith, omega arith, omega arith, omega arith)

  one : (y : Bool) → eqb (if y then 1 else 0) 1 ≡ y
  one true = refl
  one false = refl

  pub count-back : w0 / 2 ^ 36 % 2 ^ 18 ≡ length txt
  count-back = (word-says (is_nil bs) act lb.0.1).1

  raw-back : used (raw_bytes hd) ≡ b ∷ bs
  raw-back =
      let q = threes-back bs lb.1 in
      (λ i. used ((word-says (is_nil bs) act lb.0.1).3 i ∷ q.1 i)) ∙ used-full (b ∷ bs) q.0 lb

  pub head-end : (r : List ℕ) → place_from is_last_word 1 (hd ++ r) ≡ some (length hd)
  head-end r = go bs act lb.0.1 lb.1
    where
      go : (cs : List ℕ) (y : Bool) → b < 2 ^ 18 → Raw cs → place_from is_last_word 1 (head_words y (length txt) seq (b ∷ cs) ++ r) ≡ some (length (head_words y (length txt) seq (b ∷ cs)))
      go [] true x q = last_word_lem 1 (2 ^ 59 + 2 ^ 58 + length txt * 2 ^ 36 + seq * 2 ^ 18 + b) r (omega arith)
      go [] false x q = last_word_lem 1 (2 ^ 59 + 0 + length txt * 2 ^ 36 + seq * 2 ^ 18 + b) r (omega arith)
      go (c ∷ cs) true x q =
          let e : 1 + length (further_words (c ∷ cs)) ≡ suc (length (further_words (c ∷ cs))) = omega arith in
          not_last 1 (0 + 2 ^ 58 + length txt * 2 ^ 36 + seq * 2 ^ 18 + b) (further_words (c ∷ cs) ++ r) (omega arith) ∙ further-end 1 (c ∷ cs) r q tt ∙ ap (λ (i : ℕ). some i) e
      go (c ∷ cs) false x q =
          let e : 1 + length (further_words (c ∷ cs)) ≡ suc (length (further_words (c ∷ cs))) = omega arith in
          not_last 1 (0 + 0 + length txt * 2 ^ 36 + seq * 2 ^ 18 + b) (further_words (c ∷ cs) ++ r) (omega arith) ∙ further-end 1 (c ∷ cs) r q tt ∙ ap (λ (i : ℕ). some i) e

  abbrev pub written : Fields
  written = record { head = hd; text = txt; act = act; seq = seq; raw = b ∷ bs }

  pub fields_back : (r : List ℕ) → fields_of (hd ++ (txt ++ r)) (length hd) ≡ written
  fields_back r = λ i. record { head = hds i; text = text i; act = acts i; seq = seqs i; raw = raws i }
    where
      says : Says (is_nil bs) act w0
      says = word-says (is_nil bs) act lb.0.1

      hds : take (length hd) (hd ++ (txt ++ r)) ≡ hd
      hds = take_at hd (txt ++ r) (length hd) refl

      text : take (w0 / 2 ^ 36 % 2 ^ 18) (drop (length hd) (hd ++ (txt ++ r))) ≡ txt
      text = (λ i. take (says.1 i) (drop_at hd (txt ++ r) (length hd) refl i)) ∙ take_at txt r (length txt) refl

      acts : eqb (w0 / 2 ^ 58 % 2) 1 ≡ act
      acts = ap (λ (k : ℕ). eqb k 1) says.0 ∙ one act

      seqs : w0 / 2 ^ 18 % 2 ^ 18 ≡ seq
      seqs = says.2

      raws : used (raw_bytes (take (length hd) (hd ++ (txt ++ r)))) ≡ b ∷ bs
      raws = ap (λ (q : List ℕ). used (raw_bytes q)) hds ∙ raw-back
