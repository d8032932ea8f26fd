-- Texts put one after another make the line of a refusal, its numbers without blanks ahead of them. Assumes nothing.
--   texts       Puts, puts_then, puts-front, wrote-few, put_byte
--   numbers     numeral-few, field-numeral
--   the lines   part, part-put, refused-put, card-put
use Rattle.std.specs.Prelude.{if◌then◌else◌}
use Prim.Native.Nat.{ℕ, zero, suc, ◌+◌, ◌-◌, ◌/◌, ◌%◌, ◌≤◌, ◌<◌}
use native.Mathlib.Omega.{arith}
use native.Mathlib.Numerals.{add-one}
use mathlib.Core.Path.{◌≡◌, refl, sym, ap, ◌∙◌}
use mathlib.Core.Bool.{Bool, true, false}
use mathlib.Core.List.{List, [], ◌∷◌, ◌++◌, append_assoc}
use borrow.Author.Tests.{le-leb, ne_eqb}
use lib.Dec.{ltb}
use lib.ListN.{length, get_or, take, drop, set, replicate, length-append}
use lib.Seq.{drop-cons, set_split}
use Rattle.words.specs.Base.{bytes}
use Rattle.words.specs.Display.{blank}
use Rattle.words.specs.Names.{digits, numeral, right_justified}
use Rattle.words.specs.Spelt.{number_into}
use Rattle.compile.specs.Compile.{refused_line, card_place}
use Rattle.words_lists.specs.Over.{put_at}
use Rattle.words_lists.proofs.OverLists.{put_then}
use Rattle.compile_file.specs.Written.{Wrote, after_blanks}

-- TEXTS: x is the space with a text put at a place, r where it ends
abbrev pub Puts : List ℕ → ℕ → List ℕ → ℕ → List ℕ → Type 0
Puts text at space r x = (r ≡ at + length text) × (x ≡ put_at at text space)

module _ (s t space : List ℕ) (at : ℕ) (room : at + length s ≤ length space) where
  pub puts_then : (r q : ℕ) (x y : List ℕ) → Puts s at space r x → Puts t r x q y → Puts (s ++ t) at space q y
  puts_then r q x y a b = (
    omega (arith, length-append s t),
    b.1 ∙ (λ i. put_at (a.0 i) t (a.1 i)) ∙ put_then at s t space room,
  )

-- at the front
pub puts-front : (s t space : List ℕ) (r : ℕ) (x : List ℕ) → s ≡ t → Puts s 0 space r x → Wrote t r space x
puts-front s t space r x e p =
    let z : 0 + length t ≡ length t = omega arith in
    (omega (arith, ap length e), p.1 ∙ ap (λ (u : List ℕ). put_at 0 u space) e ∙ ap (λ (k : ℕ). t ++ drop k space) z)

-- what was written lies within the space
pub wrote-few : (text space x : List ℕ) (n : ℕ) → Wrote text n space x → n ≤ length x
wrote-few text space x n w = omega (arith, ap length w.1, length-append text (drop (length text) space))

pub put_byte : (space : List ℕ) (at b : ℕ) → at < length space → set space at b ≡ put_at at (b ∷ []) space
put_byte space at b h = rw add-one (set_split space at b h ∙ sym (append_assoc (take at space) (b ∷ []) (drop (suc at) space)))

-- NUMBERS
digits-few : (k n : ℕ) (r : List ℕ) → length (digits k n r) ≤ k + length r
digits-few zero n r = omega arith
digits-few (suc k) n r = go (ltb n 10) (digits-few k (n / 10) ((48 + n % 10) ∷ r))
  where
    go : (b : Bool) → length (digits k (n / 10) ((48 + n % 10) ∷ r)) ≤ k + suc (length r)
        → length (if b then ((48 + n) ∷ r) else digits k (n / 10) ((48 + n % 10) ∷ r)) ≤ suc k + length r
    go true h = omega arith
    go false h = omega arith

pub numeral-few : (n : ℕ) → length (numeral n) ≤ 20
unfolding numeral
numeral-few n = digits-few 20 n []

-- no digit is a blank
abbrev Starts : List ℕ → Type 0
Starts r = after_blanks r ≡ r

digit-starts : (d : ℕ) (r : List ℕ) → Starts ((48 + d) ∷ r)
digit-starts d r = let h : (48 + d ≡ blank → ⊥) = λ e. omega (arith, e) in rw (ne_eqb (48 + d) blank h)

digits-start : (k n : ℕ) (r : List ℕ) → Starts r → Starts (digits k n r)
digits-start zero n r h = h
digits-start (suc k) n r h = go (ltb n 10) (digits-start k (n / 10) ((48 + n % 10) ∷ r) (digit-starts (n % 10) r))
  where
    go : (b : Bool) → Starts (digits k (n / 10) ((48 + n % 10) ∷ r)) → Starts (if b then ((48 + n) ∷ r) else digits k (n / 10) ((48 + n % 10) ∷ r))
    go true q = digit-starts n r
    go false q = q

blanks-past : (k : ℕ) (r : List ℕ) → after_blanks (replicate k blank ++ r) ≡ after_blanks r
blanks-past zero r = refl
blanks-past (suc k) r = blanks-past k r

pub field-numeral : (n : ℕ) (f : List ℕ) → length f ≡ 20 → after_blanks (number_into n f) ≡ numeral n
unfolding number_into right_justified numeral
field-numeral n f e =
    let few : length (digits 20 n []) ≤ length f = omega (arith, digits-few 20 n []) in
    rw (le-leb (length (digits 20 n [])) (length f) few) (blanks-past (length f - length (digits 20 n [])) (digits 20 n []) ∙ digits-start 20 n [] refl)

-- THE LINES, put together from their parts
abbrev pub part : ℕ → ℕ → List ℕ
part n b = numeral n ++ (b ∷ [])

part-few : (n b : ℕ) → length (part n b) ≤ 21
part-few n b = omega (arith, length-append (numeral n) (b ∷ []), numeral-few n)

-- a number, and the byte after it
pub part-put : (n b : ℕ) (space : List ℕ) (at r : ℕ) (x : List ℕ) → at + 21 ≤ length space → length x ≡ length space → Puts (numeral n) at space r x → Puts (part n b) at space (r + 1) (set x r b)
part-put n b space at r x room long p =
    let h : at + length (numeral n) ≤ length space = omega (arith, numeral-few n) in
    let l : r < length x = omega (arith, numeral-few n) in
    puts_then (numeral n) (b ∷ []) space at h r (r + 1) x (set x r b) p (refl, put_byte x r b l)

abbrev start : List ℕ
start = bytes "REFUSED "

module _ (space x1 x2 : List ℕ) (n r1 r2 : ℕ) (room : 29 ≤ length space) (a : Puts start 0 space r1 x1) (b : Puts (part n blank) r1 x1 r2 x2) where
  head-put : Puts (start ++ part n blank) 0 space r2 x2
  head-put = puts_then start (part n blank) space 0 (omega arith) r1 r2 x1 x2 a b

  head_few : 0 + length (start ++ part n blank) ≤ 29
  head_few = omega (arith, length-append start (part n blank), part-few n blank)

  pub refused-put : (p r3 : ℕ) (x3 : List ℕ) → Puts (part p 10) r2 x2 r3 x3 → Wrote (refused_line n (numeral p)) r3 space x3
  refused-put p r3 x3 c =
      let e : (start ++ part n blank) ++ part p 10 ≡ refused_line n (numeral p) = simp append_assoc in
      puts-front ((start ++ part n blank) ++ part p 10) (refused_line n (numeral p)) space r3 x3 e
      (puts_then (start ++ part n blank) (part p 10) space 0 (omega (arith, head_few)) r2 r3 x2 x3 head-put c)

  pub card-put : (o s r3 r4 : ℕ) (x3 x4 : List ℕ) → 50 ≤ length space → Puts (part o blank) r2 x2 r3 x3 → Puts (part s 10) r3 x3 r4 x4 → Wrote (refused_line n (card_place o s)) r4 space x4
  card-put o s r3 r4 x3 x4 more c d =
      let h : List ℕ = (start ++ part n blank) ++ part o blank in
      let few : 0 + length h ≤ length space = omega (arith, head_few, length-append (start ++ part n blank) (part o blank), part-few o blank) in
      let e : h ++ part s 10 ≡ refused_line n (card_place o s) = simp append_assoc in
      puts-front (h ++ part s 10) (refused_line n (card_place o s)) space r4 x4 e
      (puts_then h (part s 10) space 0 few r3 r4 x3 x4
      (puts_then (start ++ part n blank) (part o blank) space 0 (omega (arith, head_few)) r2 r3 x2 x3 head-put c) d)
