-- The words of a text and of a name have 60 bits.
use Rattle.std.specs.Prelude.{if◌then◌else◌}
use Prim.Native.Nat.{ℕ, zero, suc, ◌+◌, ◌-◌, ◌*◌, ◌^◌, ◌≤◌, ◌<◌}
use native.Mathlib.Omega.{arith}
use native.Mathlib.Nat.{pow-suc, one-le-pow, mul-le-mul_right}
use mathlib.Core.Path.{◌≡◌, sym, subst}
use mathlib.Core.Bool.{Bool, true, false, ◌&&◌, not}
use mathlib.Core.List.{List, [], ◌∷◌, map}
use lib.Dec.{T, eqb, eqb→eq, ltb, leb, ltb→lt, leb→le, lt→ltb}
use lib.ListN.{length}
use Rattle.words.specs.Base.{all, is_nil}
use Rattle.words.specs.Display.{code_of, in_chart}
use Rattle.words.specs.Base.{is_word}
use Rattle.words.specs.Text.{trim, compress, fill, words_of, text_words}
use Rattle.words.specs.Names.{is_name_byte, is_name, pack_codes, name_word, name_of, is_name_word}
use Rattle.words.proofs.TestParts.{and_left, and_right, and_both}
use Rattle.words.proofs.CompressedLine.{is_code}
use Rattle.words.proofs.TextTrip.{codes-written}

-- a word so far, with k places of six bits left, has its room
abbrev Room : ℕ → ℕ → Type 0
Room w k = suc w * 64 ^ k ≤ 2 ^ 60

room_next : (w k x : ℕ) → x < 64 → Room w (suc k) → Room (w * 64 + x) k
room_next w k x h r =
    let p : ℕ = 64 ^ k in
    let q : suc w * (p * 64) ≤ 2 ^ 60 = subst (λ (n : ℕ). suc w * n ≤ 2 ^ 60) (pow-suc 64 k) r in
    let l : suc (w * 64 + x) * p ≤ (suc w * 64) * p = mul-le-mul_right p (omega arith) in
    omega arith

-- TEXT
fill-is_word : (cs : List ℕ) (w k : ℕ) → Room w k → T (all is_code cs) → T (all is_word (fill w k cs))
fill-is_word [] w k r t = go (eqb k 10)
  where
    go : (c : Bool) → T (all is_word (if c then [] else (w * 64 ^ k ∷ [])))
    go true = tt
    go false = and_both (is_word (w * 64 ^ k)) true (lt→ltb (w * 64 ^ k) (2 ^ 60) (omega (arith, r, one-le-pow k 64 (omega arith)))) tt
fill-is_word (x ∷ xs) w zero r t =
    and_both (is_word w) (all is_word (fill x 9 xs)) (lt→ltb w (2 ^ 60) (omega (arith, r)))
    (fill-is_word xs x 9 (omega (arith, ltb→lt x 64 (and_left (is_code x) (all is_code xs) t))) (and_right (is_code x) (all is_code xs) t))
fill-is_word (x ∷ xs) w (suc k) r t =
    fill-is_word xs (w * 64 + x) k (room_next w k x (ltb→lt x 64 (and_left (is_code x) (all is_code xs) t)) r) (and_right (is_code x) (all is_code xs) t)

pub text-is_word : (l : List ℕ) → all in_chart l ≡ true → T (all is_word (text_words l))
unfolding text_words words_of
text-is_word l e = fill-is_word (compress (map code_of (trim l))) 0 10 (omega arith) (codes-written l e)

-- NAMES
pack-is_word : (bs : List ℕ) (w k : ℕ) → length bs ≤ k → Room w k → T (all is_name_byte bs) → pack_codes w k bs < 2 ^ 60
pack-is_word [] w k le r t = omega (arith, r, one-le-pow k 64 (omega arith))
pack-is_word (b ∷ bs) w zero le r t = absurd (omega arith)
pack-is_word (b ∷ bs) w (suc k) le r t =
    let e : suc k - 1 ≡ k = omega arith in
    let c : code_of b < 0o55 = ltb→lt (code_of b) 0o55 (and_right (ltb 0 (code_of b)) (ltb (code_of b) 0o55) (and_left (is_name_byte b) (all is_name_byte bs) t)) in
    subst (λ (j : ℕ). pack_codes (w * 64 + code_of b) j bs < 2 ^ 60) (sym e)
    (pack-is_word bs (w * 64 + code_of b) k (omega arith) (room_next w k (code_of b) (omega arith) r) (and_right (is_name_byte b) (all is_name_byte bs) t))

pub name-is_word : (w : ℕ) → T (is_name_word w) → T (is_word w)
unfolding is_name_word name_word is_name
name-is_word w t =
    let n : List ℕ = name_of w in
    let e : pack_codes 0 10 n ≡ w = eqb→eq (pack_codes 0 10 n) w (and_right (is_name n) (eqb (pack_codes 0 10 n) w) t) in
    let ok : T (is_name n) = and_left (is_name n) (eqb (pack_codes 0 10 n) w) t in
    let short : T (not (is_nil n) && leb (length n) 9) = and_left (not (is_nil n) && leb (length n) 9) (all is_name_byte n) ok in
    let le : length n ≤ 9 = leb→le (length n) 9 (and_right (not (is_nil n)) (leb (length n) 9) short) in
    lt→ltb w (2 ^ 60) (subst (λ (x : ℕ). x < 2 ^ 60) e (pack-is_word n 0 10 (omega arith) (omega arith) (and_right (not (is_nil n) && leb (length n) 9) (all is_name_byte n) ok)))
