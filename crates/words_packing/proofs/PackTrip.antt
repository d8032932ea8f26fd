-- Packing loses nothing: 15 bytes are one number of 120 bits, and its two halves are the two words.
--   how long            packed-length, unpacked-length
--   there and back      unpack-packed, pack-unpacked
--   and accepted        packed-accepted, unpacked-accepted
--   for C               words-eights, eights-words
use mathlib.Core.Path.{◌≡◌, refl, sym, ap, ◌∙◌}
use mathlib.Core.Bool.{Bool, true, false, ◌&&◌, ◌||◌, not}
use mathlib.Core.List.{List, [], ◌∷◌, ◌++◌}
use Prim.Native.Nat.{ℕ, zero, suc, ◌+◌, ◌-◌, ◌*◌, ◌/◌, ◌%◌, ◌^◌, ◌≤◌, ◌<◌}
use native.Mathlib.Nat.{div-eq_of_lt, div-add-mod', mul-mod_right, mul-add-mod_self_left}
use native.Mathlib.Omega.{arith}
use lib.Dec.{eqb}
use lib.ListN.{length, get_or, take, drop, length-append, length-drop, take-append-drop}
use lib.Seq.{length-take-le, take_at, drop_at, get_or-drop, get_or-append-add}
use borrow.Author.Tests.{eqb-true, le-leb}
use Rattle.words_packing.specs.Pack.{bytes_of, number_of, low_bytes, packed, packed_length, packing, is_packed_length, has_tail, unpacked_pairs, unpacked, unpacked_length, unpacking, eights, words_of_eights}
use Rattle.std.specs.Prelude.{Ok}
use Rattle.words_packing.specs.PackTrip.{UnpackPacked, PackUnpacked, PackedAccepted, UnpackedAccepted, PackedLength, UnpackedLength, WordsEights, EightsWords}
use Rattle.words_packing.proofs.NumberBytes.{Below, all-below, below_all, below-take, below-drop, number-div, number-bytes, bytes-number, low-number}
use Rattle.words_packing.proofs.PackAnswer.{accepted, answer-whole, answer-last}
use Rattle.words_packing.proofs.PackedPair.{number-eight, eights-more}
use Rattle.words_packing.proofs.EightsWords.{eights-back}

-- HOW LONG
pub packed-length : PackedLength
packed-length [] = refl
packed-length (a ∷ []) = refl
packed-length (a ∷ b ∷ ws) = omega (arith, packed-length ws)

-- THERE AND BACK
number-fifteen : (a b : ℕ) → a < 2 ^ 60 → b < 2 ^ 60 → number_of 0 (bytes_of 15 (a * 2 ^ 60 + b)) ≡ a * 2 ^ 60 + b
number-fifteen a b ha hb =
    let w : ℕ = a * 2 ^ 60 + b in
    let less : w < 2 ^ 120 = omega arith in
    ap (λ (so : ℕ). number_of so (bytes_of 15 w)) (sym (div-eq_of_lt less)) ∙ number-bytes 15 w

first_word : (a b : ℕ) → b < 2 ^ 60 → (a * 2 ^ 60 + b) / 2 ^ 60 ≡ a
first_word a b h = omega arith

second_word : (a b : ℕ) → b < 2 ^ 60 → (a * 2 ^ 60 + b) % 2 ^ 60 ≡ b
second_word a b h = omega arith

unpacked-join : (xs ys : List ℕ) → length xs ≡ 15 → unpacked (xs ++ ys) ≡ number_of 0 xs / 2 ^ 60 ∷ number_of 0 xs % 2 ^ 60 ∷ unpacked ys
unpacked-join xs ys h =
    let k : length (xs ++ ys) / 15 ≡ suc (length ys / 15) = rw length-append (omega arith) in
    ap (λ (n : ℕ). unpacked_pairs n (xs ++ ys)) k ∙ rw (take_at xs ys 15 h, drop_at xs ys 15 h)

back : (ws : List ℕ) → Below (2 ^ 60) ws → unpacked (packed ws) ≡ ws
back [] h = refl
back (a ∷ []) h =
    let e : number_of 0 (bytes_of 8 (a * 16)) / 16 ≡ a = rw (number-eight (a * 16) (omega (arith, h.0))) (omega arith) in
    ap {B = List ℕ} (λ (w : ℕ). w ∷ []) e
back (a ∷ b ∷ ws) h =
    let n : number_of 0 (bytes_of 15 (a * 2 ^ 60 + b)) ≡ a * 2 ^ 60 + b = number-fifteen a b h.0 h.1.0 in
    unpacked-join (bytes_of 15 (a * 2 ^ 60 + b)) (packed ws) refl
    ∙ ap {B = List ℕ} (λ (w : ℕ). w / 2 ^ 60 ∷ w % 2 ^ 60 ∷ unpacked (packed ws)) n
    ∙ (λ i. first_word a b h.1.0 i ∷ second_word a b h.1.0 i ∷ back ws h.1.1 i)

pub unpack-packed : UnpackPacked
unpack-packed ws h = back ws (all-below (2 ^ 60) ws h)

-- bytes that are so many times 15, or these and eight whose last four bits are zero
data Ends (k : ℕ) (bs : List ℕ) : Type 0 where
  ends-whole : length bs ≡ 15 * k → Ends k bs
  ends-eight : length bs ≡ 15 * k + 8 → get_or bs (length bs - 1) 0 % 16 ≡ 0 → Ends k bs

ends_next : (k : ℕ) (bs : List ℕ) → Ends (suc k) bs → Ends k (drop 15 bs)
ends_next k bs (ends-whole l) = ends-whole (rw length-drop (omega arith))
ends_next k bs (ends-eight l z) =
    let i : 15 + (length (drop 15 bs) - 1) ≡ length bs - 1 = rw length-drop (omega arith) in
    ends-eight (rw length-drop (omega arith)) (rw (get_or-drop 15 bs (length (drop 15 bs) - 1) 0, i) z)

ends-long : (k : ℕ) (bs : List ℕ) → Ends (suc k) bs → 15 ≤ length bs
ends-long k bs (ends-whole l) = omega arith
ends-long k bs (ends-eight l z) = omega arith

-- a number's last four bits are its last byte's
last-bits : (so : ℕ) (b : ℕ) (bs : List ℕ) → number_of so (b ∷ bs) % 16 ≡ get_or (b ∷ bs) (length bs) 0 % 16
last-bits so b [] = omega arith
last-bits so b (c ∷ bs) = last-bits (so * 256 + b) c bs

bytes_back : (n : ℕ) (bs : List ℕ) → length bs ≡ n → Below 256 bs → bytes_of n (number_of 0 bs) ≡ bs
bytes_back n bs l h = ap (λ (m : ℕ). bytes_of m (number_of 0 bs)) (sym l) ∙ bytes-number 0 bs h

same-eight : (bs : List ℕ) → Below 256 bs → length bs ≡ 8 → get_or bs (length bs - 1) 0 % 16 ≡ 0 → packed (unpacked_pairs 0 bs) ≡ bs
same-eight [] h l z = absurd (omega arith)
same-eight (b ∷ bs) h l z =
    let i : length (b ∷ bs) - 1 ≡ length bs = omega arith in
    let e : number_of 0 (b ∷ bs) / 16 * 16 ≡ number_of 0 (b ∷ bs) = omega (arith, last-bits 0 b bs, rw i at z) in
    ap (λ (w : ℕ). bytes_of 8 w) e ∙ bytes_back 8 (b ∷ bs) l h

same : (k : ℕ) (bs : List ℕ) → Below 256 bs → Ends k bs → packed (unpacked_pairs k bs) ≡ bs
same zero [] h e = refl
same zero (b ∷ bs) h (ends-whole l) = absurd (omega arith)
same zero (b ∷ bs) h (ends-eight l z) = same-eight (b ∷ bs) h (omega arith) z
same (suc k) bs h e =
    let n : ℕ = number_of 0 (take 15 bs) in
    let l : length (take 15 bs) ≡ 15 = length-take-le 15 bs (ends-long k bs e) in
    let front : bytes_of 15 n ≡ take 15 bs = bytes_back 15 (take 15 bs) l (below-take 256 15 bs h) in
    let rest : packed (unpacked_pairs k (drop 15 bs)) ≡ drop 15 bs = same k (drop 15 bs) (below-drop 256 15 bs h) (ends_next k bs e) in
    ap (λ (w : ℕ). bytes_of 15 w ++ packed (unpacked_pairs k (drop 15 bs))) (div-add-mod' n (2 ^ 60))
    ∙ (λ i. front i ++ rest i)
    ∙ take-append-drop 15 bs

ends_of : (bs : List ℕ) → is_packed_length (length bs) ≡ true → has_tail bs ≡ false → Ends (length bs / 15) bs
ends_of bs r t = ways (eqb (length bs % 15) 0) (eqb (length bs % 15) 8) (eqb (get_or bs (length bs - 1) 0 % 16) 0) refl refl refl r t
  where
    ways : (a b z : Bool) → eqb (length bs % 15) 0 ≡ a → eqb (length bs % 15) 8 ≡ b → eqb (get_or bs (length bs - 1) 0 % 16) 0 ≡ z
        → (a || b) ≡ true → (b && not z) ≡ false → Ends (length bs / 15) bs
    ways true b z ea eb ez r t = ends-whole (omega (arith, eqb-true (length bs % 15) 0 ea))
    ways false true true ea eb ez r t = ends-eight (omega (arith, eqb-true (length bs % 15) 8 eb)) (eqb-true (get_or bs (length bs - 1) 0 % 16) 0 ez)
    ways false true false ea eb ez r t = absurd (let z : ◌≡◌ {A = ℕ} 0 1 = cc in omega arith)
    ways false false z ea eb ez r t = absurd (let z : ◌≡◌ {A = ℕ} 0 1 = cc in omega arith)

pub pack-unpacked : PackUnpacked
pack-unpacked bs room n h e =
    let k = accepted bs room n e in
    same (length bs / 15) bs (all-below 256 bs h) (ends_of bs k.right k.tail)

pairs-length : (k : ℕ) (bs : List ℕ) → (length bs ≡ 15 * k → length (unpacked_pairs k bs) ≡ 2 * k) × (length bs ≡ 15 * k + 8 → length (unpacked_pairs k bs) ≡ 2 * k + 1)
pairs-length zero [] = (λ l. refl, λ l. absurd (omega arith))
pairs-length zero (b ∷ bs) = (λ l. absurd (omega arith), λ l. refl)
pairs-length (suc k) bs =
    let next = pairs-length k (drop 15 bs) in
    (λ l. omega (arith, next.0 (rw length-drop (omega arith))), λ l. omega (arith, next.1 (rw length-drop (omega arith))))

pub unpacked-length : UnpackedLength
unpacked-length bs r = ways (eqb (length bs % 15) 0) (eqb (length bs % 15) 8) refl refl r
  where
    ways : (a b : Bool) → eqb (length bs % 15) 0 ≡ a → eqb (length bs % 15) 8 ≡ b → (a || b) ≡ true → length (unpacked bs) ≡ unpacked_length (length bs)
    ways true b ea eb r =
        let m = eqb-true (length bs % 15) 0 ea in
        (pairs-length (length bs / 15) bs).0 (omega arith) ∙ omega arith
    ways false true ea eb r =
        let m = eqb-true (length bs % 15) 8 eb in
        (pairs-length (length bs / 15) bs).1 (omega arith) ∙ omega arith
    ways false false ea eb r = absurd (let z : ◌≡◌ {A = ℕ} 0 1 = cc in omega arith)

-- AND ACCEPTED
ends_more : (k : ℕ) (xs ys : List ℕ) → length xs ≡ 15 → Ends k ys → Ends (suc k) (xs ++ ys)
ends_more k xs ys h (ends-whole l) = ends-whole (rw length-append (omega arith))
ends_more k xs ys h (ends-eight l z) =
    let i : length (xs ++ ys) - 1 ≡ length xs + (length ys - 1) = rw length-append (omega arith) in
    ends-eight (rw length-append (omega arith)) (rw (i, get_or-append-add xs ys (length ys - 1) 0) z)

ends-packed : (ws : List ℕ) → Ends (length ws / 2) (packed ws)
ends-packed [] = ends-whole refl
ends-packed (a ∷ []) = ends-eight refl (omega arith)
ends-packed (a ∷ b ∷ ws) =
    let k : length (a ∷ b ∷ ws) / 2 ≡ suc (length ws / 2) = omega arith in
    rw k (ends_more (length ws / 2) (bytes_of 15 (a * 2 ^ 60 + b)) (packed ws) refl (ends-packed ws))

ends-accepted : (k : ℕ) (bs : List ℕ) (room : ℕ) → Ends k bs → unpacked_length (length bs) ≤ room → Ok (unpacked_length (length bs)) ≡ unpacking bs room
ends-accepted k bs room (ends-whole l) h = answer-whole bs room (rw l (mul-mod_right 15 k)) h
ends-accepted k bs room (ends-eight l z) h = answer-last bs room (rw l (mul-add-mod_self_left 15 k 8)) h z

pub packed-accepted : PackedAccepted
packed-accepted ws room w h =
    let n : unpacked_length (length (packed ws)) ≡ length ws = omega (arith, packed-length ws) in
    rw n at (sym (ends-accepted (length ws / 2) (packed ws) room (ends-packed ws) (omega arith)))

number-less : (n : ℕ) (bs : List ℕ) → length bs ≡ n → Below 256 bs → number_of 0 bs / 256 ^ n ≡ 0
number-less n bs l h = ap (λ (m : ℕ). number_of 0 bs / 256 ^ m) (sym l) ∙ number-div 0 bs h

pairs-words : (k : ℕ) (bs : List ℕ) → Below 256 bs → Ends k bs → Below (2 ^ 60) (unpacked_pairs k bs)
pairs-words zero [] h e = tt
pairs-words zero (b ∷ bs) h (ends-whole l) = absurd (omega arith)
pairs-words zero (b ∷ bs) h (ends-eight l z) = (omega (arith, number-less 8 (b ∷ bs) (omega arith) h), tt)
pairs-words (suc k) bs h e =
    let l : length (take 15 bs) ≡ 15 = length-take-le 15 bs (ends-long k bs e) in (
      omega (arith, number-less 15 (take 15 bs) l (below-take 256 15 bs h)),
      (omega arith, pairs-words k (drop 15 bs) (below-drop 256 15 bs h) (ends_next k bs e)),
    )

pub unpacked-accepted : UnpackedAccepted
unfolding packing
unpacked-accepted bs room n space h e r =
    let k = accepted bs room n e in
    let b = all-below 256 bs h in
    let w = below_all (2 ^ 60) (unpacked bs) (pairs-words (length bs / 15) bs b (ends_of bs k.right k.tail)) in
    let l : packed_length (length (unpacked bs)) ≡ length bs = sym (packed-length (unpacked bs)) ∙ ap length (pack-unpacked bs room n h e) in
    rw (w, l, le-leb (length bs) space r)

-- FOR C
words_back : (ws : List ℕ) → Below (2 ^ 64) ws → words_of_eights (eights ws) ≡ ws
words_back [] h = refl
words_back (w ∷ ws) h =
    eights-more (low_bytes 8 w ++ eights ws) (rw length-append (omega arith))
    ∙ (λ i. low-number 8 w h.0 i ∷ words_back ws h.1 i)

pub words-eights : WordsEights
words-eights ws h = words_back ws (all-below (2 ^ 64) ws h)

pub eights-words : EightsWords
eights-words bs h m = eights-back (length bs / 8) bs (all-below 256 bs h) (omega arith)
