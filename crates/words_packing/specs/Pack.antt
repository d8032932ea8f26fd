-- MEANING. Words packed to bytes and back (RULES, "Packing"; rows 50, 51 and 53).
--   bytes of a number       bytes_of, number_of
--   packing                 packed, packed_length, packing, pack_into
--   unpacking               last_word, unpacked_pairs, unpacked, unpacked_length, is_packed_length, has_tail, unpacking, unpack_into
--   the space               space_after
--   words as eight bytes    low_bytes, eights, low_number, words_from, words_of_eights, packing_eights, pack_eights_into, times_eight, unpacking_eights, unpack_eights_into
--   the table's numbers     packing_number, packing_value
use Rattle.std.specs.Prelude.{ℕ, zero, suc, ◌+◌, ◌-◌, ◌*◌, ◌/◌, ◌%◌, ◌^◌, Bool, ◌&&◌, ◌||◌, not, List, [], ◌∷◌, ◌++◌, eqb, ltb, leb, length, get_or, take, drop, Result, Ok, Err, if◌then◌else◌}
use Rattle.words.specs.Base.{all, is_word}
use Rattle.words_packing.specs.declared.PackingRefused.{PackingRefused}
use Rattle.words_packing.specs.declared.PackingRefused.TheVariants.{Length, Tail, Space}

-- the n lowest bytes of a number, highest first, and the number of bytes so written
abbrev pub bytes_of : ℕ → ℕ → List ℕ
bytes_of zero w = []
bytes_of (suc n) w = w / 256 ^ n % 256 ∷ bytes_of n w

abbrev pub number_of : ℕ → List ℕ → ℕ
number_of so [] = so
number_of so (b ∷ bs) = number_of (so * 256 + b) bs

-- the bits of the words in a row, highest first: two words fill 15 bytes; a word left over fills 8, with four zero bits after its own
abbrev pub packed : List ℕ → List ℕ
packed [] = []
packed (a ∷ []) = bytes_of 8 (a * 16)
packed (a ∷ b ∷ r) = bytes_of 15 (a * 2 ^ 60 + b) ++ packed r

-- the words of k times 15 bytes, and of what follows them: 8 bytes, or none
abbrev pub last_word : List ℕ → List ℕ
last_word [] = []
last_word (b ∷ bs) = number_of 0 (b ∷ bs) / 16 ∷ []

abbrev pub unpacked_pairs : ℕ → List ℕ → List ℕ
unpacked_pairs zero bs = last_word bs
unpacked_pairs (suc k) bs =
    let n : ℕ = number_of 0 (take 15 bs) in
    n / 2 ^ 60 ∷ n % 2 ^ 60 ∷ unpacked_pairs k (drop 15 bs)

abbrev pub unpacked : List ℕ → List ℕ
unpacked bs = unpacked_pairs (length bs / 15) bs

-- how many bytes n words take: seven and a half for each, rounded up
abbrev pub packed_length : ℕ → ℕ
packed_length n = (15 * n + 1) / 2

-- how many words so many bytes hold
abbrev pub unpacked_length : ℕ → ℕ
unpacked_length n = n * 2 / 15

-- PACKING: 53 where a word is none of 60 bits, or the bytes do not fit
unfoldable pub packing : List ℕ → ℕ → Result ℕ PackingRefused
packing ws room = if all is_word ws && leb (packed_length (length ws)) room then Ok (packed_length (length ws)) else Err Space

-- UNPACKING: 50, then 53, then 51
abbrev pub is_packed_length : ℕ → Bool
is_packed_length n = eqb (n % 15) 0 || eqb (n % 15) 8

abbrev pub has_tail : List ℕ → Bool
has_tail bs = eqb (length bs % 15) 8 && not (eqb (get_or bs (length bs - 1) 0 % 16) 0)

unfoldable pub unpacking : List ℕ → ℕ → Result ℕ PackingRefused
unpacking bs room =
    if not (is_packed_length (length bs)) then Err Length
    else if ltb room (unpacked_length (length bs)) then Err Space
    else if has_tail bs then Err Tail
    else Ok (unpacked_length (length bs))

-- what a space holds afterwards: the result and what lay beyond it, or what it held
unfoldable pub space_after : Result ℕ PackingRefused → List ℕ → List ℕ → List ℕ
space_after (Ok n) result space = result ++ drop n space
space_after (Err e) result space = space

abbrev pub pack_into : List ℕ → List ℕ → List ℕ
pack_into ws space = space_after (packing ws (length space)) (packed ws) space

abbrev pub unpack_into : List ℕ → List ℕ → List ℕ
unpack_into bs space = space_after (unpacking bs (length space)) (unpacked bs) space

-- FOR C: a word is eight bytes, the lowest ahead; 50 where the length of a slice of words is no multiple of 8
abbrev pub low_bytes : ℕ → ℕ → List ℕ
low_bytes zero w = []
low_bytes (suc n) w = w % 256 ∷ low_bytes n (w / 256)

abbrev pub eights : List ℕ → List ℕ
eights [] = []
eights (w ∷ ws) = low_bytes 8 w ++ eights ws

abbrev pub low_number : List ℕ → ℕ
low_number [] = 0
low_number (b ∷ bs) = b + 256 * low_number bs

abbrev pub words_from : ℕ → List ℕ → List ℕ
words_from zero bs = []
words_from (suc k) bs = low_number (take 8 bs) ∷ words_from k (drop 8 bs)

abbrev pub words_of_eights : List ℕ → List ℕ
words_of_eights bs = words_from (length bs / 8) bs

unfoldable pub packing_eights : List ℕ → ℕ → Result ℕ PackingRefused
packing_eights bs room = if eqb (length bs % 8) 0 then packing (words_of_eights bs) room else Err Length

abbrev pub pack_eights_into : List ℕ → List ℕ → List ℕ
pack_eights_into bs space = space_after (packing_eights bs (length space)) (packed (words_of_eights bs)) space

-- the length is in bytes here, eight for each word
abbrev pub times_eight : Result ℕ PackingRefused → Result ℕ PackingRefused
times_eight (Ok n) = Ok (n * 8)
times_eight (Err e) = Err e

unfoldable pub unpacking_eights : List ℕ → ℕ → Result ℕ PackingRefused
unpacking_eights bs room = if eqb (room % 8) 0 then times_eight (unpacking bs (room / 8)) else Err Length

abbrev pub unpack_eights_into : List ℕ → List ℕ → List ℕ
unpack_eights_into bs space = space_after (unpacking_eights bs (length space)) (eights (unpacked bs)) space

-- THE TABLE'S NUMBERS: the row, and the length written (0 where refused)
abbrev pub packing_number : Result ℕ PackingRefused → ℕ
packing_number (Ok n) = 0
packing_number (Err Length) = 50
packing_number (Err Tail) = 51
packing_number (Err Space) = 53

abbrev pub packing_value : Result ℕ PackingRefused → ℕ
packing_value (Ok n) = n
packing_value (Err e) = 0
