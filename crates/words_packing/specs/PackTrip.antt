-- PROMISE. What packing keeps (RULES, "Packing"). Each statement is proved in proofs/PackTrip.antt.
--   of a number         is_byte, is_element
--   there and back      UnpackPacked, PackUnpacked
--   and accepted        PackedAccepted, UnpackedAccepted
--   how long            PackedLength, UnpackedLength
--   for C               WordsEights, EightsWords
use Rattle.std.specs.Prelude.{ℕ, ◌%◌, ◌^◌, ◌≤◌, ◌≡◌, Bool, true, List, ltb, length, Ok}
use Rattle.words.specs.Base.{all}
use Rattle.words_packing.specs.Pack.{packed, packed_length, packing, is_packed_length, unpacked, unpacked_length, unpacking, eights, words_of_eights}
use Rattle.words.specs.Base.{is_word}

abbrev pub is_byte : ℕ → Bool
is_byte b = ltb b 256

-- what one element of a slice of words holds
abbrev pub is_element : ℕ → Bool
is_element w = ltb w (2 ^ 64)

-- words of 60 bits, packed and unpacked, are the same words
abbrev pub UnpackPacked : Type 0
UnpackPacked = (ws : List ℕ) → all is_word ws ≡ true → unpacked (packed ws) ≡ ws

-- bytes that unpacking accepts, unpacked and packed, are the same bytes
abbrev pub PackUnpacked : Type 0
PackUnpacked = (bs : List ℕ) (room n : ℕ) → all is_byte bs ≡ true → unpacking bs room ≡ Ok n → packed (unpacked bs) ≡ bs

-- what packing writes is accepted where there is room for the words, and what unpacking writes where there is room for the bytes
abbrev pub PackedAccepted : Type 0
PackedAccepted = (ws : List ℕ) (room : ℕ) → all is_word ws ≡ true → length ws ≤ room → unpacking (packed ws) room ≡ Ok (length ws)

abbrev pub UnpackedAccepted : Type 0
UnpackedAccepted =
    (bs : List ℕ) (room n space : ℕ) → all is_byte bs ≡ true → unpacking bs room ≡ Ok n → length bs ≤ space
    → packing (unpacked bs) space ≡ Ok (length bs)

-- as many bytes as packed_length says, and as many words as unpacked_length says
abbrev pub PackedLength : Type 0
PackedLength = (ws : List ℕ) → length (packed ws) ≡ packed_length (length ws)

abbrev pub UnpackedLength : Type 0
UnpackedLength = (bs : List ℕ) → is_packed_length (length bs) ≡ true → length (unpacked bs) ≡ unpacked_length (length bs)

-- words written as eight bytes each, and read again
abbrev pub WordsEights : Type 0
WordsEights = (ws : List ℕ) → all is_element ws ≡ true → words_of_eights (eights ws) ≡ ws

abbrev pub EightsWords : Type 0
EightsWords = (bs : List ℕ) → all is_byte bs ≡ true → length bs % 8 ≡ 0 → eights (words_of_eights bs) ≡ bs
