-- Numbers as bytes, highest first and lowest first: what is written is read again.
pub mod NumberBytes
-- Words that stand as eight bytes each: the one at a place, one put there, and the bytes of all.
pub mod EightsWords
-- What is written of a space so far and what is still to come make the whole, and the rest is as it was.
pub mod WrittenSoFar
-- What unpacking answers of bytes that it accepts, and how many words stand in eight bytes each.
pub mod PackAnswer
-- Each turn of packing writes what the next two words say, and the rest is packed alike.
pub mod PackedPair
-- Packing loses nothing: 15 bytes are one number of 120 bits, and its two halves are the two words.
pub mod PackTrip
-- What the space holds after unpacking to words of eight bytes.
pub mod UnpackAnswer
-- Each turn of unpacking writes what the next 15 bytes say, and the rest is unpacked alike.
pub mod UnpackedPair
