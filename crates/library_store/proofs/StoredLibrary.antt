-- A library written out where it has room: the header, the tables and the cards one after another.
--   room                library-long, many-entries, many-decks, room-is, no_room_lem, room-left, room-said
--   written             over-after, library-written, into-is, into-kept
use Prim.Native.Nat.{ℕ, ◌+◌, ◌-◌, ◌*◌, ◌^◌, ◌≤◌, ◌<◌}
use native.Mathlib.Omega.{arith}
use mathlib.Core.Path.{◌≡◌, refl, sym, ap, ap₂, ◌∙◌}
use mathlib.Core.Bool.{Bool, true, false, ◌&&◌}
use mathlib.Core.List.{List, [], ◌∷◌, ◌++◌, append_assoc}
use borrow.Author.Tests.{lt-ltb, le-ltb, le-leb, lt-leb, leb-true, leb-false}
use lib.Dec.{T, ltb, leb, ltb→lt, leb→le}
use lib.ListN.{length, drop, length-append, length-drop}
use Rattle.words.proofs.TestParts.{and_left, and_right, true-T}
use Rattle.words_lists.specs.Over.{over}
use Rattle.words_lists.proofs.OverLists.{over-put, put-after}
use Rattle.library.specs.Image.{header}
use Rattle.library_store.specs.Stored.{library_words, has_room, library_into}

-- WRITTEN one after another
-- words over what follows p, where p stands at the beginning
over-after : (p e s : List ℕ) (at : ℕ) → length p ≡ at → at + length s ≤ length e → over at s (p ++ drop at e) ≡ (p ++ s) ++ drop (at + length s) e
over-after p e s at q le =
    over-put at s (p ++ drop at e) (omega (arith, length-append p (drop at e), length-drop at e)) ∙ put-after p e s at q

module _ (directory decks low high : List ℕ) where
  abbrev n : ℕ
  n = length directory

  abbrev k : ℕ
  k = length decks

  abbrev H : List ℕ
  H = header ∷ (n * 2 ^ 18 + k) ∷ []

  long1 : length (H ++ directory) ≡ 2 + n
  long1 = length-append H directory

  long2 : length ((H ++ directory) ++ decks) ≡ 2 + n + k
  long2 = omega (arith, long1, length-append (H ++ directory) decks)

  long3 : length (((H ++ directory) ++ decks) ++ low) ≡ 2 + n + k + length low
  long3 = omega (arith, long2, length-append ((H ++ directory) ++ decks) low)

  flat : library_words directory decks low high ≡ (((H ++ directory) ++ decks) ++ low) ++ high
  unfolding library_words
  flat =
      sym (append_assoc ((H ++ directory) ++ decks) low high ∙ append_assoc (H ++ directory) decks (low ++ high)
      ∙ append_assoc H directory (decks ++ (low ++ high)))

  pub library-long : length (library_words directory decks low high) ≡ 2 + length directory + length decks + length low + length high
  library-long =
      let e : length (library_words directory decks low high) ≡ length ((((H ++ directory) ++ decks) ++ low) ++ high) = ap length flat in
      omega (arith, e, long3, length-append (((H ++ directory) ++ decks) ++ low) high)

  -- ROOM
  module _ (room : ℕ) where
    abbrev fits : Bool
    fits = leb (length (library_words directory decks low high)) room

    pub many-entries : 2 ^ 18 ≤ length directory → false ≡ has_room directory decks low high room
    unfolding has_room
    many-entries h = rw (le-ltb n (2 ^ 18) h)

    pub many-decks : length directory < 2 ^ 18 → 2 ^ 18 ≤ length decks → false ≡ has_room directory decks low high room
    unfolding has_room
    many-decks d h = rw (lt-ltb n (2 ^ 18) d, le-ltb k (2 ^ 18) h)

    pub room-is : length directory < 2 ^ 18 → length decks < 2 ^ 18 → leb (length (library_words directory decks low high)) room ≡ has_room directory decks low high room
    unfolding has_room
    room-is d h = rw (lt-ltb n (2 ^ 18) d, lt-ltb k (2 ^ 18) h) (same fits)
      where
        same : (b : Bool) → b ≡ (b && true)
        same true = refl
        same false = refl

    pub no_room_lem : length directory < 2 ^ 18 → length decks < 2 ^ 18 → room < 2 + length directory + length decks + length low + length high
        → false ≡ has_room directory decks low high room
    no_room_lem d h less = sym (lt-leb (length (library_words directory decks low high)) room (omega (arith, library-long))) ∙ room-is d h

    pub room-left : length directory < 2 ^ 18 → length decks < 2 ^ 18 → 2 + length directory + length decks + length low ≤ room
        → leb (length high) (room - (2 + length directory + length decks) - length low) ≡ has_room directory decks low high room
    room-left d h le = go (leb (length high) left) refl ∙ room-is d h
      where
        left : ℕ
        left = room - (2 + length directory + length decks) - length low

        go : (b : Bool) → leb (length high) left ≡ b → b ≡ fits
        go true e = let l = leb-true (length high) left e in sym (le-leb (length (library_words directory decks low high)) room (omega (arith, library-long)))
        go false e = let l = leb-false (length high) left e in sym (lt-leb (length (library_words directory decks low high)) room (omega (arith, library-long)))

  pub room-said : (room : ℕ) → has_room directory decks low high room ≡ true
      → (length directory < 2 ^ 18) × ((length decks < 2 ^ 18) × (2 + length directory + length decks + length low + length high ≤ room))
  unfolding has_room
  room-said room r =
      let b : Bool = leb (length (library_words directory decks low high)) room in
      let all : T (ltb n (2 ^ 18) && (ltb k (2 ^ 18) && (b && true))) = true-T (ltb n (2 ^ 18) && (ltb k (2 ^ 18) && (b && true))) r in
      let two : T (ltb k (2 ^ 18) && (b && true)) = and_right (ltb n (2 ^ 18)) (ltb k (2 ^ 18) && (b && true)) all in
      let le : length (library_words directory decks low high) ≤ room = leb→le (length (library_words directory decks low high)) room (and_left b true (and_right (ltb k (2 ^ 18)) (b && true) two)) in
      (ltb→lt n (2 ^ 18) (and_left (ltb n (2 ^ 18)) (ltb k (2 ^ 18) && (b && true)) all), (ltb→lt k (2 ^ 18) (and_left (ltb k (2 ^ 18)) (b && true) two), omega (arith, library-long)))

  -- THE IMAGE in a space
  module _ (e : List ℕ) where
    pub library-written : 2 + length directory + length decks + length low + length high ≤ length e
        → over (2 + n + k + length low) high (over (2 + n + k) low (over (2 + n) decks (over 2 directory (H ++ drop 2 e))))
        ≡ library_words directory decks low high ++ drop (length (library_words directory decks low high)) e
    library-written le =
        let A : List ℕ = H ++ directory in
        let B : List ℕ = A ++ decks in
        let C : List ℕ = B ++ low in
        ap (λ (v : List ℕ). over (2 + n + k + length low) high (over (2 + n + k) low (over (2 + n) decks v))) (over-after H e directory 2 refl (omega arith))
        ∙ ap (λ (v : List ℕ). over (2 + n + k + length low) high (over (2 + n + k) low v)) (over-after A e decks (2 + n) long1 (omega arith))
        ∙ ap (over (2 + n + k + length low) high) (over-after B e low (2 + n + k) long2 (omega arith))
        ∙ over-after C e high (2 + n + k + length low) long3 (omega arith)
        ∙ ap₂ (λ (x : List ℕ) (i : ℕ). x ++ drop i e) (sym flat) (sym library-long)

    pub into-is : has_room directory decks low high (length e) ≡ true
        → library_into directory decks low high e ≡ library_words directory decks low high ++ drop (length (library_words directory decks low high)) e
    unfolding library_into
    into-is r = rw r

    pub into-kept : has_room directory decks low high (length e) ≡ false → e ≡ library_into directory decks low high e
    unfolding library_into
    into-kept r = rw r
