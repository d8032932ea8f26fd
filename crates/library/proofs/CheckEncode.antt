-- An accepted image is what the library that was read is written in: its tables, and card by card its bits.
use Rattle.std.specs.Prelude.{if◌then◌else◌}
use Prim.Native.Nat.{ℕ, ◌+◌, ◌/◌, ◌%◌, ◌^◌}
use native.Mathlib.Omega.{arith}
use mathlib.Core.Path.{◌≡◌, refl, sym, ap, ◌∙◌}
use mathlib.Core.Bool.{Bool, true, false, beq}
use mathlib.Core.List.{List, [], ◌∷◌, ◌++◌, map, append_assoc}
use mathlib.Core.Option.{none, some}
use lib.Dec.{T}
use lib.ListN.{length, take, drop, take-append-drop}
use lib.Seq.{drop-drop}
use Rattle.words.specs.Base.{same}
use Rattle.words.specs.Text.{text_words}
use Rattle.words.proofs.TestParts.{same-eq}
use Rattle.library.specs.Library.{Card, Library, DeckLine, not_deck, bad_deck, deck_of, deck_line, history, deck_names}
use Rattle.library.specs.Yanks.{active, yanked}
use Rattle.library.specs.Image.{byte_bits, head_words, card_words, cards_words, decks_words, counts, encode}
use Rattle.library.specs.Check.{directory_of, deck_words_of, Stored, is_deck_line, row7, Parted, part_at, parted_by, library_of, ok_bits, row9_from}
use Rattle.library.specs.Exact.{CheckEncode}
use Rattle.library.proofs.EachTest.{and_parts}
use Rattle.library.proofs.TableRows.{some-none}
use Rattle.library.proofs.AcceptedImage.{Accepted, check-accepted}
use Rattle.library.proofs.ImageLayout.{Counted, counted, entry-count, read, deck-names, deck-count}
use Rattle.library.proofs.ReadAsWritten.{spelled, spell_all}
use Rattle.library.proofs.CardsInDecks.{Step, step}

-- THE CARDS
beq-eq : (a b : Bool) → T (beq a b) → a ≡ b
beq-eq true true t = refl
beq-eq true false t = absurd t
beq-eq false true t = absurd t
beq-eq false false t = refl

-- with the stored bits as they should be, a card is written as it was read
bits-spelled : (yk : ℕ → Bool) (s : Stored) → T (ok_bits yk s) → card_words yk s.card ≡ spelled s
unfolding card_words
bits-spelled yk s t =
    let c : Card = s.card in
    let bits : List ℕ = map (byte_bits yk) (history c) in
    let q = and_parts (beq s.act (active yk c)) (same s.raw bits) t in
    let a : active yk c ≡ s.act = sym (beq-eq s.act (active yk c) q.0) in
    let b : bits ≡ s.raw = sym (same-eq s.raw bits q.1) in
    λ i. head_words (a i) (length (text_words c.line)) c.seq (b i) ++ text_words c.line

module _ (directory : List ℕ) (end : ℕ) (yk : ℕ → ℕ → Bool) where
  agrees : (deck : ℕ) (s : Stored) (ss : List Stored) (c : Bool) → (if c then row9_from yk deck ss else some s.place) ≡ none → T c × (row9_from yk deck ss ≡ none)
  agrees deck s ss true e = (tt, e)
  agrees deck s ss false e = absurd (some-none s.place e)

  abbrev written : ℕ → Parted → List ℕ
  written deck p = cards_words (yk deck) p.first ++ decks_words yk p.decks

  words-parted : (deck : ℕ) (names : List ℕ) (ss : List Stored) → row7 directory names ss end ≡ none → row9_from yk deck ss ≡ none → written deck (parted_by ss) ≡ spell_all ss
  words-parted deck names [] e b = refl
  words-parted deck names (s ∷ ss) e b =
      go (deck_line s.card.line) (step directory names s ss end (deck_line s.card.line) e) b (λ here ns f g. words-parted here ns ss f g)
    where
      c : Card
      c = s.card

      p : Parted
      p = parted_by ss

      under : DeckLine → ℕ
      under d = if is_deck_line d then c.owner else deck

      go : (d : DeckLine) → Step directory names s ss end d → (if ok_bits (yk (under d)) s then row9_from yk (under d) ss else some s.place) ≡ none
          → ((here : ℕ) (ns : List ℕ) → row7 directory ns ss end ≡ none → row9_from yk here ss ≡ none → written here p ≡ spell_all ss)
          → written deck (part_at d c p) ≡ spell_all (s ∷ ss)
      go not_deck r f ih =
          let q = agrees deck s ss (ok_bits (yk deck) s) f in
          append_assoc (card_words (yk deck) c) (cards_words (yk deck) p.first) (decks_words yk p.decks)
          ∙ (λ i. bits-spelled (yk deck) s q.0 i ++ ih deck names r q.1 i)
      go bad_deck r f ih = absurd r
      go (deck_of common w) r f ih =
          let o : ℕ = c.owner in
          let q = agrees o s ss (ok_bits (yk o) s) f in
          (λ i. (card_words (yk o) (r.0.card i) ++ cards_words (yk o) p.first) ++ decks_words yk p.decks)
          ∙ append_assoc (card_words (yk o) c) (cards_words (yk o) p.first) (decks_words yk p.decks)
          ∙ (λ i. bits-spelled (yk o) s q.0 i ++ ih o (drop 1 names) r.1 q.1 i)

-- THE TABLES
two-parts : (d k : ℕ) (r : List ℕ) → (take d r ++ take k (drop d r)) ++ drop k (drop d r) ≡ r
two-parts d k r =
    append_assoc (take d r) (take k (drop d r)) (drop k (drop d r))
    ∙ ap (λ (q : List ℕ). take d r ++ q) (take-append-drop k (drop d r))
    ∙ take-append-drop d r

-- THE LAW
pub accepted-encode : (ws : List ℕ) (l : Library) (a : Accepted ws l) → encode (library_of (directory_of ws) a.stored) ≡ ws
unfolding encode
accepted-encode [] l a = absurd (omega (arith, (counted [] l a).some_words))
accepted-encode (v ∷ []) l a = absurd (omega (arith, (counted (v ∷ []) l a).some_words))
accepted-encode (v ∷ w ∷ r) l a = λ i. sym c.first i ∷ second i ∷ rest i
  where
    ws : List ℕ
    ws = v ∷ w ∷ r

    c : Counted ws
    c = counted ws l a

    m : Library
    m = library_of (directory_of ws) a.stored

    d : ℕ
    d = w / 2 ^ 18

    k : ℕ
    k = w % 2 ^ 18

    second : counts m ≡ w
    second = omega (arith, entry-count ws l a, deck-count ws l a)

    rest : (m.directory ++ deck_names m) ++ (cards_words (yanked m 0) m.yanks ++ decks_words (yanked m) m.decks) ≡ r
    rest =
        let yk : (ℕ → ℕ → Bool) = yanked m in
        let list : drop (2 + d) ws ≡ drop d r = sym (drop-drop d 2 ws) in
        let body : drop (2 + d + k) ws ≡ drop k (drop d r) = sym (drop-drop k (2 + d) ws) ∙ ap (drop k) list in
        let cards : cards_words (yk 0) m.yanks ++ decks_words yk m.decks ≡ drop k (drop d r) =
        words-parted (directory_of ws) (length ws) yk 0 (drop 1 (deck_words_of ws)) a.stored a.decks a.bits ∙ (read ws l a).whole ∙ body in
        let names : deck_names m ≡ take k (drop d r) = deck-names ws l a ∙ ap (take k) list in
        (λ i. (take d r ++ names i) ++ cards i) ∙ two-parts d k r

pub check-encode : CheckEncode
check-encode ws l e = let a = check-accepted ws l e in ap encode (sym a.same) ∙ accepted-encode ws l a
