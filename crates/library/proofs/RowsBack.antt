-- The cards of a sound library, stored one after another, part into that library and pass rows 7 to 10.
use Rattle.std.specs.Prelude.{if◌then◌else◌}
use Prim.Native.Nat.{ℕ}
use mathlib.Core.Path.{◌≡◌, refl, ap, ◌∙◌}
use mathlib.Core.Bool.{Bool, true, false, ◌&&◌, beq}
use mathlib.Core.List.{List, [], ◌∷◌, ◌++◌, map, append-nil}
use mathlib.Core.Option.{Option, none, some}
use lib.Dec.{T, eqb, eqb_refl}
use Rattle.words.specs.Base.{same}
use Rattle.words.proofs.TestParts.{T-true, and_both, same_refl}
use Rattle.library.specs.Each.{Each}
use Rattle.library.specs.Library.{Card, Deck, Library, deck_card, history, name_at, entry_of, deck_names}
use Rattle.library.specs.Yanks.{active}
use Rattle.library.specs.Image.{byte_bits}
use Rattle.library.specs.Sound.{is_entry, names_lower_sets, BeginsNoDeck, SoundDeck, Sound}
use Rattle.library.specs.Check.{Stored, is_deck_line, is_deck_card, row7, Parted, part_at, parted_by, row8, row10, ok_bits, row9_from}
use Rattle.library.proofs.EachTest.{all-each}
use Rattle.library.proofs.EntryNames.{entry-name}
use Rattle.library.proofs.CardRows.{once-row10}
use Rattle.library.proofs.DealtCards.{Dealt, dealt_to, dealt_decks, dealt, dealt-stream}
use Rattle.library.proofs.ReadBack.{stored_at, stored_from, past}

-- the number of a sound deck is that of a name
pub deck-named : (directory : List ℕ) (d : Deck) → SoundDeck directory d → T (is_entry directory d.number)
deck-named directory d s = (all-each (λ b. is_entry directory b.number) (history (deck_card d)) s.first.named).0

module _ (l : Library) (s : Sound l) (yk : ℕ → ℕ → Bool) where
  abbrev directory : List ℕ
  directory = l.directory

  -- INTO PARTS: a run of cards that begin no deck goes ahead of what follows
  parts-run : (deck : ℕ) (cs : List Card) → Each BeginsNoDeck cs → (rest : List Dealt) (p : Parted) → ((m : ℕ) → parted_by (stored_from yk m rest) ≡ p)
      → (n : ℕ) → parted_by (stored_from yk n (dealt_to deck cs ++ rest)) ≡ record { first = cs ++ p.first; decks = p.decks }
  parts-run deck [] h rest p k n = k n
  parts-run deck (c ∷ cs) h rest p k n = let q = parts-run deck cs h.1 rest p k (past (yk deck) n c) in λ i. part_at (h.0 i) c (q i)

  parts-decks : (ds : List Deck) → Each (SoundDeck directory) ds → (n : ℕ) → parted_by (stored_from yk n (dealt_decks ds)) ≡ record { first = []; decks = ds }
  parts-decks [] h n = refl
  parts-decks (d ∷ ds) h n =
      let q = parts-run d.number d.cards h.0.others (dealt_decks ds) (record { first = []; decks = ds }) (parts-decks ds h.1) (past (yk d.number) n (deck_card d)) in
      (λ i. part_at (h.0.title i) (deck_card d) (q i))
      ∙ (λ i. record { first = []; decks = record { number = d.number; common = d.common; line = d.line; cards = append-nil d.cards i } ∷ ds })

  pub parts-back : (n : ℕ) → parted_by (stored_from yk n (dealt l)) ≡ record { first = l.yanks; decks = l.decks }
  parts-back n =
      parts-run 0 l.yanks s.others (dealt_decks l.decks) (record { first = []; decks = l.decks }) (parts-decks l.decks s.decks) n
      ∙ (λ i. record { first = append-nil l.yanks i; decks = l.decks })

  -- ROW 7: such a run is passed over, and each deck card is the next of the list
  row7-run : (end deck : ℕ) (names : List ℕ) (cs : List Card) → Each BeginsNoDeck cs → (rest : List Dealt) → ((m : ℕ) → row7 directory names (stored_from yk m rest) end ≡ none)
      → (n : ℕ) → row7 directory names (stored_from yk n (dealt_to deck cs ++ rest)) end ≡ none
  row7-run end deck names [] h rest k n = k n
  row7-run end deck names (c ∷ cs) h rest k n = rw h.0 (row7-run end deck names cs h.1 rest k (past (yk deck) n c))

  deck-next : (d : Deck) → SoundDeck directory d → let w : ℕ = name_at directory d.number in (eqb w w && eqb d.number (entry_of directory w)) ≡ true
  deck-next d h =
      let w : ℕ = name_at directory d.number in
      rw (entry-name directory s.names d.number (deck-named directory d h))
      (T-true (eqb w w && eqb d.number d.number) (and_both (eqb w w) (eqb d.number d.number) (eqb_refl w) (eqb_refl d.number)))

  row7-decks : (end : ℕ) (ds : List Deck) → Each (SoundDeck directory) ds → (n : ℕ) → row7 directory (map (λ d. name_at directory d.number) ds) (stored_from yk n (dealt_decks ds)) end ≡ none
  row7-decks end [] h n = refl
  row7-decks end (d ∷ ds) h n =
      let names : List ℕ = map (λ e. name_at directory e.number) ds in
      rw (h.0.title, deck-next d h.0)
      (row7-run end d.number names d.cards h.0.others (dealt_decks ds) (row7-decks end ds h.1) (past (yk d.number) n (deck_card d)))

  pub row7-back : (end n : ℕ) → row7 directory (map (λ d. name_at directory d.number) l.decks) (stored_from yk n (dealt l)) end ≡ none
  row7-back end n =
      row7-run end 0 (map (λ d. name_at directory d.number) l.decks) l.yanks s.others (dealt_decks l.decks) (row7-decks end l.decks s.decks) n

  -- ROW 8: only the cards ahead of the decks are looked at
  row8-decks : (ds : List Deck) → Each (SoundDeck directory) ds → (n : ℕ) → row8 directory (deck_names l) (stored_from yk n (dealt_decks ds)) ≡ none
  row8-decks [] h n = refl
  row8-decks (d ∷ ds) h n = rw h.0.title

  row8-run : (cs : List Card) → Each BeginsNoDeck cs → Each (λ c. T (names_lower_sets l c)) cs → (ds : List Deck) → Each (SoundDeck directory) ds
      → (n : ℕ) → row8 directory (deck_names l) (stored_from yk n (dealt_to 0 cs ++ dealt_decks ds)) ≡ none
  row8-run [] h t ds k n = row8-decks ds k n
  row8-run (c ∷ cs) h t ds k n = rw (h.0, T-true (names_lower_sets l c) t.0) (row8-run cs h.1 t.1 ds k (past (yk 0) n c))

  pub row8-back : (n : ℕ) → row8 directory (deck_names l) (stored_from yk n (dealt l)) ≡ none
  row8-back n = row8-run l.yanks s.others s.lower l.decks s.decks n

  -- ROW 9: the bits are stored as they should be
  beq-refl : (b : Bool) → T (beq b b)
  beq-refl true = tt
  beq-refl false = tt

  bits-stored : (deck n : ℕ) (c : Card) → ok_bits (yk deck) (stored_at (yk deck) n c) ≡ true
  bits-stored deck n c =
      let a : Bool = active (yk deck) c in
      let r : List ℕ = map (byte_bits (yk deck)) (history c) in
      T-true (beq a a && same r r) (and_both (beq a a) (same r r) (beq-refl a) (same_refl r))

  -- a card that is no deck's is looked at under the deck that it stands in
  row9-same : (deck : ℕ) (t : Stored) (later : List Stored) → is_deck_card t ≡ false → ok_bits (yk deck) t ≡ true → row9_from yk deck later ≡ none → row9_from yk deck (t ∷ later) ≡ none
  row9-same deck t later plain fits k =
      let at : Bool → Option ℕ = λ b. if ok_bits (yk (if b then t.card.owner else deck)) t then row9_from yk (if b then t.card.owner else deck) later else some t.place in
      ap at plain ∙ ap (λ (b : Bool). if b then row9_from yk deck later else some t.place) fits ∙ k

  row9-run : (deck : ℕ) (cs : List Card) → Each BeginsNoDeck cs → (rest : List Dealt) → ((m : ℕ) → row9_from yk deck (stored_from yk m rest) ≡ none)
      → (n : ℕ) → row9_from yk deck (stored_from yk n (dealt_to deck cs ++ rest)) ≡ none
  row9-run deck [] h rest k n = k n
  row9-run deck (c ∷ cs) h rest k n =
      row9-same deck (stored_at (yk deck) n c) (stored_from yk (past (yk deck) n c) (dealt_to deck cs ++ rest)) (ap is_deck_line h.0) (bits-stored deck n c)
      (row9-run deck cs h.1 rest k (past (yk deck) n c))

  row9-decks : (ds : List Deck) → Each (SoundDeck directory) ds → (deck n : ℕ) → row9_from yk deck (stored_from yk n (dealt_decks ds)) ≡ none
  row9-decks [] h deck n = refl
  row9-decks (d ∷ ds) h deck n =
      rw (h.0.title, bits-stored d.number n (deck_card d))
      (row9-run d.number d.cards h.0.others (dealt_decks ds) (row9-decks ds h.1 d.number) (past (yk d.number) n (deck_card d)))

  pub row9-back : (n : ℕ) → row9_from yk 0 (stored_from yk n (dealt l)) ≡ none
  row9-back n = row9-run 0 l.yanks s.others (dealt_decks l.decks) (row9-decks l.decks s.decks 0) n

  -- ROW 10
  cards-stored : (n : ℕ) (ps : List Dealt) → map (λ t. t.card) (stored_from yk n ps) ≡ map (λ p. p.card) ps
  cards-stored n [] = refl
  cards-stored n (p ∷ ps) = ap {B = List Card} (λ t. p.card ∷ t) (cards-stored (past (yk p.deck) n p.card) ps)

  pub row10-back : (n : ℕ) → row10 (stored_from yk n (dealt l)) ≡ none
  row10-back n = once-row10 (stored_from yk n (dealt l)) (rw (cards-stored n (dealt l), dealt-stream l) s.once)
