-- The image of a sound library passes every row of the check and is read as that library.
use Prim.Native.Nat.{ℕ, suc, ◌+◌, ◌^◌, ◌≤◌, ◌<◌}
use native.Mathlib.Omega.{arith}
use mathlib.Core.Path.{◌≡◌, refl, sym, ap, ◌∙◌, subst}
use mathlib.Core.Bool.{Bool, true, false, ◌&&◌, ◌||◌, not}
use mathlib.Core.List.{List, [], ◌∷◌, ◌++◌, map, append_assoc}
use mathlib.Core.Option.{Option, none}
use lib.Dec.{T, eqb, eqb→eq, eqb_refl, ltb, leb, leb→le, ltb→lt, not_T}
use lib.ListN.{length, take, drop, length-append, length-map}
use lib.Seq.{take_at, drop_at}
use Rattle.words.specs.Base.{any_of, member, place_from}
use Rattle.words.specs.Base.{is_word}
use Rattle.words.specs.Names.{is_name_word}
use Rattle.words.proofs.TestParts.{and_both, all_append}
use Rattle.library.specs.Each.{Each}
use Rattle.library.specs.Library.{Deck, Library, history, stream, name_at, entry_of, reserved, purged, deck_names}
use Rattle.library.specs.Yanks.{yanked}
use Rattle.library.specs.Image.{header, counts, tables, encode, short_history, limit_tests, within_limits}
use Rattle.library.specs.Sound.{no_two, sound_entry, is_entry, SoundCard, SoundDeck, Sound}
use Rattle.library.specs.Exact.{EncodeCheck}
use Rattle.library.specs.declared.Fault.{Fault}
use Rattle.library.specs.declared.Fault.TheVariants.{Size, Header, Tables, Name, Decks, Yank as YankFault, Bit, Twice}
use Rattle.library.specs.Check.{Checking, good, or_else, first_of, fault_if, directory_count, deck_count, directory_of, deck_words_of, cards_place, row1, row2, table_faults, row3, first_bad, ok_entry, ok_deck_word, row4, Stored, cards, read_cards, row7, row8, row9, row10, row9_from, library_of, check_cards, check}
use Rattle.library.proofs.EachTest.{and_parts, each_map, each_two, each-under-map, all-each, all_of-each, none-any_of, each-of-map}
use Rattle.library.proofs.NoTwo.{no-two-map, no-two-less}
use Rattle.library.proofs.EntryNames.{is-named, entry-name, name-member}
use Rattle.library.proofs.TableRows.{none_first, none-fault, none-place, is_listed, sound-entries, sound-list}
use Rattle.library.proofs.DealtCards.{dealt, dealt_words, dealt-stream, dealt-words, each-dealt}
use Rattle.library.proofs.ReadAsWritten.{Fit}
use Rattle.library.proofs.ReadBack.{stored_from, read_back}
use Rattle.library.proofs.RowsBack.{deck-named, parts-back, row7-back, row8-back, row9-back, row10-back}
use Rattle.library.proofs.WordsFit.{dealt-is_word, entry-sound, tables-is_word}

-- tests that fail, and a row that finds no fault
not-ltb : (a b : ℕ) → b ≤ a → T (not (ltb a b))
not-ltb a b h = not_T (ltb a b) (λ t. omega (arith, ltb→lt a b t))

not-leb : (a b : ℕ) → b < a → T (not (leb a b))
not-leb a b h = not_T (leb a b) (λ t. omega (arith, leb→le a b t))

twice : (b : Bool) → T b → T (not (not b))
twice true t = tt
twice false t = t

passes : (f : Fault) (o : Option ℕ) (r : Checking) {x : Checking} → o ≡ none → r ≡ x → or_else f o r ≡ x
passes f o r e q = ap (λ (p : Option ℕ). or_else f p r) e ∙ q

-- an entry that is not purged is a name
a-name : (w : ℕ) → T (sound_entry w) → T (not (eqb w purged)) → T (is_name_word w && not (eqb w reserved))
a-name w t u = go (eqb w purged) t u
  where
    go : (c : Bool) → T (c || (is_name_word w && not (eqb w reserved))) → T (not c) → T (is_name_word w && not (eqb w reserved))
    go true p q = absurd q
    go false p q = p

module _ (l : Library) (s : Sound l) where
  abbrev directory : List ℕ
  directory = l.directory

  abbrev name_of : Deck → ℕ
  name_of d = name_at directory d.number

  abbrev names : List ℕ
  names = map name_of l.decks

  abbrev body : List ℕ
  body = dealt_words (yanked l) (dealt l)

  abbrev ws : List ℕ
  ws = tables l ++ body

  -- THE LIMITS
  limit-tests : Each T (limit_tests l)
  unfolding within_limits
  limit-tests = all_of-each (limit_tests l) s.limits

  few-entries : length directory ≤ 1023
  few-entries = leb→le (length directory) 1023 limit-tests.0

  few-decks : suc (length l.decks) ≤ 255
  few-decks = leb→le (suc (length l.decks)) 255 limit-tests.1.0

  few-cards : length (dealt l) ≤ 16383
  few-cards =
      omega (arith, leb→le (length (stream l)) 16383 limit-tests.1.1.0, ap length (dealt-stream l), length-map (dealt l) (λ p. p.card))

  encode-is : encode l ≡ ws
  unfolding encode
  encode-is = ap (λ (b : List ℕ). tables l ++ b) (sym (dealt-words (yanked l) l))

  few_words : length ws ≤ 65536
  few_words = omega (arith, leb→le (length (encode l)) 65536 limit-tests.1.1.1.1.0, ap length encode-is)

  -- THE CARDS
  fit : Each (λ p. Fit directory p.card) (dealt l)
  fit =
      each_two (λ p. SoundCard directory p.card) (λ p. T (short_history p.card)) (λ p. Fit directory p.card)
      (λ p a b. record { sound = a; short = leb→le (length (history p.card)) 64 b }) (dealt l)
      (each-dealt (SoundCard directory) l s.yanks (each_map _ _ (λ d q. (q.first, q.cards)) l.decks s.decks))
      (each-under-map (λ c. T (short_history c)) (λ p. p.card) (dealt l)
      (rw (dealt-stream l) (all-each short_history (stream l) limit-tests.1.1.1.0)))

  -- THE LAYOUT
  entry-count : directory_count ws ≡ length directory
  entry-count = omega (arith, few-decks)

  list_count : deck_count ws ≡ suc (length l.decks)
  list_count = omega (arith, few-decks)

  length-names : length (deck_names l) ≡ suc (length l.decks)
  unfolding deck_names
  length-names = ap suc (length-map l.decks name_of)

  cards-place : length (tables l) ≡ cards_place ws
  cards-place = omega (arith, length-append directory (deck_names l), length-names, entry-count, list_count)

  regroup : ws ≡ (header ∷ counts l ∷ directory) ++ (deck_names l ++ body)
  regroup = λ i. header ∷ counts l ∷ append_assoc directory (deck_names l) body i

  directory-back : directory_of ws ≡ directory
  directory-back =
      ap (take (directory_count ws)) (append_assoc directory (deck_names l) body) ∙ take_at directory (deck_names l ++ body) (directory_count ws) (sym entry-count)

  deck-words-back : deck_words_of ws ≡ deck_names l
  deck-words-back =
      let e : length (header ∷ counts l ∷ directory) ≡ 2 + directory_count ws = omega (arith, entry-count) in
      ap (λ (r : List ℕ). take (deck_count ws) (drop (2 + directory_count ws) r)) regroup
      ∙ ap (take (deck_count ws)) (drop_at (header ∷ counts l ∷ directory) (deck_names l ++ body) (2 + directory_count ws) e)
      ∙ take_at (deck_names l) body (deck_count ws) (length-names ∙ sym list_count)

  body_back : drop (cards_place ws) ws ≡ body
  body_back = drop_at (tables l) body (cards_place ws) cards-place

  -- ROWS 1 TO 3
  size-passes : row1 ws ≡ none
  size-passes =
      let n : length ws ≡ length (tables l) + length body = length-append (tables l) body in
      none_first (fault_if (ltb (length ws) 3) (length ws)) (first_of (fault_if (ltb 65536 (length ws)) 65536) (place_from (λ w. not (is_word w)) 0 ws))
      (none-fault (ltb (length ws) 3) (length ws) (not-ltb (length ws) 3 (omega (arith, cards-place, list_count))))
      (none_first (fault_if (ltb 65536 (length ws)) 65536) (place_from (λ w. not (is_word w)) 0 ws)
      (none-fault (ltb 65536 (length ws)) 65536 (not-ltb 65536 (length ws) few_words))
      (none-place (λ w. not (is_word w)) 0 ws (each_map _ _ (λ w t. twice (is_word w) t) ws
      (all-each is_word ws (all_append is_word (tables l) body (tables-is_word l s few-entries few-decks) (dealt-is_word directory few-entries (yanked l) (dealt l) fit))))))

  header-passes : row2 ws ≡ none
  header-passes = refl

  tables-pass : row3 ws ≡ none
  tables-pass =
      let n : length ws ≡ length (tables l) + length body = length-append (tables l) body in
      none-fault (any_of (table_faults ws)) 1 (subst (λ (b : Bool). T (not b)) (sym (none-any_of (table_faults ws) (
        not-leb (2 ^ 36) (counts l) (omega (arith, few-entries, few-decks)),
        (
          not-ltb 1023 (directory_count ws) (omega (arith, entry-count, few-entries)),
          (
            not_T (eqb (deck_count ws) 0) (λ t. omega (arith, eqb→eq (deck_count ws) 0 t, list_count)),
            (
              not-ltb 255 (deck_count ws) (omega (arith, list_count, few-decks)),
              (not-ltb (length ws) (cards_place ws) (omega (arith, cards-place)), tt),
            ),
          ),
        ),
      ))) tt)

  -- ROW 4
  listed-deck : (d : Deck) → SoundDeck directory d → T (is_listed directory (name_of d)) × T (not (eqb (name_of d) reserved))
  listed-deck d h =
      let at : T (is_entry directory d.number) = deck-named directory d h in
      let w : ℕ = name_of d in
      let q = and_parts (is_name_word w) (not (eqb w reserved)) (a-name w (entry-sound directory d.number s.entries at) (is-named directory d.number at).named) in
      (and_both (is_name_word w) (member w directory) q.0 (name-member directory s.names d.number at), q.1)

  listed-decks : Each (λ d. T (is_listed directory (name_of d)) × T (not (eqb (name_of d) reserved))) l.decks
  listed-decks = each_map _ _ listed-deck l.decks s.decks

  -- decks with one name have one number
  number-back : (d : Deck) → SoundDeck directory d → entry_of directory (name_of d) ≡ d.number
  number-back d h = entry-name directory s.names d.number (deck-named directory d h)

  alike : (d e : Deck) → SoundDeck directory d → SoundDeck directory e → T (eqb (name_of d) (name_of e)) → T (eqb d.number e.number)
  alike d e p q t =
      let n : d.number ≡ e.number = sym (number-back d p) ∙ ap (entry_of directory) (eqb→eq (name_of d) (name_of e) t) ∙ number-back e q in
      subst (λ (k : ℕ). T (eqb d.number k)) n (eqb_refl d.number)

  names-once : T (no_two eqb names)
  names-once =
      rw (no-two-map eqb name_of l.decks)
      (no-two-less (SoundDeck directory) (λ d e. eqb d.number e.number) (λ d e. eqb (name_of d) (name_of e)) alike l.decks s.decks
      (rw (no-two-map eqb (λ d. d.number) l.decks) at s.differ))

  names-pass : row4 ws ≡ none
  unfolding deck_names
  names-pass =
      (λ i. first_of (first_bad ok_entry [] 2 (directory-back i)) (first_bad (ok_deck_word (directory-back i)) [] (2 + directory_count ws) (deck-words-back i)))
      ∙ none_first (first_bad ok_entry [] 2 directory) (first_bad (ok_deck_word directory) [] (2 + directory_count ws) (deck_names l))
      (sound-entries 2 directory s.entries s.names)
      (sound-list directory (2 + directory_count ws) names
      (each-of-map (λ w. T (is_listed directory w)) name_of l.decks (each_map _ _ (λ d h. h.0) l.decks listed-decks))
      (each-of-map (λ w. T (not (eqb w reserved))) name_of l.decks (each_map _ _ (λ d h. h.1) l.decks listed-decks))
      names-once)

  -- ROWS 5 TO 10
  abbrev ss : List Stored
  ss = stored_from (yanked l) (cards_place ws) (dealt l)

  library-back : library_of directory ss ≡ l
  library-back =
      let p = parts-back l s (yanked l) (cards_place ws) in
      λ i. record { directory = directory; yanks = (p i).first; decks = (p i).decks }

  cards-pass : check_cards directory (deck_names l) (length ws) (cards ss) ≡ good l
  unfolding deck_names
  cards-pass =
      passes Decks (row7 directory names ss (length ws)) _ (row7-back l s (yanked l) (length ws) (cards_place ws))
      (passes YankFault (row8 directory (deck_names l) ss) _ (row8-back l s (yanked l) (cards_place ws))
      (passes Twice (row10 ss) _ (row10-back l s (yanked l) (cards_place ws))
      (passes Bit (row9 (library_of directory ss) ss) _
      (ap (λ (m : Library). row9_from (yanked m) 0 ss) library-back ∙ row9-back l s (yanked l) (cards_place ws))
      (ap good library-back))))

  image-passes : check ws ≡ good l
  unfolding check
  image-passes =
      passes Size (row1 ws) _ size-passes
      (passes Header (row2 ws) _ header-passes
      (passes Tables (row3 ws) _ tables-pass
      (passes Name (row4 ws) _ names-pass
      ((λ i. check_cards (directory-back i) (deck-words-back i) (length ws) (read_cards (directory-back i) 16383 (body_back i) (cards_place ws)))
      ∙ ap (check_cards directory (deck_names l) (length ws)) (read_back directory few-entries (yanked l) (dealt l) 16383 (cards_place ws) few-cards fit)
      ∙ cards-pass))))

-- THE LAW
pub encode-check : EncodeCheck
encode-check l s = ap check (encode-is l s) ∙ image-passes l s
