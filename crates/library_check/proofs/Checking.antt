-- The rows together: each answers for the cards that were read, and the flags are those of the library read. Assumes nothing.
--   row_at, row-on                a row's fault, or what comes after it
--   card-lower, card-known        what rows 5, 6 and 8 say of a card of YANK$$$
--   first-ahead                   the cards of YANK$$$ are those ahead of the first deck card
--   flags-right                   the flags are what is yanked
--   row9-flags                    row 9 under flags
--   row7-found, yank-at, twice-at, bit_at        the rows of the cards that were read
--   first-refused, first-none, first-sound, after-rows     rows 1 to 6 ahead of them
use Rattle.std.specs.Prelude.{Option as Place, Result, Ok, Err, if◌then◌else◌}
use Prim.Native.Nat.{ℕ, ◌+◌, ◌-◌, ◌%◌, ◌^◌, ◌≤◌, ◌<◌}
use native.Mathlib.Omega.{arith}
use mathlib.Core.Path.{◌≡◌, refl, sym, ap, ap₂, ◌∙◌, subst}
use mathlib.Core.Bool.{Bool, true, false, ◌&&◌, ◌||◌, not}
use mathlib.Core.List.{List, [], ◌∷◌, map}
use mathlib.Core.Option.{Option, none, some}
use lib.Dec.{eqb, ltb, leb}
use lib.ListN.{length, get_or, take, drop, length-take, length-drop}
use borrow.Author.Tests.{eqb-true, ltb-true, leb-true}
use Rattle.words.specs.Base.{any, all, member}
use Rattle.words.proofs.TestParts.{true-T, T-true}
use Rattle.words_lines.specs.Directive.{directive}
use Rattle.words_lines.proofs.NamesByWord.{and_left, and_right}
use Rattle.library.specs.Each.{Each}
use Rattle.library.specs.Library.{Byte, Card, Library, DeckLine, not_deck, bad_deck, deck_of, deck_line, history, name_at}
use Rattle.library.specs.Yanks.{Target, whole_set, Yank, covers, is_yank, targets, last_says, yanked_by, yanks_of, settled_yanks, yanked}
use Rattle.library.specs.Settled.{NamesLower}
use Rattle.library.specs.Check.{Checking, good, checked, or_else, Cards, cards, fault, directory_count, deck_count, directory_of, deck_words_of, cards_place, check_cards, check, row1, row2, row3, row4, row10, Stored, Fields, fields_of, byte_of, rising, ok_byte, first_activates, form_tests, part_at, parted_by, library_of, is_deck_line, is_deck_card, ok_deck_card, row7, ahead_of_decks, first_failing, ok_target, ok_yank, row8, ok_bits, row9_from, row9}
use Rattle.library.specs.declared.Fault.{Fault}
use Rattle.library.specs.declared.Fault.TheVariants.{Size, Header, Tables, Name, Yank as YankFault, Bit, Twice}
use Rattle.library.specs.declared.Refusal.{Refusal}
use Rattle.library.specs.Refused.{refused_at}
use Rattle.library.proofs.EachTest.{each_map, each_two, each-of-map}
use Rattle.library.proofs.AnyAndAll.{no_true, any-map}
use Rattle.library.proofs.OneSolution.{settled-solves}
use Rattle.library.proofs.Rollback.{yank_of}
use Rattle.library_tables.specs.Found.{found, Sized, Tabled, refused_by}
use Rattle.library_cards.specs.Found.{cards_answer, cards_read, first_rows}
use Rattle.library.proofs.CardWithin.{all_pass}
use Rattle.library_tables.proofs.TableCounts.{sized, tabled}
use Rattle.library_tables.proofs.FirstFault.{refused-on}
use Rattle.library_tables.proofs.TableWords.{entries-are}
use Rattle.library_yanks.specs.Bytes.{part, flagged}
use Rattle.library_yanks.specs.Flags.{names_in, settled_flags}
use Rattle.library_yanks.proofs.Settling.{Lower}
use Rattle.library_image.specs.Places.{places_in}
use Rattle.library_yanks.proofs.Passing.{Known, names-known, AllAt, settled_is}
use Rattle.library_check.specs.Walks.{Walk, Spans}
use Rattle.library_check.specs.Rows.{Row7, CardsEnd, Row8, Row10, RowBits, after_decks, CardsOf, AfterCards, AfterRows}
use Rattle.library_check.proofs.Walking.{read-walks}
use Rattle.library_check.proofs.Spanning.{walks-span}
use Rattle.library_check.proofs.Telling.{rising-each, history-raw}
use Rattle.library_check.proofs.Cutting.{cut_at}

-- WHAT THE CHECK ANSWERS: a row's fault, or what comes after it
abbrev Checked : Type 0
Checked = Result (Unit {0}) Refusal

pub row_at : (f : Fault) (o : Option ℕ) (r : Checking) (e : Refusal) → refused_at f (found o) ≡ Err e → Err e ≡ checked (or_else f o r)
row_at f none r e h = absurd cc
row_at f (some q) r e h = sym h

pub row-on : (f : Fault) (o : Option ℕ) (r : Checking) → refused_at f (found o) ≡ Ok tt → checked r ≡ checked (or_else f o r)
row-on f none r h = refl
row-on f (some q) r h = absurd cc

row_last : (f : Fault) (o : Option ℕ) (l : Library) → refused_at f (found o) ≡ checked (or_else f o (good l))
row_last f none l = refl
row_last f (some q) l = refl

-- A CARD OF YANK$$$
span-walks : (d ws : List ℕ) (at end : ℕ) (ss : List Stored) → Spans d ws at end ss → Each (λ s. (n : ℕ) × Walk d ws n s) ss
span-walks d ws at end [] h = tt
span-walks d ws at end (s ∷ ss) h = ((at, h.0), span-walks d ws h.0.next end ss h.1)

none-fails : (ok : Stored → Bool) (ss : List Stored) → first_failing ok ss ≡ none → Each (λ s. ok s ≡ true) ss
none-fails ok [] e = tt
none-fails ok (s ∷ ss) e = go (ok s) refl (none-fails ok ss) e
  where
    go : (b : Bool) → ok s ≡ b → (first_failing ok ss ≡ none → Each (λ t. ok t ≡ true) ss) → (if b then first_failing ok ss else some s.place) ≡ none → Each (λ t. ok t ≡ true) (s ∷ ss)
    go true p on q = (p, on q)
    go false p on q = absurd (let z : ◌≡◌ {A = ℕ} 0 1 = cc in omega arith)

module _ (d dw : List ℕ) (own n : ℕ) where
  targets-lower : (ts : List Target) → all (ok_target d dw own) ts ≡ true → any (covers 0 n) ts ≡ true → (0 < n) × (n < own)
  targets-lower [] h e = no_true e
  targets-lower (whole_set m ∷ ts) h e =
      go (eqb n m) refl (targets-lower ts (and_right (ok_target d dw own (whole_set m)) (all (ok_target d dw own) ts) h)) e
    where
      both : (ltb 0 m && ltb m own) ≡ true
      both = and_left (ltb 0 m && ltb m own) (not (member (name_at d m) dw)) (and_left (ok_target d dw own (whole_set m)) (all (ok_target d dw own) ts) h)

      go : (b : Bool) → eqb n m ≡ b → (any (covers 0 n) ts ≡ true → (0 < n) × (n < own)) → (b || any (covers 0 n) ts) ≡ true → (0 < n) × (n < own)
      go true p on q =
          let e : n ≡ m = eqb-true n m p in
          let a : 0 < m = ltb-true 0 m (and_left (ltb 0 m) (ltb m own) both) in
          let b : m < own = ltb-true m own (and_right (ltb 0 m) (ltb m own) both) in
          (omega arith, omega arith)
      go false p on q = on q

-- the owner stands in the directory, and no number of the history is below it
module _ (d : List ℕ) where
  owner-in : (raw : List ℕ) → first_activates raw ≡ true → all (ok_byte d) raw ≡ true → get_or raw 0 0 % 2 ^ 16 ≤ length d
  owner-in [] f e = no_true f
  owner-in (b ∷ bs) f e =
      leb-true (b % 2 ^ 16) (length d) (and_left (leb (b % 2 ^ 16) (length d)) _ (and_left (ok_byte d b) (all (ok_byte d) bs) e))

  owner-lowest : (raw : List ℕ) → first_activates raw ≡ true → rising 1 raw ≡ true → Each (λ b. get_or raw 0 0 % 2 ^ 16 ≤ b.number) (map byte_of raw)
  owner-lowest [] f e = no_true f
  owner-lowest (b ∷ bs) f e =
      (omega arith, each-of-map (λ x. b % 2 ^ 16 ≤ x.number) byte_of bs (rising-each (b % 2 ^ 16) bs (and_right (leb 1 (b % 2 ^ 16)) (rising (b % 2 ^ 16) bs) e)))

  card-lower : (dw ws : List ℕ) (s : Stored) → ((n : ℕ) × Walk d ws n s) → ok_yank d dw s ≡ true → Lower d s.card
  card-lower dw ws s (at, w) ok =
      let f : Fields = fields_of (drop at ws) w.heads in
      let p = all_pass (form_tests d f) w.form in
      let own : s.card.owner ≡ get_or f.raw 0 0 % 2 ^ 16 = ap (λ (t : Stored). t.card.owner) w.is in
      let hist : history s.card ≡ map byte_of f.raw = ap (λ (t : Stored). history t.card) w.is ∙ history-raw f p.1.0 in
      record {
        names = λ n e. targets-lower d dw s.card.owner n (targets d s.card.line) (and_right (is_yank (directive s.card.line)) (all (ok_target d dw s.card.owner) (targets d s.card.line)) ok) e;
        own = subst (λ (o : ℕ). o ≤ length d) (sym own) (owner-in f.raw p.1.0 p.1.1.1.0);
        rises = subst (λ (h : List Byte). Each (λ b. s.card.owner ≤ b.number) h) (sym hist) (subst (λ (o : ℕ). Each (λ b. o ≤ b.number) (map byte_of f.raw)) (sym own) (owner-lowest f.raw p.1.0 p.1.1.0));
      }

  card-known : (dw : List ℕ) (s : Stored) → ok_yank d dw s ≡ true → Known d (names_in s.card.line)
  card-known dw s ok =
      names-known d dw s.card.owner s.card.line
      (true-T _ (and_right (is_yank (directive s.card.line)) (all (ok_target d dw s.card.owner) (targets d s.card.line)) ok))

-- THE CARDS AHEAD OF THE DECKS
first-ahead : (d names : List ℕ) (ss : List Stored) (end : ℕ) → row7 d names ss end ≡ none → (parted_by ss).first ≡ map (λ s. s.card) (ahead_of_decks ss)
first-ahead d names [] end e = refl
first-ahead d names (s ∷ ss) end e = go (deck_line s.card.line) (λ q. first-ahead d names ss end q) e
  where
    none-bad : (ns : List ℕ) → ok_deck_card d ns s bad_deck ≡ false
    none-bad [] = refl
    none-bad (x ∷ xs) = refl

    go : (l : DeckLine) → (row7 d names ss end ≡ none → (parted_by ss).first ≡ map (λ t. t.card) (ahead_of_decks ss))
        → (if not (is_deck_line l) then row7 d names ss end else if ok_deck_card d names s l then row7 d (drop 1 names) ss end else some s.place) ≡ none
        → (part_at l s.card (parted_by ss)).first ≡ map (λ t. t.card) (if is_deck_line l then [] else (s ∷ ahead_of_decks ss))
    go not_deck on q = ap {B = List Card} (λ r. s.card ∷ r) (on q)
    go bad_deck on q =
        absurd (
        let z : some s.place ≡ none = ap (λ (b : Bool). if b then row7 d (drop 1 names) ss end else some s.place) (sym (none-bad names)) ∙ q in
        let u : ◌≡◌ {A = ℕ} 0 1 = cc in
        omega arith
        )
    go (deck_of c w) on q = refl

-- THE FLAGS
deck-free : (deck n : ℕ) (ts : List Target) → any (covers deck n) ts ≡ any (covers 0 n) ts
deck-free deck n [] = refl
deck-free deck n (whole_set m ∷ ts) = ap (λ (b : Bool). eqb n m || b) (deck-free deck n ts)

yanked-free : (ys : List Yank) (f : ℕ → Bool) (deck n : ℕ) → yanked_by ys f deck n ≡ yanked_by ys f 0 n
yanked-free [] f deck n = refl
yanked-free (y ∷ ys) f deck n = ap₂ (λ (a b : Bool). (a && last_says f false y.bytes) || b) (deck-free deck n y.acts) (yanked-free ys f deck n)

names-lower : (d : List ℕ) (c : Card) → Lower d c → NamesLower (length d) (yank_of d c)
names-lower d c low n t =
    let e : any (covers 0 n) (targets d c.line) ≡ true = T-true _ t in
    let q = low.names n e in
    let a : n < c.owner = q.1 in
    let b : c.owner ≤ length d = low.own in
    (q.0, omega arith, each_map (λ x. c.owner ≤ x.number) (λ x. n < x.number) (λ x h. omega (arith, h)) (history c) low.rises)

module _ (d dw ws : List ℕ) (from end : ℕ) (ss : List Stored) (within : end ≤ length ws) (few : length d ≤ 1023) (short : length ws ≤ 65536)
    (decks : row7 d (drop 1 dw) ss (length ws) ≡ none) (yanks : row8 d dw ss ≡ none) (spans : Spans d ws from end (ahead_of_decks ss)) where
  abbrev l : Library
  l = library_of d ss

  abbrev ys : List Stored
  ys = ahead_of_decks ss

  abbrev cs : List Card
  cs = (parted_by ss).first

  are : map (λ s. s.card) ys ≡ cs
  are = sym (first-ahead d (drop 1 dw) ss (length ws) decks)

  passes : Each (λ s. ok_yank d dw s ≡ true) ys
  passes = none-fails (ok_yank d dw) ys yanks

  low : Each (Lower d) cs
  low =
      subst (Each (Lower d)) are
      (each-of-map (Lower d) (λ s. s.card) ys (each_two (λ s. (n : ℕ) × Walk d ws n s) (λ s. ok_yank d dw s ≡ true) (λ s. Lower d s.card) (card-lower d dw ws) ys (span-walks d ws from end ys spans) passes))

  known : Each (λ c. Known d (names_in c.line)) cs
  known =
      subst (Each (λ c. Known d (names_in c.line))) are
      (each-of-map (λ c. Known d (names_in c.line)) (λ s. s.card) ys (each_map (λ s. ok_yank d dw s ≡ true) (λ s. Known d (names_in s.card.line)) (card-known d dw) ys passes))

  abbrev F : ℕ → Bool
  F m = member m (settled_yanks l)

  solves : (n : ℕ) → F n ≡ yanked_by (yanks_of l) F 0 n
  unfolding settled_yanks yanks_of
  solves = settled-solves (yanks_of l) (length d) (each-of-map (NamesLower (length d)) (yank_of d) cs (each_map (Lower d) (λ c. NamesLower (length d) (yank_of d c)) (names-lower d) cs low))

  acts-solve : (n : ℕ) → F n ≡ any (λ c. any (covers 0 n) (targets d c.line) && last_says F false (history c)) cs
  unfolding yanks_of
  acts-solve n = solves n ∙ any-map (λ y. any (covers 0 n) y.acts && last_says F false y.bytes) (yank_of d) cs

  cut_short : length (part from end ws) ≤ 65536
  cut_short = omega (arith, length-take (end - from) (drop from ws), length-drop from ws)

  flags-right : (deck n : ℕ) → flagged (settled_flags d (part from end ws) 1024) n ≡ yanked l deck n
  unfolding yanked
  flags-right deck n =
      settled_is d (part from end ws) 1024 few cut_short (omega arith) cs (subst (λ (c : List Card). AllAt (part from end ws) (places_in (part from end ws) 0) c) are (cut_at d ws from end within ys spans)) known low F acts-solve n
      ∙ solves n ∙ sym (yanked-free (yanks_of l) F deck n)

-- ROW 9
row9-flags : (yk : ℕ → ℕ → Bool) (f : ℕ → Bool) → ((deck n : ℕ) → f n ≡ yk deck n) → (deck : ℕ) (ss : List Stored) → first_failing (ok_bits f) ss ≡ row9_from yk deck ss
row9-flags yk f h deck [] = refl
row9-flags yk f h deck (s ∷ ss) =
    let here : ℕ = if is_deck_card s then s.card.owner else deck in
    let e : f ≡ yk here = λ i n. h here n i in
    ap₂ (λ (b : Bool) r. if b then r else some s.place) (ap (λ (u : ℕ → Bool). ok_bits u s) e) (row9-flags yk f h here ss)

-- THE ROWS OF THE CARDS THAT WERE READ
module _ (d dw ws : List ℕ) (from : ℕ) (inside : from ≤ length ws) (ss : List Stored) (read : CardsOf d ws from ss) where
  spans : Spans d ws from (length ws) ss
  spans = walks-span d ws from ss inside read.walks

  pub row7-found : (r : Place ℕ) → Row7 d dw ws from r → r ≡ found (row7 d (drop 1 dw) ss (length ws))
  row7-found r h = h ss spans

  module _ (end : ℕ) (within : end ≤ length ws) (ends : CardsEnd ws from end) where
    abbrev whole : Library
    whole = library_of d ss

    abbrev last : Checking
    last = or_else Bit (row9 whole ss) (good whole)

    row8-found : (r : Place ℕ) → Row8 d dw ws from end r → r ≡ found (row8 d dw ss)
    row8-found r h = h (ahead_of_decks ss) (ends d ss spans)

    row10-found : (r : Place ℕ) → Row10 ws from r → r ≡ found (row10 ss)
    row10-found r h = h d ss spans read.count

    row9-found : row7 d (drop 1 dw) ss (length ws) ≡ none → row8 d dw ss ≡ none → (r : Place ℕ) → RowBits d ws from end r → r ≡ found (row9 whole ss)
    row9-found no7 no8 r h =
        h d ss spans
        ∙ ap found (row9-flags (yanked whole) (flagged (settled_flags d (part from end ws) 1024)) (flags-right d dw ws from end ss within read.few read.short no7 no8 (ends d ss spans)) 0 ss)

    -- a row's fault after those that passed
    module _ (y : Place ℕ) (row-y : Row8 d dw ws from end y) where
      yanks-are : refused_at YankFault (found (row8 d dw ss)) ≡ refused_at YankFault y
      yanks-are = ap (refused_at YankFault) (sym (row8-found y row-y))

      pub yank-at : (e : Refusal) → refused_at YankFault y ≡ Err e → Err e ≡ checked (after_decks d dw ss)
      yank-at e h = row_at YankFault (row8 d dw ss) (or_else Twice (row10 ss) last) e (yanks-are ∙ h)

      module _ (no-y : refused_at YankFault y ≡ Ok tt) (t : Place ℕ) (row-t : Row10 ws from t) where
        on-y : checked (or_else Twice (row10 ss) last) ≡ checked (after_decks d dw ss)
        on-y = row-on YankFault (row8 d dw ss) (or_else Twice (row10 ss) last) (yanks-are ∙ no-y)

        twices-are : refused_at Twice (found (row10 ss)) ≡ refused_at Twice t
        twices-are = ap (refused_at Twice) (sym (row10-found t row-t))

        pub twice-at : (e : Refusal) → refused_at Twice t ≡ Err e → Err e ≡ checked (after_decks d dw ss)
        twice-at e h = row_at Twice (row10 ss) last e (twices-are ∙ h) ∙ on-y

        pub bit_at : refused_at Twice t ≡ Ok tt → row7 d (drop 1 dw) ss (length ws) ≡ none → (b : Place ℕ) → RowBits d ws from end b → refused_at Bit b ≡ checked (after_decks d dw ss)
        bit_at no-t no7 b row-b =
            ap (refused_at Bit) (row9-found no7 (refused-on YankFault (row8 d dw ss) (yanks-are ∙ no-y)) b row-b) ∙ row_last Bit (row9 whole ss) whole
            ∙ row-on Twice (row10 ss) last (twices-are ∙ no-t) ∙ on-y

-- ROWS 1 TO 6 ahead of them
module _ (d dw : List ℕ) (end : ℕ) where
  abbrev all-rows : Option ℕ → Option ℕ → Option ℕ → Option ℕ → Cards → Checking
  all-rows a b c e r = or_else Size a (or_else Header b (or_else Tables c (or_else Name e (check_cards d dw end r))))

  abbrev first-ones : Option ℕ → Option ℕ → Option ℕ → Option ℕ → Cards → Checked
  first-ones a b c e r = refused_by Size a (refused_by Header b (refused_by Tables c (refused_by Name e (cards_answer r))))

  refused_as : (a b c e : Option ℕ) (r : Cards) (f : Refusal) → first-ones a b c e r ≡ Err f → Err f ≡ checked (all-rows a b c e r)
  refused_as (some q) b c e r f h = sym h
  refused_as none (some q) c e r f h = sym h
  refused_as none none (some q) e r f h = sym h
  refused_as none none none (some q) r f h = sym h
  refused_as none none none none (fault g q) f h = sym h
  refused_as none none none none (cards ss) f h = absurd cc

  sound-as : (a b c e : Option ℕ) (r : Cards) → first-ones a b c e r ≡ Ok tt → (o : Checked) → ((ss : List Stored) → r ≡ cards ss → o ≡ checked (check_cards d dw end (cards ss))) → o ≡ checked (all-rows a b c e r)
  sound-as (some q) b c e r h o on = absurd cc
  sound-as none (some q) c e r h o on = absurd cc
  sound-as none none (some q) e r h o on = absurd cc
  sound-as none none none (some q) r h o on = absurd cc
  sound-as none none none none (fault g q) h o on = absurd cc
  sound-as none none none none (cards ss) h o on = on ss refl

  passed : (a b c e : Option ℕ) (r : Cards) → first-ones a b c e r ≡ Ok tt → (a ≡ none) × (c ≡ none)
  passed (some q) b c e r h = absurd cc
  passed none (some q) c e r h = absurd cc
  passed none none (some q) e r h = absurd cc
  passed none none none e r h = (refl, refl)

module _ (ws : List ℕ) where
  abbrev D : List ℕ
  D = directory_of ws

  abbrev L : List ℕ
  L = deck_words_of ws

  pub first-refused : (f : Refusal) → first_rows ws ≡ Err f → Err f ≡ checked (check ws)
  unfolding first_rows check
  first-refused f h = refused_as D L (length ws) (row1 ws) (row2 ws) (row3 ws) (row4 ws) (cards_read ws) f h

  pub first-none : first_rows ws ≡ Ok tt → Sized ws × Tabled ws
  unfolding first_rows
  first-none h = let q = passed D L (length ws) (row1 ws) (row2 ws) (row3 ws) (row4 ws) (cards_read ws) h in (sized ws q.0, tabled ws q.1)

  pub first-sound : first_rows ws ≡ Ok tt → (r : Checked) → AfterRows ws r → r ≡ checked (check ws)
  unfolding first_rows check
  first-sound h r on = sound-as D L (length ws) (row1 ws) (row2 ws) (row3 ws) (row4 ws) (cards_read ws) h r on

  -- the directory and the deck list as they are lent
  pub after-rows : (e k : ℕ) → e ≡ directory_count ws → k ≡ deck_count ws → Sized ws → Tabled ws → (r : Checked)
      → AfterCards (take (2 + e - 2) (drop 2 ws)) (take (2 + e + k - (2 + e)) (drop (2 + e) ws)) ws (2 + e + k) r → AfterRows ws r
  after-rows e k en de size tab r h ss read =
      let a : take (2 + e - 2) (drop 2 ws) ≡ D = entries-are ws e en in
      let z : 2 + e + k - (2 + e) ≡ deck_count ws = omega arith in
      let b : take (2 + e + k - (2 + e)) (drop (2 + e) ws) ≡ L = ap (λ (n : ℕ). take n (drop (2 + e) ws)) z ∙ ap (λ (n : ℕ). take (deck_count ws) (drop (2 + n) ws)) en in
      let p : 2 + e + k ≡ cards_place ws = ap₂ (λ (m n : ℕ). 2 + m + n) en de in
      let q = read-walks D ws 16383 (cards_place ws) ss read in
      let t : directory_count ws ≤ 1023 = tab.entries in
      subst (λ (n : ℕ). AfterCards D L ws n r) p (subst (λ (x : List ℕ). AfterCards D x ws (2 + e + k) r) b (subst (λ (x : List ℕ). AfterCards x (take (2 + e + k - (2 + e)) (drop (2 + e) ws)) ws (2 + e + k) r) a h)) ss
      (record { walks = q.0; count = q.1; few = omega (arith, length-take (directory_count ws) (drop 2 ws)); short = size.most })
