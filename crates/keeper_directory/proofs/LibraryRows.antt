-- The rows of an image that the check accepts are those of its library. Assumes nothing.
--   kinds-are                 each entry's kind
--   flags-are                 each entry's flag
--   rows_are                  each entry's row
--   listed-short, listed-all  the rows in their space
use Rattle.std.specs.Prelude.{if◌then◌else◌, Ok, Err}
use Prim.Native.Nat.{ℕ, zero, suc, ◌-◌, ◌*◌, ◌≤◌, ◌<◌}
use native.Mathlib.Omega.{arith}
use mathlib.Core.Path.{◌≡◌, refl, sym, ap, ◌∙◌, subst}
use mathlib.Core.Bool.{Bool, true, false}
use mathlib.Core.List.{List, [], ◌∷◌, ◌++◌}
use borrow.Author.Tests.{le-leb, lt-leb}
use lib.Dec.{eqb}
use lib.ListN.{length, get_or, drop, length-append}
use Rattle.words.specs.Names.{left_justified}
use Rattle.library.specs.Library.{Deck, Library, name_at}
use Rattle.library.specs.Yanks.{yanked}
use Rattle.library.specs.Image.{cards_words}
use Rattle.library.specs.Check.{good, check, directory_count, directory_of, cards_place, parted_by}
use Rattle.library.proofs.EntryNames.{name-at}
use Rattle.library.proofs.AcceptedImage.{check-accepted}
use Rattle.library.proofs.CheckSound.{check_sound}
use Rattle.library.proofs.CheckEncode.{check-encode}
use Rattle.library_tables.specs.Found.{Tabled}
use Rattle.library_tables.proofs.TableCounts.{tabled}
use Rattle.library_yanks.specs.Bytes.{part, flagged}
use Rattle.library_image_decks.specs.Decks.{deck_end}
use Rattle.library_yanks.specs.Flags.{settled_flags}
use Rattle.keeper_directory.proofs.YankWords.{yanks-part}
use Rattle.library_yanks.proofs.Yanking.{settled-yanked}
use Rattle.library_check.specs.Walks.{Spans}
use Rattle.library_check.proofs.Walking.{read-walks}
use Rattle.library_check.proofs.Spanning.{walks-span}
use Rattle.keeper_card.specs.Naming.{entry_name}
use Rattle.keeper_card.specs.Parts.{Answers, word_name}
use Rattle.keeper_card.specs.declared.ShowRefused.TheVariants.{Space}
use Rattle.keeper_card.proofs.AcceptedNames.{directory-is, count-is, name-is}
use Rattle.keeper_directory.specs.Keeper.{deck_kind, purged_or, entry_kind, yank_mark, entry_row, rows_up_to, entry_rows, listed}
use Rattle.keeper_directory.specs.Parts.{row_bytes, row_at, kinds_of, Kinds}
use Rattle.keeper_directory.proofs.RowBytes.{left-long, first-long}
use Rattle.keeper_directory.proofs.DeckKinds.{decks_kinds, cards-decks, decks-kinds}

module _ (ws : List ℕ) (l : Library) (e : check ws ≡ good l) where
  -- where every entry was a set
  module _ (sets : List ℕ) (long : length sets ≡ 1024) (all : (n : ℕ) → n < 1024 → get_or sets n 0 ≡ 83) where
    pub kinds-are : (from : ℕ) (kinds : List ℕ) → from ≡ cards_place ws → Kinds ws from sets kinds → (n : ℕ) → n < 1024 → get_or kinds n 0 ≡ deck_kind n l.decks
    kinds-are from kinds p k n h =
        let a = check-accepted ws l e in
        let tab : Tabled ws = tabled ws a.tables in
        let sp : Spans (directory_of ws) ws (cards_place ws) (length ws) a.stored =
        walks-span (directory_of ws) ws (cards_place ws) a.stored tab.inside (read-walks (directory_of ws) ws 16383 (cards_place ws) a.stored a.read).0 in
        let is : kinds ≡ kinds_of a.stored sets = subst (λ (f : ℕ). Kinds ws f sets kinds) p k (directory_of ws) a.stored sp in
        let same : (parted_by a.stored).decks ≡ l.decks = ap (λ (m : Library). m.decks) a.same in
        ap (λ (r : List ℕ). get_or r n 0) (is ∙ cards-decks a.stored sets ∙ ap (λ (ds : List Deck). decks_kinds ds sets) same)
        ∙ decks-kinds l.decks sets n (omega arith) (all n h) (check_sound ws l e).differ

  few : directory_count ws ≤ 1023
  few = (tabled ws (check-accepted ws l e).tables).entries

  pub flags-are : (d : List ℕ) (from : ℕ) (flags : List ℕ) → d ≡ directory_of ws → from ≡ cards_place ws → flags ≡ settled_flags d (part from (deck_end ws from) ws) 1024
      → (n : ℕ) → flagged flags n ≡ yanked l 0 n
  flags-are d from flags ed ef is n =
      let cards : List ℕ = cards_words (yanked l 0) l.yanks in
      let words : part from (deck_end ws from) ws ≡ cards =
      ap (λ (m : ℕ). part m (deck_end ws m) ws) ef ∙ subst (λ (x : List ℕ). part (cards_place x) (deck_end x (cards_place x)) x ≡ cards) (check-encode ws l e) (yanks-part l (check_sound ws l e)) in
      let said : flags ≡ settled_flags l.directory cards 1024 = is ∙ (λ i. settled_flags ((ed ∙ sym (directory-is ws l e)) i) (words i) 1024) in
      ap (λ (fs : List ℕ). flagged fs n) said
      ∙ ap (λ (x : ℕ). eqb x 1) (settled-yanked l (check_sound ws l e) (yanked l 0) 1024 (omega (arith, few, count-is ws l e)) n) ∙ one (yanked l 0 n)
    where
      one : (b : Bool) → eqb (if b then 1 else 0) 1 ≡ b
      one true = refl
      one false = refl

  module _ (kinds flags : List ℕ) (right : (n : ℕ) → n < 1024 → get_or kinds n 0 ≡ deck_kind n l.decks) (yanks : (n : ℕ) → flagged flags n ≡ yanked l 0 n) where
    row_is : (n : ℕ) → 0 < n → n ≤ directory_count ws → row_at (directory_of ws) kinds flags n ≡ entry_row l n
    unfolding row_at row_bytes entry_row entry_kind
    row_is n pos h =
        let w : get_or (directory_of ws) (n - 1) 0 ≡ name_at l.directory n = sym (name-at (directory_of ws) n pos) ∙ ap (λ (d : List ℕ). name_at d n) (sym (directory-is ws l e)) in
        let name : word_name (get_or (directory_of ws) (n - 1) 0) ≡ entry_name l.directory n = ap word_name w ∙ name-is ws l e n pos h in
        let k : get_or kinds n 0 ≡ deck_kind n l.decks = right n (omega (arith, few)) in
        let y : flagged flags n ≡ yanked l 0 n = yanks n in
        λ i. left_justified 9 (name i) ++ (purged_or (w i) (k i) ∷ yank_mark (y i) ∷ [])

    first-are : (n : ℕ) → n ≤ directory_count ws → rows_up_to (row_at (directory_of ws) kinds flags) n ≡ rows_up_to (entry_row l) n
    first-are zero h = refl
    first-are (suc n) h =
        let a = first-are n (omega arith) in
        let b = row_is (suc n) (omega arith) h in
        λ i. a i ++ b i

    pub rows_are : (d before after : List ℕ) → d ≡ directory_of ws → after ≡ rows_up_to (row_at d kinds flags) (length d) ++ drop (length d * 11) before
        → after ≡ entry_rows l ++ drop (directory_count ws * 11) before
    rows_are d before after is p =
        let c : length (directory_of ws) ≡ directory_count ws = ap length (sym (directory-is ws l e)) ∙ count-is ws l e in
        p ∙ ap (λ (x : List ℕ). rows_up_to (row_at x kinds flags) (length x) ++ drop (length x * 11) before) is
        ∙ ap (λ (n : ℕ). rows_up_to (row_at (directory_of ws) kinds flags) n ++ drop (n * 11) before) c
        ∙ ap (λ (r : List ℕ). r ++ drop (directory_count ws * 11) before) (first-are (directory_count ws) (omega arith) ∙ ap (rows_up_to (entry_row l)) (sym (count-is ws l e)))

  -- IN THEIR SPACE
  row-of-long : (n : ℕ) → length (entry_row l n) ≡ 11
  unfolding entry_row
  row-of-long n = length-append (left_justified 9 (entry_name l.directory n)) (entry_kind l n ∷ yank_mark (yanked l 0 n) ∷ []) ∙ omega (arith, left-long (entry_name l.directory n))

  rows_long : length (entry_rows l) ≡ directory_count ws * 11
  rows_long = first-long (entry_row l) row-of-long (length l.directory) ∙ ap (λ (n : ℕ). n * 11) (count-is ws l e)

  module _ (n : ℕ) (is : n ≡ directory_count ws) (rows : List ℕ) where
    pub listed-short : length rows < n * 11 → Answers (listed (length rows) l) (Err Space) rows rows
    listed-short h =
        let lt : length rows < length (entry_rows l) = omega (arith, is, rows_long) in
        rw (lt-leb (length (entry_rows l)) (length rows) lt) (refl, refl)

    pub listed-all : (after : List ℕ) → n * 11 ≤ length rows → after ≡ entry_rows l ++ drop (directory_count ws * 11) rows → Answers (listed (length rows) l) (Ok n) rows after
    listed-all after h p =
        let le : length (entry_rows l) ≤ length rows = omega (arith, is, rows_long) in
        rw (le-leb (length (entry_rows l)) (length rows) le) (ap Ok (is ∙ sym (count-is ws l e)), p ∙ ap (λ (k : ℕ). entry_rows l ++ drop k rows) (sym rows_long))
