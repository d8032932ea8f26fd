-- What stands in the words of a sound library is what its view shows. Assumes nothing.
--   a card       shown-is
--   its cards    cards-shown
--   its decks    decks-at
--   the image    image-table, view-plain, image-answers
--   the check    compile-sound, compile-refused
use Rattle.std.specs.Prelude.{if◌then◌else◌, Result, Ok, Err}
use Prim.Native.Nat.{ℕ, zero, suc, ◌+◌, ◌-◌, ◌*◌, ◌%◌, ◌^◌, ◌≤◌, ◌<◌}
use native.Mathlib.Omega.{arith}
use mathlib.Core.Path.{◌≡◌, refl, sym, ap, ◌∙◌, subst}
use mathlib.Core.Bool.{Bool, true, false, ◌&&◌, ◌||◌, not}
use mathlib.Core.List.{List, [], ◌∷◌, ◌++◌, append_assoc}
use lib.Dec.{T, eqb}
use lib.ListN.{length, get_or, drop, length-append, length-drop, get_or-append}
use Rattle.words.specs.Names.{is_name_word}
use Rattle.library.specs.Each.{Each}
use Rattle.library.specs.Library.{Card, Deck, Library, history, deck_card, name_at, deck_names, purged, reserved}
use Rattle.library.specs.Yanks.{active, yanked}
use Rattle.library.specs.Image.{card_words, cards_words, decks_words, tables, encode}
use Rattle.library.specs.Check.{cards_place, Checking, good, bad, check, checked}
use Rattle.library.specs.Sound.{is_entry, SoundCard, SoundDeck, Sound}
use Rattle.library.proofs.EachTest.{all-each}
use Rattle.library.proofs.EntryNames.{is-named}
use Rattle.library.proofs.WordsFit.{entry-sound}
use Rattle.library.proofs.CheckEncode.{check-encode}
use Rattle.library.proofs.CheckSound.{check_sound}
use Rattle.library_image.specs.Places.{next_at, seen_at}
use Rattle.library_image.proofs.SeenCard.{inside, next-is, after, some_words, owner-is, seq-is, active-is, line-is}
use Rattle.library_image_decks.specs.Decks.{title_of, is_title, title_for, deck_end, row_of, rows_in, table_of}
use Rattle.library_image_decks.proofs.DeckTitles.{title_at, titled, title-is}
use Rattle.library_image_decks.proofs.DeckRows.{rows-here, rows_end, rows-skip, tables-all}
use Rattle.library_image_decks.proofs.CardsEnd.{stands-first, cards-end, cards-after}
use Rattle.library_image_decks.proofs.DeckPlaces.{decks-begin, few, encoded, place_is, whole, decks-stand, yanks-end}
use Rattle.compile_walk.specs.View.{DeckView, shown_card, shown, view_decks, view}
use Rattle.compile_walk.specs.TableView.{shown_of, cons_if, shown_in, table_view}
use Rattle.library.specs.declared.Refusal.{Refusal}
use Rattle.compile_walk.specs.declared.Counts.{Counts}
use Rattle.compile.specs.Compile.{Compiling, of_walk, compile_view, compile_checked, compiling}
use Rattle.compile.specs.Answer.{Printable, Plain, CompileAnswers, Compiles, CompilesImage}
use Rattle.compile.specs.declared.CompileRefused.{CompileRefused}
use Rattle.compile.specs.declared.CompileRefused.TheVariants.{Library as OfLibrary}
use Rattle.compile_walk.proofs.ActiveCards.{shown-more, shown-past}

-- A CARD: its words stand at a place, and the names in the directory
module _ (directory ws : List ℕ) (entries : length directory ≤ 1023)
    (names : (n : ℕ) → 0 < n → n ≤ length directory → get_or ws (n + 1) 0 ≡ name_at directory n) where
  module _ (yk : ℕ → Bool) (c : Card) (sound : SoundCard directory c) (at : ℕ) (rest : List ℕ) (stands : drop at ws ≡ card_words yk c ++ rest) where
    pub shown-is : shown_of ws (seen_at ws at) ≡ shown_card directory c
    unfolding shown_of
    shown-is =
        let q = is-named directory c.owner (all-each (λ x. is_entry directory x.number) (history c) sound.named).0 in
        let owner : get_or ws at 0 % 2 ^ 16 ≡ c.owner = owner-is directory ws entries yk c sound at rest stands in
        let name : get_or ws (get_or ws at 0 % 2 ^ 16 + 1) 0 ≡ name_at directory c.owner = ap (λ (n : ℕ). get_or ws (n + 1) 0) owner ∙ names c.owner q.above q.within in
        λ i. record {
          line = line-is directory ws entries yk c sound at rest stands i;
          owner = owner i;
          name = name i;
          seq = seq-is directory ws entries yk c sound at rest stands i;
        }

  -- CARDS up to where they end
  module _ (yk : ℕ → Bool) (rest : List ℕ) where
    pub cards-shown : (cs : List Card) → Each (SoundCard directory) cs → (at end : ℕ) → drop at ws ≡ cards_words yk cs ++ rest → end ≡ at + length (cards_words yk cs)
        → shown_in ws at end ≡ shown yk directory cs
    cards-shown [] h at end e q = shown-past ws at end (omega arith)
    cards-shown (c ∷ cs) h at end e q =
        let f = stands-first ws yk rest c cs at e in
        let r : List ℕ = cards_words yk cs ++ rest in
        let i : at < length ws = inside directory ws entries yk c h.0 at r f in
        let n : next_at ws at ≡ at + length (card_words yk c) = next-is directory ws entries yk c h.0 at r f in
        let k : length (card_words yk c ++ cards_words yk cs) ≡ length (card_words yk c) + length (cards_words yk cs) = length-append (card_words yk c) (cards_words yk cs) in
        let on : shown_in ws (next_at ws at) end ≡ shown yk directory cs = cards-shown cs h.1 (next_at ws at) end (after directory ws entries yk c h.0 at r f) (omega arith) in
        shown-more ws at end i (omega (arith, some_words directory ws entries yk c h.0 at r f))
        ∙ (λ j. cons_if (active-is directory ws entries yk c h.0 at r f j) (shown-is yk c h.0 at r f j) (on j)) ∙ go (active yk c)
      where
        go : (b : Bool) → cons_if b (shown_card directory c) (shown yk directory cs) ≡ (if b then (shown_card directory c ∷ shown yk directory cs) else shown yk directory cs)
        go true = refl
        go false = refl

  -- DECKS up to the image's end
  record Decks (yk : ℕ → ℕ → Bool) (ds : List Deck) (at : ℕ) : Type 0 where
    rows : table_view ws (rows_in ws at) ≡ view_decks yk directory ds
    count : length (rows_in ws at) ≡ length ds * 4

  title-row : (common : Bool) (w f t : ℕ) (rows : List ℕ)
      → table_view ws (row_of (title_for common w) f t ++ rows) ≡ record { name = w; common = common; lines = shown_in ws f t } ∷ table_view ws rows
  unfolding table_view
  title-row false w f t rows = refl
  title-row true w f t rows = refl

  decks-at : (yk : ℕ → ℕ → Bool) (ds : List Deck) → Each (SoundDeck directory) ds → (at : ℕ) → at ≤ length ws → drop at ws ≡ decks_words yk ds → Decks yk ds at
  unfolding table_view
  decks-at yk [] h at l e =
      let z : length (drop at ws) ≡ 0 = ap length e in
      let s : length ws ≤ at = omega (arith, length-drop at ws) in
      record {
        rows = ap (table_view ws) (rows_end ws at s);
        count = ap length (rows_end ws at s);
      }
  decks-at yk (d ∷ ds) h at l e =
      let y : (ℕ → Bool) = yk d.number in
      let more : List ℕ = decks_words yk ds in
      let c : Card = deck_card d in
      let s : SoundDeck directory d = h.0 in
      let f : drop at ws ≡ card_words y c ++ (cards_words y d.cards ++ more) = e ∙ append_assoc (card_words y c) (cards_words y d.cards) more in
      let r : List ℕ = cards_words y d.cards ++ more in
      let i : at < length ws = inside directory ws entries y c s.first at r f in
      let next : ℕ = next_at ws at in
      let g : drop next ws ≡ r = after directory ws entries y c s.first at r f in
      let end : ℕ = next + length (cards_words y d.cards) in
      let past : drop end ws ≡ more = cards-after ws y more d.cards next end g refl in
      let n : next ≡ at + length (card_words y c) = next-is directory ws entries y c s.first at r f in
      let len : length ws - at ≡ length (card_words y c) + (length (cards_words y d.cards) + length more) =
      sym (length-drop at ws) ∙ ap length f ∙ length-append (card_words y c) r ∙ ap (λ (k : ℕ). length (card_words y c) + k) (length-append (cards_words y d.cards) more) in
      let on : Decks yk ds end = decks-at yk ds h.1 end (omega arith) past in
      let t : title_at ws at ≡ title_for d.common (name_at directory d.number) = title-is directory ws entries y c s.first at r f ∙ ap title_of s.title in
      let is : is_title (title_at ws at) ≡ true = ap is_title t ∙ titled d.common (name_at directory d.number) in
      let stop : deck_end ws next ≡ end = cards-end ws y more directory entries d.cards s.cards s.others next end g refl (decks-begin directory ws entries yk ds h.1 end (omega arith) past) in
      let rest : rows_in ws next ≡ rows_in ws end = rows-skip ws next ∙ ap (rows_in ws) stop in
      let row : rows_in ws at ≡ row_of (title_for d.common (name_at directory d.number)) next end ++ rows_in ws end =
      rows-here ws at i is ∙ (λ j. row_of (t j) next (stop j) ++ rest j) in
      let lines : shown_in ws next end ≡ shown y directory d.cards = cards-shown y more d.cards s.cards next end g refl in
      let tail : table_view ws (rows_in ws end) ≡ view_decks yk directory ds = on.rows in
      record {
        rows =
            ap (table_view ws) row ∙ title-row d.common (name_at directory d.number) next end (rows_in ws end)
            ∙ (λ j. record { name = name_at directory d.number; common = d.common; lines = lines j } ∷ tail j);
        count = ap length row ∙ length-append (row_of (title_for d.common (name_at directory d.number)) next end) (rows_in ws end) ∙ omega (arith, on.count);
      }

-- THE IMAGE
pub record Image (ws : List ℕ) (l : Library) : Type 0 where
  pub place : cards_place ws ≤ length ws
  pub count : length (rows_in ws (cards_place ws)) ≤ 1024
  pub is : table_view ws (rows_in ws (cards_place ws)) ≡ view l

module _ (l : Library) (s : Sound l) where
  abbrev yk : ℕ → ℕ → Bool
  yk = yanked l

  abbrev body : List ℕ
  body = cards_words (yk 0) l.yanks ++ decks_words yk l.decks

  names_at : (n : ℕ) → 0 < n → n ≤ length l.directory → get_or (encode l) (n + 1) 0 ≡ name_at l.directory n
  names_at zero h k = absurd (omega arith)
  names_at (suc n) h k =
      let i : suc n + 1 ≡ suc (suc n) = omega arith in
      ap (λ (m : ℕ). get_or (encode l) m 0) i ∙ ap (λ (ws : List ℕ). get_or ws (suc (suc n)) 0) (encoded l s)
      ∙ ap (λ (r : List ℕ). get_or r n 0) (append_assoc l.directory (deck_names l) body)
      ∙ get_or-append l.directory (deck_names l ++ body) 0 n (omega arith)

  image-of : Image (encode l) l
  unfolding view
  image-of =
      let ws : List ℕ = encode l in
      let at : ℕ = length (tables l) in
      let end : ℕ = at + length (cards_words (yk 0) l.yanks) in
      let ds = decks-at l.directory ws (few l s).0 names_at yk l.decks s.decks end (omega (arith, whole l s)) (decks-stand l s) in
      let rows : rows_in ws (cards_place ws) ≡ rows_in ws end = ap (rows_in ws) (place_is l s) ∙ rows-skip ws at ∙ ap (rows_in ws) (yanks-end l s) in
      record {
        place = omega (arith, place_is l s, whole l s);
        count = omega (arith, ap length rows, ds.count, few l s);
        is = ap (table_view ws) rows ∙ ds.rows;
      }

  -- every card that is shown has an owner with a name
  card-named : (c : Card) → SoundCard l.directory c → Printable (shown_card l.directory c)
  card-named c h =
      let t : T (is_entry l.directory c.owner) = (all-each (λ x. is_entry l.directory x.number) (history c) h.named).0 in
      let q = is-named l.directory c.owner t in
      (go (eqb (name_at l.directory c.owner) purged) (is_name_word (name_at l.directory c.owner)) q.named (entry-sound l.directory c.owner s.entries t), omega (arith, h.fits))
    where
      go : (p n : Bool) → T (not p) → T (p || (n && not (eqb (name_at l.directory c.owner) reserved))) → n ≡ true
      go true n x y = absurd x
      go false true x y = refl
      go false false x y = absurd y

  cards-named : (f : ℕ → Bool) (cs : List Card) → Each (SoundCard l.directory) cs → Each Printable (shown f l.directory cs)
  cards-named f [] h = tt
  cards-named f (c ∷ cs) h = go (active f c) (card-named c h.0) (cards-named f cs h.1)
    where
      go : (b : Bool) → Printable (shown_card l.directory c) → Each Printable (shown f l.directory cs)
          → Each Printable (if b then (shown_card l.directory c ∷ shown f l.directory cs) else shown f l.directory cs)
      go true x y = (x, y)
      go false x y = y

  decks-named : (ds : List Deck) → Each (SoundDeck l.directory) ds → Plain (view_decks yk l.directory ds)
  decks-named [] h = tt
  decks-named (d ∷ ds) h = (cards-named (yk d.number) d.cards h.0.cards, decks-named ds h.1)

  view-named : Plain (view l)
  unfolding view
  view-named = decks-named l.decks s.decks

-- an image that is accepted
module _ (ws : List ℕ) (l : Library) (e : check ws ≡ good l) where
  pub image-table : Image ws l
  image-table = subst (λ (x : List ℕ). Image x l) (check-encode ws l e) (image-of l (check_sound ws l e))

  pub view-plain : Plain (view l)
  view-plain = view-named l (check_sound ws l e)

  -- what a table of it answers, it answers
  pub image-answers : (table : List ℕ) (r : Result Counts CompileRefused) (before after : List ℕ) → table ≡ table_of ws → Compiles (table_view ws table) (table_view ws table) r before after → CompileAnswers (of_walk (compile_view (length before) (view l))) r before after
  image-answers table r before after t c =
      let i = image-table in
      let v : table_view ws table ≡ view l = ap (table_view ws) (t ∙ tables-all ws i.place i.count) ∙ i.is in
      subst (λ (ds : List DeckView). Compiles ds ds r before after) v c view-plain view-plain

-- BOTH ANSWERS OF THE CHECK
module _ (ws before : List ℕ) where
  abbrev by : Checking → Compiling
  by c = compile_checked (length before) c

  pub compile-sound : (r : Result Counts CompileRefused) (after : List ℕ) → Ok tt ≡ checked (check ws) → CompilesImage ws r before after → CompileAnswers (compiling ws (length before)) r before after
  unfolding compiling
  compile-sound r after q h = go (check ws) refl q
    where
      go : (c : Checking) → check ws ≡ c → Ok tt ≡ checked c → CompileAnswers (by (check ws)) r before after
      go (good l) p s = subst (λ (c : Checking). CompileAnswers (by c) r before after) (sym p) (h l p)
      go (bad f n) p s = absurd (let z : ◌≡◌ {A = ℕ} 0 1 = cc in omega arith)

  pub compile-refused : (k : Refusal) → Err k ≡ checked (check ws) → CompileAnswers (compiling ws (length before)) (Err (OfLibrary k)) before before
  unfolding compiling
  compile-refused k q = go (check ws) refl q
    where
      from : Result (Unit {0}) Refusal → Result Counts CompileRefused
      from (Ok u) = Err (OfLibrary k)
      from (Err j) = Err (OfLibrary j)

      go : (c : Checking) → check ws ≡ c → Err k ≡ checked c → CompileAnswers (by (check ws)) (Err (OfLibrary k)) before before
      go (good l) p s = absurd (let z : ◌≡◌ {A = ℕ} 0 1 = cc in omega arith)
      go (bad g m) p s = subst (λ (c : Checking). CompileAnswers (by c) (Err (OfLibrary k)) before before) (sym p) (ap from s, refl)
