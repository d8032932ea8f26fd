-- Every word of a sound library's image has 60 bits.
use Prim.Native.Nat.{ℕ, zero, suc, ◌+◌, ◌-◌, ◌*◌, ◌^◌, ◌≤◌, ◌<◌}
use native.Mathlib.Omega.{arith}
use mathlib.Core.Path.{◌≡◌, sym, subst}
use mathlib.Core.Bool.{Bool, true, false, ◌&&◌, ◌||◌, not}
use mathlib.Core.List.{List, [], ◌∷◌, ◌++◌, map}
use lib.Dec.{T, eqb, eqb→eq, lt→ltb}
use lib.ListN.{length, get_or}
use Rattle.words.specs.Base.{all, is_nil}
use Rattle.words.specs.Base.{is_word}
use Rattle.words.specs.Text.{text_words}
use Rattle.words.specs.Names.{is_name_word}
use Rattle.words.proofs.TestParts.{and_both, all_append}
use Rattle.words.proofs.SixtyBits.{text-is_word, name-is_word}
use Rattle.library.specs.Each.{Each}
use Rattle.library.specs.Library.{Card, Deck, Library, history, name_at, reserved, purged, deck_names}
use Rattle.library.specs.Yanks.{active}
use Rattle.library.specs.Image.{bit, byte_bits, further_words, head_words, card_words, header, counts, tables}
use Rattle.library.specs.Sound.{is_entry, sound_entry, SoundDeck, Sound}
use Rattle.library.proofs.EachTest.{and_parts, each_map, all-each, each_all}
use Rattle.library.proofs.EntryNames.{is-named, name-at}
use Rattle.library.proofs.DealtCards.{Dealt, dealt_words}
use Rattle.library.proofs.FieldsBack.{Raw}
use Rattle.library.proofs.ReadAsWritten.{Fit}
use Rattle.library.proofs.ReadBack.{raw, line, text-few}
use Rattle.library.proofs.RowsBack.{deck-named}

-- A CARD'S WORDS
further-is_word : (bs : List ℕ) → Raw bs → T (all is_word (further_words bs))
further-is_word [] h = tt
further-is_word (a ∷ []) h =
    let x : a < 2 ^ 18 = h.0.1 in
    and_both (is_word (2 ^ 59 + a * 2 ^ 36)) true (lt→ltb (2 ^ 59 + a * 2 ^ 36) (2 ^ 60) (omega arith)) tt
further-is_word (a ∷ b ∷ []) h =
    let x : a < 2 ^ 18 = h.0.1 in
    let y : b < 2 ^ 18 = h.1.0.1 in
    and_both (is_word (2 ^ 59 + a * 2 ^ 36 + b * 2 ^ 18)) true (lt→ltb (2 ^ 59 + a * 2 ^ 36 + b * 2 ^ 18) (2 ^ 60) (omega arith)) tt
further-is_word (a ∷ b ∷ c ∷ r) h =
    and_both (is_word (bit (is_nil r) 59 + a * 2 ^ 36 + b * 2 ^ 18 + c)) (all is_word (further_words r)) (go (is_nil r) h.0.1 h.1.0.1 h.1.1.0.1) (further-is_word r h.1.1.1)
  where
    go : (e : Bool) → a < 2 ^ 18 → b < 2 ^ 18 → c < 2 ^ 18 → T (is_word (bit e 59 + a * 2 ^ 36 + b * 2 ^ 18 + c))
    go true x y z = lt→ltb (2 ^ 59 + a * 2 ^ 36 + b * 2 ^ 18 + c) (2 ^ 60) (omega arith)
    go false x y z = lt→ltb (0 + a * 2 ^ 36 + b * 2 ^ 18 + c) (2 ^ 60) (omega arith)

head-is_word : (act : Bool) (t seq : ℕ) (bs : List ℕ) → t < 2 ^ 18 → seq < 2 ^ 18 → Raw bs → T (all is_word (head_words act t seq bs))
head-is_word act t seq [] lt ls h = tt
head-is_word act t seq (b ∷ bs) lt ls h =
    and_both (is_word (bit (is_nil bs) 59 + bit act 58 + t * 2 ^ 36 + seq * 2 ^ 18 + b)) (all is_word (further_words bs)) (go (is_nil bs) act h.0.1) (further-is_word bs h.1)
  where
    go : (x y : Bool) → b < 2 ^ 18 → T (is_word (bit x 59 + bit y 58 + t * 2 ^ 36 + seq * 2 ^ 18 + b))
    go true true l = lt→ltb (2 ^ 59 + 2 ^ 58 + t * 2 ^ 36 + seq * 2 ^ 18 + b) (2 ^ 60) (omega arith)
    go true false l = lt→ltb (2 ^ 59 + 0 + t * 2 ^ 36 + seq * 2 ^ 18 + b) (2 ^ 60) (omega arith)
    go false true l = lt→ltb (0 + 2 ^ 58 + t * 2 ^ 36 + seq * 2 ^ 18 + b) (2 ^ 60) (omega arith)
    go false false l = lt→ltb (0 + 0 + t * 2 ^ 36 + seq * 2 ^ 18 + b) (2 ^ 60) (omega arith)

module _ (directory : List ℕ) (entries : length directory ≤ 1023) where
  card-is_word : (yk : ℕ → Bool) (c : Card) → Fit directory c → T (all is_word (card_words yk c))
  unfolding card_words
  card-is_word yk c f =
      let t : length (text_words c.line) ≤ 16 = text-few directory entries yk c f in
      let q : c.seq ≤ 262143 = f.sound.fits in
      all_append is_word (head_words (active yk c) (length (text_words c.line)) c.seq (map (byte_bits yk) (history c))) (text_words c.line)
      (head-is_word (active yk c) (length (text_words c.line)) c.seq (map (byte_bits yk) (history c)) (omega arith) (omega arith) (raw directory entries yk c f))
      (text-is_word c.line (line directory entries yk c f).charted)

  pub dealt-is_word : (yk : ℕ → ℕ → Bool) (ps : List Dealt) → Each (λ p. Fit directory p.card) ps → T (all is_word (dealt_words yk ps))
  dealt-is_word yk [] h = tt
  dealt-is_word yk (p ∷ ps) h =
      all_append is_word (card_words (yk p.deck) p.card) (dealt_words yk ps) (card-is_word (yk p.deck) p.card h.0) (dealt-is_word yk ps h.1)

-- THE TABLES
entry-is_word : (w : ℕ) → T (sound_entry w) → T (is_word w)
entry-is_word w t = go (eqb w purged) (eqb→eq w purged) t
  where
    go : (c : Bool) → (T c → w ≡ purged) → T (c || (is_name_word w && not (eqb w reserved))) → T (is_word w)
    go true e u = subst (λ (x : ℕ). T (is_word x)) (sym (e tt)) tt
    go false e u = name-is_word w (and_parts (is_name_word w) (not (eqb w reserved)) u).0

all-at : (p : ℕ → Bool) (xs : List ℕ) (k : ℕ) → k < length xs → T (all p xs) → T (p (get_or xs k 0))
all-at p [] k h t = absurd (omega arith)
all-at p (x ∷ xs) zero h t = (and_parts (p x) (all p xs) t).0
all-at p (x ∷ xs) (suc k) h t = all-at p xs k (omega arith) (and_parts (p x) (all p xs) t).1

-- the entry at a number that names one is sound
pub entry-sound : (directory : List ℕ) (n : ℕ) → T (all sound_entry directory) → T (is_entry directory n) → T (sound_entry (name_at directory n))
entry-sound directory n t at =
    let q = is-named directory n at in
    let a : 0 < n = q.above in
    let b : n ≤ length directory = q.within in
    subst (λ (x : ℕ). T (sound_entry x)) (sym (name-at directory n a)) (all-at sound_entry directory (n - 1) (omega arith) t)

names-is_word : (directory : List ℕ) (ds : List Deck) → T (all sound_entry directory) → Each (SoundDeck directory) ds → T (all is_word (map (λ d. name_at directory d.number) ds))
names-is_word directory [] t h = tt
names-is_word directory (d ∷ ds) t h =
    and_both (is_word (name_at directory d.number)) (all is_word (map (λ e. name_at directory e.number) ds))
    (entry-is_word (name_at directory d.number) (entry-sound directory d.number t (deck-named directory d h.0))) (names-is_word directory ds t h.1)

pub tables-is_word : (l : Library) → Sound l → length l.directory ≤ 1023 → suc (length l.decks) ≤ 255 → T (all is_word (tables l))
unfolding deck_names
tables-is_word l s a b =
    and_both (is_word header) (all is_word (counts l ∷ (l.directory ++ deck_names l))) tt
    (and_both (is_word (counts l)) (all is_word (l.directory ++ deck_names l)) (lt→ltb (counts l) (2 ^ 60) (omega arith))
    (all_append is_word l.directory (deck_names l)
    (each_all is_word l.directory (each_map _ _ entry-is_word l.directory (all-each sound_entry l.directory s.entries)))
    (and_both (is_word reserved) (all is_word (map (λ d. name_at l.directory d.number) l.decks)) tt (names-is_word l.directory l.decks s.entries s.decks))))
