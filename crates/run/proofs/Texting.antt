-- A text line: the card put at the gap is the new card of the definitions at the flat place of the text.
use Rattle.std.specs.Prelude.{if◌then◌else◌, Result, Ok, Err}
use Prim.Native.Nat.{ℕ, zero, suc, ◌+◌, ◌-◌, ◌≤◌, ◌<◌}
use native.Mathlib.Omega.{arith}
use native.Mathlib.Numerals.{add-one}
use mathlib.Core.Path.{◌≡◌, refl, sym, ap, ap₂, ◌∙◌, subst}
use mathlib.Core.Bool.{Bool, true, false, not}
use mathlib.Core.List.{List, [], ◌∷◌, ◌++◌, map, append_assoc}
use lib.Dec.{T}
use lib.ListN.{length, take, drop, length-append}
use lib.Seq.{take-append_seam, drop-append_seam, take_at}
use Rattle.words.specs.Base.{all, member}
use Rattle.words.specs.Display.{in_chart}
use Rattle.words.specs.Text.{trim, text_words}
use Rattle.words_text_compress.specs.Answers.{compressing, compress_into}
use Rattle.words_text_compress.specs.declared.LineRefused.{LineRefused}
use Rattle.words_text_compress.specs.declared.LineRefused.TheVariants.{Outside, Long}
use Rattle.words.proofs.TextTrip.{trimmed-the-same, written-fits}
use Rattle.words_lines.specs.Directive.{directive, line_number}
use Rattle.words_lines.specs.declared.Line.TheVariants.{Text}
use Rattle.words_lines.proofs.AskedLine.{Readable, line-readable}
use Rattle.library.specs.Library.{Card, Deck, Library, deck_cards, stream, name_at, deck_names, reserved}
use Rattle.library.specs.Yanks.{yanked}
use Rattle.library.specs.Image.{cards_words, short_history}
use Rattle.library.proofs.EntryNames.{is-named}
use Rattle.library.proofs.LimitsByCount.{words, words-under, within-small}
use Rattle.run_meaning.specs.Step.{TextPlace, nowhere, in_yanks, in_deck, State, Step, new_card, put_in, change_at, after_text, put_text, obey, step, with_decks}
use Rattle.run_meaning.specs.Safe.{Begun, Open, Safe}
use Rattle.run_meaning.specs.Flat.{ahead, HasPlace, flat_place}
use Rattle.run.specs.CardHeads.{card_of}
use Rattle.run.specs.Work.{Work, PutCard, PutsCard}
use Rattle.run.specs.Desk.{fitted, TextGoes, Tables, Held, Answered}
use Rattle.run.specs.Obeyed.{PutsLine, TextSteps}
use Rattle.run.specs.declared.gap.Gap.{Gap}
use Rattle.run.specs.declared.desk.Desk.{Desk}
use Rattle.run.specs.declared.desk.TextAt.{TextAt}
use Rattle.run.specs.declared.desk.TextAt.TheVariants.{Nowhere as TextNowhere, Yanks as TextYanks, Gap as TextGap}
use Rattle.run_meaning.specs.declared.Why.TheVariants.{Nowhere, Barred}
use Rattle.run_meaning.proofs.SameDecks.{length-change}
use Rattle.run_meaning.proofs.ChangedParts.{numbers-change}
use Rattle.run_meaning.proofs.FlatStream.{text-flat}
use Rattle.run_meaning.proofs.FlatFlags.{flags-decks, unit-free}
use Rattle.run_meaning.proofs.FlatLimits.{put-cards, put-short}
use Rattle.run.proofs.Stepping.{work-words, Counted, limited-answer}

-- A LINE'S WORDS
readable-words : (l : List ℕ) → T (all in_chart l) → length l ≤ 80 → compressing l ≡ Ok (length (text_words l))
unfolding compressing
readable-words l t le = go (all in_chart l) (lib.Dec.ltb 80 (length l)) t (lib.Dec.ltb→lt 80 (length l))
  where
    go : (a b : Bool) → T a → (T b → 80 < length l) → (if not a then Err Outside else if b then Err Long else Ok (length (text_words l))) ≡ Ok (length (text_words l))
    go true true u f = absurd (omega (arith, f tt))
    go true false u f = refl
    go false b u f = absurd u

words-line : (l : List ℕ) (k : ℕ) → compressing l ≡ Ok k → (k ≡ length (text_words l)) × (length l ≤ 80)
unfolding compressing
words-line l k e = go (all in_chart l) (lib.Dec.ltb 80 (length l)) (lib.Dec.nltb→le 80 (length l)) e
  where
    go : (a b : Bool) → (T (not b) → length l ≤ 80) → (if not a then Err Outside else if b then Err Long else Ok (length (text_words l))) ≡ Ok k → (k ≡ length (text_words l)) × (length l ≤ 80)
    go true true f q = let z : ◌≡◌ {A = ℕ} 0 1 = cc in absurd (omega arith)
    go true false f q = (cc, f tt)
    go false b f q = let z : ◌≡◌ {A = ℕ} 0 1 = cc in absurd (omega arith)

pub words-few : (l : List ℕ) (k : ℕ) → compressing l ≡ Ok k → k ≤ 16
words-few l k e = let q = words-line l k e in omega (arith, q.0, written-fits l q.1)

-- the first k words of the space are then the line's
pub words-first : (l space t : List ℕ) (k : ℕ) → compressing l ≡ Ok k → t ≡ compress_into l space → text_words (trim l) ≡ take k t
unfolding compress_into
words-first l space t k e f =
    let q = words-line l k e in
    trimmed-the-same l
    ∙ sym (take_at (text_words l) (drop k space) k (sym q.0))
    ∙ sym (ap (take k) (f ∙ ap (λ (c : Result ℕ LineRefused). elim c [ Ok n ↦ text_words l ++ drop n space | Err r ↦ space ]) e))

-- and it has as many words as before
pub words-space : (l space t : List ℕ) (k : ℕ) → compressing l ≡ Ok k → length space ≡ 16 → t ≡ compress_into l space → length t ≡ 16
unfolding compress_into
words-space l space t k e n f =
    let q = words-line l k e in
    let le : k ≤ 16 = words-few l k e in
    let g : length t ≡ length (text_words l ++ drop k space) = ap length (f ∙ ap (λ (c : Result ℕ LineRefused). elim c [ Ok m ↦ text_words l ++ drop m space | Err r ↦ space ]) e) in
    omega (arith, length-append (text_words l) (drop k space), lib.ListN.length-drop k space, q.0)

pub line-put : (w : List ℕ) (g : Gap) (line space t : List ℕ) (k seq n : ℕ) (v : List ℕ) (h : Gap) → compressing line ≡ Ok k → t ≡ compress_into line space
    → PutsCard w g (take k t) seq n v h → PutsLine w g line seq n v h
line-put w g line space t k seq n v h e f p yk cs1 cs2 a b work off pos first =
    p yk cs1 cs2 (trim line) (words-first line space t k e f) work off pos first

pub line-not : (w : List ℕ) (g : Gap) (line : List ℕ) (c : Result ℕ LineRefused) (seq n : ℕ) (v : List ℕ) (h : Gap) → compressing line ≡ c → ((k : ℕ) → c ≡ Ok k → ⊥) → PutsLine w g line seq n v h
line-not w g line c seq n v h e f yk cs1 cs2 a b work off pos first = absurd (f (length (text_words line)) (sym e ∙ readable-words line a b))

-- THE PLACE OF TEXT
pub place-put : (c : Card) (k i : ℕ) (ds : List Deck) → HasPlace ds k i → HasPlace (change_at (put_in i c) k ds) k (suc i)
place-put c k i [] h = absurd h
place-put c zero i (d ∷ ds) h = omega (arith, put-cards i c d.cards, h)
place-put c (suc k) i (d ∷ ds) h = place-put c k i ds h

pub ahead-change : (f : List Card → List Card) (k : ℕ) (ds : List Deck) → ahead (map deck_cards (change_at f k ds)) k ≡ ahead (map deck_cards ds) k
ahead-change f k [] = refl
ahead-change f zero (d ∷ ds) = refl
ahead-change f (suc k) (d ∷ ds) = ap (λ (n : ℕ). length (deck_cards d) + n) (ahead-change f k ds)

-- the tables of a library do not change with the cards of a deck
pub tables-change : (dir names decks : List ℕ) (d e : Desk) (l : Library) (f : List Card → List Card) (k : ℕ) → e.entries ≡ d.entries → e.decks ≡ d.decks
    → Tables dir names decks d l → Tables dir names decks e (with_decks l (change_at f k l.decks))
unfolding deck_names
tables-change dir names decks d e l f k p q t = record {
  directory = ap (λ (n : ℕ). take n dir) p ∙ t.directory;
  entries = p ∙ t.entries;
  listed = ap (λ (n : ℕ). take (n + 1) names) q ∙ t.listed ∙ sym (ap {B = List ℕ} (λ r. reserved ∷ r) (numbers-change f (name_at l.directory) k l.decks));
  count = q ∙ t.count ∙ sym (length-change f k l.decks);
  marked = λ n. t.marked n ∙ sym (ap (member n) (numbers-change f (λ m. m) k l.decks));
}

pub begun-pos : (l : Library) (next : ℕ) → Begun l next → 0 < length l.directory
begun-pos l next b = (is-named l.directory (length l.directory) b.named).above

-- A TEXT LINE
module _ (w : List ℕ) (d : Desk) (line v dir names decks flags : List ℕ) (s : State) (asks : directive line ≡ Text) (held : Held w dir names decks flags d s) where
  obeyed : (p : TextPlace) → s.place ≡ p → step s line ≡ put_text s line p
  unfolding step
  obeyed p e = ap (obey s line) asks ∙ ap (put_text s line) e

  text-nowhere : d.place ≡ TextNowhere → Answered v dir names decks flags (Err Nowhere) (step s line)
  text-nowhere e = go s.place refl (subst (λ (a : TextAt). TextGoes s.lib (length held.below) a s.place) e held.place)
    where
      go : (p : TextPlace) → s.place ≡ p → TextGoes s.lib (length held.below) TextNowhere p → Answered v dir names decks flags (Err Nowhere) (step s line)
      go nowhere q h = subst (λ (x : Step). Answered v dir names decks flags (Err Nowhere) x) (sym (obeyed nowhere q)) refl
      go in_yanks q h = absurd h
      go (in_deck k i) q h = absurd h

  text-yanks : d.place ≡ TextYanks → Answered v dir names decks flags (Err Barred) (step s line)
  text-yanks e = go s.place refl (subst (λ (a : TextAt). TextGoes s.lib (length held.below) a s.place) e held.place)
    where
      go : (p : TextPlace) → s.place ≡ p → TextGoes s.lib (length held.below) TextYanks p → Answered v dir names decks flags (Err Barred) (step s line)
      go nowhere q h = absurd h
      go in_yanks q h = subst (λ (x : Step). Answered v dir names decks flags (Err Barred) x) (sym (obeyed in_yanks q)) refl
      go (in_deck k i) q h = absurd h

-- the state after it
abbrev pub text_desk_at : Desk → Gap → ℕ → Desk
text_desk_at d h next =
    record { gap = h; low = d.low + 1; entries = d.entries; decks = d.decks; cards = d.cards + 1; yanks = d.yanks; lead = d.lead; set = d.set; next = next; place = TextGap }

abbrev pub text_desk : Desk → Gap → Desk
text_desk d h = text_desk_at d h (d.next + 1)

module _ (w : List ℕ) (d : Desk) (line v : List ℕ) (h : Gap) (room : length w ≡ 65536) (same : length v ≡ 65536) (high : h.hi ≤ length w) (puts : PutsLine w d.gap line d.next d.entries v h)
    (dir names decks flags : List ℕ) (s : State) (asks : directive line ≡ Text) (held : Held w dir names decks flags d s)
    (k i : ℕ) (at : s.place ≡ in_deck k i) (has : HasPlace s.lib.decks k i) (here : length held.below ≡ flat_place s.lib k i) where
  abbrev l : Library
  l = s.lib

  abbrev c : Card
  c = new_card s line

  abbrev t : State
  t = after_text s line k i

  abbrev yk : ℕ → Bool
  yk = yanked l 0

  begun : Begun l s.next
  begun = (subst (Open l s.next) at held.safe.place).1

  putted : PutCard w yk held.below held.above c v h
  putted =
      let r : Readable line = line-readable line (ap line_number asks) in
      let n : d.entries ≡ length l.directory = held.tables.entries in
      let q : d.next ≡ s.next = held.next in
      subst (λ (x : Card). PutCard w yk held.below held.above x v h) (ap₂ (card_of (trim line)) q n)
      (puts yk held.below held.above r.0 r.1 held.work (ap yk n ∙ unit-free l held.safe.sound)
      (omega (arith, n, begun-pos l s.next begun)) (omega (arith, q, begun.first)))

  streamed : stream t.lib ≡ (held.below ++ (c ∷ [])) ++ held.above
  streamed =
      text-flat l c k i has
      ∙ ap₂ (λ (n : ℕ) (cs : List Card). put_in n c cs) (sym here) (sym held.whole)
      ∙ ap₂ (λ (a b : List Card). a ++ (c ∷ b)) (take-append_seam held.below held.above) (drop-append_seam held.below held.above)
      ∙ sym (append_assoc held.below (c ∷ []) held.above)

  total : words t.lib ≡ length (cards_words yk ((held.below ++ (c ∷ [])) ++ held.above))
  total = sym (words-under yk t.lib) ∙ ap (λ (cs : List Card). length (cards_words yk cs)) streamed

  counted : Counted v (text_desk d h) t.lib
  counted = record {
    entries = held.tables.entries;
    decks = held.tables.count ∙ sym (length-change (put_in i c) k l.decks);
    cards = add-one d.cards ∙ ap suc held.cards ∙ sym (ap length (text-flat l c k i has) ∙ put-cards (flat_place l k i) c (stream l));
    short = subst (λ (b : Bool). T b) (sym (ap (all short_history) (text-flat l c k i has) ∙ put-short (flat_place l k i) c (stream l) tt)) (within-small l held.safe.sound.limits).short;
    room = same;
    fits = λ le. total ∙ work-words v h yk (held.below ++ (c ∷ [])) held.above (putted.work le) (le, omega (arith, high, same, room)) ∙ ap (λ (n : ℕ). h.lo + (n - h.hi)) same;
    crowded = λ lt.
        let x = putted.crowded lt in
        let e : length (cards_words yk ((held.below ++ (c ∷ [])) ++ held.above)) ≡ length (cards_words yk (held.below ++ (c ∷ [])) ++ cards_words yk held.above) = ap length (Rattle.library.proofs.LimitsByCount.cards-append yk (held.below ++ (c ∷ [])) held.above) in
        omega (arith, x, total, room, length-append (cards_words yk (held.below ++ (c ∷ []))) (cards_words yk held.above));
  }

  after : h.lo ≤ h.hi → Safe t → Held v dir names decks flags (text_desk d h) t
  after le safe = record {
    below = held.below ++ (c ∷ []);
    above = held.above;
    work = subst (λ (f : ℕ → ℕ → Bool). Work v h (f 0) (held.below ++ (c ∷ [])) held.above) (sym (flags-decks l (change_at (put_in i c) k l.decks))) (putted.work le);
    whole = sym streamed;
    low = omega (arith, held.low, length-append held.below (c ∷ []));
    cards = counted.cards;
    tables = tables-change dir names decks d (text_desk d h) l (put_in i c) k refl refl held.tables;
    yanks = held.yanks;
    leads = held.leads ∙ ap (λ (f : ℕ → ℕ → Bool). length (cards_words (f 0) l.yanks)) (sym (flags-decks l (change_at (put_in i c) k l.decks)));
    settled = λ n. held.settled n ∙ ap (λ (f : ℕ → ℕ → Bool). f 0 n) (sym (flags-decks l (change_at (put_in i c) k l.decks)));
    set = held.set;
    next = add-one d.next ∙ ap suc held.next;
    place = (place-put c k i l.decks has, omega (arith, length-append held.below (c ∷ []), here, ahead-change (put_in i c) k l.decks));
    safe = safe;
  }

  text-put : Answered v dir names decks flags (fitted (text_desk d h)) (step s line)
  text-put = limited-answer v dir names decks flags (text_desk d h) t counted s line (obeyed w d line v dir names decks flags s asks held (in_deck k i) at) held.safe after

pub text-off : (w : List ℕ) (d : Desk) (line v : List ℕ) → d.place ≡ TextNowhere → TextSteps w d line v (Err Nowhere)
text-off w d line v e dir names decks flags s asks held = text-nowhere w d line v dir names decks flags s asks held e

pub text-barred : (w : List ℕ) (d : Desk) (line v : List ℕ) → d.place ≡ TextYanks → TextSteps w d line v (Err Barred)
text-barred w d line v e dir names decks flags s asks held = text-yanks w d line v dir names decks flags s asks held e

pub text-on : (w : List ℕ) (d : Desk) (line v : List ℕ) (h : Gap) → length w ≡ 65536 → length v ≡ 65536 → h.hi ≤ length w → PutsLine w d.gap line d.next d.entries v h
    → d.place ≡ TextGap → TextSteps w d line v (fitted (text_desk d h))
text-on w d line v h room same high puts e dir names decks flags s asks held =
    go s.place refl (subst (λ (a : TextAt). TextGoes s.lib (length held.below) a s.place) e held.place)
  where
    go : (p : TextPlace) → s.place ≡ p → TextGoes s.lib (length held.below) TextGap p → Answered v dir names decks flags (fitted (text_desk d h)) (step s line)
    go nowhere q x = absurd x
    go in_yanks q x = absurd x
    go (in_deck k i) q x = text-put w d line v h room same high puts dir names decks flags s asks held k i q x.0 x.1
