-- A deck unit begins: its deck card stands at the stream's end, its name at the end of both tables.
use Rattle.std.specs.Prelude.{Err}
use Prim.Native.Nat.{ℕ, suc, ◌+◌, ◌-◌, ◌≤◌, ◌<◌}
use native.Mathlib.Omega.{arith}
use native.Mathlib.Numerals.{add-one}
use mathlib.Core.Path.{◌≡◌, refl, sym, ap, ap₂, ◌∙◌, subst}
use mathlib.Core.Bool.{Bool, true, false, ◌||◌, not}
use mathlib.Core.List.{List, [], ◌∷◌, ◌++◌, map, append-nil}
use lib.Dec.{T, eqb, eqb→eq}
use lib.ListN.{length, get_or, take, drop, set, length-append, length-drop, drop_of_length-le}
use lib.Seq.{take-suc-set, take_all, get_or-set_same, get_or-set_other}
use Rattle.words.specs.Base.{all, member}
use Rattle.words.specs.Text.{trim}
use Rattle.words.proofs.TestParts.{all_append, or-false, or-true}
use Rattle.words_lines.specs.Directive.{directive, line_number}
use Rattle.words_lines.proofs.AskedLine.{Readable, line-readable}
use Rattle.library.specs.Library.{Card, Deck, Library, deck_card, deck_cards, joined, stream, name_at, deck_names, reserved}
use Rattle.library.specs.Yanks.{yanked}
use Rattle.library.specs.Image.{cards_words, short_history}
use Rattle.library.specs.Sound.{Sound}
use Rattle.library.proofs.AppendedLists.{any_append, map-append}
use Rattle.library.proofs.NameAtEnd.{deck-names-append, name-end}
use Rattle.library.proofs.LimitsByCount.{words, words-under, within-small, cards-append}
use Rattle.run_meaning.specs.Step.{State, Step, refuse, limited, is_known, new_deck, with_decks, with_entry, after_deck, obey, step}
use Rattle.run_meaning.specs.Safe.{Safe}
use Rattle.run_meaning.specs.Flat.{ahead, HasPlace, deck_numbers}
use Rattle.run.specs.GapWords.{Ordered}
use Rattle.run.specs.CardHeads.{card_of}
use Rattle.library_yanks_bits.specs.SettledBits.{flagged}
use Rattle.run.specs.Work.{Work, Stands, OpensAhead, PutCard}
use Rattle.run.specs.Desk.{fitted, Sane, Tables, Held, Answered}
use Rattle.run.specs.Obeyed.{PutsLine, asks_deck, DeckSteps}
use Rattle.run.specs.YankNames.{unknown_in}
use Rattle.run.specs.declared.gap.Gap.{Gap}
use Rattle.run.specs.declared.desk.Desk.{Desk}
use Rattle.run.specs.declared.desk.TextAt.TheVariants.{Gap as TextGap}
use Rattle.run_meaning.specs.declared.Why.TheVariants.{Known}
use Rattle.run_meaning.proofs.FlatFind.{eqb_yes}
use Rattle.run_meaning.proofs.FlatStream.{deck-flat}
use Rattle.run_meaning.proofs.FlatFlags.{flags-entry, above-free}
use Rattle.run.proofs.Stepping.{work-words, Counted, limited-answer}
use Rattle.run.proofs.Starting.{known_is}

-- THE END OF THE STREAM
-- the index past the last card stands at the array's end
pub end-stands : (w : List ℕ) (g : Gap) (yk : ℕ → Bool) (cs1 cs2 : List Card) → Ordered w g → Work w g yk cs1 cs2 → Stands g yk cs1 cs2 (length (cs1 ++ cs2)) (length w)
end-stands w g yk cs1 cs2 o k = record {
  below = λ lt. absurd (omega (arith, lt, length-append cs1 cs2));
  above = λ le.
      let n : length cs2 ≤ length (cs1 ++ cs2) - length cs1 = omega (arith, length-append cs1 cs2) in
      let e : length (cards_words yk (take (length (cs1 ++ cs2) - length cs1) cs2)) ≡ length (drop g.hi w) =
      ap (λ (cs : List Card). length (cards_words yk cs)) (take_all (length (cs1 ++ cs2) - length cs1) cs2 n) ∙ sym (ap length k.parted.over) in
      omega (arith, e, length-drop g.hi w, o.1);
}

-- all cards below the gap
pub end-work : (w : List ℕ) (g : Gap) (v : List ℕ) (h : Gap) (yk : ℕ → Bool) (cs1 cs2 : List Card) → Ordered w g → OpensAhead w g (length w) v h → Work w g yk cs1 cs2 → Work v h yk (cs1 ++ cs2) []
end-work w g v h yk cs1 cs2 o opens k =
    let n : ℕ = length (cs1 ++ cs2) in
    let le : n ≤ n = omega arith in
    subst (λ (cs : List Card). Work v h yk cs []) (take_all n (cs1 ++ cs2) le)
    (subst (λ (cs : List Card). Work v h yk (take n (cs1 ++ cs2)) cs) (drop_of_length-le (cs1 ++ cs2) le)
    (opens yk cs1 cs2 n k (end-stands w g yk cs1 cs2 o k) le))

-- THE PLACE OF TEXT in the new deck
place_end : (d : Deck) (ds : List Deck) → HasPlace (ds ++ (d ∷ [])) (length ds) 0
place_end d [] = omega arith
place_end d (x ∷ ds) = place_end d ds

ahead-end : (d : Deck) (ds : List Deck) → ahead (map deck_cards (ds ++ (d ∷ []))) (length ds) ≡ length (joined (map deck_cards ds))
ahead-end d [] = refl
ahead-end d (x ∷ ds) = ap (λ (n : ℕ). length (deck_cards x) + n) (ahead-end d ds) ∙ sym (length-append (deck_cards x) (joined (map deck_cards ds)))

-- THE TABLES
names-end : (l : Library) (d : Deck) (w : ℕ) → Sound l → d.number ≡ suc (length l.directory) → deck_names (with_entry (with_decks l (l.decks ++ (d ∷ []))) w) ≡ deck_names l ++ (w ∷ [])
unfolding deck_names
names-end l d w s e =
    ap {B = List ℕ} (λ x. reserved ∷ x)
    (map-append (λ x. name_at (l.directory ++ (w ∷ [])) x.number) l.decks (d ∷ [])
    ∙ ap₂ (λ (a : List ℕ) (b : ℕ). a ++ (b ∷ [])) (deck-names-append l.directory (w ∷ []) l.decks s.decks) (ap (name_at (l.directory ++ (w ∷ []))) e ∙ name-end l.directory w))

flag-end : (decks : List ℕ) (n : ℕ) (ns : List ℕ) → n < length decks → ((m : ℕ) → flagged decks m ≡ member m ns) → (m : ℕ) → flagged (set decks n 1) m ≡ member m (ns ++ (n ∷ []))
unfolding flagged
flag-end decks n ns lt h m = go (eqb m n) (eqb→eq m n) (λ e. eqb_yes m n e) ∙ sym (any_append (eqb m) ns (n ∷ []))
  where
    go : (b : Bool) → (T b → m ≡ n) → (m ≡ n → b ≡ true) → not (eqb (get_or (set decks n 1) m 0) 0) ≡ (member m ns || (b || false))
    go true f g =
        ap (λ (k : ℕ). not (eqb (get_or (set decks n 1) k 0) 0)) (f tt)
        ∙ ap (λ (k : ℕ). not (eqb k 0)) (get_or-set_same decks n 1 0 lt)
        ∙ sym (or-true (member m ns))
    go false f g =
        ap (λ (k : ℕ). not (eqb k 0)) (get_or-set_other decks n m 1 0 (λ e. let z : ◌≡◌ {A = Bool} false true = g e in subst (λ (x : Bool). T (not x)) z tt))
        ∙ h m ∙ sym (or-false (member m ns))

-- 25
deck-obeyed : (s : State) (line : List ℕ) (common : Bool) (word : ℕ) (b : Bool) → directive line ≡ asks_deck common word → is_known s.lib word ≡ b
    → step s line ≡ refuse b Known (limited (after_deck s common line word))
unfolding step
deck-obeyed s line true word b asks e = ap (obey s line) asks ∙ ap (λ (x : Bool). refuse x Known (limited (after_deck s true line word))) e
deck-obeyed s line false word b asks e = ap (obey s line) asks ∙ ap (λ (x : Bool). refuse x Known (limited (after_deck s false line word))) e

deck-readable : (line : List ℕ) (common : Bool) (word : ℕ) → directive line ≡ asks_deck common word → Readable line
deck-readable line true word e = line-readable line (ap line_number e)
deck-readable line false word e = line-readable line (ap line_number e)

-- DECK, COMDECK
abbrev pub deck_desk : Desk → Gap → Desk
deck_desk d h =
    record { gap = h; low = d.cards + 1; entries = d.entries + 1; decks = d.decks + 1; cards = d.cards + 1; yanks = d.yanks; lead = d.lead; set = false; next = 2; place = TextGap }

module _ (w dir names decks : List ℕ) (d : Desk) (word : ℕ) (line mid : List ℕ) (g : Gap) (v : List ℕ) (h : Gap) (sane : Sane w d)
    (long : 1023 < length dir) (wide : 255 < length names) (flat : 1024 < length decks) (unknown : unknown_in (take d.entries dir) word ≡ true)
    (opens : OpensAhead w d.gap (length w) mid g) (half : length mid ≡ length w) (same : length v ≡ 65536) (high : h.hi ≤ length mid) (puts : PutsLine mid g line 1 (d.entries + 1) v h)
    (common : Bool) (flags : List ℕ) (s : State) (asks : directive line ≡ asks_deck common word) (held : Held w dir names decks flags d s) where
  abbrev l : Library
  l = s.lib

  abbrev t : State
  t = after_deck s common line word

  abbrev yk : ℕ → Bool
  yk = yanked l 0

  abbrev c : Card
  c = deck_card (new_deck l common line)

  abbrev cs : List Card
  cs = held.below ++ held.above

  number : d.entries + 1 ≡ suc (length l.directory)
  number = add-one d.entries ∙ ap suc held.tables.entries

  putted : PutCard mid yk cs [] c v h
  putted =
      let r : Readable line = deck-readable line common word asks in
      subst (λ (x : Card). PutCard mid yk cs [] x v h) (ap (card_of (trim line) 1) number)
      (puts yk cs [] r.0 r.1 (end-work w d.gap mid g yk held.below held.above sane.ordered opens held.work)
      (above-free l held.safe.sound (d.entries + 1) (omega (arith, number))) (omega arith) (omega arith))

  streamed : stream t.lib ≡ (cs ++ (c ∷ [])) ++ []
  streamed = deck-flat l (new_deck l common line) word refl ∙ ap (λ (x : List Card). x ++ (c ∷ [])) (sym held.whole) ∙ sym (append-nil (cs ++ (c ∷ [])))

  total : words t.lib ≡ length (cards_words yk ((cs ++ (c ∷ [])) ++ []))
  total = sym (words-under yk t.lib) ∙ ap (λ (x : List Card). length (cards_words yk x)) streamed

  counted : Counted v (deck_desk d h) t.lib
  counted = record {
    entries = let e : d.entries ≡ length l.directory = held.tables.entries in omega (arith, length-append l.directory (word ∷ []));
    decks = let e : d.decks ≡ length l.decks = held.tables.count in omega (arith, length-append l.decks (new_deck l common line ∷ []));
    cards =
        let e : length (stream t.lib) ≡ length (stream l ++ (c ∷ [])) = ap length (deck-flat l (new_deck l common line) word refl) in
        let f : d.cards ≡ length (stream l) = held.cards in omega (arith, length-append (stream l) (c ∷ []));
    short = subst (λ (x : List Card). T (all short_history x)) (sym (deck-flat l (new_deck l common line) word refl))
        (all_append short_history (stream l) (c ∷ []) (within-small l held.safe.sound.limits).short tt);
    room = same;
    fits = λ le. total ∙ work-words v h yk (cs ++ (c ∷ [])) [] (putted.work le) (le, omega (arith, high, same, half, sane.room)) ∙ ap (λ (n : ℕ). h.lo + (n - h.hi)) same;
    crowded = λ lt.
        let x = putted.crowded lt in
        let e : length (cards_words yk ((cs ++ (c ∷ [])) ++ [])) ≡ length (cards_words yk (cs ++ (c ∷ [])) ++ []) = ap length (cards-append yk (cs ++ (c ∷ [])) []) in
        omega (arith, x, total, half, sane.room, length-append (cards_words yk (cs ++ (c ∷ []))) []);
  }

  new : Tables (set dir d.entries word) (set names (d.decks + 1) word) (set decks (d.entries + 1) 1) (deck_desk d h) t.lib
  new = record {
    directory = ap (λ (n : ℕ). take n (set dir d.entries word)) (add-one d.entries) ∙ take-suc-set dir d.entries word (omega (arith, sane.entries)) ∙ ap (λ (ds : List ℕ). ds ++ (word ∷ [])) held.tables.directory;
    entries = counted.entries;
    listed =
        ap (λ (n : ℕ). take n (set names (d.decks + 1) word)) (add-one (d.decks + 1)) ∙ take-suc-set names (d.decks + 1) word (omega (arith, sane.decks))
        ∙ ap (λ (ds : List ℕ). ds ++ (word ∷ [])) held.tables.listed ∙ sym (names-end l (new_deck l common line) word held.safe.sound refl);
    count = counted.decks;
    marked = λ m.
        flag-end decks (d.entries + 1) (deck_numbers l) (omega (arith, sane.entries)) held.tables.marked m
        ∙ ap (λ (k : ℕ). member m (deck_numbers l ++ (k ∷ []))) number ∙ ap (member m) (sym (map-append (λ x. x.number) l.decks (new_deck l common line ∷ [])));
  }

  after : h.lo ≤ h.hi → Safe t → Held v (set dir d.entries word) (set names (d.decks + 1) word) (set decks (d.entries + 1) 1) flags (deck_desk d h) t
  unfolding stream
  after le safe =
      let f : yanked t.lib 0 ≡ yk = flags-entry l (l.decks ++ (new_deck l common line ∷ [])) word held.safe.sound safe.sound in
      let all-cards : length cs ≡ length l.yanks + length (joined (map deck_cards l.decks)) = ap length held.whole ∙ length-append l.yanks (joined (map deck_cards l.decks)) in record {
        below = cs ++ (c ∷ []);
        above = [];
        work = subst (λ (k : ℕ → Bool). Work v h k (cs ++ (c ∷ [])) []) (sym f) (putted.work le);
        whole = sym streamed;
        low = let n : length cs ≡ length (stream l) = ap length held.whole in omega (arith, held.cards, length-append cs (c ∷ []));
        cards = counted.cards;
        tables = new;
        yanks = held.yanks;
        leads = held.leads ∙ ap (λ (k : ℕ → Bool). length (cards_words k l.yanks)) (sym f);
        settled = λ n. held.settled n ∙ ap (λ (k : ℕ → Bool). k n) (sym f);
        set = refl;
        next = refl;
        place = (place_end (new_deck l common line) l.decks, omega (arith, length-append cs (c ∷ []), all-cards, ahead-end (new_deck l common line) l.decks));
        safe = safe;
      }

  deck-answer : Answered v (set dir d.entries word) (set names (d.decks + 1) word) (set decks (d.entries + 1) 1) flags (fitted (deck_desk d h)) (step s line)
  deck-answer =
      limited-answer v (set dir d.entries word) (set names (d.decks + 1) word) (set decks (d.entries + 1) 1) flags (deck_desk d h) t counted s line
      (deck-obeyed s line common word false asks (known_is l (take d.entries dir) word true held.tables.directory unknown)) held.safe after

pub deck-known : (w dir names decks : List ℕ) (d : Desk) (word : ℕ) (line v newDir newNames newDecks : List ℕ) → unknown_in (take d.entries dir) word ≡ false
    → DeckSteps w dir names decks d word line v newDir newNames newDecks (Err Known)
deck-known w dir names decks d word line v newDir newNames newDecks e common flags s asks held =
    subst (λ (x : Step). Answered v newDir newNames newDecks flags (Err Known) x)
    (sym (deck-obeyed s line common word true asks (known_is s.lib (take d.entries dir) word false held.tables.directory e))) refl

pub deck-on : (w dir names decks : List ℕ) (d : Desk) (word : ℕ) (line mid : List ℕ) (g : Gap) (v : List ℕ) (h : Gap) → Sane w d → 1023 < length dir → 255 < length names → 1024 < length decks
    → unknown_in (take d.entries dir) word ≡ true → OpensAhead w d.gap (length w) mid g → length mid ≡ length w → length v ≡ 65536 → h.hi ≤ length mid
    → PutsLine mid g line 1 (d.entries + 1) v h
    → DeckSteps w dir names decks d word line v (set dir d.entries word) (set names (d.decks + 1) word) (set decks (d.entries + 1) 1) (fitted (deck_desk d h))
deck-on w dir names decks d word line mid g v h sane long wide flat unknown opens half same high puts common flags s asks held =
    deck-answer w dir names decks d word line mid g v h sane long wide flat unknown opens half same high puts common flags s asks held
