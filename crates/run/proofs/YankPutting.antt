-- The card of a YANK line at the end of YANK$$$: once the bits are settled the new state is held.
use Rattle.run_meaning.specs.declared.Why.{Why}
use Rattle.std.specs.Prelude.{if◌then◌else◌, Result, Ok, Err}
use Prim.Native.Nat.{ℕ, suc, ◌+◌, ◌-◌, ◌≤◌, ◌<◌}
use native.Mathlib.Omega.{arith}
use native.Mathlib.Numerals.{add-one}
use mathlib.Core.Path.{◌≡◌, refl, sym, ap, ap₂, ◌∙◌, subst}
use mathlib.Core.Bool.{Bool, true, false}
use mathlib.Core.List.{List, [], ◌∷◌, ◌++◌, map}
use lib.Dec.{T}
use lib.ListN.{length, take, drop, length-append}
use lib.Seq.{take_at, drop_at}
use Rattle.words.specs.Base.{all, all_of}
use Rattle.words.specs.Text.{trim}
use Rattle.words_lines.specs.Directive.{directive, line_number}
use Rattle.words_lines.specs.declared.Line.TheVariants.{Yank as YankLine}
use Rattle.words_lines.proofs.AskedLine.{Readable, line-readable}
use Rattle.library.specs.Library.{Card, Library, deck_cards, joined, stream, deck_names}
use Rattle.library.specs.Yanks.{yanked}
use Rattle.library.specs.Image.{cards_words, short_history}
use Rattle.library.proofs.LimitsByCount.{words, words-under, Small, within-small, cards-append}
use Rattle.run_meaning.specs.Step.{State, limited, new_card, with_yanks, after_yank, step}
use Rattle.run_meaning.specs.Safe.{Begun, Safe}
use Rattle.run.specs.CardHeads.{card_of}
use Rattle.run.specs.Work.{Work, OpensAt, PutCard}
use Rattle.run.specs.Desk.{fit_tests, fitted, Sane, Tables, Held, HeldUnder, Answered}
use Rattle.run.specs.Obeyed.{PutsLine}
use Rattle.run.specs.YankNames.{LeadAfter, Settling, PutsYank}
use Rattle.run.specs.declared.gap.Gap.{Gap}
use Rattle.run.specs.declared.desk.Desk.{Desk}
use Rattle.run.specs.declared.desk.TextAt.TheVariants.{Nowhere as TextNowhere}
use Rattle.run_meaning.specs.declared.Why.TheVariants.{Limit}
use Rattle.run_meaning.proofs.FlatStream.{yank-flat}
use Rattle.run_meaning.proofs.FlatFlags.{unit-free}
use Rattle.run_meaning.proofs.FlatLimits.{put-short}
use Rattle.run.proofs.Stepping.{work-words, fitted-yes, Counted, limited-answer}
use Rattle.run.proofs.Texting.{begun-pos}

abbrev pub yank_desk_at : Desk → Gap → ℕ → Desk
yank_desk_at d h next =
    record { gap = h; low = d.yanks + 1; entries = d.entries; decks = d.decks; cards = d.cards + 1; yanks = d.yanks + 1; lead = h.lo; set = d.set; next = next; place = TextNowhere }

abbrev pub yank_desk : Desk → Gap → Desk
yank_desk d h = yank_desk_at d h (d.next + 1)

pub lead_after : (d : Desk) (h : Gap) → LeadAfter (fitted (yank_desk d h))
lead_after d h = go (all_of (fit_tests (yank_desk d h)))
  where
    go : (b : Bool) → LeadAfter (if b then Ok (yank_desk d h) else Err Limit)
    go true = omega arith
    go false = tt

-- the cards of the decks
abbrev pub deck_cards_of : Library → List Card
deck_cards_of l = joined (map deck_cards l.decks)

pub stream-is : (l : Library) → stream l ≡ l.yanks ++ deck_cards_of l
unfolding stream
stream-is l = refl

yank-tables : (dir names decks : List ℕ) (d e : Desk) (l : Library) (ys : List Card) → e.entries ≡ d.entries → e.decks ≡ d.decks
    → Tables dir names decks d l → Tables dir names decks e (with_yanks l ys)
unfolding deck_names
yank-tables dir names decks d e l ys p q t = record {
  directory = ap (λ (n : ℕ). take n dir) p ∙ t.directory;
  entries = p ∙ t.entries;
  listed = ap (λ (n : ℕ). take (n + 1) names) q ∙ t.listed;
  count = q ∙ t.count;
  marked = t.marked;
}

-- WHAT NO LIBRARY IN WORK HAS: more words of YANK$$$ than the array
module _ (w : List ℕ) (d : Desk) (line v : List ℕ) (sane : Sane w d) where
  pub lead-over : length w < d.lead → PutsYank w d line v (Err Limit)
  lead-over over dir names decks flags u newFlags s asks held set goes same settling =
      let l : Library = s.lib in
      let yk : ℕ → Bool = yanked l 0 in
      let a : length (cards_words yk (held.below ++ held.above)) ≡ d.gap.lo + (length w - d.gap.hi) = work-words w d.gap yk held.below held.above held.work sane.ordered in
      let b : length (cards_words yk (held.below ++ held.above)) ≡ length (cards_words yk l.yanks ++ cards_words yk (deck_cards_of l)) =
      ap (λ (cs : List Card). length (cards_words yk cs)) (held.whole ∙ stream-is l) ∙ ap length (cards-append yk l.yanks (deck_cards_of l)) in
      absurd (omega (arith, over, held.leads, length-append (cards_words yk l.yanks) (cards_words yk (deck_cards_of l)), sane.ordered.0, sane.ordered.1))

-- THE CARD
module _ (w : List ℕ) (d : Desk) (line mid : List ℕ) (g : Gap) (v : List ℕ) (h : Gap) (sane : Sane w d) (opens : OpensAt w d.gap d.lead mid g)
    (half : length mid ≡ length w) (whole : length v ≡ 65536) (high : h.hi ≤ length mid) (puts : PutsLine mid g line d.next d.entries v h)
    (dir names decks flags u newFlags : List ℕ) (s : State) (asks : directive line ≡ YankLine) (held : Held w dir names decks flags d s) (set : d.set ≡ true)
    (goes : step s line ≡ limited (after_yank s line)) (same : length u ≡ 65536) (settling : Settling v dir (fitted (yank_desk d h)) u newFlags) where
  abbrev l : Library
  l = s.lib

  abbrev t : State
  t = after_yank s line

  abbrev yk : ℕ → Bool
  yk = yanked l 0

  abbrev c : Card
  c = new_card s line

  abbrev rest : List Card
  rest = deck_cards_of l

  begun : Begun l s.next
  begun = held.safe.set (subst (λ (b : Bool). T b) (sym set ∙ held.set) tt)

  -- the gap stands at the end of YANK$$$
  opened : Work mid g yk l.yanks rest
  opened =
      let n : ℕ = length l.yanks in
      let cs : List Card = held.below ++ held.above in
      let e : cs ≡ l.yanks ++ rest = held.whole ∙ stream-is l in
      let under : take n cs ≡ l.yanks = ap (take n) e ∙ take_at l.yanks rest n refl in
      let over : drop n cs ≡ rest = ap (drop n) e ∙ drop_at l.yanks rest n refl in
      let k : length cs ≡ length (l.yanks ++ rest) = ap length e in
      subst (λ (x : List Card). Work mid g yk x rest) under
      (subst (λ (x : List Card). Work mid g yk (take n cs) x) over
      (opens yk held.below held.above n held.work (ap (λ (x : List Card). length (cards_words yk x)) under ∙ sym held.leads) (omega (arith, length-append l.yanks rest))))

  putted : PutCard mid yk l.yanks rest c v h
  putted =
      let r : Readable line = line-readable line (ap line_number asks) in
      subst (λ (x : Card). PutCard mid yk l.yanks rest x v h) (ap₂ (card_of (trim line)) held.next held.tables.entries)
      (puts yk l.yanks rest r.0 r.1 opened (ap yk held.tables.entries ∙ unit-free l held.safe.sound)
      (omega (arith, begun-pos l s.next begun, held.tables.entries)) (omega (arith, begun.first, held.next)))

  streamed : stream t.lib ≡ (l.yanks ++ (c ∷ [])) ++ rest
  unfolding stream
  streamed = refl

  total : words t.lib ≡ length (cards_words yk ((l.yanks ++ (c ∷ [])) ++ rest))
  total = sym (words-under yk t.lib) ∙ ap (λ (x : List Card). length (cards_words yk x)) streamed

  room : length mid ≡ 65536
  room = half ∙ sane.room

  counted : Counted u (yank_desk d h) t.lib
  counted = record {
    entries = held.tables.entries;
    decks = held.tables.count;
    cards =
        let a : length (stream l) ≡ length (l.yanks ++ rest) = ap length (stream-is l) in
        let b : length (stream t.lib) ≡ length ((l.yanks ++ (c ∷ [])) ++ rest) = ap length streamed in
        let f : d.cards ≡ length (stream l) = held.cards in
        omega (arith, length-append l.yanks rest, length-append (l.yanks ++ (c ∷ [])) rest, length-append l.yanks (c ∷ []));
    short = subst (λ (b : Bool). T b) (sym (ap (all short_history) (yank-flat l c) ∙ put-short (length l.yanks) c (stream l) tt)) (within-small l held.safe.sound.limits).short;
    room = same;
    fits = λ le. total ∙ work-words v h yk (l.yanks ++ (c ∷ [])) rest (putted.work le) (le, omega (arith, high, whole, room)) ∙ ap (λ (n : ℕ). h.lo + (n - h.hi)) whole;
    crowded = λ lt.
        let x = putted.crowded lt in
        let e : length (cards_words yk ((l.yanks ++ (c ∷ [])) ++ rest)) ≡ length (cards_words yk (l.yanks ++ (c ∷ [])) ++ cards_words yk rest) = ap length (cards-append yk (l.yanks ++ (c ∷ [])) rest) in
        omega (arith, x, total, room, length-append (cards_words yk (l.yanks ++ (c ∷ []))) (cards_words yk rest));
  }

  -- under the flags of before
  under : h.lo ≤ h.hi → Safe t → HeldUnder yk v dir names decks (yank_desk d h) t
  under le safe =
      let x : List Card = l.yanks ++ (c ∷ []) in
      let k : take h.lo v ≡ cards_words yk x = (putted.work le).parted.under in
      let m : length (take h.lo v) ≡ h.lo = lib.Seq.length-take-le h.lo v (omega (arith, le, high, room, whole)) in record {
        below = x;
        above = rest;
        work = putted.work le;
        whole = sym streamed;
        low = let e : d.yanks ≡ length l.yanks = held.yanks in omega (arith, length-append l.yanks (c ∷ []));
        cards = counted.cards;
        tables = yank-tables dir names decks d (yank_desk d h) l x refl refl held.tables;
        yanks = let e : d.yanks ≡ length l.yanks = held.yanks in omega (arith, length-append l.yanks (c ∷ []));
        leads = sym m ∙ ap length k;
        set = held.set;
        next = add-one d.next ∙ ap suc held.next;
        place = tt;
        safe = safe;
      }

  -- a state that is sound fits
  fitting : h.lo ≤ h.hi → Safe t → fitted (yank_desk d h) ≡ Ok (yank_desk d h)
  fitting le safe =
      let small : Small t.lib = within-small t.lib safe.sound.limits in
      let e : words t.lib ≡ h.lo + (65536 - h.hi) = counted.fits le in
      fitted-yes (yank_desk d h) record {
        ordered = le;
        entries = omega (arith, small.entries, counted.entries);
        decks = omega (arith, small.decks, counted.decks);
        cards = omega (arith, small.cards, counted.cards);
        total = omega (arith, small.total, counted.entries, counted.decks);
      }

  yank-answer : Answered u dir names decks newFlags (fitted (yank_desk d h)) (step s line)
  yank-answer =
      limited-answer u dir names decks newFlags (yank_desk d h) t counted s line goes held.safe
      (λ le safe. subst (λ (x : Result Desk Why). Settling v dir x u newFlags) (fitting le safe) settling yk names decks t (under le safe))

pub yank-put : (w : List ℕ) (d : Desk) (line mid : List ℕ) (g : Gap) (v : List ℕ) (h : Gap) → Sane w d → OpensAt w d.gap d.lead mid g → length mid ≡ length w → length v ≡ 65536
    → h.hi ≤ length mid → PutsLine mid g line d.next d.entries v h → PutsYank w d line v (fitted (yank_desk d h))
yank-put w d line mid g v h sane opens half whole high puts dir names decks flags u newFlags s asks held set goes same settling =
    yank-answer w d line mid g v h sane opens half whole high puts dir names decks flags u newFlags s asks held set goes same settling
