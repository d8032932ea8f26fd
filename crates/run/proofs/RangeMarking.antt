-- A range that was found is barred, past a limit, or marked in place.
use Rattle.run_meaning.specs.declared.Why.{Why}
use Rattle.std.specs.Prelude.{if◌then◌else◌, Result, Ok, Err}
use Prim.Native.Nat.{ℕ, suc, ◌+◌, ◌-◌, ◌≤◌, ◌<◌}
use native.Mathlib.Omega.{arith}
use mathlib.Core.Path.{◌≡◌, refl, sym, ap, ap₂, ◌∙◌, subst, fun_ext}
use mathlib.Core.Bool.{Bool, true, false, ◌&&◌, not}
use mathlib.Core.List.{List, [], ◌∷◌, ◌++◌, map}
use lib.Dec.{T, eqb, leb}
use lib.ListN.{length, take, drop, length-append, length-drop}
use lib.Seq.{length-take-le}
use borrow.Author.Tests.{leb-true, leb-false}
use Rattle.words.specs.Base.{any, all}
use Rattle.words.proofs.TestParts.{true-T}
use Rattle.words_lines.specs.declared.CardName.{CardName}
use Rattle.library.specs.Library.{Card, Deck, Library, deck_cards, joined, parts, stream}
use Rattle.library.specs.Yanks.{yanked}
use Rattle.library.specs.Image.{cards_words, short_history, within_limits}
use Rattle.library.proofs.LimitsByCount.{words-under, within-small, cards-append}
use Rattle.run_meaning.specs.Step.{in_yanks, in_deck, State, Step, went, refused, refuse, limited, is_set, unit_number, Spot, is_card_of, is_yank_part, is_deck_spot, is_barred, place_after, over_range, after_mark, step}
use Rattle.run_meaning.specs.Safe.{Safe}
use Rattle.run_meaning.specs.Flat.{index_by, ahead, Stood, flat, deck_numbers, is_deck_card}
use Rattle.run.specs.GapWords.{Ordered}
use Rattle.run.specs.CardSeek.{index_of}
use Rattle.run.specs.ByteMarks.{mark_one, mark_all}
use Rattle.run.specs.Work.{Work, OpensAhead, within, MarksTo, range_of, MarkedBetween}
use Rattle.run.specs.Desk.{fitted, Sane, moved_desk, TextGoes, Held, Answered}
use Rattle.run.specs.Corrected.{SoughtAt}
use Rattle.run.specs.RangeSteps.{is_title, HasTitle, Remarked, YankMarks, GoesOn, MarksFound}
use Rattle.run.specs.declared.gap.Gap.{Gap}
use Rattle.run.specs.declared.desk.Desk.{Desk}
use Rattle.run.specs.declared.desk.TextAt.TheVariants.{Gap as TextGap}
use Rattle.run.specs.declared.fixes.Sought.{Sought}
use Rattle.run_meaning.specs.declared.Why.TheVariants.{Barred, NoCard, Limit}
use Rattle.run.proofs.Locating.{run-above}
use Rattle.run.proofs.Working.{and-true}
use Rattle.run.proofs.Between.{marks-between}
use Rattle.run.proofs.RangeCards.{range-stream, marks-count}
use Rattle.run.proofs.OverLimits.{within-limit}
use Rattle.run_meaning.proofs.FlatFind.{yank-part-flat, ltb_yes, ltb_no}
use Rattle.run_meaning.proofs.FlatDecks.{barred-flat}
use Rattle.run_meaning.proofs.FlatStream.{marks, mark-flat}
use Rattle.run_meaning.proofs.FlatFlags.{unit-free}
use Rattle.run_meaning.proofs.FlatLimits.{range-cards, range-short}
use Rattle.run.proofs.Stepping.{work-words, Counted, limited-answer}
use Rattle.run.proofs.Texting.{begun-pos}
use Rattle.run.proofs.MarkedParts.{mark-tables, mark-yanks, mark-same-yanks, mark-same-flags, mark-place, mark-same-decks, unbarred, index-order, spot-below}

index-named : (o s : ℕ) (cs : List Card) → index_of o s cs ≡ index_by (is_card_of o s) cs
unfolding index_of
index-named o s [] = refl
index-named o s (c ∷ cs) = ap (λ (n : ℕ). if is_card_of o s c then 0 else suc n) (index-named o s cs)

-- a state is sane whatever the words are
pub same-sane : (w v : List ℕ) (d : Desk) → Sane w d → length v ≡ length w → Sane v d
same-sane w v d sane e =
    record { ordered = (sane.ordered.0, omega (arith, sane.ordered.1, e)); room = e ∙ sane.room; entries = sane.entries; decks = sane.decks; cards = sane.cards; next = sane.next; yanks = sane.yanks; low = sane.low }

-- the words of YANK$$$ and those of the decks
stream-words : (yk : ℕ → Bool) (l : Library) → length (cards_words yk (stream l)) ≡ length (cards_words yk l.yanks) + length (cards_words yk (joined (map deck_cards l.decks)))
unfolding stream
stream-words yk l =
    let ds : List Card = joined (map deck_cards l.decks) in
    ap length (cards-append yk l.yanks ds) ∙ length-append (cards_words yk l.yanks) (cards_words yk ds)

module _ (w dir decks flags : List ℕ) (d : Desk) (was : Bool) (f q : Sought) (seq : ℕ) (sane : Sane w d) (le : f.index ≤ q.index)
    (u : List ℕ) (h : Gap) (half : length u ≡ length w) (order : Ordered w h) (opens : OpensAhead w d.gap f.at u h)
    (names line : List ℕ) (s : State) (pn qn : CardName) (a b : Spot) (held : Held w dir names decks flags d s) (set : T (is_set s.kind)) (sq : seq ≡ qn.seq)
    (sa : SoughtAt s.lib d.gap held.below held.above pn f a) (sb : SoughtAt s.lib d.gap held.below held.above qn q b)
    (obeyed : step s line ≡ refuse (is_barred a b) Barred (limited (after_mark s was a b))) where
  abbrev l : Library
  l = s.lib

  abbrev yk : ℕ → Bool
  yk = yanked l 0

  abbrev i : ℕ
  i = f.index

  abbrev j : ℕ
  j = q.index

  abbrev cs : List Card
  cs = held.below ++ held.above

  last-below : j < length (stream l)
  last-below = let e : flat l b ≡ j = sb.index in omega (arith, spot-below l b sb.stood)

  count : length cs ≡ length (stream l)
  count = ap length held.whole

  ahead-work : Work u h yk (take i cs) (drop i cs)
  ahead-work = opens yk held.below held.above i held.work sa.stands (omega (arith, last-below, count, le))

  in_order : flat l a ≤ flat l b
  in_order = let e : flat l a ≡ i = sa.index in let g : flat l b ≡ j = sb.index in omega (arith, le)

  -- 30
  title-card : is_title decks ≡ is_deck_card (deck_numbers l)
  title-card = fun_ext (λ c. ap (λ (x : Bool). eqb c.seq 1 && x) (held.tables.marked c.owner))

  barred-is : (x : Bool) → HasTitle u decks h.hi (j - i + 1) x → is_barred a b ≡ x
  barred-is x titles =
      let n : suc (flat l b - flat l a) ≡ j - i + 1 = let e : flat l a ≡ i = sa.index in let g : flat l b ≡ j = sb.index in omega arith in
      barred-flat l held.safe.sound a b sa.stood sb.stood in_order
      ∙ ap (λ (k : ℕ). any (is_deck_card (deck_numbers l)) (take k (drop (flat l a) (stream l)))) n
      ∙ ap₂ (λ (k : ℕ) (x : List Card). any (is_deck_card (deck_numbers l)) (take (j - i + 1) (drop k x))) sa.index (sym held.whole)
      ∙ ap (λ (t : Card → Bool). any t (take (j - i + 1) (drop i cs))) (sym title-card)
      ∙ sym (titles yk (drop i cs) [] (run-above u h (order.0, omega (arith, order.1, half)) yk (take i cs) (drop i cs) ahead-work))

  range-barred : HasTitle u decks h.hi (j - i + 1) true → (v newFlags : List ℕ) → Answered v dir names decks newFlags (Err Barred) (step s line)
  range-barred titles v newFlags =
      subst (λ (x : Step). Answered v dir names decks newFlags (Err Barred) x)
      (sym (obeyed ∙ ap (λ (x : Bool). refuse x Barred (limited (after_mark s was a b))) (barred-is true titles))) refl

  module _ (titles : HasTitle u decks h.hi (j - i + 1) false) (v : List ℕ) (r : Result Gap Why) (full : length v ≡ length w) (marked : MarksTo u h q.own seq was d.entries v r) where
    abbrev t : State
    t = after_mark s was a b

    goes : step s line ≡ limited t
    goes = obeyed ∙ ap (λ (x : Bool). refuse x Barred (limited t)) (barred-is false titles)

    one-part : (a.part ≡ b.part) × (is_deck_spot a ≡ false)
    one-part = unbarred a b (barred-is false titles)

    -- the marks
    abbrev mk : List Card
    mk = mark_all yk was (unit_number l) (range_of i j (stream l))

    abbrev nb : List Card
    nb = take i (stream l) ++ mk

    abbrev na : List Card
    na = drop (j + 1) (stream l)

    streamed : stream t.lib ≡ nb ++ na
    streamed =
        mark-flat l was a b sb.stood one-part.0 one-part.1 (index-order l a b one-part.0 in_order)
        ∙ ap₂ (λ (x y : ℕ). over_range (marks l was) x y (stream l)) sa.index sb.index
        ∙ sym (range-stream yk was (unit_number l) i j (stream l) le)

    last-index : index_of q.own seq (stream l) ≡ j
    last-index = index-named q.own seq (stream l) ∙ ap (λ (k : ℕ). index_by (is_card_of q.own k) (stream l)) sq ∙ sym sb.first

    numbered : d.entries ≡ unit_number l
    numbered = held.tables.entries

    found : MarkedBetween u yk (stream l) i j was (unit_number l) v r
    found =
        let e : index_of q.own seq cs ≡ j = ap (index_of q.own seq) held.whole ∙ last-index in
        let z : MarkedBetween u yk cs i (index_of q.own seq cs) was d.entries v r =
        marks-between u h q.own seq was d.entries v r marked yk cs i ahead-work (omega (arith, le, e)) (omega (arith, last-below, count, e))
        (ap yk numbered ∙ unit-free l held.safe.sound) (omega (arith, numbered, begun-pos l s.next (held.safe.set set))) in
        subst (λ (n : ℕ). MarkedBetween u yk (stream l) i j was n v r) numbered
        (subst (λ (k : ℕ). MarkedBetween u yk (stream l) i k was d.entries v r) last-index
        (subst (λ (x : List Card). MarkedBetween u yk x i (index_of q.own seq x) was d.entries v r) held.whole z))

    abbrev inside : Bool
    inside = within (length u) yk (take i (stream l)) mk na

    -- 31
    over : inside ≡ false → step s line ≡ refused Limit
    over e =
        let n : length u ≡ 65536 = half ∙ sane.room in
        let out : within_limits t.lib ≡ false = within-limit t.lib yk (take i (stream l)) mk na streamed (ap (λ (k : ℕ). within k yk (take i (stream l)) mk na) (sym n) ∙ e) in
        goes ∙ ap (λ (x : Bool). refuse (not x) Limit (went t)) out

    range-refused : (y : Why) → r ≡ Err y → (newFlags : List ℕ) → Answered v dir names decks newFlags (Err y) (step s line)
    range-refused y e newFlags = go inside refl
      where
        go : (x : Bool) → inside ≡ x → Answered v dir names decks newFlags (Err y) (step s line)
        go true p = let k = found.done p in let g : r ≡ Ok k.0 = k.1.0 in absurd (cc)
        go false p =
            let g : r ≡ Err Limit = found.limit p in
            let same : y ≡ Limit = cc in
            subst (λ (x : Step). Answered v dir names decks newFlags (Err y) x) (sym (over p)) same

    -- THE RANGE MARKED
    module _ (k : Gap) (done : r ≡ Ok k) (ordered : Ordered u k) where
      fits : (inside ≡ true) × Work v k yk nb na
      fits = go inside refl
        where
          go : (x : Bool) → inside ≡ x → (inside ≡ true) × Work v k yk nb na
          go true p =
              let m = found.done p in
              let g : r ≡ Ok m.0 = m.1.0 in
              let e : m.0 ≡ k = cc in
              (p, subst (λ (x : Gap). Work v x yk nb na) e m.1.1)
          go false p = let g : r ≡ Err Limit = found.limit p in absurd (cc)

      new-order : Ordered v k
      new-order = (ordered.0, omega (arith, ordered.1, half, full))

      new-cards : d.cards ≡ length (stream t.lib)
      new-cards =
          held.cards ∙ sym (range-cards (mark_one yk was (unit_number l)) i j (stream l)) ∙ sym (ap length (streamed ∙ range-stream yk was (unit_number l) i j (stream l) le))

      new-short : T (all short_history (stream t.lib))
      unfolding mark_all
      new-short =
          let m : j + 1 - i ≡ suc (j - i) = omega (arith, le) in
          let e : all short_history (stream t.lib) ≡ all short_history mk =
          ap (all short_history) (streamed ∙ range-stream yk was (unit_number l) i j (stream l) le)
          ∙ range-short (mark_one yk was (unit_number l)) i j (stream l) le (within-small l held.safe.sound.limits).short
          ∙ ap (λ (n : ℕ). all short_history (map (mark_one yk was (unit_number l)) (take n (drop i (stream l))))) (sym m) in
          true-T (all short_history (stream t.lib)) (e ∙ (and-true (all short_history mk) _ fits.0).0)

      new-words : length (cards_words yk (stream t.lib)) ≡ k.lo + (length v - k.hi)
      new-words = ap (λ (x : List Card). length (cards_words yk x)) streamed ∙ work-words v k yk nb na fits.1 new-order

      -- in a deck
      module _ (deck : d.yanks ≤ i) where
        part : is_yank_part a ≡ false
        part = let e : flat l a ≡ i = sa.index in yank-part-flat l a sa.stood ∙ ltb_no (flat l a) (length l.yanks) (omega (arith, held.yanks))

        last-part : is_yank_part b ≡ false
        last-part = ap (λ (p : ℕ). eqb p 0) (sym one-part.0) ∙ part

        same_flags : yanked t.lib 0 ≡ yk
        same_flags = ap (λ (x : ℕ → ℕ → Bool). x 0) (mark-same-flags l was a.part a.index b.index part)

        below_length : length nb ≡ j + 1
        below_length =
            let x : length (take i (stream l)) ≡ i = length-take-le i (stream l) (omega (arith, last-below, le)) in
            let y : length (range_of i j (stream l)) ≡ j + 1 - i = length-take-le (j + 1 - i) (drop i (stream l)) (omega (arith, last-below, le, length-drop i (stream l))) in
            omega (arith, length-append (take i (stream l)) mk, marks-count yk was (unit_number l) (range_of i j (stream l)), le)

        text : TextGoes t.lib (length nb) TextGap (place_after b)
        text =
            let stood : Stood (parts l) a.part b.index = subst (λ (p : ℕ). Stood (parts l) p b.index) (sym one-part.0) sb.stood in
            let e : ahead (parts l) a.part ≡ ahead (parts l) b.part = ap (ahead (parts l)) one-part.0 in
            let g : flat l b ≡ j = sb.index in
            subst (λ (x : Bool). TextGoes t.lib (length nb) TextGap (if x then in_yanks else in_deck (b.part - 1) b.index)) (sym last-part)
            (subst (λ (p : ℕ). TextGoes t.lib (length nb) TextGap (in_deck (p - 1) b.index)) one-part.0
            (mark-place l was a.part a.index b.index (length nb) part stood (omega (arith, below_length))))

        after : Safe t → Held v dir names decks flags (moved_desk d k (j + 1)) t
        after st = record {
          below = nb;
          above = na;
          work = subst (λ (x : ℕ → Bool). Work v k x nb na) (sym same_flags) fits.1;
          whole = sym streamed;
          low = sym below_length;
          cards = new-cards;
          tables = mark-tables dir names decks d (moved_desk d k (j + 1)) l was a.part a.index b.index refl refl held.tables;
          yanks = held.yanks ∙ sym (mark-yanks l was a.part a.index b.index);
          leads = held.leads ∙ ap₂ (λ (x : ℕ → Bool) (y : List Card). length (cards_words x y)) (sym same_flags) (sym (mark-same-yanks l was a.part a.index b.index part));
          settled = λ n. held.settled n ∙ ap (λ (x : ℕ → Bool). x n) (sym same_flags);
          set = held.set;
          next = held.next;
          place = text;
          safe = st;
        }

        counted : Counted v (moved_desk d k (j + 1)) t.lib
        counted =
            let tables = mark-tables dir names decks d (moved_desk d k (j + 1)) l was a.part a.index b.index refl refl held.tables in
            record {
              entries = tables.entries;
              decks = tables.count;
              cards = new-cards;
              short = new-short;
              room = full ∙ sane.room;
              fits = λ _. sym (words-under yk t.lib) ∙ new-words ∙ ap (λ (n : ℕ). k.lo + (n - k.hi)) (full ∙ sane.room);
              crowded = λ lt. absurd (omega (arith, ordered.0));
            }

        range-decks : Answered v dir names decks flags (fitted (moved_desk d k (j + 1))) (step s line)
        range-decks = limited-answer v dir names decks flags (moved_desk d k (j + 1)) t counted s line goes held.safe (λ _ st. after st)

      -- in YANK$$$
      module _ (yank : i < d.yanks) where
        first_part : is_yank_part a ≡ true
        first_part = let e : flat l a ≡ i = sa.index in yank-part-flat l a sa.stood ∙ ltb_yes (flat l a) (length l.yanks) (omega (arith, held.yanks))

        remarked : Remarked yk v dir names decks d k t
        remarked =
            let others : ℕ = length (cards_words yk (joined (map deck_cards l.decks))) in
            let same : length (cards_words yk (joined (map deck_cards t.lib.decks))) ≡ others =
            ap (λ (ds : List Deck). length (cards_words yk (joined (map deck_cards ds)))) (mark-same-decks l was a.part a.index b.index first_part) in
            let old : length (cards_words yk cs) ≡ d.gap.lo + (length w - d.gap.hi) = work-words w d.gap yk held.below held.above held.work sane.ordered in
            let whole : length (cards_words yk cs) ≡ length (cards_words yk (stream l)) = ap (λ (x : List Card). length (cards_words yk x)) held.whole in
            let lead : d.lead ≡ length (cards_words yk l.yanks) = held.leads in
            record {
              below = nb;
              above = na;
              work = fits.1;
              whole = sym streamed;
              cards = new-cards;
              short = new-short;
              tables = mark-tables dir names decks d d l was a.part a.index b.index refl refl held.tables;
              yanks = held.yanks ∙ sym (mark-yanks l was a.part a.index b.index);
              others = others;
              before = omega (arith, stream-words yk l, full);
              after = omega (arith, stream-words yk t.lib, new-words);
              set = held.set;
              next = held.next;
              place = ap (λ (x : Bool). if x then in_yanks else in_deck (b.part - 1) b.index) (ap (λ (p : ℕ). eqb p 0) (sym one-part.0) ∙ first_part);
            }

        range-yanks : (x newFlags : List ℕ) (e : Result Desk Why) → YankMarks v dir d k x newFlags e → Answered x dir names decks newFlags e (step s line)
        range-yanks x newFlags e goes_on = goes_on yk names decks line s t held.safe goes remarked

-- THE ANSWERS
module _ (w dir decks flags : List ℕ) (d : Desk) (was : Bool) (f q : Sought) (seq : ℕ) (sane : Sane w d) (le : f.index ≤ q.index)
    (u : List ℕ) (h : Gap) (half : length u ≡ length w) (order : Ordered w h) (opens : OpensAhead w d.gap f.at u h) where
  pub found-barred : HasTitle u decks h.hi (q.index - f.index + 1) true → (v newFlags : List ℕ) → MarksFound w dir decks flags d was f q seq v newFlags (Err Barred)
  found-barred titles v newFlags names line s pn qn a b held set sq sa sb obeyed =
      range-barred w dir decks flags d was f q seq sane le u h half order opens names line s pn qn a b held set sq sa sb obeyed titles v newFlags

  module _ (titles : HasTitle u decks h.hi (q.index - f.index + 1) false) (v : List ℕ) (r : Result Gap Why) (full : length v ≡ length w) (marked : MarksTo u h q.own seq was d.entries v r) where
    pub found-refused : (y : Why) → r ≡ Err y → (newFlags : List ℕ) → MarksFound w dir decks flags d was f q seq v newFlags (Err y)
    found-refused y e newFlags names line s pn qn a b held set sq sa sb obeyed =
        range-refused w dir decks flags d was f q seq sane le u h half order opens names line s pn qn a b held set sq sa sb obeyed titles v r full marked y e newFlags

    pub found-done : (k : Gap) → r ≡ Ok k → Ordered u k → (x newFlags : List ℕ) (e : Result Desk Why) → GoesOn v dir flags d f.index q.index k x newFlags e
        → MarksFound w dir decks flags d was f q seq x newFlags e
    found-done k done ordered x newFlags e on names line s pn qn a b held set sq sa sb obeyed = go (leb d.yanks f.index) refl
      where
        go : (y : Bool) → leb d.yanks f.index ≡ y → Answered x dir names decks newFlags e (step s line)
        go true y =
            let z = on.decks (leb-true d.yanks f.index y) in
            subst (λ (m : List ℕ). Answered m dir names decks newFlags e (step s line)) (sym z.0)
            (subst (λ (m : List ℕ). Answered v dir names decks m e (step s line)) (sym z.1.0)
            (subst (λ (m : Result Desk Why). Answered v dir names decks flags m (step s line)) (sym z.1.1)
            (range-decks w dir decks flags d was f q seq sane le u h half order opens names line s pn qn a b held set sq sa sb obeyed titles v r full marked k done ordered (leb-true d.yanks f.index y))))
        go false y =
            let lt : f.index < d.yanks = leb-false d.yanks f.index y in
            range-yanks w dir decks flags d was f q seq sane le u h half order opens names line s pn qn a b held set sq sa sb obeyed titles v r full marked k done ordered lt x newFlags e (on.yanks lt)
