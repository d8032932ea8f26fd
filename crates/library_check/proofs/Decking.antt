-- Deck cards: a step of row 7 for each way out. Assumes nothing.
--   begins-is                              a line as a deck card's
--   next-is                                the card against the list's word
--   shown-.., none-ok                      a card that was read
--   Ahead, ahead-..                        the cards ahead of the decks
--   failing-on, failing-here               a card that passes or fails
--   row_on, row-taken, row_here            row 7
--   names_more, lacking                    the deck list from a place on
use Rattle.std.specs.Prelude.{if◌then◌else◌}
use Prim.Native.Nat.{ℕ, ◌+◌, ◌≤◌, ◌<◌}
use native.Mathlib.Numerals.{add-one}
use native.Mathlib.Omega.{arith}
use native.Mathlib.Decide.{dec_le}
use borrow.Author.Tests.{lt-ltb, le-ltb}
use Rattle.std.specs.Bool.{then_some}
use Rattle.library_tables.specs.Found.{found}
use mathlib.Core.Path.{◌≡◌, refl, sym, ap, ap₂, ◌∙◌, subst}
use mathlib.Core.Bool.{Bool, true, false, ◌&&◌, not}
use mathlib.Core.List.{List, [], ◌∷◌}
use mathlib.Core.Option.{Option, some}
use lib.Dec.{eqb, ltb}
use lib.ListN.{length, get_or, drop, drop_of_length-le}
use lib.Seq.{drop-cons}
use Rattle.words.specs.Base.{is_nil}
use Rattle.library.specs.Library.{DeckLine, not_deck, bad_deck, deck_of, deck_line, entry_of}
use Rattle.library.specs.Check.{Stored, is_deck_line, is_deck_card, ok_deck_card, row7, first_failing, ahead_of_decks, fault_if}
use Rattle.library_image.specs.Places.{seen_at, line_in}
use Rattle.library_check.specs.Walks.{Walk, Spans}
use Rattle.library.specs.Asked.{deck_line_of}
use Rattle.library_check.specs.Rows.{begins_deck, titled, is_next}
use Rattle.library.specs.declared.Seen.{Seen}
use Rattle.library.specs.declared.DeckLine.{DeckLine as DeckAnswer}
use Rattle.library_check.proofs.Spanning.{Going, span-first, span_none}
use Rattle.library_check.proofs.Showing.{shown-owner, shown-seq, shown-alone, shown-line}

-- A LINE AS A DECK CARD'S
pub begins-is : (d : DeckLine) → begins_deck (deck_line_of d) ≡ is_deck_line d
begins-is not_deck = refl
begins-is bad_deck = refl
begins-is (deck_of true w) = refl
begins-is (deck_of false w) = refl

-- THE CARD AGAINST THE LIST'S WORD
module _ (d ws : List ℕ) (at : ℕ) (s : Stored) (w : Walk d ws at s) (r : Seen) (sees : r ≡ seen_at ws at) where
  title-is : (x v : ℕ) → titled d at r x v ≡ ((eqb v x && eqb s.card.owner (entry_of d v)) && eqb s.card.seq 1) && is_nil s.card.later
  title-is x v =
      ap₂ (λ (o q : ℕ). ((eqb v x && eqb o (entry_of d v)) && eqb q 1) && eqb r.text (at + 1)) (shown-owner d ws at s w r sees) (shown-seq d ws at s w r sees)
      ∙ ap (λ (b : Bool). ((eqb v x && eqb s.card.owner (entry_of d v)) && eqb s.card.seq 1) && b) (sym (shown-alone d ws at s w r sees))

  pub next-is : (x : ℕ) (xs : List ℕ) (y : DeckLine) → is_next d at r x (deck_line_of y) ≡ ok_deck_card d (x ∷ xs) s y
  next-is x xs not_deck = refl
  next-is x xs bad_deck = refl
  next-is x xs (deck_of true v) = title-is x v
  next-is x xs (deck_of false v) = title-is x v

  -- the card's line as it was read
  pub shown-deck : (a : DeckAnswer) → a ≡ deck_line_of (deck_line (line_in ws r.text r.next)) → a ≡ deck_line_of (deck_line s.card.line)
  shown-deck a reads = reads ∙ ap (λ (l : List ℕ). deck_line_of (deck_line l)) (shown-line d ws at s w r sees)

  pub shown-begins : (a : DeckAnswer) → a ≡ deck_line_of (deck_line (line_in ws r.text r.next)) → is_deck_card s ≡ begins_deck a
  shown-begins a reads = sym (ap begins_deck (shown-deck a reads) ∙ begins-is (deck_line s.card.line))

  pub shown_ok : (a : DeckAnswer) → a ≡ deck_line_of (deck_line (line_in ws r.text r.next)) → (x : ℕ) (names xs : List ℕ) → names ≡ x ∷ xs
      → ok_deck_card d names s (deck_line s.card.line) ≡ is_next d at r x a
  shown_ok a reads x names xs e =
      ap (λ (l : List ℕ). ok_deck_card d l s (deck_line s.card.line)) e ∙ sym (next-is x xs (deck_line s.card.line)) ∙ ap (is_next d at r x) (sym (shown-deck a reads))

pub none-ok : (d names : List ℕ) (s : Stored) (l : DeckLine) → names ≡ [] → ok_deck_card d names s l ≡ false
none-ok d names s l e = ap (λ (n : List ℕ). ok_deck_card d n s l) e

-- THE CARDS AHEAD OF THE DECKS
module _ (d ws : List ℕ) (from : ℕ) where
  abbrev pub Ahead : ℕ → Type 0
  Ahead at =
      (ss : List Stored) → Spans d ws from (length ws) ss
      → Going d ws at (length ws) (λ t. (e : ℕ) → Spans d ws at e (ahead_of_decks t) → Spans d ws from e (ahead_of_decks ss))

  pub ahead-start : Ahead from
  ahead-start ss h = record { left = ss; spans = h; holds = λ e k. k }

  module _ (at : ℕ) (inv : Ahead at) where
    pub ahead-on : at < length ws → (n : ℕ) → ((s : Stored) (w : Walk d ws at s) → (n ≡ w.next) × (is_deck_card s ≡ false)) → Ahead n
    ahead-on lt n step ss h =
        let g = inv ss h in
        let f = span-first d ws at (length ws) g.left lt g.spans in
        let q = step f.card f.walk in
        let cut : ahead_of_decks g.left ≡ f.card ∷ ahead_of_decks f.rest = ap ahead_of_decks f.is ∙ ap (λ (b : Bool). if b then [] else (f.card ∷ ahead_of_decks f.rest)) q.1 in
        record {
          left = f.rest;
          spans = subst (λ (k : ℕ). Spans d ws k (length ws) f.rest) (sym q.0) f.on;
          holds = λ e k. g.holds e (subst (λ (l : List Stored). Spans d ws at e l) (sym cut) (f.walk, subst (λ (m : ℕ). Spans d ws m e (ahead_of_decks f.rest)) q.0 k));
        }

    pub ahead-here : at < length ws → ((s : Stored) (w : Walk d ws at s) → is_deck_card s ≡ true) → (ss : List Stored) → Spans d ws from (length ws) ss
        → Spans d ws from at (ahead_of_decks ss)
    ahead-here lt step ss h =
        let g = inv ss h in
        let f = span-first d ws at (length ws) g.left lt g.spans in
        let cut : ahead_of_decks g.left ≡ [] = ap ahead_of_decks f.is ∙ ap (λ (b : Bool). if b then [] else (f.card ∷ ahead_of_decks f.rest)) (step f.card f.walk) in
        g.holds at (subst (λ (l : List Stored). Spans d ws at at l) (sym cut) refl)

    pub ahead-end : length ws ≤ at → (ss : List Stored) → Spans d ws from (length ws) ss → Spans d ws from (length ws) (ahead_of_decks ss)
    ahead-end le ss h =
        let g = inv ss h in
        let n : g.left ≡ [] = span_none d ws at (length ws) g.left le g.spans in
        let z : at ≡ length ws = subst (λ (l : List Stored). Spans d ws at (length ws) l) n g.spans in
        g.holds (length ws) (subst (λ (l : List Stored). Spans d ws at (length ws) l) (sym (ap ahead_of_decks n)) z)

-- A CARD THAT PASSES OR FAILS
pub failing-on : (ok : Stored → Bool) (s : Stored) (ss : List Stored) → ok s ≡ true → first_failing ok (s ∷ ss) ≡ first_failing ok ss
failing-on ok s ss e = ap (λ (b : Bool). if b then first_failing ok ss else some s.place) e

pub failing-here : (ok : Stored → Bool) (s : Stored) (ss : List Stored) (at : ℕ) → ok s ≡ false → s.place ≡ at → first_failing ok (s ∷ ss) ≡ some at
failing-here ok s ss at e p = ap (λ (b : Bool). if b then first_failing ok ss else some s.place) e ∙ ap some p

-- ROW 7
module _ (d names : List ℕ) (end : ℕ) (s : Stored) (ss : List Stored) where
  abbrev step : Bool → Bool → Option ℕ
  step deck ok = if not deck then row7 d names ss end else if ok then row7 d (drop 1 names) ss end else some s.place

  abbrev ok : Bool
  ok = ok_deck_card d names s (deck_line s.card.line)

  pub row_on : is_deck_card s ≡ false → row7 d names (s ∷ ss) end ≡ row7 d names ss end
  row_on e = ap (λ (b : Bool). step b ok) e

  pub row-taken : is_deck_card s ≡ true → ok ≡ true → row7 d names (s ∷ ss) end ≡ row7 d (drop 1 names) ss end
  row-taken e f = ap₂ step e f

  pub row_here : is_deck_card s ≡ true → ok ≡ false → (at : ℕ) → s.place ≡ at → row7 d names (s ∷ ss) end ≡ some at
  row_here e f at p = ap₂ step e f ∙ ap some p

-- the deck list from a place on
pub names_more : (list : List ℕ) (k : ℕ) → k < length list → drop k list ≡ get_or list k 0 ∷ drop (k + 1) list
names_more list k lt = drop-cons list k 0 lt ∙ ap (λ (n : ℕ). get_or list k 0 ∷ drop n list) (sym (add-one k))

-- names of the list that no card was for
pub lacking : (list : List ℕ) (k end : ℕ) → then_some (ltb k (length list)) end ≡ found (fault_if (not (is_nil (drop k list))) end)
lacking list k end = go (dec_le (length list) k)
  where
    go : Dec (length list ≤ k) → then_some (ltb k (length list)) end ≡ found (fault_if (not (is_nil (drop k list))) end)
    go (yes le) = rw (le-ltb k (length list) le, drop_of_length-le list le)
    go (no gt) = let lt : k < length list = omega arith in rw (lt-ltb k (length list) lt, names_more list k lt)
