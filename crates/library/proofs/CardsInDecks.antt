-- Cards that pass row 7 fall into YANK$$$ and the decks of the list, and none is lost.
use Rattle.std.specs.Prelude.{if◌then◌else◌}
use Prim.Native.Nat.{ℕ}
use mathlib.Core.Path.{◌≡◌, refl, sym, ap, ◌∙◌, subst}
use mathlib.Core.Bool.{Bool, true, false, ◌&&◌, not}
use mathlib.Core.List.{List, [], ◌∷◌, map}
use mathlib.Core.Option.{none, some}
use lib.Dec.{T, eqb, eqb→eq}
use lib.ListN.{drop}
use Rattle.words.specs.Base.{member, is_nil}
use Rattle.words.specs.Names.{is_name_word}
use Rattle.library.specs.Each.{Each}
use Rattle.library.specs.Library.{Byte, Card, DeckLine, not_deck, bad_deck, deck_of, deck_line, deck_cards, joined, name_at, entry_of}
use Rattle.library.specs.Sound.{SoundCard, BeginsNoDeck, SoundDeck}
use Rattle.library.specs.Check.{Stored, is_deck_line, ok_deck_card, row7, Parted, part_at, parted_by}
use Rattle.library.proofs.EachTest.{and_parts}
use Rattle.library.proofs.EntryNames.{name-entry}
use Rattle.library.proofs.TableRows.{some-none, is_listed}
use Rattle.library.proofs.ReadAsWritten.{Fit}

-- A STEP OF ROW 7
pub record NextDeck (directory names : List ℕ) (s : Stored) (w : ℕ) : Type 0 where
  pub next : names ≡ w ∷ drop 1 names
  pub owner : s.card.owner ≡ entry_of directory w
  pub card : ◌≡◌ {A = Card} (record { line = s.card.line; seq = 1; owner = s.card.owner; later = [] }) s.card

nil-eq : {A : Type 0} (xs : List A) → T (is_nil xs) → ◌≡◌ {A = List A} [] xs
nil-eq [] t = refl
nil-eq (x ∷ xs) t = absurd t

next-deck : (directory names : List ℕ) (s : Stored) (common : Bool) (w : ℕ) → T (ok_deck_card directory names s (deck_of common w)) → NextDeck directory names s w
next-deck directory [] s common w t = absurd t
next-deck directory (x ∷ xs) s common w t =
    let c : Card = s.card in
    let own : Bool = eqb c.owner (entry_of directory w) in
    let p = and_parts ((eqb w x && own) && eqb c.seq 1) (is_nil c.later) t in
    let q = and_parts (eqb w x && own) (eqb c.seq 1) p.0 in
    let r = and_parts (eqb w x) own q.0 in
    let name : x ≡ w = sym (eqb→eq w x r.0) in
    let one : 1 ≡ c.seq = sym (eqb→eq c.seq 1 q.1) in
    let alone : ◌≡◌ {A = List Byte} [] c.later = nil-eq c.later p.1 in
    record {
      next = λ i. name i ∷ xs;
      owner = eqb→eq c.owner (entry_of directory w) r.1;
      card = λ i. record { line = c.line; seq = one i; owner = c.owner; later = alone i };
    }

module _ (directory names : List ℕ) (s : Stored) (ss : List Stored) (end : ℕ) where
  abbrev pub Step : DeckLine → Type 0
  Step not_deck = row7 directory names ss end ≡ none
  Step bad_deck = ⊥
  Step (deck_of common w) = NextDeck directory names s w × (row7 directory (drop 1 names) ss end ≡ none)

  refused : (c : Bool) → (if c then row7 directory (drop 1 names) ss end else some s.place) ≡ none → T c × (row7 directory (drop 1 names) ss end ≡ none)
  refused true e = (tt, e)
  refused false e = absurd (some-none s.place e)

  pub step : (d : DeckLine)
      → (if not (is_deck_line d) then row7 directory names ss end else if ok_deck_card directory names s d then row7 directory (drop 1 names) ss end else some s.place) ≡ none
      → Step d
  step not_deck e = e
  step bad_deck e = bad names (refused (ok_deck_card directory names s bad_deck) e).0
    where
      bad : (ns : List ℕ) → T (ok_deck_card directory ns s bad_deck) → ⊥
      bad [] t = t
      bad (x ∷ xs) t = t
  step (deck_of common w) e =
      let r = refused (ok_deck_card directory names s (deck_of common w)) e in
      (next-deck directory names s common w r.0, r.1)

-- THE PARTS
pub record Parts (directory names : List ℕ) (ss : List Stored) (p : Parted) : Type 0 where
  pub first : Each (SoundCard directory) p.first
  pub others : Each BeginsNoDeck p.first
  pub decks : Each (SoundDeck directory) p.decks
  pub listed : map (λ d. name_at directory d.number) p.decks ≡ names
  pub cards : joined (p.first ∷ map deck_cards p.decks) ≡ map (λ s. s.card) ss

abbrev Named : List ℕ → List ℕ → Type 0
Named directory names = Each (λ w. T (is_listed directory w)) names

pub row7-parts : (directory names : List ℕ) (ss : List Stored) (end : ℕ) → row7 directory names ss end ≡ none → Each (λ s. Fit directory s.card) ss → Named directory names
    → Parts directory names ss (parted_by ss)
row7-parts directory [] [] end e h m = record { first = tt; others = tt; decks = tt; listed = refl; cards = refl }
row7-parts directory (x ∷ xs) [] end e h m = absurd (some-none end e)
row7-parts directory names (s ∷ ss) end e h m =
    go (deck_line s.card.line) refl (step directory names s ss end (deck_line s.card.line) e) (λ ns f g. row7-parts directory ns ss end f h.1 g)
  where
    go : (d : DeckLine) → deck_line s.card.line ≡ d → Step directory names s ss end d
        → ((ns : List ℕ) → row7 directory ns ss end ≡ none → Named directory ns → Parts directory ns ss (parted_by ss))
        → Parts directory names (s ∷ ss) (part_at d s.card (parted_by ss))
    go not_deck q r ih =
        let p = ih names r m in
        record { first = (h.0.sound, p.first); others = (q, p.others); decks = p.decks; listed = p.listed; cards = ap {B = List Card} (λ t. s.card ∷ t) p.cards }
    go bad_deck q r ih = absurd r
    go (deck_of common w) q r ih =
        let n = r.0 in
        let t : Named directory (w ∷ drop 1 names) = subst (Named directory) n.next m in
        let p = ih (drop 1 names) r.1 t.1 in
        let name : name_at directory s.card.owner ≡ w = ap (name_at directory) n.owner ∙ name-entry directory w (and_parts (is_name_word w) (member w directory) t.0).1 in
        record {
          first = tt;
          others = tt;
          decks = (
            record { title = q ∙ ap (deck_of common) (sym name); first = subst (SoundCard directory) (sym n.card) h.0.sound; cards = p.first; others = p.others },
            p.decks,
          );
          listed = (λ i. name i ∷ p.listed i) ∙ sym n.next;
          cards = λ i. n.card i ∷ p.cards i;
        }
