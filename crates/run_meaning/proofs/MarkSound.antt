-- A byte of the unit at the end of histories keeps the library sound: its number is the highest.
use Rattle.std.specs.Prelude.{if◌then◌else◌}
use Prim.Native.Nat.{ℕ, zero, suc, ◌-◌, ◌≤◌}
use native.Mathlib.Omega.{arith}
use mathlib.Core.Path.{◌≡◌, refl, sym, ap, ◌∙◌, subst}
use mathlib.Core.Bool.{Bool, true, false, ◌&&◌, not, beq}
use mathlib.Core.List.{List, [], ◌∷◌, ◌++◌, map}
use lib.Dec.{T, eqb, leb, le→leb}
use lib.ListN.{length, length-map}
use Rattle.words.specs.Base.{all}
use Rattle.words.proofs.TestParts.{and_both, all_append}
use Rattle.words_lines.specs.Directive.{directive}
use Rattle.library.specs.Each.{Each}
use Rattle.library.specs.Library.{Byte, Card, Library, history, deck_cards, joined, stream, name_at, deck_names, reserved}
use Rattle.library.specs.Yanks.{active, yanked, is_yank, targets}
use Rattle.library.specs.Image.{within_limits}
use Rattle.library.specs.Check.{ok_target}
use Rattle.library.specs.Growth.{count, NewCard}
use Rattle.library.specs.Sound.{no_two, is_entry, never_falls, same_card, SoundCard, BeginsNoDeck, names_lower_sets, SoundDeck, Sound}
use Rattle.library.proofs.EachTest.{each_map, each-of-map, each-under-map, and_parts}
use Rattle.library.proofs.AppendedLists.{map-append}
use Rattle.library.proofs.NoTwo.{no-two-map}
use Rattle.library.proofs.GrowthSteps.{with_byte}
use Rattle.library.proofs.YankTargets.{card-numbers}
use Rattle.run_meaning.specs.Safe.{key, Free, Begun}
use Rattle.run_meaning.specs.Step.{unit_number, with_yanks, with_decks, change_at, marked, over_range, number_at, mark_in}
use Rattle.run_meaning.proofs.ChangedParts.{each-range, keys-range, each-change, numbers-change, keys-change}

-- ONE CARD
module _ (yk : ℕ → Bool) (was : Bool) (n : ℕ) where
  mark-case : (P : Card → Type 0) (c : Card) → P c → P (with_byte (record { number = n; activating = not was }) c) → P (marked yk was n c)
  mark-case P c p q = go (beq (active yk c) was)
    where
      go : (b : Bool) → P (if b then with_byte (record { number = n; activating = not was }) c else c)
      go true = q
      go false = p

  mark-key : (c : Card) → key (marked yk was n c) ≡ key c
  mark-key c = mark-case (λ d. key d ≡ key c) c refl refl

-- the last number of a history that never falls may be repeated or passed
falls-end : (m n : ℕ) (a : Bool) (bs : List Byte) → m ≤ n → Each (λ b. b.number ≤ n) bs → T (never_falls m bs) → T (never_falls m (bs ++ (record { number = n; activating = a } ∷ [])))
falls-end m n a [] le h t = and_both (leb m n) true (le→leb m n le) tt
falls-end m n a (b ∷ bs) le h t =
    let q = and_parts (leb m b.number) (never_falls b.number bs) t in
    and_both (leb m b.number) (never_falls b.number (bs ++ (record { number = n; activating = a } ∷ []))) q.0 (falls-end b.number n a bs h.0 h.1 q.1)

byte-sound : (directory : List ℕ) (a : Bool) → T (is_entry directory (length directory)) → (c : Card) → SoundCard directory c
    → SoundCard directory (with_byte (record { number = length directory; activating = a }) c)
byte-sound directory a t c s =
    let n : NewCard 0 (length directory) c = card-numbers directory c s in record {
      line = s.line;
      numbered = s.numbered;
      fits = s.fits;
      named = all_append (λ b. is_entry directory b.number) (history c) (record { number = length directory; activating = a } ∷ []) s.named
          (and_both (is_entry directory (length directory)) true t tt);
      rises = falls-end c.owner (length directory) a c.later n.0.1 (each_map _ _ (λ b r. r.1) c.later n.1) s.rises;
    }

-- A LIBRARY: cards of one part are marked
module _ (l : Library) (was : Bool) (i j : ℕ) (s : Sound l) (t : T (is_entry l.directory (count l))) where
  abbrev marks : ℕ → List Card → List Card
  marks deck cs = over_range (marked (yanked l deck) was (unit_number l)) i j cs

  marks-each : (deck : ℕ) (P : Card → Type 0) → ((c : Card) → P c → P (with_byte (record { number = unit_number l; activating = not was }) c)) → (cs : List Card) → Each P cs → Each P (marks deck cs)
  marks-each deck P f cs h = each-range P (marked (yanked l deck) was (unit_number l)) (λ c p. mark-case (yanked l deck) was (unit_number l) P c p (f c p)) i j cs h

  marks-keys : (deck : ℕ) (cs : List Card) → map key (marks deck cs) ≡ map key cs
  marks-keys deck cs = keys-range (marked (yanked l deck) was (unit_number l)) (mark-key (yanked l deck) was (unit_number l)) i j cs

  marks-sound : (deck : ℕ) (cs : List Card) → Each (SoundCard l.directory) cs → Each (SoundCard l.directory) (marks deck cs)
  marks-sound deck cs h = marks-each deck (SoundCard l.directory) (byte-sound l.directory (not was) t) cs h

  abbrev yanks_marked : Library
  yanks_marked = with_yanks l (marks 0 l.yanks)

  abbrev deck_marked : ℕ → Library
  deck_marked k = with_decks l (change_at (marks (number_at l.decks k)) k l.decks)

  yanks-keys : map key (stream yanks_marked) ≡ map key (stream l)
  unfolding stream
  yanks-keys =
      map-append key (marks 0 l.yanks) (joined (map deck_cards l.decks))
      ∙ ap (λ (r : List (ℕ × ℕ)). r ++ map key (joined (map deck_cards l.decks))) (marks-keys 0 l.yanks)
      ∙ sym (map-append key l.yanks (joined (map deck_cards l.decks)))

  deck-keys : (k : ℕ) → map key (stream (deck_marked k)) ≡ map key (stream l)
  unfolding stream
  deck-keys k =
      map-append key l.yanks (joined (map deck_cards (change_at (marks (number_at l.decks k)) k l.decks)))
      ∙ ap (λ (r : List (ℕ × ℕ)). map key l.yanks ++ r) (keys-change (marks (number_at l.decks k)) (marks-keys (number_at l.decks k)) k l.decks)
      ∙ sym (map-append key l.yanks (joined (map deck_cards l.decks)))

  abbrev same_key : (ℕ × ℕ) → (ℕ × ℕ) → Bool
  same_key a b = eqb a.0 b.0 && eqb a.1 b.1

  -- identifiers decide whether two cards share both
  once-keys : (cs : List Card) → map key cs ≡ map key (stream l) → T (no_two same_card cs)
  once-keys cs e =
      subst (λ (b : Bool). T b) (sym (no-two-map same_key key (stream l)) ∙ ap (no_two same_key) (sym e) ∙ no-two-map same_key key cs) s.once

  deck-names-kept : (k : ℕ) → deck_names (deck_marked k) ≡ deck_names l
  unfolding deck_names
  deck-names-kept k = ap {B = List ℕ} (λ r. reserved ∷ r) (numbers-change (marks (number_at l.decks k)) (name_at l.directory) k l.decks)

  yanks-marked : T (within_limits yanks_marked) → Sound yanks_marked
  unfolding deck_names
  yanks-marked w = record {
    limits = w;
    entries = s.entries;
    names = s.names;
    yanks = marks-sound 0 l.yanks s.yanks;
    others = marks-each 0 BeginsNoDeck (λ c p. p) l.yanks s.others;
    lower = marks-each 0 (λ c. T (names_lower_sets l c)) (λ c p. p) l.yanks s.lower;
    decks = s.decks;
    differ = s.differ;
    once = once-keys (stream yanks_marked) yanks-keys;
  }

  deck-marked : (k : ℕ) → T (within_limits (deck_marked k)) → Sound (deck_marked k)
  deck-marked k w = record {
    limits = w;
    entries = s.entries;
    names = s.names;
    yanks = s.yanks;
    others = s.others;
    lower = subst (λ (ws : List ℕ). Each (λ c. T (is_yank (directive c.line) && all (ok_target l.directory ws c.owner) (targets l.directory c.line))) l.yanks) (sym (deck-names-kept k)) s.lower;
    decks = each-change (marks (number_at l.decks k)) (SoundDeck l.directory) (λ d h. record {
      title = h.title;
      first = h.first;
      cards = marks-sound (number_at l.decks k) d.cards h.cards;
      others = marks-each (number_at l.decks k) BeginsNoDeck (λ c p. p) d.cards h.others;
    }) k l.decks s.decks;
    differ = subst (λ (ns : List ℕ). T (no_two eqb ns)) (sym (numbers-change (marks (number_at l.decks k)) (λ n. n) k l.decks)) s.differ;
    once = once-keys (stream (deck_marked k)) (deck-keys k);
  }

-- part p: YANK$$$ or a deck
pub mark-sound : (l : Library) (was : Bool) (p i j : ℕ) → Sound l → T (is_entry l.directory (count l)) → T (within_limits (mark_in l was p i j)) → Sound (mark_in l was p i j)
mark-sound l was zero i j s t w = yanks-marked l was i j s t w
mark-sound l was (suc k) i j s t w = deck-marked l was (i - 1) (j - 1) s t k w

-- the unit goes on as it was
begun-keys : (l new : Library) (next : ℕ) → new.directory ≡ l.directory → map key (stream new) ≡ map key (stream l) → Begun l next → Begun new next
begun-keys l new next e k b =
    let c : count new ≡ count l = ap length e in
    let n : length (stream new) ≡ length (stream l) = sym (length-map (stream new) key) ∙ ap length k ∙ length-map (stream l) key in
    let le : next ≤ suc (length (stream l)) = b.fits in record {
      named = subst (λ (d : List ℕ). T (is_entry d (length d))) (sym e) b.named;
      first = b.first;
      fits = omega arith;
      free = each-under-map (Free (count new) next) key (stream new)
          (subst (λ (ks : List (ℕ × ℕ)). Each (Free (count new) next) ks) (sym k)
          (each-of-map (Free (count new) next) key (stream l) (each_map _ _ (λ x f h. f (h ∙ c)) (stream l) b.free)));
    }

pub mark-begun : (l : Library) (was : Bool) (p i j next : ℕ) → Sound l → Begun l next → Begun (mark_in l was p i j) next
mark-begun l was zero i j next s b = begun-keys l (mark_in l was zero i j) next refl (yanks-keys l was i j s b.named) b
mark-begun l was (suc k) i j next s b = begun-keys l (mark_in l was (suc k) i j) next refl (deck-keys l was (i - 1) (j - 1) s b.named k) b
