-- A card that a unit puts in keeps the library sound: its sequence number is one that no card of it has.
use Prim.Native.Nat.{ℕ, suc, ◌≤◌, ◌<◌}
use native.Mathlib.Omega.{arith}
use mathlib.Core.Path.{◌≡◌, sym, ap, ◌∙◌, subst}
use mathlib.Core.Bool.{true, ◌&&◌, not}
use mathlib.Core.List.{List, [], ◌∷◌, ◌++◌, map}
use lib.Dec.{T, eqb, eqb→eq, leb→le, not_T}
use lib.ListN.{length}
use Rattle.words.specs.Base.{all}
use Rattle.words.proofs.TestParts.{and_both}
use Rattle.words_lines.specs.Directive.{directive}
use Rattle.library.specs.Each.{Each}
use Rattle.library.specs.Library.{Card, Deck, Library, not_deck, deck_line, deck_cards, joined, stream, name_at, deck_names, reserved}
use Rattle.library.specs.Yanks.{is_yank, targets}
use Rattle.library.specs.Image.{limit_tests, within_limits}
use Rattle.library.specs.Check.{ok_target}
use Rattle.library.specs.Growth.{count}
use Rattle.library.specs.Sound.{no_two, sound_line, is_entry, same_card, SoundCard, BeginsNoDeck, names_lower_sets, SoundDeck, Sound}
use Rattle.library.proofs.EachTest.{each_map, and_parts, all_of-each}
use Rattle.library.proofs.AppendedLists.{each_append}
use Rattle.library.proofs.NoTwo.{same_turn}
use Rattle.library.proofs.InsertedElement.{Inserted, inserted-each, inserted-length, inserted-left, inserted-right, inserted-at, inserted-end, inserted-no-two}
use Rattle.run_meaning.specs.Safe.{key, Free, Begun}
use Rattle.run_meaning.specs.Step.{with_yanks, with_decks, with_cards, change_at, put_in}
use Rattle.run_meaning.proofs.ChangedParts.{each-change, numbers-change, inserted-change}

stream-short : (l : Library) → T (within_limits l) → length (stream l) ≤ 16383
unfolding within_limits
stream-short l t = leb→le (length (stream l)) 16383 (all_of-each (limit_tests l) t).1.1.0

-- a new card of the unit
module _ (l : Library) (next : ℕ) (line : List ℕ) (s : Sound l) (b : Begun l next) where
  abbrev pub made : Card
  made = record { line = line; seq = next; owner = count l; later = [] }

  made-sound : T (sound_line line) → SoundCard l.directory made
  made-sound t =
      let short : length (stream l) ≤ 16383 = stream-short l s.limits in
      let le : next ≤ suc (length (stream l)) = b.fits in record {
        line = t;
        numbered = b.first;
        fits = omega arith;
        named = and_both (is_entry l.directory (count l)) true b.named tt;
        rises = tt;
      }

  made-unlike : Each (λ c. T (not (same_card made c))) (stream l)
  made-unlike = each_map _ _ (λ c f. not_T (same_card made c) (λ t. differs c f t)) (stream l) b.free
    where
      differs : (c : Card) → Free (count l) next (key c) → T (same_card made c) → ⊥
      differs c f t =
          let q = and_parts (eqb (count l) c.owner) (eqb next c.seq) t in
          let e : next ≡ c.seq = eqb→eq next c.seq q.1 in
          let h : c.seq < next = f (sym (eqb→eq (count l) c.owner q.0)) in
          omega arith

  once_more : (cs : List Card) → Inserted made (stream l) cs → T (no_two same_card cs)
  once_more cs r = inserted-no-two made same_card same_turn r made-unlike s.once

  -- new is l with that card put in
  pub begun_more : (new : Library) → new.directory ≡ l.directory → Inserted made (stream l) (stream new) → Begun new (suc next)
  begun_more new e r =
      let c : count new ≡ count l = ap length e in
      let n : length (stream new) ≡ suc (length (stream l)) = inserted-length made r in
      let le : next ≤ suc (length (stream l)) = b.fits in record {
        named = subst (λ (d : List ℕ). T (is_entry d (length d))) (sym e) b.named;
        first = omega arith;
        fits = omega arith;
        free = inserted-each made (λ x. Free (count new) (suc next) (key x)) r (λ _. omega arith)
            (each_map _ _ (λ x f h. let lt : x.seq < next = f (h ∙ c) in omega arith) (stream l) b.free);
      }

-- TEXT: into deck k
module _ (l : Library) (next : ℕ) (line : List ℕ) (s : Sound l) (b : Begun l next) (k i : ℕ) (lt : k < length l.decks) (t : T (sound_line line)) (o : deck_line line ≡ not_deck) where
  abbrev pub card : Card
  card = made l next line s b

  abbrev pub texted : Library
  texted = with_decks l (change_at (put_in i card) k l.decks)

  pub text-inserted : Inserted card (stream l) (stream texted)
  unfolding stream
  text-inserted = inserted-left card l.yanks (inserted-change card i k l.decks lt)

  text-names : deck_names texted ≡ deck_names l
  unfolding deck_names
  text-names = ap {B = List ℕ} (λ r. reserved ∷ r) (numbers-change (put_in i card) (name_at l.directory) k l.decks)

  text-deck : (d : Deck) → SoundDeck l.directory d → SoundDeck l.directory (with_cards (put_in i card) d)
  text-deck d h = record {
    title = h.title;
    first = h.first;
    cards = inserted-each card (SoundCard l.directory) (inserted-at card i d.cards) (made-sound l next line s b t) h.cards;
    others = inserted-each card BeginsNoDeck (inserted-at card i d.cards) o h.others;
  }

  pub text-sound : T (within_limits texted) → Sound texted
  text-sound w = record {
    limits = w;
    entries = s.entries;
    names = s.names;
    yanks = s.yanks;
    others = s.others;
    lower = subst (λ (ws : List ℕ). Each (λ c. T (is_yank (directive c.line) && all (ok_target l.directory ws c.owner) (targets l.directory c.line))) l.yanks) (sym text-names) s.lower;
    decks = each-change (put_in i card) (SoundDeck l.directory) text-deck k l.decks s.decks;
    differ = subst (λ (ns : List ℕ). T (no_two eqb ns)) (sym (numbers-change (put_in i card) (λ n. n) k l.decks)) s.differ;
    once = once_more l next line s b (stream texted) text-inserted;
  }

-- YANK: at the end of YANK$$$
module _ (l : Library) (next : ℕ) (line : List ℕ) (s : Sound l) (b : Begun l next) (t : T (sound_line line)) (o : deck_line line ≡ not_deck)
    (y : T (is_yank (directive line) && all (ok_target l.directory (deck_names l) (count l)) (targets l.directory line))) where
  abbrev pub yank_card : Card
  yank_card = made l next line s b

  abbrev pub yanked_lib : Library
  yanked_lib = with_yanks l (l.yanks ++ (yank_card ∷ []))

  pub yank-inserted : Inserted yank_card (stream l) (stream yanked_lib)
  unfolding stream
  yank-inserted = inserted-right yank_card (joined (map deck_cards l.decks)) (inserted-end yank_card l.yanks)

  pub yank-sound : T (within_limits yanked_lib) → Sound yanked_lib
  unfolding deck_names
  yank-sound w = record {
    limits = w;
    entries = s.entries;
    names = s.names;
    yanks = each_append (SoundCard l.directory) l.yanks (yank_card ∷ []) s.yanks (made-sound l next line s b t, tt);
    others = each_append BeginsNoDeck l.yanks (yank_card ∷ []) s.others (o, tt);
    lower = each_append (λ c. T (names_lower_sets l c)) l.yanks (yank_card ∷ []) s.lower (y, tt);
    decks = s.decks;
    differ = s.differ;
    once = once_more l next line s b (stream yanked_lib) yank-inserted;
  }
