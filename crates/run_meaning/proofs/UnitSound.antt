-- A unit's first line keeps the library sound: its name is new, so no card has its number.
use Prim.Native.Nat.{ℕ, suc, ◌≤◌}
use native.Mathlib.Omega.{arith}
use mathlib.Core.Path.{◌≡◌, refl, sym, ap, ◌∙◌, subst}
use mathlib.Core.Bool.{Bool, true, false, ◌&&◌, ◌||◌, not}
use mathlib.Core.List.{List, [], ◌∷◌, ◌++◌, map}
use lib.Dec.{T, eqb, eqb→eq, eqb_refl, T_not, not_T, lit≤}
use lib.ListN.{length, length-append}
use Rattle.words.specs.Base.{all, member}
use Rattle.words.specs.Names.{is_name_word}
use Rattle.words.proofs.TestParts.{and_both}
use Rattle.words_lines.specs.Directive.{directive}
use Rattle.library.specs.Each.{Each}
use Rattle.library.specs.Library.{Card, Deck, Library, deck_of, deck_line, deck_card, stream, name_at, entry_of, deck_names, reserved}
use Rattle.library.specs.Yanks.{is_yank, targets}
use Rattle.library.specs.Image.{within_limits}
use Rattle.library.specs.Check.{ok_target}
use Rattle.library.specs.Growth.{count}
use Rattle.library.specs.Sound.{no_two, sound_line, is_entry, same_card, SoundCard, names_lower_sets, SoundDeck, Sound}
use Rattle.library.proofs.EachTest.{each_map, each_two, each-of-map, and_parts, each_all}
use Rattle.library.proofs.AppendedLists.{each_append, any_append, map-append}
use Rattle.library.proofs.AnyAndAll.{all-member}
use Rattle.library.proofs.NoTwo.{same_turn}
use Rattle.library.proofs.StreamCards.{each-stream}
use Rattle.library.proofs.EntryNames.{not-purged}
use Rattle.library.proofs.InsertedElement.{Inserted, inserted-each, inserted-length, inserted-left, inserted-end, inserted-no-two}
use Rattle.library.proofs.YankTargets.{card-numbers, deck-number}
use Rattle.library.proofs.NameAtEnd.{name-end, named_end, entry-none, names-end, entries-end, card-append, deck-append, deck-names-append, yank-append}
use Rattle.run_meaning.specs.Safe.{key, Free, Begun}
use Rattle.run_meaning.specs.Step.{with_decks, with_entry}
use Rattle.run_meaning.proofs.ChangedParts.{inserted-deck}

-- every card has a number of the directory
owners : (l : Library) → Sound l → Each (λ c. c.owner ≤ count l) (stream l)
owners l s =
    each-stream (λ c. c.owner ≤ count l) l (each_map _ _ own l.yanks s.yanks)
    (each_map _ _ (λ d h. (own (deck_card d) h.first, each_map _ _ own d.cards h.cards)) l.decks s.decks)
  where
    own : (c : Card) → SoundCard l.directory c → c.owner ≤ count l
    own c h = (card-numbers l.directory c h).0.1

module _ (l : Library) (w : ℕ) (s : Sound l) (n : T (is_name_word w)) (r : T (not (eqb w reserved))) (e : entry_of l.directory w ≡ 0) where
  abbrev directory : List ℕ
  directory = l.directory ++ (w ∷ [])

  count-end : length directory ≡ suc (count l)
  count-end = length-append l.directory (w ∷ []) ∙ omega arith

  -- cards of YANK$$$, under a deck list in which no more of the old names stand
  lower-end : (longer : List ℕ) → ((x : ℕ) → T (member x l.directory) → T (not (member x (deck_names l))) → T (not (member x longer)))
      → Each (λ c. T (is_yank (directive c.line) && all (ok_target directory longer c.owner) (targets directory c.line))) l.yanks
  lower-end longer f =
      each_two (SoundCard l.directory) (λ c. T (names_lower_sets l c)) _
      (λ c h t. yank-append l.directory (w ∷ []) (deck_names l) longer c (card-numbers l.directory c h).0.1 f t) l.yanks s.yanks s.lower

  -- IDENT
  ident-names : deck_names (with_entry l w) ≡ deck_names l
  unfolding deck_names
  ident-names = ap {B = List ℕ} (λ x. reserved ∷ x) (deck-names-append l.directory (w ∷ []) l.decks s.decks)

  pub ident-sound : T (within_limits (with_entry l w)) → Sound (with_entry l w)
  unfolding stream
  ident-sound lim = record {
    limits = lim;
    entries = entries-end l.directory w n r s.entries;
    names = names-end l.directory w e s.names;
    yanks = each_map _ _ (card-append l.directory (w ∷ [])) l.yanks s.yanks;
    others = s.others;
    lower = lower-end (deck_names (with_entry l w)) (λ x m t. subst (λ (ws : List ℕ). T (not (member x ws))) (sym ident-names) t);
    decks = each_map _ _ (deck-append l.directory (w ∷ [])) l.decks s.decks;
    differ = s.differ;
    once = s.once;
  }

  named_new : T (is_entry directory (length directory))
  named_new = subst (λ (k : ℕ). T (is_entry directory k)) (sym count-end) (named_end l.directory w (not-purged w n))

  pub ident-begun : Begun (with_entry l w) 1
  unfolding stream
  ident-begun = record {
    named = named_new;
    first = omega arith;
    fits = omega arith;
    free = each_map _ _ (λ c le h. absurd (omega (arith, count-end))) (stream l) (owners l s);
  }

  -- DECK, COMDECK
  module _ (common : Bool) (line : List ℕ) (sl : T (sound_line line)) (title : deck_line line ≡ deck_of common w) where
    abbrev deck : Deck
    deck = record { number = suc (count l); common = common; line = line; cards = [] }

    abbrev pub decked : Library
    decked = with_entry (with_decks l (l.decks ++ (deck ∷ []))) w

    deck-inserted : Inserted (deck_card deck) (stream l) (stream decked)
    unfolding stream
    deck-inserted = inserted-left (deck_card deck) l.yanks (inserted-deck deck refl l.decks)

    names-longer : deck_names decked ≡ deck_names l ++ (w ∷ [])
    unfolding deck_names
    names-longer =
        ap {B = List ℕ} (λ x. reserved ∷ x)
        (map-append (λ d. name_at directory d.number) l.decks (deck ∷ [])
        ∙ (λ i. deck-names-append l.directory (w ∷ []) l.decks s.decks i ++ (name-end l.directory w i ∷ [])))

    -- no old name is the new one
    not-longer : (x : ℕ) → T (member x l.directory) → T (not (member x (deck_names l))) → T (not (member x (deck_names l ++ (w ∷ []))))
    not-longer x m t =
        subst (λ (b : Bool). T (not b)) (sym (any_append (eqb x) (deck_names l) (w ∷ [])))
        (go (member x (deck_names l)) (eqb x w) t (λ u. T_not (eqb w x) other (subst (λ (y : ℕ). T (eqb w y)) (sym (eqb→eq x w u)) (eqb_refl w))))
      where
        other : T (not (eqb w x))
        other = all-member (λ y. not (eqb w y)) l.directory x m (each_all (λ y. not (eqb w y)) l.directory (entry-none l.directory w e))

        go : (a b : Bool) → T (not a) → (T b → ⊥) → T (not (a || (b || false)))
        go true b u f = absurd u
        go false true u f = absurd (f tt)
        go false false u f = tt

    deck-first : SoundCard directory (deck_card deck)
    deck-first = record {
      line = sl;
      numbered = omega arith;
      fits = lit≤ tt;
      named = and_both (is_entry directory (suc (count l))) true (subst (λ (k : ℕ). T (is_entry directory k)) count-end named_new) tt;
      rises = tt;
    }

    pub deck-sound : T (within_limits decked) → Sound decked
    deck-sound lim = record {
      limits = lim;
      entries = entries-end l.directory w n r s.entries;
      names = names-end l.directory w e s.names;
      yanks = each_map _ _ (card-append l.directory (w ∷ [])) l.yanks s.yanks;
      others = s.others;
      lower = lower-end (deck_names decked) (λ x m t. subst (λ (ws : List ℕ). T (not (member x ws))) (sym names-longer) (not-longer x m t));
      decks = each_append (SoundDeck directory) l.decks (deck ∷ []) (each_map _ _ (deck-append l.directory (w ∷ [])) l.decks s.decks)
          (record { title = title ∙ ap (deck_of common) (sym (name-end l.directory w)); first = deck-first; cards = tt; others = tt }, tt);
      differ = subst (λ (ns : List ℕ). T (no_two eqb ns)) (sym (map-append (λ d. d.number) l.decks (deck ∷ [])))
          (inserted-no-two (suc (count l)) eqb flip (inserted-end (suc (count l)) (map (λ d. d.number) l.decks))
          (each-of-map (λ k. T (not (eqb (suc (count l)) k))) (λ d. d.number) l.decks
          (each_map _ _ (λ d h. not_T (eqb (suc (count l)) d.number) (λ t. high d h (eqb→eq (suc (count l)) d.number t))) l.decks s.decks)) s.differ);
      once = inserted-no-two (deck_card deck) same_card same_turn deck-inserted
          (each_map _ _ (λ c le. not_T (same_card (deck_card deck) c) (λ t. above c le (and_parts (eqb (suc (count l)) c.owner) (eqb 1 c.seq) t).0)) (stream l) (owners l s)) s.once;
    }
      where
        flip : (a b : ℕ) → T (eqb a b) → T (eqb b a)
        flip a b u = subst (λ (x : ℕ). T (eqb x a)) (eqb→eq a b u) (eqb_refl a)

        high : (d : Deck) → SoundDeck l.directory d → suc (count l) ≡ d.number → ⊥
        high d h q = omega (arith, (deck-number l.directory d h).1)

        above : (c : Card) → c.owner ≤ count l → T (eqb (suc (count l)) c.owner) → ⊥
        above c le t = let q : suc (count l) ≡ c.owner = eqb→eq (suc (count l)) c.owner t in omega arith

    pub deck-begun : Begun decked 2
    deck-begun = record {
      named = named_new;
      first = omega arith;
      fits = omega (arith, inserted-length (deck_card deck) deck-inserted);
      free = inserted-each (deck_card deck) (λ c. Free (length directory) 2 (key c)) deck-inserted (λ _. omega arith)
          (each_map _ _ (λ c le h. absurd (omega (arith, count-end))) (stream l) (owners l s));
    }
