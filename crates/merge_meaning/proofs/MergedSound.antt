-- M1: the merge of two sound libraries without a common name is sound. Numbers of the first are at most its count and those of the second above it, so
-- no card, deck or name of one is like one of the other.
use Prim.Native.Nat.{ℕ, ◌+◌, ◌≤◌, ◌<◌}
use native.Mathlib.Omega.{arith}
use mathlib.Core.Path.{◌≡◌, refl, sym, ap, ap₂, ◌∙◌, subst}
use mathlib.Core.Bool.{Bool, true, false, ◌&&◌, ◌||◌, not}
use mathlib.Core.List.{List, [], ◌∷◌, ◌++◌, map}
use mathlib.Core.Option.{none}
use lib.Dec.{T, eqb, eqb→eq, eqb_refl, T_not, not_T}
use lib.ListN.{length}
use Rattle.words.specs.Base.{member}
use Rattle.words.proofs.TestParts.{all_append}
use Rattle.library.specs.Each.{Each}
use Rattle.library.specs.Library.{Card, Deck, Library, stream, name_at, deck_names, reserved, purged}
use Rattle.library.specs.Growth.{Within}
use Rattle.library.specs.Image.{within_limits}
use Rattle.library.specs.Sound.{no_two, is_entry, sound_entry, same_name, same_card, SoundCard, BeginsNoDeck, names_lower_sets, SoundDeck, Sound}
use Rattle.library.proofs.EachTest.{each_map, each_two, each-of-map, and_parts}
use Rattle.library.proofs.AppendedLists.{each_append, any_append, map-append}
use Rattle.library.proofs.AnyAndAll.{or-either}
use Rattle.library.proofs.NoTwo.{no-two-map, no-two-less}
use Rattle.library.proofs.EntryNames.{is-named, name-member}
use Rattle.library.proofs.RowsBack.{deck-named}
use Rattle.library.proofs.YankTargets.{card-numbers, deck-number}
use Rattle.library.proofs.NameAtEnd.{card-append, deck-append, deck-names-append, yank-append}
use Rattle.library.proofs.NoTwo.{same_turn}
use Rattle.library_raise.specs.RaisedCards.{raise_card, raise_deck}
use Rattle.merge_meaning.specs.Merge.{merge, shared_name}
use Rattle.library.specs.Library.{has_name}
use Rattle.merge_meaning.specs.Merged.{MergeSound}
use Rattle.library.proofs.NumbersBeyond.{name-beyond}
use Rattle.library.proofs.AnyAndAll.{each_member, members-each}
use Rattle.library.proofs.TableRows.{place_none}
use Rattle.merge_meaning.proofs.NamesApart.{Apart, not_first}
use Rattle.merge_meaning.proofs.RaisedStaysSound.{eqb-raise, cards-raise, others-raise, deck-raise, yank-raise}
use Rattle.library.proofs.NoTwo.{Across, no-two-append, across-all, no-two-four}
use Rattle.library.proofs.StreamCards.{stream-sound}
use Rattle.merge_meaning.proofs.MergedStream.{in_decks, stream-merge, stream-raise}

-- THE DECK LIST
abbrev pub names_in : List ℕ → List Deck → List ℕ
names_in directory ds = map (λ d. name_at directory d.number) ds

pub names-raise : (first second : List ℕ) (ds : List Deck) → Each (SoundDeck second) ds → names_in (first ++ second) (map (raise_deck (length first)) ds) ≡ names_in second ds
names-raise first second [] h = refl
names-raise first second (d ∷ ds) h =
    ap₂ {C = List ℕ} ◌∷◌ (name-beyond first second d.number (deck-number second d h.0).0) (names-raise first second ds h.1)

pub deck-names-merge : (l m : Library) → Sound l → Sound m → deck_names (merge l m) ≡ deck_names l ++ names_in m.directory m.decks
unfolding deck_names
deck-names-merge l m s t =
    let both : List ℕ = l.directory ++ m.directory in
    ap {B = List ℕ} (λ ns. reserved ∷ ns)
    (map-append (λ d. name_at both d.number) l.decks (map (raise_deck (length l.directory)) m.decks)
    ∙ ap₂ (λ (a b : List ℕ). a ++ b) (deck-names-append l.directory m.directory l.decks s.decks) (names-raise l.directory m.directory m.decks t.decks))

-- the name of a deck is one of the directory's, and not purged
pub real-names : (l : Library) → Sound l → Each (λ w. T (member w l.directory) × (w ≡ purged → ⊥)) (names_in l.directory l.decks)
real-names l s = each-of-map _ (λ d. name_at l.directory d.number) l.decks (each_map _ _ real l.decks s.decks)
  where
    real : (d : Deck) → SoundDeck l.directory d → T (member (name_at l.directory d.number) l.directory) × (name_at l.directory d.number ≡ purged → ⊥)
    real d h =
        let at : T (is_entry l.directory d.number) = deck-named l.directory d h in
        let w : ℕ = name_at l.directory d.number in (
          name-member l.directory s.names d.number at,
          λ e. T_not (eqb w purged) (is-named l.directory d.number at).named (subst (λ (x : ℕ). T (eqb w x)) e (eqb_refl w)),
        )

member-or : (x : ℕ) (xs ys : List ℕ) → T (not (member x xs)) → (T (member x ys) → ⊥) → T (not (member x (xs ++ ys)))
member-or x xs ys t f =
    not_T (member x (xs ++ ys)) (λ u. or-either (member x xs) (member x ys) (T_not (member x xs) t) f (subst (λ (b : Bool). T b) (any_append (eqb x) xs ys) u))

module _ (l m : Library) (s : Sound l) (t : Sound m) (none-shared : shared_name l m ≡ none) where
  abbrev first : List ℕ
  first = l.directory

  abbrev second : List ℕ
  second = m.directory

  abbrev k : ℕ
  k = length first

  pub apart : Apart first second
  apart = place_none (has_name first) 2 second none-shared

  -- names of the one are no decks of the other
  pub first-free : (x : ℕ) → T (member x first) → T (not (member x (deck_names l))) → T (not (member x (deck_names (merge l m))))
  first-free x here free =
      subst (λ (ns : List ℕ). T (not (member x ns))) (sym (deck-names-merge l m s t))
      (member-or x (deck_names l) (names_in second m.decks) free
      (λ u. let q = each_member _ (names_in second m.decks) x u (real-names m t) in T_not (member x first) (not_first first second apart x q.1 q.0) here))

  pub second-free : (x : ℕ) → T (member x second) → T (not (member x (deck_names m))) → T (not (member x (deck_names (merge l m))))
  unfolding deck_names
  second-free x here free =
      let ns : List ℕ = names_in first l.decks in
      let ms : List ℕ = names_in second m.decks in
      let off : T (member x (reserved ∷ ns)) → ⊥ =
      or-either (eqb x reserved) (member x ns) (λ u. T_not (member x (deck_names m)) free (title (eqb x reserved) u))
      (λ u. let q = each_member _ ns x u (real-names l s) in T_not (member x first) (not_first first second apart x q.1 here) q.0) in
      subst (λ (ws : List ℕ). T (not (member x ws))) (sym (deck-names-merge l m s t))
      (member-or x (reserved ∷ ns) ms (not_T (member x (reserved ∷ ns)) off) (λ u. T_not (member x (deck_names m)) free (also (eqb x reserved) u)))
    where
      title : (a : Bool) → T a → T (a || member x (names_in second m.decks))
      title true u = tt
      title false u = absurd u

      also : (a : Bool) → T (member x (names_in second m.decks)) → T (a || member x (names_in second m.decks))
      also true u = tt
      also false u = u

  lower-both : Each (λ c. T (names_lower_sets (merge l m) c)) (l.yanks ++ map (raise_card k) m.yanks)
  lower-both =
      each_append (λ c. T (names_lower_sets (merge l m) c)) l.yanks (map (raise_card k) m.yanks)
      (each_two (SoundCard first) (λ c. T (names_lower_sets l c)) _
      (λ c h u. yank-append first second (deck_names l) (deck_names (merge l m)) c (card-numbers first c h).0.1 first-free u) l.yanks s.yanks s.lower)
      (each-of-map (λ c. T (names_lower_sets (merge l m) c)) (raise_card k) m.yanks
      (each_two (SoundCard second) (λ c. T (names_lower_sets m c)) _
      (λ c h u. yank-raise first second apart (deck_names m) (deck_names (merge l m)) c (card-numbers second c h).0.1 second-free u) m.yanks t.yanks t.lower))

  -- no name, deck or card twice
  names-once : T (no_two same_name (first ++ second))
  names-once =
      no-two-append same_name first second s.names t.names
      (across-all same_name (λ x. T (member x first)) (λ y. T (member y second)) unlike first second (members-each _ first (λ x u. u)) (members-each _ second (λ x u. u)))
    where
      unlike : (x y : ℕ) → T (member x first) → T (member y second) → T (not (same_name x y))
      unlike x y p q =
          not_T (same_name x y)
          (λ u. let r = and_parts (eqb x y) (not (eqb x purged)) u in
          let ne : x ≡ purged → ⊥ = λ e. T_not (eqb x purged) r.1 (subst (λ (z : ℕ). T (eqb x z)) e (eqb_refl x)) in
          T_not (member x first) (not_first first second apart x ne (subst (λ (z : ℕ). T (member z second)) (sym (eqb→eq x y r.0)) q)) p)

  abbrev number : Deck → ℕ
  number d = d.number

  eqb_apart : (x y : ℕ) → x ≤ k → k < y → T (not (eqb x y))
  eqb_apart x y p q = not_T (eqb x y) (λ u. let e : x ≡ y = eqb→eq x y u in omega arith)

  numbers-once : T (no_two eqb (map number (l.decks ++ map (raise_deck k) m.decks)))
  numbers-once =
      let xs : List ℕ = map number l.decks in
      let ys : List ℕ = map number (map (raise_deck k) m.decks) in
      subst (λ (ns : List ℕ). T (no_two eqb ns)) (sym (map-append number l.decks (map (raise_deck k) m.decks)))
      (no-two-append eqb xs ys s.differ again
      (across-all eqb (λ x. x ≤ k) (λ y. k < y) eqb_apart xs ys
      (each-of-map (λ x. x ≤ k) number l.decks (each_map _ _ (λ d h. (deck-number first d h).1) l.decks s.decks))
      (each-of-map (λ y. k < y) number (map (raise_deck k) m.decks)
      (each-of-map (λ d. k < d.number) (raise_deck k) m.decks (each_map _ _ (λ d h. above d (deck-number second d h)) m.decks t.decks)))))
    where
      above : (d : Deck) → Within 0 (length second) d.number → k < k + d.number
      above d w = let pos : 0 < d.number = w.0 in omega arith

      again : T (no_two eqb (map number (map (raise_deck k) m.decks)))
      again =
          subst (λ (b : Bool). T b) (sym (no-two-map eqb number (map (raise_deck k) m.decks) ∙ no-two-map (λ x y. eqb x.number y.number) (raise_deck k) m.decks))
          (no-two-less (λ d. Unit {0}) (λ x y. eqb x.number y.number) (λ x y. eqb (k + x.number) (k + y.number))
          (λ x y p q u. subst (λ (b : Bool). T b) (eqb-raise k x.number y.number) u) m.decks (each_map _ _ (λ d h. tt) m.decks t.decks)
          (subst (λ (b : Bool). T b) (no-two-map eqb number m.decks) t.differ))

  cards-once : T (no_two same_card (stream (merge l m)))
  unfolding stream
  cards-once =
      let a : List Card = l.yanks in
      let b : List Card = map (raise_card k) m.yanks in
      let c : List Card = in_decks l in
      let d : List Card = map (raise_card k) (in_decks m) in
      subst (λ (cs : List Card). T (no_two same_card cs)) (sym (stream-merge l m))
      (no-two-four same_card same_turn a b c d s.once (subst (λ (cs : List Card). T (no_two same_card cs)) (sym (stream-raise k m)) again)
      (subst (λ (cs : List Card). Across same_card (stream l) cs) (sym (stream-raise k m))
      (across-all same_card (λ x. x.owner ≤ k) (λ y. k < y.owner) (λ x y p q. unlike x y p q) (stream l) (map (raise_card k) (stream m))
      (each_map _ _ (λ x h. (card-numbers first x h).0.1) (stream l) (stream-sound l s))
      (each-of-map (λ y. k < y.owner) (raise_card k) (stream m) (each_map _ _ (λ x h. above x (card-numbers second x h).0) (stream m) (stream-sound m t))))))
    where
      above : (x : Card) → Within 0 (length second) x.owner → k < k + x.owner
      above x w = let pos : 0 < x.owner = w.0 in omega arith

      unlike : (x y : Card) → x.owner ≤ k → k < y.owner → T (not (same_card x y))
      unlike x y p q = not_T (same_card x y) (λ u. T_not (eqb x.owner y.owner) (eqb_apart x.owner y.owner p q) (and_parts (eqb x.owner y.owner) (eqb x.seq y.seq) u).0)

      again : T (no_two same_card (map (raise_card k) (stream m)))
      again =
          subst (λ (b : Bool). T b) (sym (no-two-map same_card (raise_card k) (stream m)))
          (no-two-less (λ c. Unit {0}) same_card (λ x y. same_card (raise_card k x) (raise_card k y))
          (λ x y p q u. subst (λ (b : Bool). T (b && eqb x.seq y.seq)) (eqb-raise k x.owner y.owner) u) (stream m)
          (each_map _ _ (λ c h. tt) (stream m) (stream-sound m t)) t.once)

  pub sound-both : T (within_limits (merge l m)) → Sound (merge l m)
  sound-both lim = record {
    limits = lim;
    entries = all_append sound_entry first second s.entries t.entries;
    names = names-once;
    yanks = each_append (SoundCard (first ++ second)) l.yanks (map (raise_card k) m.yanks) (each_map _ _ (card-append first second) l.yanks s.yanks) (cards-raise first second m.yanks t.yanks);
    others = each_append BeginsNoDeck l.yanks (map (raise_card k) m.yanks) s.others (others-raise first second m.yanks t.others);
    lower = lower-both;
    decks = each_append (SoundDeck (first ++ second)) l.decks (map (raise_deck k) m.decks) (each_map _ _ (deck-append first second) l.decks s.decks)
        (each-of-map (SoundDeck (first ++ second)) (raise_deck k) m.decks (each_map _ _ (deck-raise first second) m.decks t.decks));
    differ = numbers-once;
    once = cards-once;
  }

pub merge-sound : MergeSound
merge-sound l m g = sound-both l m g.first g.second g.apart g.limits
