-- What a compile file sees after a rollback is what it saw before.
-- and numbers and names of old decks and owners are the same.
use Rattle.std.specs.Prelude.{if◌then◌else◌}
use Prim.Native.Nat.{ℕ, suc, ◌+◌, ◌≤◌, ◌<◌}
use native.Mathlib.Omega.{arith}
use mathlib.Core.Path.{◌≡◌, refl, sym, ap, ◌∙◌, subst}
use mathlib.Core.Bool.{Bool, true, false}
use mathlib.Core.List.{List, [], ◌∷◌, ◌++◌, map, append_assoc}
use lib.ListN.{length, length-append}
use Rattle.words.specs.Base.{member}
use Rattle.library.specs.Each.{Each}
use Rattle.library.specs.Library.{Card, Deck, Library, name_at}
use Rattle.library.specs.Yanks.{active, targets, yanked_by, settled, yanked}
use Rattle.library.specs.Settled.{NamesLower}
use Rattle.library.specs.Growth.{count, Within, NewCard, KeptCard, GrownCards, no_cards, kept_card, added_card, GrownDecks, no_decks, kept_deck, added_deck, Growth}
use Rattle.library.specs.Sound.{Sound}
use Rattle.library.proofs.NameAtEnd.{name-append}
use Rattle.library.proofs.EachTest.{each_map}
use Rattle.library.proofs.Rollback.{yank_of, kept-says, new-says, all_acts, OwnCard, TakesBack, Rollback, yanked-low, yanked-mid}
use Rattle.library.proofs.YankTargets.{card-numbers, deck-number, sound-lower, sound-stable}
use Rattle.library.proofs.SettledFlags.{yank_list, yanked-rule}
use Rattle.compile_walk.specs.View.{shown_card, shown, view_decks, view}

-- CARDS: f and g are what is yanked in a deck before and after
module _ (lo top : ℕ) (directory more : List ℕ) (names : (n : ℕ) → 0 < n → n ≤ lo → name_at more n ≡ name_at directory n) where
  card-kept : (c d : Card) → KeptCard lo top c d → NewCard 0 lo c → shown_card more d ≡ shown_card directory c
  card-kept c d k n =
      let name : name_at more d.owner ≡ name_at directory c.owner = ap (name_at more) k.owner ∙ names c.owner n.0.0 n.0.1 in
      λ i. record { line = k.line i; owner = k.owner i; name = name i; seq = k.seq i }

  shown-grown : (f g : ℕ → Bool) → ((n : ℕ) → n ≤ lo → g n ≡ f n) → ((n : ℕ) → lo < n → n ≤ top → g n ≡ true)
      → {cs ds : List Card} → GrownCards lo top cs ds → Each (NewCard 0 lo) cs → shown g more ds ≡ shown f directory cs
  unfolding active
  shown-grown f g low mid no_cards h = refl
  shown-grown f g low mid (kept_card {c = c} {d = d} {cs = cs} {ds = ds} k r) h =
      let act : active g d ≡ active f c = kept-says lo top f g low mid c d k h.0 in
      let one : shown_card more d ≡ shown_card directory c = card-kept c d k h.0 in
      let rest : shown g more ds ≡ shown f directory cs = shown-grown f g low mid r h.1 in
      λ i. if act i then (one i ∷ rest i) else rest i
  shown-grown f g low mid (added_card {d = d} {cs = cs} {ds = ds} n r) h =
      let act : active g d ≡ false = new-says lo top f g low mid d n in
      let rest : shown g more ds ≡ shown f directory cs = shown-grown f g low mid r h in
      λ i. if act i then (shown_card more d ∷ rest i) else rest i

  -- DECKS: none is added
  decks-grown : (f g : ℕ → ℕ → Bool) → ((deck n : ℕ) → n ≤ lo → g deck n ≡ f deck n) → ((deck n : ℕ) → lo < n → n ≤ top → g deck n ≡ true)
      → {ds es : List Deck} → GrownDecks lo top ds es → length es ≡ length ds → Each (λ d. Within 0 lo d.number × Each (NewCard 0 lo) d.cards) ds
      → view_decks g more es ≡ view_decks f directory ds
  decks-grown f g low mid no_decks e h = refl
  decks-grown f g low mid (kept_deck {d = d} {e = x} {ds = ds} {es = es} k r) e h =
      let name : name_at more x.number ≡ name_at directory d.number = ap (name_at more) k.number ∙ names d.number h.0.0.0 h.0.0.1 in
      let lines : shown (g x.number) more x.cards ≡ shown (f d.number) directory d.cards =
      ap (λ (n : ℕ). shown (g n) more x.cards) k.number
      ∙ shown-grown (f d.number) (g d.number) (low d.number) (mid d.number) k.cards h.0.1 in
      let rest : view_decks g more es ≡ view_decks f directory ds = decks-grown f g low mid r (omega arith) h.1 in
      λ i. record { name = name i; common = k.common i; lines = lines i } ∷ rest i
  decks-grown f g low mid (added_deck w c r) e h = absurd (omega arith)

-- A LIBRARY: old is the first one, mid the one with the sets, new the one with the set w that takes them back
abbrev pub taken_back_library : Library → ℕ → List Card → Library
taken_back_library l w own = record { directory = l.directory ++ (w ∷ []); yanks = l.yanks ++ own; decks = l.decks }

module _ (old : Library) (ns : List ℕ) (corrected : Library) (w : ℕ) (own : List Card) (g : Growth old ns corrected)
    (s : Sound old) (t : Sound (taken_back_library corrected w own)) (mine : Each (OwnCard (suc (count corrected))) own)
    (back : TakesBack (count old) (count corrected) (all_acts (corrected.directory ++ (w ∷ [])) own)) where
  abbrev new : Library
  new = taken_back_library corrected w own

  directory-new : new.directory ≡ old.directory ++ (ns ++ (w ∷ []))
  directory-new = ap (λ (d : List ℕ). d ++ (w ∷ [])) g.directory ∙ append_assoc old.directory ns (w ∷ [])

  count-new : count new ≡ suc (count corrected)
  count-new = length-append corrected.directory (w ∷ []) ∙ omega arith

  count-old : count old ≤ count corrected
  count-old = let e : count corrected ≡ count old + length ns = ap length g.directory ∙ length-append old.directory ns in omega arith

  rollback : Rollback (count old) (count corrected) old.directory new.directory old.yanks corrected.yanks own
  rollback = record {
    grown = g.yanks;
    numbers = each_map _ _ (card-numbers old.directory) old.yanks s.yanks;
    stable = subst (λ (d : List ℕ). Each (λ c. targets d c.line ≡ targets old.directory c.line) old.yanks) (sym directory-new) (sound-stable old s (ns ++ (w ∷ [])));
    lower = sound-lower old s;
    owners = each_map _ _ (λ c k. let n : NewCard 0 (count new) c = card-numbers new.directory c k in omega (arith, n.0.1, count-new)) new.yanks t.yanks;
    higher = subst (λ (n : ℕ). Each (NamesLower n) (map (yank_of new.directory) new.yanks)) count-new (sound-lower new t);
    mine = mine;
    back = back;
  }

  yanked-new : (deck n : ℕ) → yanked new deck n ≡ yanked_by (yank_list new) (λ m. member m (settled (yank_list new) (suc (count corrected)) (suc (count corrected)))) deck n
  yanked-new deck n = yanked-rule new deck n ∙ ap (λ (h : ℕ). yanked_by (yank_list new) (λ m. member m (settled (yank_list new) h h)) deck n) count-new

  flags-low : (deck n : ℕ) → n ≤ count old → yanked new deck n ≡ yanked old deck n
  flags-low deck n le =
      yanked-new deck n
      ∙ yanked-low (count old) (count corrected) old.directory new.directory old.yanks corrected.yanks own rollback count-old deck n le
      ∙ sym (yanked-rule old deck n)

  flags-mid : (deck n : ℕ) → count old < n → n ≤ count corrected → yanked new deck n ≡ true
  flags-mid deck n a b =
      yanked-new deck n
      ∙ yanked-mid (count old) (count corrected) old.directory new.directory old.yanks corrected.yanks own rollback count-old deck n a b

  names-old : (n : ℕ) → 0 < n → n ≤ count old → name_at new.directory n ≡ name_at old.directory n
  names-old n pos le =
      ap (λ (d : List ℕ). name_at d n) directory-new ∙ name-append old.directory (ns ++ (w ∷ [])) n (pos, le)

  pub view-back : length corrected.decks ≡ length old.decks → view new ≡ view old
  unfolding view
  view-back e =
      decks-grown (count old) (count corrected) old.directory new.directory names-old (yanked old) (yanked new) flags-low flags-mid g.decks e
      (each_map _ _ (λ d k. (deck-number old.directory d k, each_map _ _ (card-numbers old.directory) d.cards k.cards)) old.decks s.decks)
