-- One view after another: called decks are found where they were, so the lines of both are written.
use Rattle.std.specs.Prelude.{if◌then◌else◌}
use Prim.Native.Nat.{ℕ, ◌+◌}
use mathlib.Core.Path.{◌≡◌, refl, sym, ap, ◌∙◌, subst}
use mathlib.Core.Bool.{Bool, true, false, ◌||◌, not}
use mathlib.Core.List.{List, [], ◌∷◌, ◌++◌, map}
use lib.Dec.{T, eqb}
use Rattle.words.specs.Base.{member}
use Rattle.library.specs.Library.{reserved}
use Rattle.compile_walk.specs.View.{Shown, DeckView, full_choice}
use Rattle.compile_walk.specs.Walk.{printed, Found, missing, not_common, common, found_in, look_in, called_deck}
use Rattle.demands.specs.MergedFile.{raise_shown, raise_view}
use Rattle.compile_walk.proofs.WalkWrites.{WritesDecks, writes-append, writes-other}
use Rattle.demands.proofs.MergedView.{choice-append, choice-raise}

-- DECKS BY NAME
abbrev pub view_names : List DeckView → List ℕ
view_names ds = map (λ d. d.name) ds

not-missing : {A : Type 0} (cs : List Shown) → missing ≡ common cs → A
not-missing {A} cs e = absurd (subst is_missing e tt)
  where
    is_missing : Found → Type 0
    is_missing missing = Unit {0}
    is_missing not_common = ⊥
    is_missing (common xs) = ⊥

look-more : (w : ℕ) (ds es : List DeckView) (cs : List Shown) → look_in w ds ≡ common cs → look_in w (ds ++ es) ≡ common cs
look-more w [] es cs e = not-missing cs e
look-more w (d ∷ ds) es cs e = go (eqb w d.name) e (look-more w ds es cs)
  where
    go : (b : Bool) → (if b then found_in d else look_in w ds) ≡ common cs → (look_in w ds ≡ common cs → look_in w (ds ++ es) ≡ common cs)
        → (if b then found_in d else look_in w (ds ++ es)) ≡ common cs
    go true u f = u
    go false u f = f u

look-past : (w : ℕ) (ds es : List DeckView) → T (not (member w (view_names ds))) → look_in w (ds ++ es) ≡ look_in w es
look-past w [] es t = refl
look-past w (d ∷ ds) es t = go (eqb w d.name) t (look-past w ds es)
  where
    go : (b : Bool) → T (not (b || member w (view_names ds))) → (T (not (member w (view_names ds))) → look_in w (ds ++ es) ≡ look_in w es)
        → (if b then found_in d else look_in w (ds ++ es)) ≡ look_in w es
    go true u f = absurd u
    go false u f = f u

pub look-member : (w : ℕ) (ds : List DeckView) (cs : List Shown) → look_in w ds ≡ common cs → T (member w (view_names ds))
look-member w [] cs e = not-missing cs e
look-member w (d ∷ ds) cs e = go (eqb w d.name) e (look-member w ds cs)
  where
    go : (b : Bool) → (if b then found_in d else look_in w ds) ≡ common cs → (look_in w ds ≡ common cs → T (member w (view_names ds))) → T (b || member w (view_names ds))
    go true u f = tt
    go false u f = f u

-- the cards of a deck that is found, raised
raise_found : ℕ → Found → Found
raise_found k missing = missing
raise_found k not_common = not_common
raise_found k (common cs) = common (map (raise_shown k) cs)

look-raise : (k w : ℕ) (ds : List DeckView) → look_in w (map (raise_view k) ds) ≡ raise_found k (look_in w ds)
unfolding raise_found
look-raise k w [] = refl
look-raise k w (d ∷ ds) = go (eqb w d.name) (look-raise k w ds)
  where
    found : (b : Bool) → (if b then common (map (raise_shown k) d.lines) else not_common) ≡ raise_found k (if b then common d.lines else not_common)
    found true = refl
    found false = refl

    go : (b : Bool) → look_in w (map (raise_view k) ds) ≡ raise_found k (look_in w ds)
        → (if b then found_in (raise_view k d) else look_in w (map (raise_view k) ds)) ≡ raise_found k (if b then found_in d else look_in w ds)
    go true e = found d.common
    go false e = e

map_same : {A : Type 0} (xs : List A) → map (λ x. x) xs ≡ xs
map_same [] = refl
map_same {A} (x ∷ xs) = ap {B = List A} (λ r. x ∷ r) (map_same xs)

-- ONE VIEW AFTER ANOTHER: no deck that the second calls has a name of the first's
module _ (ds es : List DeckView) (k : ℕ) (past : (w : ℕ) (cs : List Shown) → look_in w es ≡ common cs → T (not (member w (view_names ds)))) where
  abbrev both : List DeckView
  both = ds ++ map (raise_view k) es

  looks-first : (w : ℕ) (cs : List Shown) → called_deck w ds ≡ common cs → called_deck w both ≡ common (map (λ c. c) cs)
  unfolding called_deck
  looks-first w cs e = go (eqb w reserved) e ∙ ap common (sym (map_same cs))
    where
      go : (b : Bool) → (if b then not_common else look_in w ds) ≡ common cs → (if b then not_common else look_in w both) ≡ common cs
      go true u = u
      go false u = look-more w ds (map (raise_view k) es) cs u

  looks-second : (w : ℕ) (cs : List Shown) → called_deck w es ≡ common cs → called_deck w both ≡ common (map (raise_shown k) cs)
  unfolding called_deck raise_found
  looks-second w cs e = go (eqb w reserved) e
    where
      go : (b : Bool) → (if b then not_common else look_in w es) ≡ common cs → (if b then not_common else look_in w both) ≡ common (map (raise_shown k) cs)
      go true u = ap (raise_found k) u
      go false u = look-past w ds (map (raise_view k) es) (past w cs u) ∙ look-raise k w es ∙ ap (raise_found k) u

  print-raise : (c : Shown) → printed (raise_shown k c) ≡ printed c
  unfolding printed
  print-raise c = refl

  pub writes-joined : (ls ms : List (List ℕ)) (n j : ℕ) → WritesDecks ds (full_choice ds) ls n → WritesDecks es (full_choice es) ms j → WritesDecks both (full_choice both) (ls ++ ms) (n + j)
  writes-joined ls ms n j a b =
      let one : WritesDecks both (full_choice ds) ls n =
      subst (λ (xs : List DeckView). WritesDecks both xs ls n) (map_same (full_choice ds))
      (writes-other ds both (λ c. c) (λ c. refl) (λ c. refl) looks-first (λ d. d) (λ d. sym (map_same d.lines)) a) in
      let two : WritesDecks both (map (raise_view k) (full_choice es)) ms j =
      writes-other es both (raise_shown k) (λ c. refl) print-raise looks-second (raise_view k) (λ d. refl) b in
      let chosen : full_choice both ≡ full_choice ds ++ map (raise_view k) (full_choice es) =
      choice-append ds (map (raise_view k) es) ∙ ap (λ (xs : List DeckView). full_choice ds ++ xs) (choice-raise k es) in
      subst (λ (xs : List DeckView). WritesDecks both xs (ls ++ ms) (n + j)) (sym chosen) (writes-append both one two)
