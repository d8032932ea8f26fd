-- Rows 8 and 10 that find no fault, as facts on the cards, both ways.
use Rattle.std.specs.Prelude.{if◌then◌else◌}
use mathlib.Core.Path.{◌≡◌, refl, sym, subst}
use mathlib.Core.Bool.{Bool, true, false, ◌&&◌, not}
use mathlib.Core.List.{List, [], ◌∷◌, map}
use mathlib.Core.Option.{none, some}
use lib.Dec.{T, eqb}
use Rattle.words.specs.Base.{any}
use Rattle.words.proofs.TestParts.{and_both, eqb-turn}
use Rattle.library.specs.Each.{Each}
use Rattle.library.specs.Sound.{no_two, same_card}
use Rattle.library.specs.Check.{Stored, first_failing, shares_both, row10_from, row10}
use Rattle.library.proofs.EachTest.{and_parts}
use Rattle.library.proofs.TableRows.{some-none, free-none}
use Rattle.library.proofs.NoTwo.{free_after, free-no-two, no-two-free, no-two-map}

-- ROW 8: no card fails
pub failing-none : (ok : Stored → Bool) (ss : List Stored) → first_failing ok ss ≡ none → Each (λ s. T (ok s)) ss
failing-none ok [] e = tt
failing-none ok (s ∷ ss) e = go (ok s) (failing-none ok ss) e
  where
    go : (c : Bool) → (first_failing ok ss ≡ none → Each (λ t. T (ok t)) ss) → (if c then first_failing ok ss else some s.place) ≡ none → T c × Each (λ t. T (ok t)) ss
    go true f q = (tt, f q)
    go false f q = absurd (some-none s.place q)

-- ROW 10: no two share owner and sequence number
shares-turn : (s t : Stored) → T (shares_both s t) → T (shares_both t s)
shares-turn s t u =
    let q = and_parts (eqb s.card.owner t.card.owner) (eqb s.card.seq t.card.seq) u in
    and_both (eqb t.card.owner s.card.owner) (eqb t.card.seq s.card.seq)
    (eqb-turn s.card.owner t.card.owner q.0) (eqb-turn s.card.seq t.card.seq q.1)

row10-free : (ahead ss : List Stored) → row10_from ahead ss ≡ none → T (free_after shares_both ahead ss)
row10-free ahead [] e = tt
row10-free ahead (s ∷ ss) e = go (any (shares_both s) ahead) (row10-free (s ∷ ahead) ss) e
  where
    go : (c : Bool) → (row10_from (s ∷ ahead) ss ≡ none → T (free_after shares_both (s ∷ ahead) ss))
        → (if c then some s.place else row10_from (s ∷ ahead) ss) ≡ none → T (not c && free_after shares_both (s ∷ ahead) ss)
    go true f q = absurd (some-none s.place q)
    go false f q = f q

free-row10 : (ahead ss : List Stored) → T (free_after shares_both ahead ss) → row10_from ahead ss ≡ none
free-row10 ahead [] t = refl
free-row10 ahead (s ∷ ss) t = go (any (shares_both s) ahead) (free-row10 (s ∷ ahead) ss) t
  where
    go : (c : Bool) → (T (free_after shares_both (s ∷ ahead) ss) → row10_from (s ∷ ahead) ss ≡ none)
        → T (not c && free_after shares_both (s ∷ ahead) ss) → (if c then some s.place else row10_from (s ∷ ahead) ss) ≡ none
    go true f u = absurd u
    go false f u = f u

pub row10-once : (ss : List Stored) → row10 ss ≡ none → T (no_two same_card (map (λ s. s.card) ss))
row10-once ss e = subst (λ (b : Bool). T b) (sym (no-two-map same_card (λ s. s.card) ss)) (free-no-two shares_both shares-turn [] ss (row10-free [] ss e)).1

pub once-row10 : (ss : List Stored) → T (no_two same_card (map (λ s. s.card) ss)) → row10 ss ≡ none
once-row10 ss t = free-row10 [] ss (no-two-free shares_both shares-turn [] ss (free-none ss) (subst (λ (b : Bool). T b) (no-two-map same_card (λ s. s.card) ss) t))
