-- DELETE and RESTORE: both cards are sought, and the range is refused or marked as the definitions have it.
use Rattle.std.specs.Prelude.{Option as Answer, Some, None, Result, Err}
use Prim.Native.Nat.{ℕ, ◌≤◌, ◌<◌}
use native.Mathlib.Omega.{arith}
use mathlib.Core.Path.{◌≡◌, refl, sym, ap, ap₂, ◌∙◌, subst}
use mathlib.Core.Bool.{Bool, true, false, not}
use mathlib.Core.List.{List}
use mathlib.Core.Option.{Option, none, some}
use lib.Dec.{T, eqb}
use Rattle.words_lines.specs.Directive.{directive}
use Rattle.words_lines.specs.declared.CardName.{CardName}
use Rattle.run_meaning.specs.Step.{State, Step, refused, refuse, limited, is_set, in_set, Spot, find, is_backwards, is_barred, after_mark, mark_range, obey, step}
use Rattle.run_meaning.specs.Flat.{flat}
use Rattle.run.specs.Desk.{Held, Answered}
use Rattle.run.specs.Corrected.{SoughtAs, SeeksCard}
use Rattle.run.specs.Resettled.{asks_mark, MarkSteps}
use Rattle.run.specs.RangeSteps.{MarksFound}
use Rattle.run.specs.declared.desk.Desk.{Desk}
use Rattle.run.specs.declared.fixes.Sought.{Sought}
use Rattle.run_meaning.specs.declared.Why.{Why}
use Rattle.run_meaning.specs.declared.Why.TheVariants.{Nowhere, NoCard, Backwards, Barred}
use Rattle.run_meaning.proofs.FlatFind.{backwards-flat, ltb_yes, ltb_no}
use Rattle.run.proofs.MarkedParts.{spot-below}

range-asked : (s : State) (line : List ℕ) (was : Bool) (p q : CardName) → directive line ≡ asks_mark was p q → step s line ≡ in_set s (mark_range s was (find s.lib p) (find s.lib q))
unfolding step
range-asked s line true p q asks = ap (obey s line) asks
range-asked s line false p q asks = ap (obey s line) asks

module _ (w dir decks flags : List ℕ) (d : Desk) (was : Bool) (p q : CardName) (v newFlags names line : List ℕ) (s : State)
    (asks : directive line ≡ asks_mark was p q) (held : Held w dir names decks flags d s) where
  obeyed : (b : Bool) (x y : Option Spot) → d.set ≡ b → find s.lib p ≡ x → find s.lib q ≡ y → step s line ≡ refuse (not b) Nowhere (mark_range s was x y)
  obeyed b x y e f g =
      range-asked s line was p q asks
      ∙ ap (λ (c : Bool). refuse (not c) Nowhere (mark_range s was (find s.lib p) (find s.lib q))) (sym held.set ∙ e)
      ∙ ap₂ (λ (a c : Option Spot). refuse (not b) Nowhere (mark_range s was a c)) f g

  off : (y : Why) (r : Step) → step s line ≡ r → r ≡ refused y → Answered v dir names decks newFlags (Err y) (step s line)
  off y r e f = subst (λ (x : Step). Answered v dir names decks newFlags (Err y) x) (sym (e ∙ f)) refl

  no-set : d.set ≡ false → Answered v dir names decks newFlags (Err Nowhere) (step s line)
  no-set e = off Nowhere _ (obeyed false (find s.lib p) (find s.lib q) e refl refl) refl

  module _ (on : d.set ≡ true) where
    abbrev Is : CardName → Answer Sought → Option Spot → Type 0
    Is r k o = SoughtAs s.lib d.gap held.below held.above r k o

    no-first : (x : Option Spot) → find s.lib p ≡ x → Is p None x → Answered v dir names decks newFlags (Err NoCard) (step s line)
    no-first none e h = off NoCard _ (obeyed true none (find s.lib q) on e refl) refl
    no-first (some a) e h = absurd h

    no_last : (x y : Option Spot) → find s.lib p ≡ x → find s.lib q ≡ y → Is q None y → Answered v dir names decks newFlags (Err NoCard) (step s line)
    no_last none y e g h = off NoCard _ (obeyed true none y on e g) refl
    no_last (some a) none e g h = off NoCard _ (obeyed true (some a) none on e g) refl
    no_last (some a) (some b) e g h = absurd h

    module _ (f k : Sought) where
      abbrev rest : Spot → Spot → Step
      rest a b = refuse (is_barred a b) Barred (limited (after_mark s was a b))

      ranged : (a b : Spot) (c : Bool) → is_backwards a b ≡ c → find s.lib p ≡ some a → find s.lib q ≡ some b → step s line ≡ refuse c Backwards (rest a b)
      ranged a b c e x y = obeyed true (some a) (some b) on x y ∙ ap (λ (z : Bool). refuse z Backwards (rest a b)) e

      turned : k.index < f.index → (x y : Option Spot) → find s.lib p ≡ x → find s.lib q ≡ y → Is p (Some f) x → Is q (Some k) y
          → Answered v dir names decks newFlags (Err Backwards) (step s line)
      turned lt none y e g h i = absurd h
      turned lt (some a) none e g h i = absurd i
      turned lt (some a) (some b) e g h i =
          off Backwards _ (ranged a b true (backwards-flat s.lib a b h.stood i.stood ∙ ltb_yes (flat s.lib b) (flat s.lib a) (omega (arith, h.index, i.index))) e g) refl

      set_on : T (is_set s.kind)
      set_on = subst (λ (b : Bool). T b) (sym (sym held.set ∙ on)) tt

      gone : (e : Result Desk Why) → MarksFound w dir decks flags d was f k q.seq v newFlags e → f.index ≤ k.index
          → (x y : Option Spot) → find s.lib p ≡ x → find s.lib q ≡ y → Is p (Some f) x → Is q (Some k) y → Answered v dir names decks newFlags e (step s line)
      gone r found le none y e g h i = absurd h
      gone r found le (some a) none e g h i = absurd i
      gone r found le (some a) (some b) e g h i =
          found names line s p q a b held set_on refl h i
          (ranged a b false (backwards-flat s.lib a b h.stood i.stood ∙ ltb_no (flat s.lib b) (flat s.lib a) (omega (arith, h.index, i.index))) e g)

-- one card named twice is found where it was
pub same-card : (w dir : List ℕ) (d : Desk) (p q : CardName) (f : Sought) → p.name ≡ q.name → p.seq ≡ q.seq → SeeksCard w dir d p (Some f) → SeeksCard w dir d q (Some f)
same-card w dir d p q f n s first = subst (λ (r : CardName). SeeksCard w dir d r (Some f)) (λ i. record { name = n i; seq = s i }) first

-- THE ANSWERS
module _ (w dir decks flags : List ℕ) (d : Desk) (was : Bool) (p q : CardName) (v newFlags : List ℕ) where
  pub mark-off : d.set ≡ false → MarkSteps w dir decks flags d was p q v newFlags (Err Nowhere)
  mark-off e names line s asks held = no-set w dir decks flags d was p q v newFlags names line s asks held e

  module _ (on : d.set ≡ true) where
    pub mark-no-first : SeeksCard w dir d p None → MarkSteps w dir decks flags d was p q v newFlags (Err NoCard)
    mark-no-first first names line s asks held =
        no-first w dir decks flags d was p q v newFlags names line s asks held on (find s.lib p) refl (first names decks flags s held)

    pub mark-no-last : SeeksCard w dir d q None → MarkSteps w dir decks flags d was p q v newFlags (Err NoCard)
    mark-no-last last names line s asks held =
        no_last w dir decks flags d was p q v newFlags names line s asks held on (find s.lib p) (find s.lib q) refl refl (last names decks flags s held)

    module _ (f : Sought) (first : SeeksCard w dir d p (Some f)) (k : Sought) (last : SeeksCard w dir d q (Some k)) where
      pub mark-backwards : k.index < f.index → MarkSteps w dir decks flags d was p q v newFlags (Err Backwards)
      mark-backwards lt names line s asks held =
          turned w dir decks flags d was p q v newFlags names line s asks held on f k lt (find s.lib p) (find s.lib q) refl refl
          (first names decks flags s held) (last names decks flags s held)

      pub mark_on : (e : Result Desk Why) → MarksFound w dir decks flags d was f k q.seq v newFlags e → f.index ≤ k.index → MarkSteps w dir decks flags d was p q v newFlags e
      mark_on e found le names line s asks held =
          gone w dir decks flags d was p q v newFlags names line s asks held on f k e found le (find s.lib p) (find s.lib q) refl refl
          (first names decks flags s held) (last names decks flags s held)
