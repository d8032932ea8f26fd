-- A line is read as a deck card's by its kind. Assumes nothing.
--   deck-kind, deck-no-kind
use Rattle.std.specs.Prelude.{if◌then◌else◌}
use Prim.Native.Nat.{ℕ}
use mathlib.Core.Path.{◌≡◌, sym, ap}
use mathlib.Core.Bool.{Bool, true, false}
use mathlib.Core.List.{List}
use Rattle.words_lines.specs.Directive.{directive, kind_of_line}
use Rattle.library.specs.Library.{not_deck, deck_line, deck_asked, is_deck_kind}

module _ (l : List ℕ) where
  pub deck-kind : is_deck_kind (kind_of_line l) ≡ true → deck_asked (directive l) ≡ deck_line l
  unfolding deck_line
  deck-kind e = sym (ap (λ (b : Bool). if b then deck_asked (directive l) else not_deck) e)

  pub deck-no-kind : is_deck_kind (kind_of_line l) ≡ false → not_deck ≡ deck_line l
  unfolding deck_line
  deck-no-kind e = sym (ap (λ (b : Bool). if b then deck_asked (directive l) else not_deck) e)
