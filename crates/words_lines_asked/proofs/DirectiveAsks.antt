-- What a directive asks, by what its field holds. Assumes nothing.
--   one name            name-asked, name-more, name-none, name-gap
--   one card            card-asked, card-refused
--   one card or two     range-asked, range-refused
--   spoilt parameters   asks-spoilt
use Rattle.std.specs.Prelude.{Option, Some, None, if◌then◌else◌}
use mathlib.Core.Path.{◌≡◌, refl, ap}
use mathlib.Core.Bool.{Bool, true, false, ◌&&◌}
use mathlib.Core.List.{List, []}
use Prim.Native.Nat.{ℕ}
use Rattle.words.specs.Base.{all, take_until, beyond}
use Rattle.words.specs.Names.{is_name, is_number}
use Rattle.words.specs.Spelt.{word_of_name}
use Rattle.words_lines.specs.Directive.{is_comma, params, is_card, card_named, one_name, one_card, range, asks}
use Rattle.words_lines_asked.specs.Parameters.{not_empty, card_read, range_read}
use Rattle.words_lines.specs.declared.CardName.{CardName}
use Rattle.words_lines.specs.declared.Kind.{Kind}
use Rattle.words_lines.specs.declared.Kind.TheVariants.{Text as k_text, Skipped as k_skipped, NotCarried as k_not_carried, Deck as k_deck, Comdeck as k_comdeck, Ident as k_ident, Insert as k_insert, Before as k_before, Delete as k_delete, Restore as k_restore, Yank as k_yank}
use Rattle.words_lines.specs.declared.Line.{Line}
use Rattle.words_lines.specs.declared.Line.TheVariants.{Malformed}
use Rattle.words_lines.proofs.NamesByWord.{is_name_lem, no_name, name-word}

module _ (says : ℕ → Line) (more : Line) (f : List ℕ) where
  pub name-asked : (word_of_name f ≡ 0 → ⊥) → says (word_of_name f) ≡ one_name says more f
  name-asked named = rw (is_name_lem f named, name-word f (is_name_lem f named))

  module _ (none : word_of_name f ≡ 0) where
    pub name-none : word_of_name (take_until is_comma f) ≡ 0 → Malformed ≡ one_name says more f
    name-none first = rw (no_name f none, no_name (take_until is_comma f) first)

    module _ (first : word_of_name (take_until is_comma f) ≡ 0 → ⊥) where
      pub name-more : all not_empty (params f) ≡ true → more ≡ one_name says more f
      name-more full = rw (no_name f none, is_name_lem (take_until is_comma f) first, full)

      pub name-gap : all not_empty (params f) ≡ false → Malformed ≡ one_name says more f
      name-gap empty = rw (no_name f none, is_name_lem (take_until is_comma f) first, empty)

module _ (says : CardName → Line) (f : List ℕ) where
  pub card-asked : (a : CardName) → card_read f ≡ Some a → says a ≡ one_card says f
  unfolding card_read
  card-asked a e = by-test (is_card f) e
    where
      by-test : (t : Bool) → (if t then Some (card_named f) else None) ≡ Some a → says a ≡ if t then says (card_named f) else Malformed
      by-test true e = cc
      by-test false e = absurd (cc)

  pub card-refused : card_read f ≡ None → Malformed ≡ one_card says f
  unfolding card_read
  card-refused e = by-test (is_card f) e
    where
      by-test : (t : Bool) → (if t then Some (card_named f) else None) ≡ None → Malformed ≡ if t then says (card_named f) else Malformed
      by-test true e = absurd (cc)
      by-test false e = refl

abbrev picked : Bool → Bool → CardName → CardName → CardName → Option (CardName × CardName)
picked s t c a b = if s then Some (c, c) else if t then Some (a, b) else None

module _ (says : CardName → CardName → Line) (f : List ℕ) where
  pub range-asked : (x y : CardName) → range_read f ≡ Some (x, y) → says x y ≡ range says f
  unfolding range_read
  range-asked x y e = by_tests (is_card f) (is_card (take_until is_comma f) && is_card (beyond is_comma f)) (card_named f) (card_named (take_until is_comma f)) (card_named (beyond is_comma f)) e
    where
      by_tests : (s t : Bool) (c a b : CardName) → picked s t c a b ≡ Some (x, y) → says x y ≡ if s then says c c else if t then says a b else Malformed
      by_tests true t c a b e = let q : ◌≡◌ {A = CardName × CardName} (x, y) (c, c) = cc in ap (λ (r : CardName × CardName). says r.0 r.1) q
      by_tests false true c a b e = let q : ◌≡◌ {A = CardName × CardName} (x, y) (a, b) = cc in ap (λ (r : CardName × CardName). says r.0 r.1) q
      by_tests false false c a b e = absurd (cc)

  pub range-refused : range_read f ≡ None → Malformed ≡ range says f
  unfolding range_read
  range-refused e = by_tests (is_card f) (is_card (take_until is_comma f) && is_card (beyond is_comma f)) (card_named f) (card_named (take_until is_comma f)) (card_named (beyond is_comma f)) e
    where
      by_tests : (s t : Bool) (c a b : CardName) → picked s t c a b ≡ None → Malformed ≡ if s then says c c else if t then says a b else Malformed
      by_tests true t c a b e = absurd (cc)
      by_tests false true c a b e = absurd (cc)
      by_tests false false c a b e = refl

-- parameters that more than blanks follow ask what none would
pub asks-spoilt : (k : Kind) (f : List ℕ) → asks k true [] ≡ asks k false f
unfolding is_name is_card is_number
asks-spoilt k_text f = refl
asks-spoilt k_skipped f = refl
asks-spoilt k_not_carried f = refl
asks-spoilt k_deck f = refl
asks-spoilt k_comdeck f = refl
asks-spoilt k_ident f = refl
asks-spoilt k_insert f = refl
asks-spoilt k_before f = refl
asks-spoilt k_delete f = refl
asks-spoilt k_restore f = refl
asks-spoilt k_yank f = refl
