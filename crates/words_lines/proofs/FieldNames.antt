-- The names of a field walked one after another: what a loop over a YANK's names cites. Assumes nothing.
--   a step                       Step, step-name, step_end
--   the names from a place on    names_from, names_more, names-none
--   a YANK's                     yank-names
use Rattle.std.specs.Prelude.{Some, None, if◌then◌else◌}
use mathlib.Core.Path.{◌≡◌, refl, sym, ap, ◌∙◌}
use mathlib.Core.Bool.{Bool, true, false, ◌&&◌, not}
use mathlib.Core.List.{List, [], ◌∷◌, map}
use Prim.Native.Nat.{ℕ, ◌+◌, ◌≤◌, ◌<◌}
use native.Mathlib.Omega.{arith}
use borrow.Author.Tests.{ltb-true, ltb-false}
use lib.Dec.{ltb}
use lib.ListN.{length, drop}
use Rattle.words.specs.Base.{all, is_nil, take_until, beyond}
use Rattle.words.specs.Display.{in_chart}
use Rattle.words.specs.Names.{is_name, name_word}
use Rattle.words.specs.Spelt.{word_of_name}
use Rattle.words_lines.specs.Directive.{is_comma, params, field, is_clean, is_card, card_named, kind_of_line, one_name, one_card, range, formed, asks, asked, directive, yank_names}
use Rattle.words_lines.specs.Reading.{next_name}
use Rattle.words_lines.specs.declared.CardName.{CardName}
use Rattle.words_lines.specs.declared.Kind.{Kind}
use Rattle.words_lines.specs.declared.Kind.TheVariants.{Text as k_text, Skipped as k_skipped, NotCarried as k_not_carried, Deck as k_deck, Comdeck as k_comdeck, Ident as k_ident, Insert as k_insert, Before as k_before, Delete as k_delete, Restore as k_restore, Yank as k_yank}
use Rattle.words_lines.specs.declared.NameAt.{NameAt}
use Rattle.words_lines.specs.declared.Line.{Line}
use Rattle.words_lines.specs.declared.Line.TheVariants.{Text, Skipped, Deck, Comdeck, Ident, Insert, Before, Delete, Restore, Yank, Outside, Long, Malformed, NotCarried}
use Rattle.words_lines.proofs.SplitList.{parts_from, part-fits, parts_none, parts_more}
use Rattle.words_lines.proofs.NamesByWord.{and_left, and_right, name-word}

-- what a step says of the field: the word of the part there, and where the next is
pub record Step (f : List ℕ) (at w n : ℕ) : Type 0 where
  pub inside : at ≤ length f
  pub word : w ≡ word_of_name (take_until is_comma (drop at f))
  pub next : n ≡ at + (length (take_until is_comma (drop at f)) + 1)
  pub falls : at < n
  pub bound : n ≤ length f + 1

module _ (f : List ℕ) (at : ℕ) where
  pub step-name : (n : NameAt) → next_name f at ≡ Some n → Step f at n.word n.next
  unfolding next_name
  step-name n e = by-test (ltb (length f) at) refl e
    where
      part : List ℕ
      part = take_until is_comma (drop at f)

      here : NameAt
      here = record { word = word_of_name part; next = at + (length part + 1) }

      by-test : (t : Bool) → ltb (length f) at ≡ t → (if t then None else Some here) ≡ Some n → Step f at n.word n.next
      by-test true h e = absurd (cc)
      by-test false h e =
          let inside : at ≤ length f = ltb-false _ _ h in
          let fits : at + length part ≤ length f = part-fits is_comma at f inside part refl in
          let is : here ≡ n = cc in
          let word : n.word ≡ word_of_name part = ap (λ (m : NameAt). m.word) (sym is) in
          let next : n.next ≡ at + (length part + 1) = ap (λ (m : NameAt). m.next) (sym is) in
          record { inside = inside; word = word; next = next; falls = omega arith; bound = omega arith }

  pub step_end : next_name f at ≡ None → length f < at
  unfolding next_name
  step_end e = by-test (ltb (length f) at) refl e
    where
      here : NameAt
      here = record { word = word_of_name (take_until is_comma (drop at f)); next = at + (length (take_until is_comma (drop at f)) + 1) }

      by-test : (t : Bool) → ltb (length f) at ≡ t → (if t then None else Some here) ≡ None → length f < at
      by-test true h e = ltb-true _ _ h
      by-test false h e = absurd (cc)

unfoldable pub names_from : List ℕ → ℕ → List ℕ
names_from f at = map word_of_name (parts_from is_comma at f)

module _ (f : List ℕ) (at : ℕ) where
  pub names-none : next_name f at ≡ None → names_from f at ≡ []
  unfolding names_from
  names-none e = rw (parts_none is_comma at f (step_end f at e))

  pub names_more : (n : NameAt) → next_name f at ≡ Some n → names_from f at ≡ n.word ∷ names_from f n.next
  unfolding names_from
  names_more n e =
      let s = step-name f at n e in
      rw (parts_more is_comma at f s.inside (take_until is_comma (drop at f)) refl, s.word, s.next)

-- A YANK'S NAMES: of a line that asks to yank all parameters are names, and the walk from 0 gives their words
abbrev is_yank : Line → Bool
is_yank Text = false
is_yank Skipped = false
is_yank (Deck w) = false
is_yank (Comdeck w) = false
is_yank (Ident w) = false
is_yank (Insert a) = false
is_yank (Before a) = false
is_yank (Delete a b) = false
is_yank (Restore a b) = false
is_yank Yank = true
is_yank Outside = false
is_yank Long = false
is_yank Malformed = false
is_yank NotCarried = false

absurd-test : false ≡ true → ⊥
absurd-test e = let z : ◌≡◌ {A = ℕ} 0 1 = cc in omega arith

either : (t : Bool) (a b : Line) → is_yank a ≡ false → is_yank b ≡ false → is_yank (if t then a else b) ≡ false
either true a b p q = p
either false a b p q = q

module _ (clean : Bool) (f : List ℕ) where
  formed-none : (a : Line) → is_yank a ≡ false → is_yank (formed clean a) ≡ false
  formed-none a p = by-test clean
    where
      by-test : (t : Bool) → is_yank (formed t a) ≡ false
      by-test true = p
      by-test false = refl

  name-none : (ask : ℕ → Line) (more : Line) → ((w : ℕ) → is_yank (ask w) ≡ false) → is_yank more ≡ false → is_yank (formed clean (one_name ask more f)) ≡ false
  name-none ask more p q =
      formed-none (one_name ask more f)
      (either (is_name f) _ _ (p (name_word f)) (either (is_name (take_until is_comma f) && all (λ r. not (is_nil r)) (params f)) more Malformed q refl))

  card-none : (ask : CardName → Line) → ((a : CardName) → is_yank (ask a) ≡ false) → is_yank (formed clean (one_card ask f)) ≡ false
  card-none ask p = formed-none (one_card ask f) (either (is_card f) (ask (card_named f)) Malformed (p (card_named f)) refl)

  range_none : (ask : CardName → CardName → Line) → ((a b : CardName) → is_yank (ask a b) ≡ false) → is_yank (formed clean (range ask f)) ≡ false
  range_none ask p =
      formed-none (range ask f)
      (either (is_card f) _ _ (p (card_named f) (card_named f))
      (either (is_card (take_until is_comma f) && is_card (beyond is_comma f)) _ Malformed (p (card_named (take_until is_comma f)) (card_named (beyond is_comma f))) refl))

  asks-names : (k : Kind) → is_yank (asks k clean f) ≡ true → all is_name (params f) ≡ true
  asks-names k_text e = absurd (absurd-test e)
  asks-names k_skipped e = absurd (absurd-test e)
  asks-names k_not_carried e = absurd (absurd-test e)
  asks-names k_deck e = absurd (absurd-test (sym (name-none Deck Malformed (λ w. refl) refl) ∙ e))
  asks-names k_comdeck e = absurd (absurd-test (sym (name-none Comdeck NotCarried (λ w. refl) refl) ∙ e))
  asks-names k_ident e = absurd (absurd-test (sym (name-none Ident NotCarried (λ w. refl) refl) ∙ e))
  asks-names k_insert e = absurd (absurd-test (sym (card-none Insert (λ a. refl)) ∙ e))
  asks-names k_before e = absurd (absurd-test (sym (card-none Before (λ a. refl)) ∙ e))
  asks-names k_delete e = absurd (absurd-test (sym (range_none Delete (λ a b. refl)) ∙ e))
  asks-names k_restore e = absurd (absurd-test (sym (range_none Restore (λ a b. refl)) ∙ e))
  asks-names k_yank e = by_tests clean (all is_name (params f)) e
    where
      by_tests : (s t : Bool) → is_yank (formed s (if t then Yank else Malformed)) ≡ true → t ≡ true
      by_tests true true e = refl
      by_tests true false e = e
      by_tests false true e = refl
      by_tests false false e = e

all_words : (ps : List (List ℕ)) → all is_name ps ≡ true → map word_of_name ps ≡ map name_word ps
all_words [] e = refl
all_words (p ∷ ps) e =
    let first : word_of_name p ≡ name_word p = name-word p (and_left (is_name p) _ e) in
    let rest : map word_of_name ps ≡ map name_word ps = all_words ps (and_right (is_name p) _ e) in
    λ i. first i ∷ rest i

pub yank-names : (l : List ℕ) → directive l ≡ Yank → names_from (field l) 0 ≡ yank_names l
unfolding names_from directive asked yank_names
yank-names l e = all_words (params (field l)) (asks-names (is_clean l) (field l) (kind_of_line l) (past (not (all in_chart l)) (ltb 80 (length l)) (ap is_yank e)))
  where
    past : (s t : Bool) → is_yank (if s then Outside else if t then Long else asks (kind_of_line l) (is_clean l) (field l)) ≡ true
        → is_yank (asks (kind_of_line l) (is_clean l) (field l)) ≡ true
    past true t e = absurd (absurd-test e)
    past false true e = absurd (absurd-test e)
    past false false e = e
