-- The names of a YANK line, one by one: what row 8 asks of each. Assumes nothing.
--   not-member                          a name without a number
--   name-lower                          a name that may be yanked
--   yank-field, yank-same               a line of names
--   shown-yank                          a card that was read
use Rattle.std.specs.Prelude.{if◌then◌else◌}
use Prim.Native.Nat.{ℕ, suc, ◌<◌}
use native.Mathlib.Omega.{arith}
use mathlib.Core.Path.{◌≡◌, refl, sym, ap, ap₂, ◌∙◌}
use mathlib.Core.Bool.{Bool, true, false, ◌&&◌, ◌||◌, not}
use mathlib.Core.List.{List, [], ◌∷◌, map}
use lib.Dec.{eqb, ltb}
use borrow.Author.Tests.{ne_eqb, lt-ltb}
use Rattle.words.specs.Base.{all, member}
use Rattle.words.specs.Spelt.{word_of_name}
use Rattle.words_lines.specs.Directive.{directive, params, field}
use Rattle.library.specs.Library.{name_at, entry_from, entry_of}
use Rattle.library.specs.Yanks.{whole_set, is_yank, targets}
use Rattle.library.specs.Check.{Stored, ok_target, ok_yank}
use Rattle.library.proofs.EntryNames.{name-entry}
use Rattle.library.proofs.NameAtEnd.{entry-some}
use Rattle.library_image.specs.Places.{seen_at, line_in}
use Rattle.library_yanks.proofs.Marking.{names-yank}
use Rattle.library_yanks.proofs.Passing.{named-targets}
use Rattle.library_check.specs.Walks.{Walk}
use Rattle.library_check.specs.Rows.{ok_name, ok_param, ok_yank_line}
use Rattle.library.specs.declared.Seen.{Seen}
use Rattle.library_check.proofs.Showing.{shown-owner, shown-line}

-- A NAME WITHOUT A NUMBER does not stand in the list
none-member : (w n : ℕ) (xs : List ℕ) → 0 < n → eqb (entry_from w n xs) 0 ≡ not (member w xs)
none-member w n [] p = refl
none-member w n (x ∷ xs) p = go (eqb w x) (none-member w (suc n) xs (omega arith))
  where
    go : (b : Bool) → eqb (entry_from w (suc n) xs) 0 ≡ not (member w xs) → eqb (if b then n else entry_from w (suc n) xs) 0 ≡ not (b || member w xs)
    go true ih = ne_eqb n 0 (λ e. omega arith)
    go false ih = ih

not-member : (w : ℕ) (xs : List ℕ) → eqb (entry_of xs w) 0 ≡ not (member w xs)
unfolding entry_of
not-member w xs = none-member w 1 xs (omega arith)

-- A NAME THAT MAY BE YANKED
module _ (d dw : List ℕ) (own w n : ℕ) (is : n ≡ entry_of d w) where
  abbrev tests : ℕ → Bool
  tests m = ltb 0 m && ltb m own && not (member (name_at d m) dw)

  pub name-lower : (n ≡ 0 → ⊥) → n < own → (m : ℕ) → m ≡ entry_of dw w → eqb m 0 ≡ ok_name d dw own w
  name-lower z h m stands =
      let p : 0 < n = omega arith in
      let q : 0 < entry_of d w = omega arith in
      let e : name_at d n ≡ w = ap (name_at d) is ∙ name-entry d w (entry-some d w q).0 in
      ap (λ (k : ℕ). eqb k 0) stands ∙ not-member w dw
      ∙ sym (ap tests (sym is) ∙ ap₂ (λ (a b : Bool). (a && b) && not (member (name_at d n) dw)) (lt-ltb 0 n p) (lt-ltb n own h) ∙ ap (λ (v : ℕ). not (member v dw)) e)

-- A LINE OF NAMES
yank-targets : (d l : List ℕ) → is_yank (directive l) ≡ true → targets d l ≡ map (λ w. whole_set (entry_of d w)) (map word_of_name (params (field l)))
yank-targets d l e = named-targets d l ∙ ap (map (λ w. whole_set (entry_of d w))) (names-yank l e)

pub all_map : {A B : Type 0} (q : B → Bool) (g : A → B) (xs : List A) → all q (map g xs) ≡ all (λ x. q (g x)) xs
all_map q g [] = refl
all_map q g (x ∷ xs) = ap (λ (b : Bool). q (g x) && b) (all_map q g xs)

module _ (d dw : List ℕ) (own : ℕ) (l : List ℕ) where
  yank-line : is_yank (directive l) ≡ true → all (ok_param d dw own) (params (field l)) ≡ ok_yank_line d dw own l
  yank-line e =
      sym (ap₂ ◌&&◌ e (ap (all (ok_target d dw own)) (yank-targets d l e))
      ∙ all_map (ok_target d dw own) (λ w. whole_set (entry_of d w)) (map word_of_name (params (field l)))
      ∙ all_map (λ w. ok_target d dw own (whole_set (entry_of d w))) word_of_name (params (field l)))

  pub yank-field : (r : Bool) (f : List ℕ) → r ≡ all (ok_param d dw own) (params f) → f ≡ field l → is_yank (directive l) ≡ true → r ≡ ok_yank_line d dw own l
  yank-field r f is e yank = is ∙ ap (λ (x : List ℕ). all (ok_param d dw own) (params x)) e ∙ yank-line yank

  pub yank-same : (r : Bool) (k : List ℕ) → r ≡ ok_yank_line d dw own k → k ≡ l → r ≡ ok_yank_line d dw own l
  yank-same r k is e = is ∙ ap (ok_yank_line d dw own) e

-- A CARD THAT WAS READ
pub shown-yank : (d dw ws : List ℕ) (at : ℕ) (s : Stored) (w : Walk d ws at s) (r : Seen) → r ≡ seen_at ws at → (b : Bool) → b ≡ ok_yank_line d dw r.owner (line_in ws r.text r.next)
    → ok_yank d dw s ≡ b
shown-yank d dw ws at s w r sees b ok = sym (ok ∙ ap₂ (ok_yank_line d dw) (shown-owner d ws at s w r sees) (shown-line d ws at s w r sees))
