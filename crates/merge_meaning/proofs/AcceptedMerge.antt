-- What an accepted merge of two images is, and M4: the fresh library on either side gives the other back.
use Rattle.std.specs.Prelude.{if◌then◌else◌}
use Prim.Native.Nat.{ℕ, suc, ◌≤◌}
use native.Mathlib.Omega.{arith}
use mathlib.Core.Path.{◌≡◌, refl, sym, ap, ap₂, ◌∙◌, subst}
use mathlib.Core.Bool.{Bool, true, false, not}
use mathlib.Core.List.{List, [], ◌++◌, map, append-nil}
use mathlib.Core.Option.{Option, none, some}
use lib.Dec.{T, ltb, nltb→le, ltb→lt}
use lib.ListN.{length}
use Rattle.words.proofs.TestParts.{T-true}
use Rattle.library.specs.Library.{Library, fresh}
use Rattle.library.specs.Image.{encode, within_limits}
use Rattle.library.specs.Check.{Checking, good, bad, check}
use Rattle.library.specs.Sound.{Sound}
use Rattle.library.proofs.TableRows.{none-place}
use Rattle.library.proofs.CheckEncode.{check-encode}
use Rattle.library.proofs.CheckSound.{check_sound, fresh-sound}
use Rattle.library.proofs.EncodeCheck.{encode-check}
use Rattle.library_raise.specs.RaisedCards.{raise_card, raise_deck}
use Rattle.library_raise.proofs.RaisedCardWords.{cards-zero, decks-zero}
use Rattle.merge_meaning.specs.Merge.{merge, shared_name, Merging, one_library, bad_first, bad_second, shared_at, over_limit, no_room, fitted_in, from_shared, merge_checked, merging}
use Rattle.library.specs.Library.{has_name}
use Rattle.merge_meaning.specs.Merged.{Mergeable, MergedPasses, MergeFresh, MergingFresh}
use Rattle.library.proofs.AnyAndAll.{members-each}
use Rattle.merge_meaning.proofs.MergedSound.{sound-both}

-- ACCEPTED
pub record MergedFrom (a b : List ℕ) (room : ℕ) (c : Library) : Type 0 where
  pub one : Library
  pub two : Library
  pub first : check a ≡ good one
  pub second : check b ≡ good two
  pub apart : shared_name one two ≡ none
  pub limits : T (within_limits (merge one two))
  pub fits : length (encode (merge one two)) ≤ room
  pub same : c ≡ merge one two

module _ (a b : List ℕ) (room : ℕ) where
  abbrev Gives : Merging → Type 0
  Gives (one_library c) = MergedFrom a b room c
  Gives (bad_first f p) = Unit {0}
  Gives (bad_second f p) = Unit {0}
  Gives (shared_at p) = Unit {0}
  Gives over_limit = Unit {0}
  Gives no_room = Unit {0}

  gives-fitted : (l m : Library) → check a ≡ good l → check b ≡ good m → shared_name l m ≡ none → Gives (fitted_in room (merge l m))
  gives-fitted l m p q n = go (within_limits (merge l m)) (ltb room (length (encode (merge l m)))) (λ t. t) (nltb→le room (length (encode (merge l m))))
    where
      go : (x y : Bool) → (T x → T (within_limits (merge l m))) → (T (not y) → length (encode (merge l m)) ≤ room)
          → Gives (if not x then over_limit else if y then no_room else one_library (merge l m))
      go false y f g = tt
      go true true f g = tt
      go true false f g = record { one = l; two = m; first = p; second = q; apart = n; limits = f tt; fits = g tt; same = refl }

  gives-shared : (l m : Library) → check a ≡ good l → check b ≡ good m → (o : Option ℕ) → shared_name l m ≡ o → Gives (from_shared room l m o)
  gives-shared l m p q none n = gives-fitted l m p q n
  gives-shared l m p q (some x) n = tt

  gives-checked : (x y : Checking) → check a ≡ x → check b ≡ y → Gives (merge_checked room x y)
  gives-checked (bad f n) y p q = tt
  gives-checked (good l) (bad f n) p q = tt
  gives-checked (good l) (good m) p q = gives-shared l m p q (shared_name l m) refl

  pub merged-from : (c : Library) → merging a b room ≡ one_library c → MergedFrom a b room c
  unfolding merging
  merged-from c e = subst Gives e (gives-checked (check a) (check b) refl refl)

pub mergeable : {a b : List ℕ} {room : ℕ} {c : Library} → (g : MergedFrom a b room c) → Mergeable g.one g.two
mergeable {a} {b} g = record { first = check_sound a g.one g.first; second = check_sound b g.two g.second; apart = g.apart; limits = g.limits }

pub merged-passes : MergedPasses
merged-passes a b room c e =
    let g : MergedFrom a b room c = merged-from a b room c e in
    let s : Sound (merge g.one g.two) = sound-both g.one g.two (check_sound a g.one g.first) (check_sound b g.two g.second) g.apart g.limits in
    let t : Sound c = subst Sound (sym g.same) s in
    (t, encode-check c t, subst (λ (x : Library). length (encode x) ≤ room) (sym g.same) g.fits)

-- THE FRESH LIBRARY
pub merge-fresh : MergeFresh
merge-fresh l =
    let y : map (raise_card 0) l.yanks ≡ l.yanks = cards-zero l.yanks in
    let d : map (raise_deck 0) l.decks ≡ l.decks = decks-zero l.decks in
    let n : l.directory ++ [] ≡ l.directory = append-nil l.directory in
    let z : l.yanks ++ [] ≡ l.yanks = append-nil l.yanks in
    let w : l.decks ++ [] ≡ l.decks = append-nil l.decks in
    (λ i. record { directory = l.directory; yanks = y i; decks = d i }, λ i. record { directory = n i; yanks = z i; decks = w i })

not-over : (room n : ℕ) → n ≤ room → ltb room n ≡ false
not-over room n le = go (ltb room n) (ltb→lt room n)
  where
    go : (c : Bool) → (T c → suc room ≤ n) → c ≡ false
    go true f = let lt : suc room ≤ n = f tt in absurd (omega arith)
    go false f = refl

fitted-in : (room : ℕ) (l : Library) → Sound l → length (encode l) ≤ room → fitted_in room l ≡ one_library l
fitted-in room l s le = ap₂ (λ (x y : Bool). if not x then over_limit else if y then no_room else one_library l) (T-true (within_limits l) s.limits) (not-over room (length (encode l)) le)

pub merging-fresh : MergingFresh
unfolding merging
merging-fresh image l room e le =
    let s : Sound l = check_sound image l e in
    let w : encode l ≡ image = check-encode image l e in
    let z : check (encode fresh) ≡ good fresh = encode-check fresh fresh-sound in
    let short : length (encode l) ≤ room = subst (λ (ws : List ℕ). length ws ≤ room) (sym w) le in
    let none_left : shared_name fresh l ≡ none = none-place (has_name []) 2 l.directory (members-each _ l.directory (λ x t. tt)) in (
      ap₂ (merge_checked room) z e ∙ ap (from_shared room fresh l) none_left ∙ ap (fitted_in room) (merge-fresh l).0 ∙ fitted-in room l s short,
      ap₂ (merge_checked room) e z ∙ ap (fitted_in room) (merge-fresh l).1 ∙ fitted-in room l s short,
    )
