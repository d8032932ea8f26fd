-- What is answered of two libraries that were read: 37, 31 by the counts of both, 32, or the merged words.
--   within                          the limits of both, by their counts
--   limit-answer, space-answer, done-answer     31, 32, the words
--   shared-answer, apart-answer     37, or what comes after it
--   first-answer, second-answer, sound-answer   the checks
use Rattle.std.specs.Prelude.{if◌then◌else◌, Result, Ok, Err}
use Prim.Native.Nat.{ℕ, suc, ◌+◌, ◌-◌, ◌≤◌, ◌<◌}
use native.Mathlib.Omega.{arith}
use mathlib.Core.Path.{◌≡◌, refl, sym, ap, ap₂, ◌∙◌, subst}
use mathlib.Core.Bool.{Bool, true, false, not}
use mathlib.Core.List.{List, ◌++◌}
use mathlib.Core.Option.{Option, none, some}
use borrow.Author.Tests.{lt-ltb, le-ltb}
use lib.Dec.{T, ltb}
use lib.ListN.{length, drop}
use Rattle.words.specs.Base.{place_from}
use Rattle.words.proofs.TestParts.{true-T}
use Rattle.library.specs.Library.{Library, stream}
use Rattle.library.specs.Image.{encode, within_limits}
use Rattle.library.specs.Check.{directory_of, Checking, good, check, checked}
use Rattle.library.specs.Counts.{within_counts}
use Rattle.library.specs.declared.Refusal.{Refusal}
use Rattle.library.proofs.CheckEncode.{check-encode}
use Rattle.library.proofs.ImageParts.{accepted-is, rejected-is, read-sound, entries-are, decks-are}
use Rattle.library.proofs.CardWithin.{placed-within}
use Rattle.library_image.specs.Places.{places_in}
use Rattle.merge_meaning.specs.declared.MergeRefused.{MergeRefused}
use Rattle.merge_meaning.specs.declared.MergeRefused.TheVariants.{First, Second, Shared, Limit, Space}
use Rattle.merge.specs.declared.parts.Parts.{Parts}
use Rattle.merge_meaning.specs.Merge.{merge, shared_name, Merging, one_library, over_limit, no_room, fitted_in, from_shared, merge_checked, merging}
use Rattle.library.specs.Library.{has_name}
use Rattle.merge_meaning.specs.Merged.{Mergeable}
use Rattle.merge_names.specs.Common.{or_none}
use Rattle.merge.specs.Words.{Laid, merged_words, MergeAnswers, MergesSound}
use Rattle.merge_meaning.proofs.MergedLimits.{merge-length, merge-limits}
use Rattle.merge.proofs.MergedWords.{directory-of, cards-counted, words-merged}

-- the words of both
long_of : (ws vs : List ℕ) (l m : Library) → check ws ≡ good l → check vs ≡ good m → length ws + length vs - 3 ≡ length (encode (merge l m))
long_of ws vs l m p q = ap₂ (λ (x y : ℕ). x + y - 3) (ap length (sym (check-encode ws l p))) (ap length (sym (check-encode vs m q))) ∙ sym (merge-length l m)

-- THE LIMITS, from the counts of the two images
module _ (ws vs : List ℕ) (a b : Parts) (f : Laid ws a) (g : Laid vs b) (l m : Library) (p : check ws ≡ good l) (q : check vs ≡ good m) where
  entries-of : a.names + b.names - 2 - 2 ≡ length l.directory + length m.directory
  entries-of = omega (arith, f.names, g.names, entries-are ws l p, entries-are vs m q)

  decks-of : (a.cards - a.names) + (b.cards - b.names) - 1 ≡ suc (length l.decks + length m.decks)
  decks-of = omega (arith, f.names, g.names, f.cards, g.cards, decks-are ws l p, decks-are vs m q)

  cards-of : length (places_in ws a.cards) + length (places_in vs b.cards) ≡ length (stream l) + length (stream m)
  cards-of =
      ap₂ (λ (x y : ℕ). length (places_in ws x) + length (places_in vs y)) f.cards g.cards ∙ ap₂ ◌+◌ (cards-counted ws l p) (cards-counted vs m q)

  limits_of : (cards : ℕ) → cards ≡ length (places_in ws a.cards) + length (places_in vs b.cards)
      → within_counts (a.names + b.names - 2 - 2) ((a.cards - a.names) + (b.cards - b.names) - 1) cards (length ws + length vs - 3) ≡ within_limits (merge l m)
  limits_of cards c =
      let n = entries-of in
      let d = decks-of in
      let k = c ∙ cards-of in
      let w : length ws + length vs - 3 ≡ length (encode l) + length (encode m) - 3 = long_of ws vs l m p q ∙ merge-length l m in
      (λ i. within_counts (n i) (d i) (k i) (w i)) ∙ sym (merge-limits l m (read-sound ws l p) (read-sound vs m q))

  pub within : (cards : ℕ) → cards ≡ length (places_in ws a.cards) + length (places_in vs b.cards) → (r : Bool)
      → r ≡ within_counts (a.names + b.names - 2 - 2) ((a.cards - a.names) + (b.cards - b.names) - 1) cards (length ws + length vs - 3) → r ≡ within_limits (merge l m)
  within cards c r is = is ∙ limits_of cards c

-- 31
fitted : (room : ℕ) (l : Library) (x y : Bool) → within_limits l ≡ x → ltb room (length (encode l)) ≡ y → fitted_in room l ≡ (if not x then over_limit else if y then no_room else one_library l)
fitted room l x y e h = λ i. if not (e i) then over_limit else if h i then no_room else one_library l

pub limit-answer : (space : List ℕ) (l : Library) → within_limits l ≡ false → MergeAnswers (fitted_in (length space) l) space space (Err Limit)
limit-answer space l e =
    subst (λ (x : Merging). MergeAnswers x space space (Err Limit)) (sym (fitted (length space) l false (ltb (length space) (length (encode l))) e refl)) (record { answer = refl; written = refl })

-- 32, or the words
module _ (ws vs space : List ℕ) (l m : Library) (p : check ws ≡ good l) (q : check vs ≡ good m) (n : shared_name l m ≡ none) (t : within_limits (merge l m) ≡ true) where
  pub space-answer : length space < length ws + length vs - 3 → MergeAnswers (fitted_in (length space) (merge l m)) space space (Err Space)
  space-answer lt =
      subst (λ (x : Merging). MergeAnswers x space space (Err Space))
      (sym (fitted (length space) (merge l m) true true t (lt-ltb (length space) (length (encode (merge l m))) (omega (arith, lt, long_of ws vs l m p q))))) (record { answer = refl; written = refl })

  pub done-answer : length ws + length vs - 3 ≤ length space → (new : List ℕ) → new ≡ merged_words ws vs ++ drop (length (merged_words ws vs)) space
      → MergeAnswers (fitted_in (length space) (merge l m)) space new (Ok (length ws + length vs - 3))
  done-answer le new w =
      let s : T (within_limits (merge l m)) = true-T (within_limits (merge l m)) t in
      let k : Mergeable l m = record { first = read-sound ws l p; second = read-sound vs m q; apart = n; limits = s } in
      let words : merged_words ws vs ≡ encode (merge l m) = words-merged ws vs l m p q k in
      subst (λ (x : Merging). MergeAnswers x space new (Ok (length ws + length vs - 3)))
      (sym (fitted (length space) (merge l m) true false t (le-ltb (length space) (length (encode (merge l m))) (omega (arith, le, long_of ws vs l m p q)))))
      (record { answer = ap Ok (long_of ws vs l m p q); written = w ∙ ap (λ (x : List ℕ). x ++ drop (length x) space) words })

-- 37, ahead of them: a name stands at word 2 or beyond
module _ (ws vs space : List ℕ) (l m : Library) (p : check ws ≡ good l) (q : check vs ≡ good m) (r : ℕ)
    (is : r ≡ or_none (place_from (has_name (directory_of ws)) 2 (directory_of vs))) where
  name_of : r ≡ or_none (shared_name l m)
  name_of = is ∙ ap₂ (λ (x y : List ℕ). or_none (place_from (has_name x) 2 y)) (directory-of ws l p) (directory-of vs m q)

  pub shared-answer : (r ≡ 0 → ⊥) → MergeAnswers (from_shared (length space) l m (shared_name l m)) space space (Err (Shared r))
  shared-answer d = go (shared_name l m) name_of
    where
      go : (o : Option ℕ) → r ≡ or_none o → MergeAnswers (from_shared (length space) l m o) space space (Err (Shared r))
      go none h = absurd (d h)
      go (some k) h = record { answer = ap (λ (k : ℕ). Err (Shared k)) h; written = refl }

  none-shared : r ≡ 0 → shared_name l m ≡ none
  none-shared e = go (shared_name l m) refl
    where
      go : (o : Option ℕ) → shared_name l m ≡ o → shared_name l m ≡ none
      go none h = h
      go (some k) h = absurd (omega (arith, e, name_of ∙ ap or_none h, (placed-within (has_name l.directory) 2 m.directory k h).0))

  pub apart-answer : r ≡ 0 → (new : List ℕ) (t : Result ℕ MergeRefused) → (shared_name l m ≡ none → MergeAnswers (fitted_in (length space) (merge l m)) space new t)
      → MergeAnswers (from_shared (length space) l m (shared_name l m)) space new t
  apart-answer e new t h =
      let n = none-shared e in
      subst (λ (o : Option ℕ). MergeAnswers (from_shared (length space) l m o) space new t) (sym n) (h n)

-- THE CHECKS
module _ (ws vs space : List ℕ) where
  pub first-answer : (k : Refusal) → Err k ≡ checked (check ws) → MergeAnswers (merging ws vs (length space)) space space (Err (First k))
  unfolding merging
  first-answer k e =
      subst (λ (x : Checking). MergeAnswers (merge_checked (length space) x (check vs)) space space (Err (First k))) (sym (rejected-is ws k (sym e))) (record { answer = refl; written = refl })

  pub second-answer : (k : Refusal) → Ok tt ≡ checked (check ws) → Err k ≡ checked (check vs) → MergeAnswers (merging ws vs (length space)) space space (Err (Second k))
  unfolding merging
  second-answer k e h =
      let g = accepted-is ws (sym e) in
      subst (λ (x : Checking). MergeAnswers (merge_checked (length space) x (check vs)) space space (Err (Second k))) (sym g.1)
      (subst (λ (y : Checking). MergeAnswers (merge_checked (length space) (good g.0) y) space space (Err (Second k))) (sym (rejected-is vs k (sym h))) (record { answer = refl; written = refl }))

  pub sound-answer : Ok tt ≡ checked (check ws) → Ok tt ≡ checked (check vs) → (new : List ℕ) (r : Result ℕ MergeRefused) → MergesSound ws vs space new r
      → MergeAnswers (merging ws vs (length space)) space new r
  unfolding merging
  sound-answer e h new r s =
      let g = accepted-is ws (sym e) in
      let k = accepted-is vs (sym h) in
      subst (λ (x : Checking). MergeAnswers (merge_checked (length space) x (check vs)) space new r) (sym g.1)
      (subst (λ (y : Checking). MergeAnswers (merge_checked (length space) (good g.0) y) space new r) (sym k.1) (s g.0 k.0 g.1 k.1))
