-- The limits of a merged library are those of the summed counts: raising a number changes no length.
use Prim.Native.Nat.{ℕ, suc, ◌+◌, ◌-◌}
use native.Mathlib.Omega.{arith}
use mathlib.Core.Path.{◌≡◌, refl, sym, ap, ap₂, ◌∙◌, subst}
use mathlib.Core.Bool.{Bool, true}
use mathlib.Core.List.{List, [], ◌∷◌, ◌++◌, map}
use lib.Dec.{T, leb}
use lib.ListN.{length, length-append, length-map}
use Rattle.words.specs.Base.{all, all_of}
use Rattle.words.specs.Text.{text_words}
use Rattle.words.proofs.TestParts.{T-true}
use Rattle.library.specs.Each.{Each}
use Rattle.library.specs.Library.{Byte, Card, Library, history, stream}
use Rattle.library.specs.Yanks.{active, yanked}
use Rattle.library.specs.Image.{byte_bits, further_words, head_words, card_words, cards_words, encode, short_history, within_limits}
use Rattle.library.proofs.EachTest.{all-each, each_all, each_map, each-of-map}
use Rattle.library.proofs.AppendedLists.{each_append}
use Rattle.library.specs.Counts.{within_counts}
use Rattle.library.proofs.LimitsByCount.{both-length, words, words-under, encode-length, within-small}
use Rattle.library_raise.specs.RaisedCards.{raise_byte, raise_card, raise_deck}
use Rattle.merge_meaning.specs.Merge.{merge}
use Rattle.merge_meaning.specs.Merged.{MergeLength, MergeLimits}
use Rattle.library.proofs.AppendedLists.{each-parts}
use Rattle.merge_meaning.proofs.MergedStream.{in_decks, stream-merge}

-- WORDS
further-raise : (k : ℕ) (yk : ℕ → Bool) (bs : List Byte) → length (further_words (map (byte_bits yk) (map (raise_byte k) bs))) ≡ length (further_words (map (byte_bits yk) bs))
further-raise k yk [] = refl
further-raise k yk (a ∷ []) = refl
further-raise k yk (a ∷ b ∷ []) = refl
further-raise k yk (a ∷ b ∷ c ∷ r) = ap suc (further-raise k yk r)

card-raise : (k : ℕ) (yk : ℕ → Bool) (c : Card) → length (card_words yk (raise_card k c)) ≡ length (card_words yk c)
unfolding card_words
card-raise k yk c =
    let text : List ℕ = text_words c.line in
    let a : List ℕ = head_words (active yk (raise_card k c)) (length text) c.seq (map (byte_bits yk) (history (raise_card k c))) in
    let b : List ℕ = head_words (active yk c) (length text) c.seq (map (byte_bits yk) (history c)) in
    length-append a text ∙ ap (λ (n : ℕ). suc n + length text) (further-raise k yk c.later) ∙ sym (length-append b text)

cards-raise : (k : ℕ) (yk : ℕ → Bool) (cs : List Card) → length (cards_words yk (map (raise_card k) cs)) ≡ length (cards_words yk cs)
cards-raise k yk [] = refl
cards-raise k yk (c ∷ cs) =
    length-append (card_words yk (raise_card k c)) (cards_words yk (map (raise_card k) cs)) ∙ ap₂ ◌+◌ (card-raise k yk c) (cards-raise k yk cs)
    ∙ sym (length-append (card_words yk c) (cards_words yk cs))

module _ (l m : Library) where
  abbrev k : ℕ
  k = length l.directory

  abbrev a : List Card
  a = l.yanks

  abbrev b : List Card
  b = map (raise_card k) m.yanks

  abbrev c : List Card
  c = in_decks l

  abbrev d : List Card
  d = map (raise_card k) (in_decks m)

  words-merge : words (merge l m) ≡ words l + words m
  unfolding stream
  words-merge =
      let yk : (ℕ → Bool) = yanked l 0 in
      let n : List Card → ℕ = λ cs. length (cards_words yk cs) in
      let whole : n (stream (merge l m)) ≡ words (merge l m) = words-under yk (merge l m) in
      let one : n (a ++ c) ≡ words l = words-under yk l in
      let two : n (m.yanks ++ in_decks m) ≡ words m = words-under yk m in
      let s : n (stream (merge l m)) ≡ n ((a ++ b) ++ (c ++ d)) = ap n (stream-merge l m) in
      omega (arith, both-length yk (a ++ b) (c ++ d), both-length yk a b, both-length yk c d, both-length yk a c, both-length yk m.yanks (in_decks m), cards-raise k yk m.yanks, cards-raise k yk (in_decks m))

  decks-merge : length (merge l m).decks ≡ length l.decks + length m.decks
  decks-merge = length-append l.decks (map (raise_deck k) m.decks) ∙ ap (λ (n : ℕ). length l.decks + n) (length-map m.decks (raise_deck k))

  length-merge : length (encode (merge l m)) ≡ length (encode l) + length (encode m) - 3
  length-merge = omega (arith, encode-length (merge l m), encode-length l, encode-length m, words-merge, decks-merge, length-append l.directory m.directory)

  cards-merge : length (stream (merge l m)) ≡ length (stream l) + length (stream m)
  unfolding stream
  cards-merge =
      let s : length (stream (merge l m)) ≡ length ((a ++ b) ++ (c ++ d)) = ap length (stream-merge l m) in
      omega (arith, length-append (a ++ b) (c ++ d), length-append a b, length-append c d, length-append a c, length-append m.yanks (in_decks m), length-map m.yanks (raise_card k), length-map (in_decks m) (raise_card k))

  abbrev Short : Card → Type 0
  Short x = T (short_history x)

  short-raise : (cs : List Card) → Each Short cs → Each Short (map (raise_card k) cs)
  short-raise cs h =
      each-of-map Short (raise_card k) cs
      (each_map _ _ (λ x t. subst (λ (n : ℕ). T (leb (suc n) 64)) (sym (length-map x.later (raise_byte k))) t) cs h)

  short-merge : T (all short_history (stream l)) → T (all short_history (stream m)) → T (all short_history (stream (merge l m)))
  unfolding stream
  short-merge s t =
      let p = each-parts Short a c (all-each short_history (stream l) s) in
      let q = each-parts Short m.yanks (in_decks m) (all-each short_history (stream m) t) in
      each_all short_history (stream (merge l m)) (subst (λ (cs : List Card). Each Short cs) (sym (stream-merge l m))
      (each_append Short (a ++ b) (c ++ d) (each_append Short a b p.0 (short-raise m.yanks q.0)) (each_append Short c d p.1 (short-raise (in_decks m) q.1))))

pub merge-length : MergeLength
merge-length l m = length-merge l m

pub merge-limits : MergeLimits
unfolding within_limits within_counts
merge-limits l m s t =
    let e : length (l.directory ++ m.directory) ≡ length l.directory + length m.directory = length-append l.directory m.directory in
    let ds : length (merge l m).decks ≡ length l.decks + length m.decks = decks-merge l m in
    let cs : length (stream (merge l m)) ≡ length (stream l) + length (stream m) = cards-merge l m in
    let sh : all short_history (stream (merge l m)) ≡ true = T-true _ (short-merge l m (within-small l s.limits).short (within-small m t.limits).short) in
    let ws : length (encode (merge l m)) ≡ length (encode l) + length (encode m) - 3 = length-merge l m in
    λ i. all_of (leb (e i) 1023 ∷ leb (suc (ds i)) 255 ∷ leb (cs i) 16383 ∷ sh i ∷ leb (ws i) 65536 ∷ [])
