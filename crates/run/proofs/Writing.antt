-- The library in work written out, tables and cards below and above the gap, is the image.
use Rattle.std.specs.Prelude.{if◌then◌else◌, Ok, Err}
use Prim.Native.Nat.{ℕ, ◌+◌, ◌-◌, ◌*◌, ◌^◌, ◌<◌}
use native.Mathlib.Omega.{arith}
use mathlib.Core.Path.{◌≡◌, refl, sym, ap, ap₂, ◌∙◌}
use mathlib.Core.Bool.{Bool, true, false}
use mathlib.Core.List.{List, ◌∷◌, ◌++◌, append_assoc}
use borrow.Author.Tests.{leb-true, leb-false}
use lib.Dec.{ltb, leb, lt→ltb, ltb→lt, T}
use lib.ListN.{length, take, drop, length-drop}
use lib.Seq.{take_all, length-take-le}
use Rattle.words.proofs.TestParts.{T-true}
use Rattle.library.specs.Library.{Library, stream, deck_names}
use Rattle.library.specs.Yanks.{yanked}
use Rattle.library.specs.Image.{cards_words, header, counts, encode}
use Rattle.library_store.specs.Stored.{library_words, has_room, library_into}
use Rattle.library_store.proofs.StoredLibrary.{library-long, room-is, into-is, into-kept}
use Rattle.library.proofs.LimitsByCount.{cards-append}
use Rattle.run_meaning.specs.Step.{State}
use Rattle.run_meaning.specs.Run.{ended, updated, not_updated, from_updated, ran, run_into}
use Rattle.run.specs.Desk.{Sane, Held}
use Rattle.run.specs.Written.{after_lines, Finishes}
use Rattle.run.specs.declared.desk.Desk.{Desk}
use Rattle.run_meaning.specs.declared.RunRefused.TheVariants.{Stream as OfStream}
use Rattle.run_meaning.specs.declared.Why.TheVariants.{Space}
use Rattle.run_meaning.proofs.FlatStream.{encode-flat}

module _ (w dir names : List ℕ) (d : Desk) (sane : Sane w d) (long : length dir ≡ 1024) (listed : 255 < length names) where
  abbrev n : ℕ
  n = d.entries

  abbrev k : ℕ
  k = d.decks + 1

  abbrev lo : ℕ
  lo = d.gap.lo

  abbrev hi : ℕ
  hi = d.gap.hi

  abbrev words : List ℕ
  words = library_words (take n dir) (take k names) (take lo w) (drop hi w)

  entries-long : length (take n dir) ≡ n
  entries-long = length-take-le n dir (omega (arith, sane.entries, long))

  names-long : length (take k names) ≡ k
  names-long = length-take-le k names (omega (arith, sane.decks, listed))

  pub image-long : length words ≡ 3 + d.entries + d.decks + d.gap.lo + (65536 - d.gap.hi)
  image-long =
      let below : length (take lo w) ≡ lo = length-take-le lo w (omega (arith, sane.ordered)) in
      omega (arith, library-long (take n dir) (take k names) (take lo w) (drop hi w), entries-long, names-long, below, length-drop hi w, sane.room, sane.ordered)

  -- THE IMAGE of the library that is held
  module _ (decks flags : List ℕ) (s : State) (held : Held w dir names decks flags d s) where
    cards-are : take lo w ++ drop hi w ≡ cards_words (yanked s.lib 0) (stream s.lib)
    cards-are =
        let yk : ℕ → Bool = yanked s.lib 0 in
        ap₂ (λ (x y : List ℕ). x ++ y) held.work.parted.under held.work.parted.over
        ∙ sym (cards-append yk held.below held.above) ∙ ap (cards_words yk) held.whole

    pub image-is : words ≡ encode s.lib
    unfolding library_words
    image-is =
        let l : Library = s.lib in
        let x : length (take n dir) * 2 ^ 18 + length (take k names) ≡ counts l = omega (arith, entries-long, names-long, held.tables.entries, held.tables.count) in
        ap₂ (λ (i : ℕ) (r : List ℕ). header ∷ i ∷ (take n dir ++ (take k names ++ r))) x cards-are
        ∙ ap₂ (λ (a b : List ℕ). header ∷ counts l ∷ (a ++ (b ++ cards_words (yanked l 0) (stream l)))) held.tables.directory held.tables.listed
        ∙ ap (λ (r : List ℕ). header ∷ counts l ∷ r) (sym (append_assoc l.directory (deck_names l) (cards_words (yanked l 0) (stream l))))
        ∙ sym (encode-flat l)

    pub total-is : length (encode s.lib) ≡ 3 + d.entries + d.decks + d.gap.lo + (65536 - d.gap.hi)
    total-is = sym (ap length image-is) ∙ image-long

  abbrev total : ℕ
  total = 3 + d.entries + d.decks + d.gap.lo + (65536 - d.gap.hi)

  -- 32: the fields have room for the counts, so that the space decides
  module _ (space new : List ℕ) (into : new ≡ library_into (take n dir) (take k names) (take lo w) (take (length w - hi) (drop hi w)) space) where
    abbrev has : Bool
    has = has_room (take n dir) (take k names) (take lo w) (take (length w - hi) (drop hi w)) (length space)

    rest_all : take (length w - hi) (drop hi w) ≡ drop hi w
    rest_all = take_all (length w - hi) (drop hi w) (omega (arith, length-drop hi w))

    has-is : has ≡ has_room (take n dir) (take k names) (take lo w) (drop hi w) (length space)
    has-is = ap (λ (v : List ℕ). has_room (take n dir) (take k names) (take lo w) v (length space)) rest_all

    into-all : new ≡ library_into (take n dir) (take k names) (take lo w) (drop hi w) space
    into-all = into ∙ ap (λ (v : List ℕ). library_into (take n dir) (take k names) (take lo w) v space) rest_all

    space-decides : leb (length words) (length space) ≡ has_room (take n dir) (take k names) (take lo w) (drop hi w) (length space)
    space-decides =
        room-is (take n dir) (take k names) (take lo w) (drop hi w) (length space) (omega (arith, entries-long, sane.entries)) (omega (arith, names-long, sane.decks))

    pub finish-crowded : has ≡ false → Finishes w dir names d space new (Err (OfStream Space 0))
    finish-crowded said decks flags s held =
        let less = leb-false (length words) (length space) (space-decides ∙ sym has-is ∙ said) in
        let kept : new ≡ space = into-all ∙ sym (into-kept (take n dir) (take k names) (take lo w) (drop hi w) space (sym has-is ∙ said)) in
        let q : ltb (length space) (length (encode s.lib)) ≡ true = T-true (ltb (length space) (length (encode s.lib))) (lt→ltb (length space) (length (encode s.lib)) (omega (arith, image-long, total-is decks flags s held))) in
        let u : after_lines (length space) (ended s) ≡ from_updated (not_updated Space 0) = ap (λ (b : Bool). from_updated (if b then not_updated Space 0 else updated s.lib)) q in
        record { answer = ap ran (sym u); written = kept ∙ ap (λ r. run_into r space) (sym u) }

    pub finish-written : has ≡ true → Finishes w dir names d space new (Ok total)
    finish-written said decks flags s held =
        let fits = leb-true (length words) (length space) (space-decides ∙ sym has-is ∙ said) in
        let e : new ≡ words ++ drop (length words) space = into-all ∙ into-is (take n dir) (take k names) (take lo w) (drop hi w) space (sym has-is ∙ said) in
        let q : ltb (length space) (length (encode s.lib)) ≡ false = no (ltb (length space) (length (encode s.lib))) (λ t. let lt : length space < length (encode s.lib) = ltb→lt (length space) (length (encode s.lib)) t in omega (arith, image-long, total-is decks flags s held)) in
        let u : after_lines (length space) (ended s) ≡ from_updated (updated s.lib) = ap (λ (b : Bool). from_updated (if b then not_updated Space 0 else updated s.lib)) q in
        record {
          answer = ap Ok (sym (total-is decks flags s held)) ∙ ap ran (sym u);
          written = e ∙ ap (λ (x : List ℕ). x ++ drop (length x) space) (image-is decks flags s held) ∙ ap (λ r. run_into r space) (sym u);
        }
      where
        no : (b : Bool) → (T b → ⊥) → b ≡ false
        no true f = absurd (f tt)
        no false f = refl
