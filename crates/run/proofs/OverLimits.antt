-- Where an operation finds no room, the library it would make is over a limit, and 31 is the answer.
use Prim.Native.Nat.{ℕ, ◌+◌, ◌≤◌}
use native.Mathlib.Omega.{arith}
use mathlib.Core.Path.{◌≡◌, refl, ap, ◌∙◌}
use mathlib.Core.Bool.{Bool, true, false, ◌&&◌}
use mathlib.Core.List.{List, [], ◌∷◌, ◌++◌}
use lib.Dec.{T, leb→le}
use lib.ListN.{length, length-append}
use borrow.Author.Tests.{le-leb}
use Rattle.words.specs.Base.{all}
use Rattle.words.proofs.TestParts.{T-true, true-T}
use Rattle.library.specs.Library.{Card, Library, stream}
use Rattle.library.specs.Yanks.{yanked}
use Rattle.library.specs.Image.{cards_words, tables, encode, short_history, limit_tests, within_limits}
use Rattle.library.proofs.EachTest.{all_of-each}
use Rattle.run.specs.Work.{within}
use Rattle.run.proofs.Walking.{cards-append}
use Rattle.run.proofs.Working.{and-true, cards-len}
use Rattle.run.proofs.Handing.{encode-stream}

-- a test that cannot hold does not
not_so : (b : Bool) → (T b → ⊥) → b ≡ false
not_so true h = absurd (h tt)
not_so false h = refl

all-parts : (xs ys : List Card) → T (all short_history (xs ++ ys)) → T (all short_history xs) × T (all short_history ys)
all-parts [] ys t = (tt, t)
all-parts (x ∷ xs) ys t =
    let p = and-true (short_history x) (all short_history (xs ++ ys)) (T-true (short_history x && all short_history (xs ++ ys)) t) in
    let q = all-parts xs ys (true-T (all short_history (xs ++ ys)) p.1) in
    (rw p.0 q.0, q.1)

-- a range that is not within the limits makes a library that is not
pub within-limit : (l : Library) (yk : ℕ → Bool) (cs1 marked cs3 : List Card) → stream l ≡ (cs1 ++ marked) ++ cs3
    → within 65536 yk cs1 marked cs3 ≡ false → within_limits l ≡ false
unfolding within_limits
within-limit l yk cs1 marked cs3 is out =
    not_so (within_limits l) (λ t.
    let e = all_of-each (limit_tests l) t in
    let s : T (all short_history ((cs1 ++ marked) ++ cs3)) = rw is at e.1.1.1.0 in
    let m : T (all short_history marked) = (all-parts cs1 marked (all-parts (cs1 ++ marked) cs3 s).0).1 in
    let a : length (encode l) ≤ 65536 = leb→le (length (encode l)) 65536 e.1.1.1.1.0 in
    let b : length (encode l) ≡ length (tables l) + length (cards_words (yanked l 0) (stream l)) =
    ap length (encode-stream l) ∙ length-append (tables l) (cards_words (yanked l 0) (stream l)) in
    let d : length (cards_words (yanked l 0) (stream l)) ≡ length (cards_words yk (cs1 ++ marked)) + length (cards_words yk cs3) =
    cards-len (yanked l 0) yk (stream l) ∙ ap (λ (t : List Card). length (cards_words yk t)) is ∙ ap length (cards-append yk (cs1 ++ marked) cs3)
    ∙ length-append (cards_words yk (cs1 ++ marked)) (cards_words yk cs3) in
    let f : length (cards_words yk (cs1 ++ marked)) + length (cards_words yk cs3) ≤ 65536 = omega arith in
    let y : within 65536 yk cs1 marked cs3 ≡ true =
    rw (T-true (all short_history marked) m) (le-leb (length (cards_words yk (cs1 ++ marked)) + length (cards_words yk cs3)) 65536 f) in
    let z : ◌≡◌ {A = ℕ} 0 1 = cc in
    omega arith)
