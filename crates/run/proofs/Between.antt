-- With the gap directly ahead of a range's first card, the cards up to its last are marked.
use Rattle.std.specs.Prelude.{Result}
use Prim.Native.Nat.{ℕ, ◌+◌, ◌-◌, ◌≤◌, ◌<◌}
use native.Mathlib.Omega.{arith}
use mathlib.Core.Path.{◌≡◌, ◌∙◌}
use mathlib.Core.Bool.{Bool, false}
use mathlib.Core.List.{List, ◌++◌}
use lib.ListN.{length, take, drop, length-drop}
use Rattle.run.proofs.RangeCards.{index-drop, upto-drop, beyond-drop}
use Rattle.library.specs.Library.{Card}
use Rattle.run.specs.CardSeek.{index_of}
use Rattle.run.specs.ByteMarks.{mark_all}
use Rattle.run.specs.Work.{Work, within, up_to, beyond_card, MarksTo, range_of, MarkedBetween}
use Rattle.run.specs.declared.gap.Gap.{Gap}
use Rattle.run_meaning.specs.declared.Why.{Why}

pub marks-between : (w : List ℕ) (h : Gap) (o s : ℕ) (was : Bool) (n : ℕ) (v : List ℕ) (r : Result Gap Why) → MarksTo w h o s was n v r → (yk : ℕ → Bool) (cs : List Card) (i : ℕ) → Work w h yk (take i cs) (drop i cs)
    → i ≤ index_of o s cs → index_of o s cs < length cs → yk n ≡ false → 0 < n → MarkedBetween w yk cs i (index_of o s cs) was n v r
marks-between w h o s was n v r marks yk cs i k first last free pos =
    let j : ℕ = index_of o s cs in
    let m = marks yk (take i cs) (drop i cs) k free pos in
    let up : up_to o s (drop i cs) ≡ range_of i j cs = upto-drop o s i cs first in
    let be : beyond_card o s (drop i cs) ≡ drop (j + 1) cs = beyond-drop o s i cs first in
    let here : index_of o s (drop i cs) < length (drop i cs) =
    let e : index_of o s (drop i cs) ≡ index_of o s cs - i = index-drop o s i cs first in
    let d : length (drop i cs) ≡ length cs - i = length-drop i cs in
    omega arith in
    let test : within (length w) yk (take i cs) (mark_all yk was n (up_to o s (drop i cs))) (beyond_card o s (drop i cs)) ≡ within (length w) yk
    (take i cs) (mark_all yk was n (range_of i j cs)) (drop (j + 1) cs) =
    λ z. within (length w) yk (take i cs) (mark_all yk was n (up z)) (be z) in
    let same : (x : Gap) → Work v x yk (take i cs ++ mark_all yk was n (up_to o s (drop i cs))) (beyond_card o s (drop i cs))
    → Work v x yk (take i cs ++ mark_all yk was n (range_of i j cs)) (drop (j + 1) cs) =
    λ x q. rw (up, be) at q in
    record {
      limit = λ t. m.limit here (test ∙ t);
      done = λ t. let d = m.done here (test ∙ t) in (d.0, (d.1.0, same d.0 d.1.1));
    }
