-- B3: a stream cut ahead of units and run part after part gives the library or the refusal of the whole.
use Rattle.std.specs.Prelude.{if◌then◌else◌}
use Prim.Native.Nat.{ℕ, suc, ◌+◌, ◌≤◌}
use native.Mathlib.Omega.{arith}
use native.Mathlib.Nat.{zero-add, add-suc}
use mathlib.Core.Path.{◌≡◌, refl, sym, ap, ◌∙◌, subst}
use mathlib.Core.Bool.{Bool, ◌&&◌}
use mathlib.Core.List.{List, [], ◌∷◌, ◌++◌, append-nil}
use lib.Dec.{T}
use lib.ListN.{length, length-append}
use borrow.Author.Tests.{le-ltb}
use Rattle.words_lines.specs.Directive.{lines}
use Rattle.words_lines.specs.LineEnds.{ends_line}
use Rattle.words_lines.proofs.LinesAppend.{lines-append}
use Rattle.library.specs.Library.{Library}
use Rattle.library.specs.Image.{encode}
use Rattle.library.specs.Check.{Checking, good, bad, check}
use Rattle.library.specs.declared.Fault.{Fault}
use Rattle.library.specs.Sound.{Sound}
use Rattle.library.proofs.EachTest.{and_parts}
use Rattle.library.proofs.CheckSound.{check_sound}
use Rattle.library.proofs.EncodeCheck.{encode-check}
use Rattle.run_meaning.specs.Step.{State, Step, went, refused, start, step}
use Rattle.run_meaning.specs.Run.{Steps, ended, stopped, onward, steps, updated, not_updated, fitted, update, Running, new_library, bad_library, bad_stream, from_updated, run_checked, running}
use Rattle.run_meaning.specs.declared.Why.TheVariants.{Stream, Space}
use Rattle.run_meaning.specs.Cut.{begins_unit, and_anew}
use Rattle.run_meaning.proofs.HoldsThrough.{Ended}
use Rattle.run_meaning.proofs.StepsCut.{steps-cut}
use Rattle.run_meaning.proofs.Kept.{steps-sound, sound-short}
use Rattle.demands.specs.Cut.{whole, is_cut, counted, go_on, run_parts, B3}

-- THE ANSWER OF LINES, where there is room for every library
answered : Steps → Running
answered (ended s) = new_library s.lib
answered (stopped w n) = bad_stream w n

onward-counted : (m n : ℕ) (r : Step) (f g : State → Steps) → ((t : State) → answered (f t) ≡ counted m (answered (g t)))
    → answered (onward r f (m + n)) ≡ counted m (answered (onward r g n))
unfolding answered
onward-counted m n (went t) f g h = h t
onward-counted m n (refused w) f g h = refl

steps-counted : (m : ℕ) (s : State) (n : ℕ) (ls : List (List ℕ)) → answered (steps s (m + n) ls) ≡ counted m (answered (steps s n ls))
unfolding answered
steps-counted m s n [] = refl
steps-counted m s n (l ∷ ls) =
    onward-counted m n (step s l) (λ t. steps t (suc (m + n)) ls) (λ t. steps t (suc n) ls)
    (λ t. ap (λ (k : ℕ). answered (steps t k ls)) (sym (add-suc m n)) ∙ steps-counted m t (suc n) ls)

fitted-answered : (r : Steps) → Ended (λ s. Sound s.lib) r → from_updated (fitted 65536 r) ≡ answered r
unfolding answered
fitted-answered (ended s) h =
    ap (λ (c : Bool). from_updated (if c then not_updated Space 0 else updated s.lib)) (le-ltb 65536 (length (encode s.lib)) (sound-short s.lib h))
fitted-answered (stopped w n) h = refl

-- a unit line stays the first one whatever comes after its part
begins-append : (ls ms : List (List ℕ)) → T (begins_unit ls) → T (begins_unit (ls ++ ms))
begins-append [] ms t = absurd t
begins-append (l ∷ ls) ms t = t

begins-whole : (p : List ℕ) (ps : List (List ℕ)) → T (begins_unit (lines p)) → T (is_cut (p ∷ ps)) → T (begins_unit (lines (whole (p ∷ ps))))
begins-whole p [] t c = subst (λ (x : List ℕ). T (begins_unit (lines x))) (sym (append-nil p)) t
begins-whole p (q ∷ ps) t c =
    let e : T (ends_line p) = (and_parts (ends_line p) (begins_unit (lines q) && is_cut (q ∷ ps)) c).0 in
    subst (λ (ls : List (List ℕ)). T (begins_unit ls)) (sym (lines-append p (whole (q ∷ ps)) e)) (begins-append (lines p) (lines (whole (q ∷ ps))) t)

update-answered : (old : Library) → Sound old → (x : List ℕ) → length x ≤ 262144 → from_updated (update old x 65536) ≡ answered (steps (start old) 1 (lines x))
unfolding update
update-answered old s x le =
    ap (λ (c : Bool). from_updated (if c then not_updated Stream 0 else fitted 65536 (steps (start old) 1 (lines x)))) (le-ltb 262144 (length x) le)
    ∙ fitted-answered (steps (start old) 1 (lines x)) (steps-sound old s 1 (lines x))

module _ (image : List ℕ) (old : Library) (accepted : check image ≡ good old) where
  running-answered : (m : ℕ) (x : List ℕ) → length x ≤ 262144 → counted m (running image x 65536) ≡ answered (steps (start old) (m + 1) (lines x))
  unfolding running
  running-answered m x le =
      ap (λ (c : Checking). counted m (run_checked c x 65536)) accepted
      ∙ ap (counted m) (update-answered old (check_sound image old accepted) x le)
      ∙ sym (steps-counted m (start old) 1 (lines x))

-- a part's library, and the lines after it
on-answered : (k m : ℕ) (ms : List (List ℕ)) (f : Library → Running) → k ≡ m + 1 → (r : Steps) → Ended (λ s. Sound s.lib) r
    → ((l : Library) → Sound l → f l ≡ answered (steps (start l) (m + 1) ms)) → go_on (answered r) f ≡ answered (and_anew r k ms)
unfolding answered
on-answered k m ms f e (ended s) h on = on s.lib h ∙ ap (λ (j : ℕ). answered (steps (start s.lib) j ms)) (sym e)
on-answered k m ms f e (stopped w n) h on = refl

parts-answered : (ps : List (List ℕ)) → T (is_cut ps) → length (whole ps) ≤ 262144 → (image : List ℕ) (old : Library) → check image ≡ good old
    → (m : ℕ) → run_parts image m ps ≡ answered (steps (start old) (m + 1) (lines (whole ps)))
parts-answered [] c le image old e m = running-answered image old e m [] le
parts-answered (p ∷ []) c le image old e m =
    running-answered image old e m p (omega (arith, length-append p []))
    ∙ ap (λ (x : List ℕ). answered (steps (start old) (m + 1) (lines x))) (sym (append-nil p))
parts-answered (p ∷ q ∷ ps) c le image old e m =
    let rest : List ℕ = whole (q ∷ ps) in
    let c0 : T (ends_line p) × T (begins_unit (lines q) && is_cut (q ∷ ps)) = and_parts (ends_line p) (begins_unit (lines q) && is_cut (q ∷ ps)) c in
    let c1 : T (begins_unit (lines q)) × T (is_cut (q ∷ ps)) = and_parts (begins_unit (lines q)) (is_cut (q ∷ ps)) c0.1 in
    let size : length (p ++ rest) ≡ length p + length rest = length-append p rest in
    let on : Library → Running = λ l. run_parts (encode l) (m + length (lines p)) (q ∷ ps) in
    let r : Steps = steps (start old) (m + 1) (lines p) in
    ap (λ (a : Running). go_on a on) (running-answered image old e m p (omega arith))
    ∙ on-answered (m + 1 + length (lines p)) (m + length (lines p)) (lines rest) on (omega arith) r (steps-sound old (check_sound image old e) (m + 1) (lines p))
    (λ l s. parts-answered (q ∷ ps) c1.1 (omega arith) (encode l) l (encode-check l s) (m + length (lines p)))
    ∙ ap answered (sym (steps-cut (start old) (m + 1) (lines p) (lines rest) (begins-whole q ps c1.0 c1.1)))
    ∙ ap (λ (ls : List (List ℕ)). answered (steps (start old) (m + 1) ls)) (sym (lines-append p rest c0.0))

counted_none : (r : Running) → counted 0 r ≡ r
counted_none (new_library l) = refl
counted_none (bad_library f p) = refl
counted_none (bad_stream w k) = ap (bad_stream w) (zero-add k)

-- an image that is refused is refused with the first part
running-refused : (image x : List ℕ) (f : Fault) (p : ℕ) → check image ≡ bad f p → running image x 65536 ≡ bad_library f p
unfolding running
running-refused image x f p e = ap (λ (c : Checking). run_checked c x 65536) e

parts-refused : (image : List ℕ) (f : Fault) (p : ℕ) → check image ≡ bad f p → (ps : List (List ℕ)) → run_parts image 0 ps ≡ bad_library f p
parts-refused image f p e [] = ap (counted 0) (running-refused image [] f p e)
parts-refused image f p e (x ∷ []) = ap (counted 0) (running-refused image x f p e)
parts-refused image f p e (x ∷ y ∷ ps) =
    ap (λ (r : Running). go_on (counted 0 r) (λ l. run_parts (encode l) (0 + length (lines x)) (y ∷ ps))) (running-refused image x f p e)

pub cut_parts : B3
unfolding B3
cut_parts image parts c le = go (check image) refl
  where
    go : (k : Checking) → check image ≡ k → run_parts image 0 parts ≡ running image (whole parts) 65536
    go (good old) e =
        parts-answered parts c le image old e 0
        ∙ sym (running-answered image old e 0 (whole parts) le)
        ∙ counted_none (running image (whole parts) 65536)
    go (bad f p) e = parts-refused image f p e parts ∙ sym (running-refused image (whole parts) f p e)
