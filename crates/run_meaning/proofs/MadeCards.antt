-- The lines of the cards that a run makes are sound, and of the right kind for their place.
use Rattle.std.specs.Prelude.{if◌then◌else◌}
use Prim.Native.Nat.{ℕ, ◌≤◌, ◌<◌}
use native.Mathlib.Omega.{arith}
use mathlib.Core.Path.{◌≡◌, sym, ap, ◌∙◌, subst}
use mathlib.Core.Bool.{Bool, true, false, ◌&&◌, ◌||◌, not}
use mathlib.Core.List.{List}
use lib.Dec.{T, eqb, eqb_refl, ltb, lt→ltb, le→leb, T_not}
use lib.ListN.{length}
use Rattle.words.specs.Base.{any, all, same, member}
use Rattle.words.specs.Display.{in_chart}
use Rattle.words.specs.Text.{trim}
use Rattle.words.proofs.TestParts.{true-T, and_both, same_refl}
use Rattle.words.proofs.TrimmedLine.{length-trim, all-trim, trim-trim}
use Rattle.words_lines.specs.Directive.{directive, kind_of_line, line_number, yank_names}
use Rattle.words_lines.specs.declared.Kind.{Kind}
use Rattle.words_lines.specs.declared.Line.{Line}
use Rattle.words_lines.specs.declared.Line.TheVariants.{Yank as YankLine}
use Rattle.words_lines.proofs.TrailingBlanks.{directive-trim, kind-trim}
use Rattle.words_lines.proofs.AskedLine.{Readable, line-readable}
use Rattle.library.specs.Library.{Library, not_deck, deck_line, is_deck_kind, deck_asked, name_at, entry_of, deck_names, reserved}
use Rattle.library.specs.Yanks.{Target, whole_set, is_yank, targets}
use Rattle.library.specs.Check.{ok_target}
use Rattle.library.specs.Growth.{count}
use Rattle.library.specs.Sound.{line_tests, sound_line}
use Rattle.library.proofs.EachTest.{each_two, each-of-map, each_all, each-all_of}
use Rattle.library.proofs.NoTwo.{any_none}
use Rattle.library.proofs.EntryNames.{name-entry}
use Rattle.library.proofs.NameAtEnd.{entry-some}
use Rattle.run_meaning.specs.Step.{is_unknown, is_no_set}
use Rattle.run_meaning.proofs.YankingSet.{acts_on, card-acts}

pub sound-trim : (l : List ℕ) → Readable l → T (sound_line (trim l))
sound-trim l r =
    let le : length (trim l) ≤ 80 = omega (arith, length-trim l, r.1) in
    each-all_of (line_tests (trim l)) (
      all-trim in_chart l r.0,
      (le→leb (length (trim l)) 80 le, (subst (λ (m : List ℕ). T (same m (trim l))) (sym (trim-trim l)) (same_refl (trim l)), tt)),
    )

-- a line of another kind begins no deck
pub trim-no-deck : (l : List ℕ) (k : Kind) → kind_of_line l ≡ k → is_deck_kind k ≡ false → deck_line (trim l) ≡ not_deck
unfolding deck_line
trim-no-deck l k e f = ap (λ (b : Bool). if b then deck_asked (directive (trim l)) else not_deck) (ap is_deck_kind (kind-trim l ∙ e) ∙ f)

-- a deck unit's line is its deck card's
pub trim-deck : (l : List ℕ) (k : Kind) (a : Line) → kind_of_line l ≡ k → is_deck_kind k ≡ true → Readable l → directive l ≡ a → deck_line (trim l) ≡ deck_asked a
unfolding deck_line
trim-deck l k a e f r d =
    ap (λ (b : Bool). if b then deck_asked (directive (trim l)) else not_deck) (ap is_deck_kind (kind-trim l ∙ e) ∙ f)
    ∙ ap deck_asked (directive-trim l r.0 r.1 ∙ d)

-- YANK: what its refusals leave are lower sets
eqb-not : (m n : ℕ) → T (not (eqb m n)) → m ≡ n → ⊥
eqb-not m n t e = T_not (eqb m n) t (subst (λ (x : ℕ). T (eqb m x)) e (eqb_refl m))

or_no : (a b : Bool) → T (not (a || b)) → T (not a) × T (not b)
or_no true b t = absurd t
or_no false b t = (tt, t)

unknown-no : (a b : Bool) → T (not (not (a || not b))) → T (not a) → T (not b)
unknown-no true b t u = absurd u
unknown-no false true t u = absurd t
unknown-no false false t u = tt

set-lower : (l : Library) (w : ℕ) → T (not (is_unknown l w)) → T (not (is_no_set l w)) → T (ok_target l.directory (deck_names l) (count l) (whole_set (entry_of l.directory w)))
unfolding deck_names
set-lower l w u v =
    let n : ℕ = entry_of l.directory w in
    let p : T (not (any (eqb w) (deck_names l))) × T (not (eqb n (count l))) = or_no (any (eqb w) (deck_names l)) (eqb n (count l)) v in
    let notReserved : T (not (eqb w reserved)) = (any_none (eqb w) (deck_names l) p.0).0 in
    let known : T (not (eqb n 0)) = unknown-no (eqb w reserved) (eqb n 0) u notReserved in
    let ne : n ≡ 0 → ⊥ = eqb-not n 0 known in
    let nt : n ≡ count l → ⊥ = eqb-not n (count l) p.1 in
    let pos : 0 < n = omega arith in
    let q : T (member w l.directory) × (n ≤ count l) = entry-some l.directory w pos in
    let le : n ≤ count l = q.1 in
    and_both (ltb 0 n && ltb n (count l)) (not (member (name_at l.directory n) (deck_names l)))
    (and_both (ltb 0 n) (ltb n (count l)) (lt→ltb 0 n pos) (lt→ltb n (count l) (omega arith)))
    (subst (λ (x : ℕ). T (not (member x (deck_names l)))) (sym (name-entry l.directory w q.0)) p.0)

pub yank-lower : (l : Library) (line : List ℕ) → directive line ≡ YankLine → T (not (any (is_unknown l) (yank_names line))) → T (not (any (is_no_set l) (yank_names line)))
    → T (is_yank (directive (trim line)) && all (ok_target l.directory (deck_names l) (count l)) (targets l.directory (trim line)))
yank-lower l line e u v =
    let r : Readable line = line-readable line (ap line_number e) in
    let d : directive (trim line) ≡ YankLine = directive-trim line r.0 r.1 ∙ e in
    and_both (is_yank (directive (trim line))) (all (ok_target l.directory (deck_names l) (count l)) (targets l.directory (trim line)))
    (true-T (is_yank (directive (trim line))) (ap is_yank d))
    (subst (λ (ts : List Target). T (all (ok_target l.directory (deck_names l) (count l)) ts)) (sym (card-acts l.directory line e))
    (each_all (ok_target l.directory (deck_names l) (count l)) (acts_on l.directory (yank_names line))
    (each-of-map (λ t. T (ok_target l.directory (deck_names l) (count l) t)) (λ w. whole_set (entry_of l.directory w)) (yank_names line)
    (each_two (λ w. T (not (is_unknown l w))) (λ w. T (not (is_no_set l w))) _ (λ w a b. set-lower l w a b) (yank_names line)
    (any_none (is_unknown l) (yank_names line) u) (any_none (is_no_set l) (yank_names line) v)))))
