-- The names of a YANK line are names.
--   yank-named
use Rattle.std.specs.Prelude.{if◌then◌else◌}
use Prim.Native.Nat.{ℕ}
use mathlib.Core.Path.{◌≡◌, subst}
use mathlib.Core.Bool.{Bool, true, false, not}
use mathlib.Core.List.{List}
use lib.Dec.{T, ltb}
use lib.ListN.{length}
use Rattle.words.specs.Base.{all}
use Rattle.words.specs.Display.{in_chart}
use Rattle.words.specs.Names.{is_name, name_word, is_name_word}
use Rattle.words.proofs.TestParts.{T-true, true-T}
use Rattle.words.proofs.NameTrip.{word-of-name-is-one}
use Rattle.words_lines.specs.Directive.{kind_of_line, field, is_clean, params, formed, asks, asked, directive, yank_names}
use Rattle.words_lines.specs.declared.Kind.{Kind}
use Rattle.words_lines.specs.declared.Kind.TheVariants.{Yank as k_yank}
use Rattle.words_lines.specs.declared.Line.{Line}
use Rattle.words_lines.specs.declared.Line.TheVariants.{Text, Skipped, Deck, Comdeck, Ident, Insert, Before, Delete, Restore, Yank, Outside, Long, Malformed, NotCarried}
use Rattle.words_lines.proofs.AskedLine.{Says, line-says}
use Rattle.library.specs.Each.{Each}
use Rattle.library.specs.Yanks.{is_yank}
use Rattle.library.proofs.EachTest.{all-each, each_map, each-of-map}

yank-kind : (k : Kind) (a : Line) → Says k a → T (is_yank a) → k ≡ k_yank
yank-kind k Yank h t = h
yank-kind k Text h t = absurd t
yank-kind k Skipped h t = absurd t
yank-kind k (Deck w) h t = absurd t
yank-kind k (Comdeck w) h t = absurd t
yank-kind k (Ident w) h t = absurd t
yank-kind k (Insert r) h t = absurd t
yank-kind k (Before r) h t = absurd t
yank-kind k (Delete a b) h t = absurd t
yank-kind k (Restore a b) h t = absurd t
yank-kind k Outside h t = absurd t
yank-kind k Long h t = absurd t
yank-kind k Malformed h t = absurd t
yank-kind k NotCarried h t = absurd t

yank-params : (l : List ℕ) → T (is_yank (directive l)) → T (all is_name (params (field l)))
unfolding directive asked
yank-params l t =
    let e : kind_of_line l ≡ k_yank = yank-kind (kind_of_line l) (directive l) (line-says l) t in
    go (all in_chart l) (ltb 80 (length l)) (is_clean l) (all is_name (params (field l)))
    (subst (λ (k : Kind). T (is_yank (if not (all in_chart l) then Outside else if ltb 80 (length l) then Long else asks k (is_clean l) (field l)))) e t)
  where
    go : (a b c d : Bool) → T (is_yank (if not a then Outside else if b then Long else formed c (if d then Yank else Malformed))) → T d
    go false b c d u = absurd u
    go true true c d u = absurd u
    go true false false d u = absurd u
    go true false true true u = tt
    go true false true false u = u

pub yank-named : (l : List ℕ) → T (is_yank (directive l)) → Each (λ w. T (is_name_word w)) (yank_names l)
unfolding yank_names
yank-named l t =
    each-of-map (λ w. T (is_name_word w)) name_word (params (field l))
    (each_map _ _ (λ n u. true-T (is_name_word (name_word n)) (word-of-name-is-one n (T-true (is_name n) u))) (params (field l)) (all-each is_name (params (field l)) (yank-params l t)))
