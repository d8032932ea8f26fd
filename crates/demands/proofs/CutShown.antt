-- B3 is met by the shown stream in parts, and without any one of its hypotheses it can fail.
use Rattle.std.specs.Prelude.{if◌then◌else◌}
use Prim.Native.Nat.{ℕ, zero, suc, ◌+◌, ◌<◌}
use native.Mathlib.Omega.{arith}
use mathlib.Core.Path.{◌≡◌, refl, sym, ap, ◌∙◌, subst}
use mathlib.Core.Bool.{Bool, true, ◌&&◌}
use mathlib.Core.List.{List, [], ◌∷◌}
use lib.Dec.{T}
use lib.ListN.{length, replicate, length-append, length-replicate}
use borrow.Author.Tests.{lt-ltb, le-ltb}
use Rattle.words.specs.Display.{code_of, letter}
use Rattle.words.specs.Names.{is_name, name_word, name_of, is_name_word, is_number, numeral, left_justified, right_justified}
use Rattle.words.specs.Text.{blanks, words_of, text_words, says, is_text}
use Rattle.words_lines.specs.Directive.{lines, kind_of, name_of_line, kind_of_line, field, is_clean, is_card, card_named, asked, directive, yank_names, call_of}
use Rattle.words_lines.specs.FirstLine.{line_of, after_line}
use Rattle.words_lines.specs.LineEnds.{ends_line}
use Rattle.library.specs.Check.{Checking, check}
use Rattle.library.specs.Image.{card_words, encode, within_limits}
use Rattle.library.specs.Library.{fresh, stream, entry_of, deck_names, deck_line}
use Rattle.library.specs.Yanks.{active, targets, yanks_of, settled_yanks, yanked}
use Rattle.words.proofs.TestParts.{and_both}
use Rattle.library.proofs.CheckSound.{fresh-sound}
use Rattle.library.proofs.EncodeCheck.{encode-check}
use Rattle.run_meaning.specs.Step.{start, find, step}
use Rattle.run_meaning.specs.Run.{steps, not_updated, fitted, update, Running, bad_stream, from_updated, run_checked, running}
use Rattle.run_meaning.specs.declared.Why.TheVariants.{Stream, Nowhere}
use Rattle.run_meaning.specs.Cut.{begins_unit}
use Rattle.compile.specs.Compile.{compiling}
use Rattle.compile_walk.specs.View.{view}
use Rattle.compile_walk.specs.Walk.{printed, called_deck}
use Rattle.demands.specs.Shown.{stream_of}
use Rattle.demands.specs.Cut.{whole, is_cut, counted, go_on, run_parts}
use Rattle.demands.specs.CutShown.{ShownCut, differ, NoneSpareCut, long_parts, SizeNeeded}

pub shown-cut : ShownCut
unfolding code_of letter is_name name_word name_of is_name_word is_number numeral left_justified right_justified blanks words_of text_words says is_text line_of after_line lines kind_of name_of_line kind_of_line field is_clean is_card card_named asked directive yank_names call_of check card_words encode within_limits stream entry_of deck_names deck_line active targets yanks_of settled_yanks yanked update running find step compiling view printed called_deck
shown-cut = record { cut = tt; stream = tt; size = omega arith; compiled = tt; cut_too = tt; refused = tt }

pub none-spare-cut : NoneSpareCut
unfolding code_of letter is_name name_word name_of is_name_word is_number numeral blanks words_of text_words says is_text line_of after_line lines kind_of name_of_line kind_of_line field is_clean is_card card_named asked directive yank_names check card_words encode within_limits stream entry_of deck_names deck_line active targets yanks_of settled_yanks yanked update running find step NoneSpareCut
none-spare-cut = tt

-- TOO LONG: blank lines, of which the first is refused, ahead of a part that begins with a unit line
abbrev pump : List ℕ
pump = stream_of ("*DECK PUMP" ∷ [])

ends-replicate : (n : ℕ) → T (ends_line (replicate n 10))
ends-replicate zero = tt
ends-replicate (suc zero) = tt
ends-replicate (suc (suc n)) = ends-replicate (suc n)

cut-long : (n : ℕ) → T (is_cut (replicate n 10 ∷ pump ∷ []))
unfolding code_of is_name name_word lines kind_of name_of_line kind_of_line field is_clean asked directive
cut-long n = and_both (ends_line (replicate n 10)) (begins_unit (lines pump) && true) (ends-replicate n) tt

running-fresh : (x : List ℕ) → running (encode fresh) x 65536 ≡ from_updated (update fresh x 65536)
unfolding running
running-fresh x = ap (λ (c : Checking). run_checked c x 65536) (encode-check fresh fresh-sound)

-- a stream that is too long, and one that begins with a blank line
running-long : (x : List ℕ) → 262144 < length x → running (encode fresh) x 65536 ≡ bad_stream Stream 0
unfolding update
running-long x h =
    running-fresh x ∙ ap (λ (c : Bool). from_updated (if c then not_updated Stream 0 else fitted 65536 (steps (start fresh) 1 (lines x)))) (lt-ltb 262144 (length x) h)

running-blank : (x : List ℕ) → length x < 262144 → running (encode fresh) (10 ∷ x) 65536 ≡ bad_stream Nowhere 1
unfolding update lines step directive asked kind_of_line
running-blank x h =
    running-fresh (10 ∷ x)
    ∙ ap (λ (c : Bool). from_updated (if c then not_updated Stream 0 else fitted 65536 (steps (start fresh) 1 (lines (10 ∷ x))))) (le-ltb 262144 (suc (length x)) (omega arith))

differs-long : (n : ℕ) → suc n ≡ 262144 → T (differ (run_parts (encode fresh) 0 (replicate (suc n) 10 ∷ pump ∷ [])) (running (encode fresh) (whole (replicate (suc n) 10 ∷ pump ∷ [])) 65536))
differs-long n e =
    let x : List ℕ = replicate n 10 in
    let size : length x ≡ n = length-replicate n 10 in
    let all : length (whole ((10 ∷ x) ∷ pump ∷ [])) ≡ suc (n + length (whole (pump ∷ []))) = ap suc (length-append x (whole (pump ∷ [])) ∙ ap (λ (k : ℕ). k + length (whole (pump ∷ []))) size) in
    subst (λ (r : Running). T (differ r (running (encode fresh) (whole ((10 ∷ x) ∷ pump ∷ [])) 65536)))
    (sym (ap (λ (r : Running). go_on (counted 0 r) (λ l. run_parts (encode l) (0 + length (lines (10 ∷ x))) (pump ∷ []))) (running-blank x (omega arith))))
    (subst (λ (r : Running). T (differ (bad_stream Nowhere 1) r)) (sym (running-long (whole ((10 ∷ x) ∷ pump ∷ [])) (omega (arith, all)))) tt)

pub size-needed : SizeNeeded
unfolding long_parts
size-needed = record { cut = cut-long 262144; differs = differs-long 262143 refl }
