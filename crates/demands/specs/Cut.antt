-- PROMISE. A stream cut ahead of units and run part after part (demand 3), on images and streams as a caller meets them.
--   the parts           whole, is_cut
--   run part by part    counted, go_on, run_parts
--   the promise         B3
use Rattle.std.specs.Prelude.{ℕ, ◌+◌, ◌≤◌, ◌≡◌, Bool, true, ◌&&◌, List, [], ◌∷◌, ◌++◌, T, length}
use Rattle.words_lines.specs.Directive.{lines}
use Rattle.words_lines.specs.LineEnds.{ends_line}
use Rattle.library.specs.Library.{Library}
use Rattle.library.specs.Image.{encode}
use Rattle.run_meaning.specs.Run.{Running, new_library, bad_library, bad_stream, running}
use Rattle.run_meaning.specs.Cut.{begins_unit}

-- the stream that was cut into these parts
abbrev pub whole : List (List ℕ) → List ℕ
whole [] = []
whole (p ∷ ps) = p ++ whole ps

-- cut between lines, ahead of unit lines: every part but the last ends a line, every part but the first begins with a unit line
abbrev pub is_cut : List (List ℕ) → Bool
is_cut [] = true
is_cut (p ∷ []) = true
is_cut (p ∷ q ∷ ps) = ends_line p && (begins_unit (lines q) && is_cut (q ∷ ps))

-- an answer with its line counted on from n lines (19 and 32, which name no line, do not come up below); and where there is a library, what
-- comes after it
abbrev pub counted : ℕ → Running → Running
counted n (new_library l) = new_library l
counted n (bad_library f p) = bad_library f p
counted n (bad_stream w k) = bad_stream w (n + k)

abbrev pub go_on : Running → (Library → Running) → Running
go_on (new_library l) on = on l
go_on (bad_library f p) on = bad_library f p
go_on (bad_stream w k) on = bad_stream w k

-- the parts run one after another up to the first refusal, with n lines ahead of them: each run reads the image that the last one wrote
abbrev pub run_parts : List ℕ → ℕ → List (List ℕ) → Running
run_parts image n [] = counted n (running image [] 65536)
run_parts image n (p ∷ []) = counted n (running image p 65536)
run_parts image n (p ∷ q ∷ ps) = go_on (counted n (running image p 65536)) (λ l. run_parts (encode l) (n + length (lines p)) (q ∷ ps))

-- B3: a stream of at most 262,144 bytes, cut ahead of unit lines anywhere and run part after part with room for every library, gives the
-- library or the refusal of the whole, with its line counted from the whole's start.
unfoldable pub B3 : Type 0
B3 = (image : List ℕ) (parts : List (List ℕ)) → T (is_cut parts) → length (whole parts) ≤ 262144 → run_parts image 0 parts ≡ running image (whole parts) 65536
