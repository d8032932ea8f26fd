-- The lines of two streams one after the other, where the first ends with a line, are those of both.
use Rattle.std.specs.Prelude.{if◌then◌else◌}
use Prim.Native.Nat.{ℕ}
use mathlib.Core.Path.{◌≡◌, refl, ap, ◌∙◌}
use mathlib.Core.Bool.{Bool, true, false, not}
use mathlib.Core.List.{List, [], ◌∷◌, ◌++◌}
use lib.Dec.{T}
use Rattle.words.specs.Base.{is_nil, into}
use Rattle.words_lines.specs.Directive.{is_end, lines}
use Rattle.words_lines.specs.LineEnds.{LinesAppend}

-- a byte ahead of lines
ahead : Bool → ℕ → List (List ℕ) → List (List ℕ)
ahead c b ls = if c then ([] ∷ ls) else into b ls

ahead-some : (c : Bool) (b : ℕ) (ls : List (List ℕ)) → T (not (is_nil (ahead c b ls)))
unfolding ahead
ahead-some true b ls = tt
ahead-some false b [] = tt
ahead-some false b (l ∷ ls) = tt

some-line : (b : ℕ) (bs : List ℕ) → T (not (is_nil (lines (b ∷ bs))))
unfolding lines ahead
some-line b bs = ahead-some (is_end b) b (lines bs)

end-append : (c : Bool) (b : ℕ) (ls : List (List ℕ)) → T c → ahead c b ls ≡ ahead c b [] ++ ls
unfolding ahead
end-append true b ls t = refl
end-append false b ls t = absurd t

ahead-append : (c : Bool) (b : ℕ) (ls ms : List (List ℕ)) → T (not (is_nil ls)) → ahead c b (ls ++ ms) ≡ ahead c b ls ++ ms
unfolding ahead
ahead-append true b ls ms t = refl
ahead-append false b [] ms t = absurd t
ahead-append false b (l ∷ ls) ms t = refl

pub lines-append : LinesAppend
unfolding lines ahead
lines-append [] y t = refl
lines-append (b ∷ []) y t = end-append (is_end b) b (lines y) t
lines-append (b ∷ c ∷ bs) y t =
    ap (ahead (is_end b) b) (lines-append (c ∷ bs) y t)
    ∙ ahead-append (is_end b) b (lines (c ∷ bs)) (lines y) (some-line c bs)
