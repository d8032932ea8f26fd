-- CODE. What the parts of `compile` answer, each of whatever stands behind it.
--   of a view                  Printable, Plain, CompileAnswers, Compiles
--   of an image that is sound  CompilesImage
use Rattle.std.specs.Prelude.{ℕ, ◌<◌, ◌≡◌, true, List, length, Result}
use Rattle.words.specs.Names.{is_name_word}
use Rattle.library.specs.Library.{Library}
use Rattle.library.specs.Each.{Each}
use Rattle.library.specs.Check.{good, check}
use Rattle.compile_walk.specs.View.{Shown, DeckView, view, full_choice}
use Rattle.compile.specs.Compile.{Compiling, of_walk, compile_chosen, compile_view, compiled, compile_into}
use Rattle.compile_walk.specs.declared.Counts.{Counts}
use Rattle.compile.specs.declared.CompileRefused.{CompileRefused}

-- every card shown has an owner with a name, and a number of 18 bits
abbrev pub Printable : Shown → Type 0
Printable c = (is_name_word c.name ≡ true) × (c.seq < 262144)

abbrev pub Plain : List DeckView → Type 0
Plain ds = Each (λ d. Each Printable d.lines) ds

abbrev pub CompileAnswers : Compiling → Result Counts CompileRefused → List ℕ → List ℕ → Type 0
CompileAnswers c r before after = (r ≡ compiled c) × (after ≡ compile_into c before)

-- the normal ones of the decks that are chosen, each called deck looked up among all
abbrev pub Compiles : List DeckView → List DeckView → Result Counts CompileRefused → List ℕ → List ℕ → Type 0
Compiles ds chosen r before after = Plain ds → Plain chosen → CompileAnswers (of_walk (compile_chosen (length before) ds (full_choice chosen))) r before after

abbrev pub CompilesImage : List ℕ → Result Counts CompileRefused → List ℕ → List ℕ → Type 0
CompilesImage ws r before after = (l : Library) → check ws ≡ good l → CompileAnswers (of_walk (compile_view (length before) (view l))) r before after
