-- R6: a compile answer is that of the library's view, so the text of inactive cards does not count.
use Prim.Native.Nat.{ℕ}
use mathlib.Core.Path.{◌≡◌, sym, ap, ◌∙◌}
use mathlib.Core.List.{List}
use Rattle.library.specs.Library.{Library}
use Rattle.library.specs.Check.{good, check}
use Rattle.library.proofs.CheckSound.{check_sound}
use Rattle.compile_walk.specs.View.{view}
use Rattle.compile.specs.Compile.{compile_view, compiling, of_walk, compile_checked as compile_checked}
use Rattle.compile_walk.proofs.AlikeView.{view-alike}
use Rattle.demands.specs.Demands.{R6}

pub compile-good : (image : List ℕ) (l : Library) → check image ≡ good l → (room : ℕ) → compiling image room ≡ of_walk (compile_view room (view l))
unfolding compiling
compile-good image l e room = ap (compile_checked room) e

pub inactive-text : R6
unfolding R6
inactive-text image other l m p q a room =
    compile-good other m q room
    ∙ ap (λ ds. of_walk (compile_view room ds)) (view-alike l m (check_sound image l p) (check_sound other m q) a)
    ∙ sym (compile-good image l p room)
