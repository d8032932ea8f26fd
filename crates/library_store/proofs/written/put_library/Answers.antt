-- Header, directory, deck list and cards are written one after another.
use Prim.Native.Nat.{ℕ, ◌+◌}
use mathlib.Core.Path.{ap, ◌∙◌}
use mathlib.Core.List.{List}
use lib.ListN.{length}
use Rattle.library_store.proofs.StoredLibrary.{library-written}
use Rattle.words_lists.specs.Over.{over}
use Rattle.library_store.proofs.written.put_library.Goals as goal

pub returns : goal.returns
returns c =
    let a = c.args in
    let n = length a.directory.now in
    let k = length a.decks.now in
    let lo = length a.low.now in
    c.put-4.ensures
    ∙ ap (over (2 + n + k + lo) a.high.now) c.put-3.ensures
    ∙ ap (λ (v : List ℕ). over (2 + n + k + lo) a.high.now (over (2 + n + k) a.low.now v)) c.put-2.ensures
    ∙ ap (λ (v : List ℕ). over (2 + n + k + lo) a.high.now (over (2 + n + k) a.low.now (over (2 + n) a.decks.now v))) c.put.ensures
    ∙ ap (λ (v : List ℕ). over (2 + n + k + lo) a.high.now (over (2 + n + k) a.low.now (over (2 + n) a.decks.now (over 2 a.directory.now v)))) c.put_header.ensures
    ∙ library-written a.directory.now a.decks.now a.low.now a.high.now a.space.now c.requires.1.1
