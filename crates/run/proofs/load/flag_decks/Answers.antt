use native.Mathlib.Omega.{arith}
use Prim.Native.Nat.{ℕ}
use mathlib.Core.Path.{◌≡◌, refl, ap, ◌∙◌}
use mathlib.Core.List.{List, map}
use Rattle.words.specs.Base.{member}
use lib.ListN.{length, length-set}
use Rattle.std.proofs.lemmas.List.{take_rest}
use Rattle.library.specs.Library.{entry_of}
use Rattle.run.proofs.Flagging.{no-flags, flag-start, flag-more, flag-end}
use borrow.Author.Rules.{rules}
use Rattle.run.proofs.load.flag_decks.Goals as goal

pub loop-name-init : goal.loop-name-init
loop-name-init c =
    let a = c.args in
    let p = c.clear in
    (refl, flag-start (entry_of a.directory.now) _ p.new.list (no-flags (length a.flags.now) p.new.list p.ensures))

pub loop-name-preserved : goal.loop-name-preserved
loop-name-preserved c =
    let a = c.args in
    let l = c.loop-name in
    let p = c.entry_of-e in
    let same : length c.clear.new.list ≡ length a.flags.now = search rules in (
      length-set l.flags p.result 1 ∙ l.invariant.0,
      flag-more (entry_of a.directory.now) _ l.name-index l.flags p.result (search rules) (omega (arith, p.ensures.upper_bound, l.invariant.0, same, c.requires.0)) (search rules) l.invariant.1,
    )

pub returns : goal.returns
returns c =
    let a = c.args in
    let l = c.loop-name in
    λ m. flag-end (entry_of a.directory.now) _ l.name-index l.flags (search rules) l.invariant.1 m
    ∙ ap (λ (ns : List ℕ). member m (map (entry_of a.directory.now) ns)) (take_rest a.list.now 1)
