-- The parts of the image are copied where they belong, so the library that was read is held.
use Prim.Native.Nat.{◌%◌, ◌^◌, ◌≤◌}
use mathlib.Core.Path.{◌≡◌, ◌∙◌}
use lib.ListN.{length, get_or}
use Rattle.run.proofs.TakenUp.{load-held, load-sane}
use borrow.Author.Rules.{rules}
use Rattle.run.proofs.load.load.Goals as goal

pub overflow_sub-result : goal.overflow_sub-result
overflow_sub-result c =
    let some : 1 ≤ get_or c.args.old.now 1 0 % 2 ^ 18 = c.requires.0.some in
    search rules

pub returns : goal.returns
returns c =
    let a = c.args in
    let pre = c.requires in
    let p = c.load_words in
    let f = c.flag_decks in
    let t = c.first_title-t in
    let d = c.find-c in
    let same : length p.new.w ≡ length a.w.now = search rules in
    let room : length p.new.w ≡ 65536 = same ∙ pre.1.0 in record { sane = (load-sane a.old.now p.new.w p.new.dir p.new.names f.new.flags a.w.now a.dir.now a.names.now t.result d.result p.ensures.w_after p.ensures.dir_after p.ensures.names_after room f.ensures t.ensures.finds_title d.ensures.finds pre.0, t.ensures.at_le_to.0); loads = load-held a.old.now p.new.w p.new.dir p.new.names f.new.flags a.w.now a.dir.now a.names.now t.result d.result p.ensures.w_after p.ensures.dir_after p.ensures.names_after room f.ensures t.ensures.finds_title d.ensures.finds }
