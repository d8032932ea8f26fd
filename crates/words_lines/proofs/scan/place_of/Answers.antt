-- The place where the first byte stops the search is as far as what is ahead of it is long.
use Rattle.std.proofs.Common.{rules, tests, ◌+◌, ◌-◌, length, take, drop, unwrap_or, ap, ◌∙◌}
use Rattle.std.proofs.lemmas.Iterator.{YieldsList-from_slice}
use Rattle.std.proofs.lemmas.Iterator.Search.{position_from_yields_List}
use Rattle.std.proofs.lemmas.List.{take_rest}
use Rattle.words_lines.specs.Scan.{stops_at}
use Rattle.words_lines.proofs.CutAtFirst.{reach-position}
use Rattle.words_lines.proofs.scan.place_of.Goals as goal

pub returns-clause-place : goal.returns-clause-place
returns-clause-place c =
    let a = c.args in
    let p = stops_at a.stop in
    let rest = take (length a.s.now - a.at) (drop a.at a.s.now) in
    let r = position_from_yields_List p _ _ c.position.result c.position.ensures.ran (YieldsList-from_slice rest c.iter.ensures.rest) (λ x b q k. search (rules, tests)) in
    ap (λ n. a.at + n) (c.unwrap_or.ensures ∙ ap (λ o. unwrap_or o (length rest)) r ∙ reach-position p rest ∙ rw take_rest)
