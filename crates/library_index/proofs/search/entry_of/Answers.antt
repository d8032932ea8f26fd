use Rattle.std.proofs.Common.{rules, tests, ◌≡◌, ◌+◌, ◌==◌, ap, ◌∙◌}
use Rattle.std.specs.Option.{option_map_or}
use Rattle.std.specs.List.{position}
use Rattle.std.proofs.lemmas.Iterator.{YieldsList-from_slice}
use Rattle.std.proofs.lemmas.Iterator.Search.{position_from_yields_List}
use Rattle.library_index.proofs.NameNumber.{entry-position}
use Rattle.library_index.proofs.search.entry_of.Goals as goal

pub returns : goal.returns
returns c =
    let a = c.args in
    let found : c.position.result ≡ position (λ x. x == a.w) a.directory.now =
    position_from_yields_List (λ x. x == a.w) _ _ c.position.result c.position.ensures.ran (YieldsList-from_slice a.directory.now c.iter.ensures.rest) (λ x b q k. search (rules, tests)) in
    let number : c.map_or.result ≡ option_map_or (λ i. i + 1) c.position.result 0 = search (rules, c.map_or.ensures) in
    number ∙ ap (λ o. option_map_or (λ i. i + 1) o 0) found ∙ entry-position a.w a.directory.now
