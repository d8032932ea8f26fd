-- A name's word is 0 exactly where there is no name.
use Rattle.std.proofs.Common.{arith}
use Rattle.words_lines.specs.Directive.{call_of}
use Rattle.words_lines.proofs.NamesByWord.{and-false, is_name_lem, no_name, name-word}
use Rattle.words_lines.proofs.calls.call_of.Goals as goal

pub returns-then-word-eq0 : goal.returns-then-word-eq0
unfolding call_of
returns-then-word-eq0 c = grind (arith, no_name, and-false)

pub returns : goal.returns
unfolding call_of
returns c = grind (arith, is_name_lem, name-word)
