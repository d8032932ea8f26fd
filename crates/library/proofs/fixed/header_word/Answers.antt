-- The words of these names are numbers that antt computes. Assumes nothing.
use mathlib.Core.Path.{◌≡◌}
use native.Mathlib.Omega.{arith}
use Rattle.words.specs.Display.{code_of}
use Rattle.words.specs.Names.{is_name, name_word}
use Rattle.words.specs.Spelt.{word_of_name}
use Rattle.library.proofs.fixed.header_word.Goals as goal

pub overflow_add-result : goal.overflow_add-result
unfolding word_of_name is_name name_word code_of
overflow_add-result c =
    let a : c.word_of_name.result ≡ 0o03100503130000000000 = c.word_of_name.ensures in
    omega arith

pub overflow_add-result-2 : goal.overflow_add-result-2
unfolding word_of_name is_name name_word code_of
overflow_add-result-2 c =
    let a : c.word_of_name.result ≡ 0o03100503130000000000 = c.word_of_name.ensures in
    let b : c.word_of_name-2.result ≡ 0o31470000000000000000 = c.word_of_name-2.ensures in
    omega arith

pub returns : goal.returns
unfolding word_of_name is_name name_word code_of
returns c =
    let a : c.word_of_name.result ≡ 0o03100503130000000000 = c.word_of_name.ensures in
    let b : c.word_of_name-2.result ≡ 0o31470000000000000000 = c.word_of_name-2.ensures in
    omega arith
