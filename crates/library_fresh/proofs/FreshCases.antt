-- Each case of the fresh library computes to true.
use Rattle.words.specs.Display.{code_of}
use Rattle.library.specs.Library.{deck_names}
use Rattle.library.specs.Yanks.{yanked}
use Rattle.library.specs.Image.{encode}
use Rattle.library_fresh.specs.Examples.{FreshCases}

pub fresh-cases : FreshCases
unfolding code_of deck_names yanked encode FreshCases
fresh-cases = tt
