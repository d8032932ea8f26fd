-- PROMISE. Cases of the fresh library.
--   fresh_cases, FreshCases
use Rattle.std.specs.Prelude.{Bool, List, [], ◌∷◌, T}
use Rattle.words.specs.Base.{all_of, same}
use Rattle.library.specs.Library.{fresh}
use Rattle.library.specs.Image.{encode}

abbrev pub fresh_cases : List Bool
fresh_cases =
    -- its words: the header, no entry and one deck, and YANK$$$
    same (encode fresh) (0o03100503130004003147 ∷ 0o00000000000000000001 ∷ 0o31011613535353000000 ∷ []) ∷ []

unfoldable pub FreshCases : Type 0
FreshCases = T (all_of fresh_cases)
