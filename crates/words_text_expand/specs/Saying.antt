-- CODE. The columns that codes say, one code at a time (RULES, "Text"). That they are the columns of the codes: `codes-say` in proofs/SaidColumns.antt.
--   one code                   second_says, code_says, ahead_after
--   codes                      codes_say, state_after
--   words                      word_says, word_ahead
use Rattle.std.specs.Prelude.{ℕ, ◌+◌, List, [], ◌∷◌, ◌++◌, eqb, replicate, if◌then◌else◌}
use Rattle.words.specs.Display.{letter, blank}
use Rattle.words.specs.Text.{low_codes}
use Rattle.words_text_expand.specs.declared.say.Ahead.{Ahead}
use Rattle.words_text_expand.specs.declared.say.Ahead.TheVariants.{Alone, Second, Past}

-- ONE CODE: the columns that it says, and what is ahead of the next
-- 0001 is a colon, 0002 to 0077 are 3 to 64 blanks
abbrev pub second_says : ℕ → List ℕ
second_says c = if eqb c 0 then [] else if eqb c 1 then (58 ∷ []) else replicate (c + 1) blank

abbrev pub code_says : Ahead → ℕ → List ℕ
code_says Alone c = if eqb c 0 then [] else (letter c ∷ [])
code_says Second c = second_says c
code_says Past c = []

abbrev pub ahead_after : Ahead → ℕ → Ahead
ahead_after Alone c = if eqb c 0 then Second else Alone
ahead_after Second c = if eqb c 0 then Past else Alone
ahead_after Past c = Past

-- CODES
abbrev pub codes_say : Ahead → List ℕ → List ℕ
codes_say p [] = []
codes_say p (c ∷ cs) = code_says p c ++ codes_say (ahead_after p c) cs

abbrev pub state_after : Ahead → List ℕ → Ahead
state_after p [] = p
state_after p (c ∷ cs) = state_after (ahead_after p c) cs

-- WORDS
unfoldable pub word_says : Ahead → ℕ → List ℕ
word_says p w = codes_say p (low_codes 10 w [])

unfoldable pub word_ahead : Ahead → ℕ → Ahead
word_ahead p w = state_after p (low_codes 10 w [])
