-- CODE. Text in a space.
--   Wrote        a text at the front of a space, and nothing beyond it
--   no_blank, after_blanks  a field from its first byte on that is no blank
use Rattle.std.specs.Prelude.{ℕ, ◌≡◌, Bool, not, List, ◌++◌, eqb, length, drop}
use Rattle.words.specs.Base.{drop_until}
use Rattle.words.specs.Display.{blank}

abbrev pub Wrote : List ℕ → ℕ → List ℕ → List ℕ → Type 0
Wrote text n before after = (n ≡ length text) × (after ≡ text ++ drop (length text) before)

abbrev pub no_blank : ℕ → Bool
no_blank b = not (eqb b blank)

abbrev pub after_blanks : List ℕ → List ℕ
after_blanks bs = drop_until no_blank bs
