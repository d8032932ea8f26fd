-- CODE. Cards that have room for their raised numbers, and flags that go with them.
--   what fits    RaisesByte, Raises
--   the flags    Carries
use Rattle.std.specs.Prelude.{ℕ, ◌+◌, ◌^◌, ◌<◌, ◌≡◌, Bool, length}
use Rattle.words.specs.Text.{text_words}
use Rattle.library.specs.Each.{Each}
use Rattle.library.specs.Library.{Byte, Card, history}

-- WHAT FITS: the fields of the layout hold the numbers, the raised ones too
abbrev pub RaisesByte : ℕ → Byte → Type 0
RaisesByte n b = (0 < b.number) × (n + b.number < 2 ^ 16)

pub record Raises (n : ℕ) (c : Card) : Type 0 where
  pub count : length (text_words c.line) < 2 ^ 18
  pub below : c.seq < 2 ^ 18
  pub bytes : Each (RaisesByte n) (history c)

-- the flags of the raised numbers are those of the numbers. Of 0 nothing is said: its flag would be that of n itself
abbrev pub Carries : ℕ → (ℕ → Bool) → (ℕ → Bool) → Type 0
Carries n yk new = (k : ℕ) → 0 < k → new (n + k) ≡ yk k
