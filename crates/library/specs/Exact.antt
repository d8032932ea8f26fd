-- PROMISE. The check accepts exactly the images of sound libraries (RULES, "The check"), and what they say has one reading (RULES, "When a card is active").
--   the check        CheckEncode, CheckSound, EncodeCheck, CheckExact, EncodeOnce
--   the yank rule    YankedSolves, YankedUnique
--   not empty        FreshSound
use Rattle.std.specs.Prelude.{ℕ, ◌≡◌, ◌↔◌, Bool, List}
use Rattle.words.specs.Base.{member}
use Rattle.library.specs.Library.{Library, fresh}
use Rattle.library.specs.Yanks.{Solves, yanks_of, settled_yanks}
use Rattle.library.specs.Image.{encode}
use Rattle.library.specs.Check.{good, check}
use Rattle.library.specs.Sound.{Sound}

-- what is accepted is what the library that was read is written in
abbrev pub CheckEncode : Type 0
CheckEncode = (ws : List ℕ) (l : Library) → check ws ≡ good l → encode l ≡ ws

-- and that library is sound
abbrev pub CheckSound : Type 0
CheckSound = (ws : List ℕ) (l : Library) → check ws ≡ good l → Sound l

-- the image of a sound library is accepted, and read as that library
abbrev pub EncodeCheck : Type 0
EncodeCheck = (l : Library) → Sound l → check (encode l) ≡ good l

-- the three together: what is accepted as l is the image of l, and l is sound
abbrev pub CheckExact : Type 0
CheckExact = (ws : List ℕ) (l : Library) → (check ws ≡ good l) ↔ (Sound l × (encode l ≡ ws))

-- so sound libraries that are written in the same words are the same
abbrev pub EncodeOnce : Type 0
EncodeOnce = (l m : Library) → Sound l → Sound m → encode l ≡ encode m → l ≡ m

-- in a sound library the settled sets solve the yank rule, and nothing else does
abbrev pub YankedSolves : Type 0
YankedSolves = (l : Library) → Sound l → Solves (yanks_of l) (λ n. member n (settled_yanks l))

abbrev pub YankedUnique : Type 0
YankedUnique = (l : Library) → Sound l → (f : ℕ → Bool) → Solves (yanks_of l) f → (n : ℕ) → f n ≡ member n (settled_yanks l)

-- there are sound libraries: the one that a creation run starts from
abbrev pub FreshSound : Type 0
FreshSound = Sound fresh
