-- A line whose first word has another code first does not begin with a star. Assumes nothing.
--   line-starless     a line whose first word has another code first does not
use Rattle.std.specs.Prelude.{if◌then◌else◌}
use Prim.Native.Nat.{ℕ, zero, suc, ◌+◌, ◌-◌, ◌/◌, ◌%◌, ◌^◌, ◌<◌}
use native.Mathlib.Omega.{arith}
use mathlib.Core.Path.{◌≡◌, refl, sym, ap, ◌∙◌}
use mathlib.Core.Bool.{Bool, true, false}
use mathlib.Core.List.{List, [], ◌∷◌, map}
use borrow.Author.Tests.{eqb-false, ne_eqb}
use lib.Dec.{eqb, leb}
use lib.ListN.{length, get_or, take, drop}
use Rattle.library.proofs.CardWithin.{first-at}
use Rattle.words.specs.Display.{code_of, letter, star}
use Rattle.words.specs.Text.{low_codes, all_codes, columns_of, says, is_text}
use Rattle.words.proofs.ChartBothWays.{code-letter}
use Rattle.words.proofs.CodeAtPlace.{word_at}
use Rattle.words_lines.specs.Directive.{starts}
use Rattle.library_image.specs.Places.{text_of, line_in, star_at}

-- THE FIRST COLUMN of what codes stand for
star-code : code_of star ≡ 0o47
unfolding code_of
star-code = refl

letter-starless : (c : ℕ) → c < 64 → (c ≡ 0o47 → ⊥) → eqb star (letter c) ≡ false
letter-starless c h ne = ne_eqb star (letter c) (λ e. ne (sym (code-letter c h) ∙ ap code_of (sym e) ∙ star-code))

columns-starless : (cs : List ℕ) → get_or cs 0 0 < 64 → (get_or cs 0 0 ≡ 0o47 → ⊥) → starts star (map letter (columns_of cs)) ≡ false
unfolding letter
columns-starless [] h ne = refl
columns-starless (zero ∷ []) h ne = refl
columns-starless (zero ∷ zero ∷ r) h ne = refl
columns-starless (zero ∷ suc zero ∷ r) h ne = refl
columns-starless (zero ∷ suc (suc y) ∷ r) h ne = let e : 1 + suc (suc y) ≡ suc (suc (suc y)) = omega arith in rw e
columns-starless (suc c ∷ r) h ne = letter-starless (suc c) h ne

-- of what words say
part-starless : (n : ℕ) (ws : List ℕ) → (get_or ws 0 0 / 2 ^ 54 % 2 ^ 6 ≡ 0o47 → ⊥) → starts star (says (take n ws)) ≡ false
unfolding says
part-starless zero ws ne = refl
part-starless (suc n) [] ne = refl
part-starless (suc n) (w ∷ ws) ne =
    let first : get_or (low_codes 10 w (all_codes (take n ws))) 0 0 ≡ w / 64 ^ 9 % 64 = word_at w 0 (all_codes (take n ws)) (omega arith) in
    columns-starless (low_codes 10 w (all_codes (take n ws))) (omega (arith, first)) (λ e. ne (sym first ∙ e))

text-starless : (ws : List ℕ) → starts star (says ws) ≡ false → starts star (text_of ws) ≡ false
text-starless ws none = go (is_text ws)
  where
    go : (b : Bool) → starts star (if b then says ws else []) ≡ false
    go true = none
    go false = refl

pub line-starless : (ws : List ℕ) (from to : ℕ) → star_at ws from ≡ false → starts star (line_in ws from to) ≡ false
unfolding line_in
line-starless ws from to none = go (leb to (length ws))
  where
    other : get_or (drop from ws) 0 0 / 2 ^ 54 % 2 ^ 6 ≡ 0o47 → ⊥
    other = rw (first-at ws from) (eqb-false (get_or ws from 0 / 2 ^ 54 % 2 ^ 6) 0o47 none)

    go : (b : Bool) → starts star (if b then text_of (take (to - from) (drop from ws)) else []) ≡ false
    go true = text-starless (take (to - from) (drop from ws)) (part-starless (to - from) (drop from ws) other)
    go false = refl
