-- The fields of the codes, where what may follow is held as six times its number, by one test at each place. Assumes nothing.
use Prim.Native.Nat.{ℕ, ◌+◌, ◌-◌, ◌*◌, ◌/◌, ◌%◌, ◌^◌, ◌≤◌, ◌<◌}
use native.Mathlib.Omega.{arith}
use native.Mathlib.Nat.{mul-le-mul_right}
use mathlib.Core.Path.{◌≡◌, ap, ◌∙◌}
use mathlib.Core.Bool.{Bool, ◌&&◌}
use lib.ListN.{get_or}
use lib.Dec.{T, eqb, eqb→eq, ltb, ltb→lt}
use Rattle.words.specs.Base.{all}
use Rattle.words_text_form.specs.Form.{step, fields_of, columns_in}
use Rattle.words_text_form.specs.declared.form.TheConstants.{FIELDS}
use Rattle.words.proofs.TestParts.{and_left, and_right}
use Rattle.words.proofs.EveryPlace.{from, below}

-- a test at each place of ten rows of 64
each : (p : ℕ → ℕ → Bool) → T (all (λ s. all (p s) (from 0 64)) (from 0 10)) → (s c : ℕ) → s < 10 → c < 64 → T (p s c)
each p t s c h l = below (p s) 64 c (below (λ r. all (p r) (from 0 64)) 10 s t h) l

-- WHAT MAY FOLLOW
abbrev right-next : ℕ → ℕ → Bool
right-next s c = eqb (fields_of c / 2 ^ (6 * s) % 64) (6 * step s c) && ltb (step s c) 10

next-right : (s c : ℕ) → s < 10 → c < 64 → T (right-next s c)
unfolding fields_of
next-right s c h l = each right-next tt s c h l

pub next-held : (v c x : ℕ) → v % 6 ≡ 0 → v < 60 → c < 64 → x ≡ fields_of c → (x / 2 ^ v % 64 ≡ 6 * step (v / 6) c) × (x / 2 ^ v % 64 < 60)
next-held v c x m h l is =
    let s : ℕ = v / 6 in
    let e : v ≡ 6 * s = omega arith in
    let t = next-right s c (omega arith) l in
    let a : fields_of c / 2 ^ (6 * s) % 64 ≡ 6 * step s c = eqb→eq (fields_of c / 2 ^ (6 * s) % 64) (6 * step s c) (and_left (eqb (fields_of c / 2 ^ (6 * s) % 64) (6 * step s c)) (ltb (step s c) 10) t) in
    let b : step s c < 10 = ltb→lt (step s c) 10 (and_right (eqb (fields_of c / 2 ^ (6 * s) % 64) (6 * step s c)) (ltb (step s c) 10) t) in
    let q : x / 2 ^ v % 64 ≡ 6 * step s c = (λ i. is i / 2 ^ e i % 64) ∙ a in
    (q, omega arith)

-- the table has the fields of each code
abbrev right-fields : ℕ → Bool
right-fields c = eqb (get_or FIELDS c 0) (fields_of c)

pub held-at : (c : ℕ) → c < 64 → get_or FIELDS c 0 ≡ fields_of c
unfolding fields_of
held-at c h = eqb→eq (get_or FIELDS c 0) (fields_of c) (below right-fields 64 c tt h)

-- THE COLUMNS
abbrev brings : ℕ → ℕ → ℕ
brings h c = (c + 64 - 1 - h) / 64 + h * c

abbrev right-columns : ℕ → ℕ → Bool
right-columns s c = eqb (brings (6 * s / 32) c) (columns_in s c)

columns-right : (s c : ℕ) → s < 10 → c < 64 → T (right-columns s c)
columns-right s c h l = each right-columns tt s c h l

pub columns-held : (v c : ℕ) → v % 6 ≡ 0 → v < 60 → c < 64 → (c + 64 - 1 - v / 32) / 64 + v / 32 * c ≡ columns_in (v / 6) c
columns-held v c m h l =
    let s : ℕ = v / 6 in
    let e : v ≡ 6 * s = omega arith in
    ap (λ (i : ℕ). brings (i / 32) c) e ∙ eqb→eq (brings (6 * s / 32) c) (columns_in s c) (columns-right s c (omega arith) l)

pub due-few : (v c : ℕ) → v < 60 → v / 32 * c ≤ c
due-few v c h = let one : v / 32 ≤ 1 = omega arith in omega (arith, mul-le-mul_right c one)
