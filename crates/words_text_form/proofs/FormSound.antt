-- Codes that are taken one by one are those that their line is written in. Assumes nothing.
use Rattle.std.specs.Prelude.{if◌then◌else◌}
use Prim.Native.Nat.{ℕ, zero, suc, ◌+◌, ◌*◌, ◌≤◌, ◌<◌}
use native.Mathlib.Omega.{arith}
use mathlib.Core.Path.{◌≡◌, refl, sym, ap, ◌∙◌, subst}
use mathlib.Core.Bool.{Bool, true, false}
use mathlib.Core.List.{List, [], ◌∷◌, ◌++◌, append_assoc}
use borrow.Author.Tests.{ne_eqb, eqb-true, lt-ltb, le-ltb}
use lib.Dec.{T, eqb, ltb, ltb→lt}
use lib.ListN.{length, replicate, length-append, length-replicate}
use Rattle.words.specs.Base.{all}
use Rattle.words.specs.Text.{gap, blanks, sign, squeeze, compress, columns_of}
use Rattle.words_text_form.specs.Form.{full, one, free, signed, start, ended, pair_or_end, pair_next, colon_next, refused, step, second_code, columns_in, after, count, may_end}
use Rattle.words.proofs.TestParts.{true-T, and_left, and_right}
use Rattle.words.proofs.TrimmedLine.{ends_well}
use Rattle.words.proofs.CompressedLine.{is_code, three, columns-sign, sign-append}
use Rattle.words.proofs.TextTrip.{columns-zeros}
use Rattle.words_text_form.proofs.BlankRuns.{longer-one, longer-two, longer-run, squeeze-run}

-- the rest of a line, which may be none where b says so
abbrev pub line_well : Bool → List ℕ → Bool
line_well b [] = b
line_well b (x ∷ xs) = ends_well (x ∷ xs)

-- after n blanks, codes are the rest of their line as it is written, then fill; m are its columns
pub record Right (b : Bool) (n : ℕ) (cs : List ℕ) (m : ℕ) : Type 0 where
  pub fill : ℕ
  pub codes : blanks n ++ cs ≡ squeeze n (columns_of cs) ++ replicate fill 0
  pub well : T (line_well b (columns_of cs))
  pub many : m ≡ length (columns_of cs)

-- FILL
dead : (cs : List ℕ) → after refused cs ≡ refused
dead [] = refl
dead (c ∷ cs) = dead cs

dead_not : (cs : List ℕ) → T (may_end (after refused cs)) → ⊥
dead_not cs t = subst (λ (s : ℕ). T (may_end s)) (dead cs) t

fill-only : (cs : List ℕ) → T (may_end (after ended cs)) → cs ≡ replicate (length cs) 0
fill-only [] t = refl
fill-only (zero ∷ cs) t = ap {B = List ℕ} (λ r. 0 ∷ r) (fill-only cs t)
fill-only (suc c ∷ cs) t = absurd (dead_not cs (rw (ne_eqb (suc c) 0 (λ e. omega arith)) at t))

fill-count : (cs : List ℕ) → T (may_end (after ended cs)) → count ended cs ≡ 0
fill-count [] t = refl
fill-count (zero ∷ cs) t = omega (arith, fill-count cs t)
fill-count (suc c ∷ cs) t = absurd (dead_not cs (rw (ne_eqb (suc c) 0 (λ e. omega arith)) at t))

right_end : (z m : ℕ) (cs : List ℕ) → cs ≡ replicate z 0 → m ≡ 0 → Right true 0 cs m
unfolding blanks
right_end z m cs e h =
    let none : columns_of cs ≡ [] = ap columns_of e ∙ columns-zeros z in
    record { fill = z; codes = e ∙ ap (λ (l : List ℕ). squeeze 0 l ++ replicate z 0) (sym none); well = rw none tt; many = h ∙ ap length (sym none) }

-- A SIGN
well-sign : (c : ℕ) (l : List ℕ) → eqb c gap ≡ false → T (line_well true l) → T (ends_well (c ∷ l))
well-sign c [] e t = rw e tt
well-sign c (x ∷ xs) e t = t

right-sign : (b : Bool) (n c m : ℕ) (r : List ℕ) → eqb c gap ≡ false → Right true 0 r m → Right b n (sign c r) (suc m)
unfolding blanks
right-sign b n c m r e w =
    let l : List ℕ = columns_of r in
    let z : List ℕ = replicate w.fill 0 in
    let q : columns_of (sign c r) ≡ c ∷ l = columns-sign c r in
    let s : squeeze n (c ∷ l) ≡ blanks n ++ sign c (squeeze 0 l) = rw e in
    record {
      fill = w.fill;
      codes =
          ap (λ (x : List ℕ). blanks n ++ sign c x) w.codes
          ∙ ap (λ (x : List ℕ). blanks n ++ x) (sym (sign-append c (squeeze 0 l) z))
          ∙ sym (append_assoc (blanks n) (sign c (squeeze 0 l)) z)
          ∙ ap (λ (x : List ℕ). x ++ z) (sym s)
          ∙ ap (λ (x : List ℕ). squeeze n x ++ z) (sym q);
      well = rw q (well-sign c l e w.well);
      many = ap suc w.many ∙ ap length (sym q);
    }

-- BLANKS
well-gap : (l : List ℕ) → T (line_well false l) → T (ends_well (gap ∷ l))
well-gap [] t = t
well-gap (x ∷ xs) t = t

well-run : (b : Bool) (j : ℕ) (l : List ℕ) → T (line_well false l) → T (line_well b (replicate j gap ++ l))
well-run b zero [] t = absurd t
well-run b zero (x ∷ xs) t = t
well-run b (suc j) l t = well-gap (replicate j gap ++ l) (well-run false j l t)

right-gap : (b : Bool) (n j m : ℕ) (r : List ℕ) → j ≡ suc n → blanks n ++ (gap ∷ r) ≡ blanks j ++ r → Right false j r m → Right b n (gap ∷ r) (1 + m)
right-gap b n j m r k e w = record {
  fill = w.fill;
  codes = e ∙ w.codes ∙ ap (λ (i : ℕ). squeeze i (columns_of r) ++ replicate w.fill 0) k;
  well = well-gap (columns_of r) w.well;
  many = omega (arith, w.many);
}

right-run : (b : Bool) (n j y m : ℕ) (r : List ℕ) → j ≡ n + three y → blanks n ++ (0 ∷ suc (suc y) ∷ r) ≡ blanks j ++ r → Right false j r m
    → Right b n (0 ∷ suc (suc y) ∷ r) (three y + m)
right-run b n j y m r k e w =
    let l : List ℕ = columns_of r in
    let f : j ≡ n + (1 + suc (suc y)) = omega arith in
    record {
      fill = w.fill;
      codes = e ∙ w.codes ∙ ap (λ (q : List ℕ). q ++ replicate w.fill 0) (ap (λ (i : ℕ). squeeze i l) f ∙ sym (squeeze-run (1 + suc (suc y)) n l));
      well = well-run b (1 + suc (suc y)) l w.well;
      many = omega (arith, w.many, length-append (replicate (1 + suc (suc y)) gap) l, length-replicate (1 + suc (suc y)) gap);
    }

-- ALL CODES: from each of the four places inside a line
pub record Sound (cs : List ℕ) : Type 0 where
  pub at-full : (n : ℕ) → T (may_end (after full cs)) → Right false n cs (count full cs)
  pub at_one : (k : ℕ) → T (may_end (after one cs)) → Right false (64 * k + 1) cs (count one cs)
  pub at-free : (k : ℕ) → T (may_end (after free cs)) → Right false (64 * k + 0) cs (count free cs)
  pub at-signed : T (may_end (after signed cs)) → Right true 0 cs (count signed cs)

many-cong : {b : Bool} {n m j : ℕ} {cs : List ℕ} → m ≡ j → Right b n cs m → Right b n cs j
many-cong e w = record { fill = w.fill; codes = w.codes; well = w.well; many = sym e ∙ w.many }

no-codes : Sound []
no-codes = record { at-full = λ n t. absurd t; at_one = λ k t. absurd t; at-free = λ k t. absurd t; at-signed = λ t. right_end 0 0 [] refl refl }

one-zero : Sound (0 ∷ [])
one-zero = record { at-full = λ n t. absurd t; at_one = λ k t. absurd t; at-free = λ k t. absurd t; at-signed = λ t. right_end 1 0 (0 ∷ []) refl refl }

two-zeros : (r : List ℕ) → Sound (0 ∷ 0 ∷ r)
two-zeros r = record {
  at-full = λ n t. absurd (dead_not r t);
  at_one = λ k t. absurd (dead_not r t);
  at-free = λ k t. absurd (dead_not r t);
  at-signed = λ t. right_end (suc (suc (length r))) (0 + (0 + count ended r)) (0 ∷ 0 ∷ r) (ap {B = List ℕ} (λ q. 0 ∷ 0 ∷ q) (fill-only r t)) (omega (arith, fill-count r t));
}

colon : (r : List ℕ) → Sound r → Sound (0 ∷ 1 ∷ r)
colon r s =
    let e : suc (count signed r) ≡ 0 + (1 + count signed r) = omega arith in
    record {
      at-full = λ n t. many-cong e (right-sign false n 0 (count signed r) r refl (s.at-signed t));
      at_one = λ k t. many-cong e (right-sign false (64 * k + 1) 0 (count signed r) r refl (s.at-signed t));
      at-free = λ k t. many-cong e (right-sign false (64 * k + 0) 0 (count signed r) r refl (s.at-signed t));
      at-signed = λ t. many-cong e (right-sign true 0 0 (count signed r) r refl (s.at-signed t));
    }

module _ (c : ℕ) (r : List ℕ) (e : eqb (suc c) gap ≡ false) where
  step-sign : (s : ℕ) → ltb s ended ≡ true → step s (suc c) ≡ signed
  step-sign s l = rw (l, ne_eqb (suc c) 0 (λ q. omega arith), e)

  column-sign : (s : ℕ) → ltb s ended ≡ true → columns_in s (suc c) ≡ 1
  column-sign s l =
      let h : s < 6 = omega (arith, ltb→lt s ended (true-T (ltb s ended) l)) in
      rw (lt-ltb s pair_or_end h, ne_eqb (suc c) 0 (λ q. omega arith))

  pub sign-after : (s : ℕ) → ltb s ended ≡ true → after s (suc c ∷ r) ≡ after signed r
  sign-after s l = ap (λ (x : ℕ). after x r) (step-sign s l)

  pub sign-count : (s : ℕ) → ltb s ended ≡ true → suc (count signed r) ≡ count s (suc c ∷ r)
  sign-count s l =
      let first : 1 + count signed r ≡ columns_in s (suc c) + count (step s (suc c)) r = sym (λ t. column-sign s l t + count (step-sign s l t) r) in
      omega arith

  pub right-from : (b : Bool) (n s : ℕ) → ltb s ended ≡ true → (T (may_end (after signed r)) → Right true 0 r (count signed r)) → T (may_end (after s (suc c ∷ r)))
      → Right b n (suc c ∷ r) (count s (suc c ∷ r))
  right-from b n s l w t =
      many-cong (sign-count s l) (right-sign b n (suc c) (count signed r) r e (w (subst (λ (x : ℕ). T (may_end x)) (sign-after s l) t)))

  signs : Sound r → Sound (suc c ∷ r)
  signs s = record {
    at-full = λ n t. right-from false n 0 refl s.at-signed t;
    at_one = λ k t. right-from false (64 * k + 1) 1 refl s.at-signed t;
    at-free = λ k t. right-from false (64 * k + 0) 2 refl s.at-signed t;
    at-signed = λ t. right-from true 0 3 refl s.at-signed t;
  }

gaps : (r : List ℕ) → Sound r → Sound (gap ∷ r)
gaps r s = record {
  at-full = λ n t. absurd (dead_not r t);
  at_one = λ k t. right-gap false (64 * k + 1) (64 * k + 2) (count full r) r (omega arith) (longer-two k r) (s.at-full (64 * k + 2) t);
  at-free = λ k t. right-gap false (64 * k + 0) (64 * k + 1) (count one r) r (omega arith) (longer-one k r) (s.at_one k t);
  at-signed = λ t. right-gap true 0 1 (count one r) r refl (longer-one 0 r) (s.at_one 0 t);
}

-- the second code of a run
module _ (y : ℕ) where
  second-refused : step colon_next (suc (suc y)) ≡ refused
  second-refused = rw (ne_eqb (suc (suc y)) 1 (λ q. omega arith), ne_eqb (suc (suc y)) 0 (λ q. omega arith))

  pub second_run : (s : ℕ) → eqb s colon_next ≡ false → second_code s (suc (suc y)) ≡ (if eqb (suc (suc y)) 0o77 then free else full)
  second_run s e = rw (ne_eqb (suc (suc y)) 1 (λ q. omega arith), ne_eqb (suc (suc y)) 0 (λ q. omega arith), e)

  second-columns : (s : ℕ) → ltb s pair_or_end ≡ false → columns_in s (suc (suc y)) ≡ three y
  second-columns s e = rw (e, le-ltb (suc (suc y)) 2 (omega arith))

  module _ (r : List ℕ) (few : three y ≤ 64) (s : Sound r) where
    -- the run from 64 k blanks on, by whether it is of 64
    run_on : (b : Bool) (k x : ℕ) (c : Bool) → eqb (suc (suc y)) 0o77 ≡ c → x ≡ (if c then free else full) → T (may_end (after x r))
        → Right b (64 * k + 0) (0 ∷ suc (suc y) ∷ r) (three y + count x r)
    run_on b k x true e q t =
        let is : suc (suc y) ≡ 0o77 = eqb-true (suc (suc y)) 0o77 e in
        let j : 64 * k + three y ≡ 64 * suc k + 0 = omega arith in
        many-cong (ap (λ (i : ℕ). three y + count i r) (sym q))
        (right-run b (64 * k + 0) (64 * suc k + 0) y (count free r) r (omega arith)
        (longer-run k y r few ∙ ap (λ (i : ℕ). blanks i ++ r) j)
        (s.at-free (suc k) (subst (λ (i : ℕ). T (may_end (after i r))) q t)))
    run_on b k x false e q t =
        many-cong (ap (λ (i : ℕ). three y + count i r) (sym q))
        (right-run b (64 * k + 0) (64 * k + three y) y (count full r) r (omega arith) (longer-run k y r few)
        (s.at-full (64 * k + three y) (subst (λ (i : ℕ). T (may_end (after i r))) q t)))

    counted : (p : ℕ) → ltb p pair_or_end ≡ false → three y + count (step p (suc (suc y))) r ≡ 0 + (columns_in p (suc (suc y)) + count (step p (suc (suc y))) r)
    counted p e = omega (arith, second-columns p e)

    runs : Sound (0 ∷ suc (suc y) ∷ r)
    runs = record {
      at-full = λ n t. absurd (dead_not r (rw second-refused at t));
      at_one = λ k t. absurd (dead_not r (rw second-refused at t));
      at-free = λ k t. many-cong (counted pair_next refl) (run_on false k (step pair_next (suc (suc y))) (eqb (suc (suc y)) 0o77) refl (second_run pair_next refl) t);
      at-signed = λ t. many-cong (counted pair_or_end refl) (run_on true 0 (step pair_or_end (suc (suc y))) (eqb (suc (suc y)) 0o77) refl (second_run pair_or_end refl) t);
    }

pub sound : (cs : List ℕ) → T (all is_code cs) → Sound cs
sound [] h = no-codes
sound (zero ∷ []) h = one-zero
sound (zero ∷ zero ∷ r) h = two-zeros r
sound (zero ∷ suc zero ∷ r) h = colon r (sound r h)
sound (zero ∷ suc (suc y) ∷ r) h =
    let l = ltb→lt (suc (suc y)) 64 (and_left (is_code (suc (suc y))) (all is_code r) h) in
    runs y r (omega arith) (sound r (and_right (is_code (suc (suc y))) (all is_code r) h))
sound (suc c ∷ r) h = go (eqb (suc c) gap) refl (sound r (and_right (is_code (suc c)) (all is_code r) h))
  where
    go : (b : Bool) → eqb (suc c) gap ≡ b → Sound r → Sound (suc c ∷ r)
    go true e s = subst (λ (x : ℕ). Sound (x ∷ r)) (sym (eqb-true (suc c) gap e)) (gaps r s)
    go false e s = signs c r e s

-- FROM THE START
pub record Whole (cs : List ℕ) : Type 0 where
  pub fill : ℕ
  pub codes : cs ≡ compress (columns_of cs) ++ replicate fill 0
  pub well : T (ends_well (columns_of cs))
  pub many : count start cs ≡ length (columns_of cs)

-- a line that starts with a sign is squeezed from its first column on
whole-sign : (c : ℕ) (r : List ℕ) → eqb c gap ≡ false → Right true 0 (sign c r) (count start (sign c r)) → Whole (sign c r)
unfolding blanks
whole-sign c r e w =
    let q : columns_of (sign c r) ≡ c ∷ columns_of r = columns-sign c r in
    let f : compress (c ∷ columns_of r) ≡ squeeze 0 (c ∷ columns_of r) = ap (λ (b : Bool). if b then (gap ∷ squeeze 0 (columns_of r)) else squeeze 0 (c ∷ columns_of r)) e in
    record {
      fill = w.fill;
      codes = w.codes ∙ ap (λ (x : List ℕ). x ++ replicate w.fill 0) (ap (squeeze 0) q ∙ sym f ∙ ap compress (sym q));
      well = rw q (rw q at w.well);
      many = w.many;
    }

whole-gap : (r : List ℕ) → Right false 0 r (count free r) → Whole (gap ∷ r)
unfolding blanks
whole-gap r w = record { fill = w.fill; codes = ap {B = List ℕ} (λ q. gap ∷ q) w.codes; well = well-gap (columns_of r) w.well; many = omega (arith, w.many) }

pub whole : (cs : List ℕ) → T (all is_code cs) → T (may_end (after start cs)) → Whole cs
whole [] h t = record { fill = 0; codes = refl; well = tt; many = refl }
whole (zero ∷ []) h t = absurd t
whole (zero ∷ zero ∷ r) h t = absurd (dead_not r t)
whole (zero ∷ suc zero ∷ r) h t =
    let e : suc (count signed r) ≡ 0 + (1 + count signed r) = omega arith in
    whole-sign 0 r refl (many-cong e (right-sign true 0 0 (count signed r) r refl ((sound r h).at-signed t)))
whole (zero ∷ suc (suc y) ∷ r) h t = absurd (dead_not r (rw (second-refused y) at t))
whole (suc c ∷ r) h t = go (eqb (suc c) gap) refl (sound r (and_right (is_code (suc c)) (all is_code r) h)) t
  where
    go : (b : Bool) → eqb (suc c) gap ≡ b → Sound r → T (may_end (after start (suc c ∷ r))) → Whole (suc c ∷ r)
    go true e s t =
        let is : suc c ≡ gap = eqb-true (suc c) gap e in
        subst (λ (x : ℕ). Whole (x ∷ r)) (sym is) (whole-gap r (s.at-free 0 (subst (λ (x : ℕ). T (may_end (after start (x ∷ r)))) is t)))
    go false e s t = whole-sign (suc c) r e (right-from c r e true 0 4 refl s.at-signed t)
