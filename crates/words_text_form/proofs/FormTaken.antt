-- The codes that a line is written in are taken one by one. Assumes nothing.
use Rattle.std.specs.Prelude.{if◌then◌else◌}
use Prim.Native.Nat.{ℕ, zero, suc, ◌+◌, ◌-◌, ◌*◌, ◌/◌, ◌^◌, ◌<◌}
use native.Mathlib.Omega.{arith}
use native.Mathlib.Nat.{mul-lt-mul_of_pos_right}
use mathlib.Core.Path.{◌≡◌, refl, sym, ap, ◌∙◌, subst}
use mathlib.Core.Bool.{Bool, true, false}
use mathlib.Core.List.{List, [], ◌∷◌, ◌++◌, append_assoc}
use borrow.Author.Tests.{ne_eqb}
use lib.Dec.{T, eqb, ltb, T_not}
use lib.ListN.{replicate}
use Rattle.words.specs.Text.{gap, short_run, long_runs, blanks, sign, squeeze, compress, fill, words_of}
use Rattle.words_text_form.specs.Form.{full, one, free, signed, start, ended, pair_or_end, pair_next, step, after, may_end, ends_full}
use Rattle.words.proofs.TrimmedLine.{ends_well}
use Rattle.words.proofs.CompressedLine.{short-long, longs-append, sign-append}
use Rattle.words.proofs.Powers.{power_pos}
use Rattle.words_text_form.proofs.FormSound.{line_well, sign-after, second_run}

-- A SIGN, from wherever it may stand
past-sign : (s c : ℕ) (r : List ℕ) → ltb s ended ≡ true → after s (0 ∷ 1 ∷ r) ≡ after signed r → eqb c gap ≡ false → after s (sign c r) ≡ after signed r
past-sign s zero r l z e = z
past-sign s (suc c) r l z e = sign-after c r e s l

-- A RUN AND A SIGN
module _ (c : ℕ) (r : List ℕ) (e : eqb c gap ≡ false) where
  run-sign : (x : ℕ) (b : Bool) → x ≡ (if b then free else full) → after x (sign c r) ≡ after signed r
  run-sign x true q = ap (λ (i : ℕ). after i (sign c r)) q ∙ past-sign free c r refl refl e
  run-sign x false q = ap (λ (i : ℕ). after i (sign c r)) q ∙ past-sign full c r refl refl e

  short-free : (m : ℕ) → after free (short_run m ++ sign c r) ≡ after signed r
  short-free zero = past-sign free c r refl refl e
  short-free (suc zero) = past-sign one c r refl refl e
  short-free (suc (suc zero)) = past-sign full c r refl refl e
  short-free (suc (suc (suc m))) =
      ap (λ (q : List ℕ). after free (q ++ sign c r)) (short-long m) ∙ run-sign (step pair_next (suc (suc m))) (eqb (suc (suc m)) 0o77) (second_run m pair_next refl)

  short-signed : (m : ℕ) → after signed (short_run m ++ sign c r) ≡ after signed r
  short-signed zero = past-sign signed c r refl refl e
  short-signed (suc zero) = past-sign one c r refl refl e
  short-signed (suc (suc zero)) = past-sign full c r refl refl e
  short-signed (suc (suc (suc m))) =
      ap (λ (q : List ℕ). after signed (q ++ sign c r)) (short-long m) ∙ run-sign (step pair_or_end (suc (suc m))) (eqb (suc (suc m)) 0o77) (second_run m pair_or_end refl)

  long-free : (k m : ℕ) → after free (long_runs k (short_run m ++ sign c r)) ≡ after signed r
  long-free zero m = short-free m
  long-free (suc k) m = long-free k m

  long-signed : (k m : ℕ) → after signed (long_runs k (short_run m ++ sign c r)) ≡ after signed r
  long-signed zero m = short-signed m
  long-signed (suc k) m = long-free k m

  blanks-free : (n : ℕ) → after free (blanks n ++ sign c r) ≡ after signed r
  unfolding blanks
  blanks-free n =
      let k : ℕ = (n - 1) / 64 in
      ap (after free) (longs-append k (short_run (n - 64 * k)) (sign c r)) ∙ long-free k (n - 64 * k)

  blanks-signed : (n : ℕ) → after signed (blanks n ++ sign c r) ≡ after signed r
  unfolding blanks
  blanks-signed n =
      let k : ℕ = (n - 1) / 64 in
      ap (after signed) (longs-append k (short_run (n - 64 * k)) (sign c r)) ∙ long-signed k (n - 64 * k)

-- A LINE, with z zeros behind it
fill-stays : (z : ℕ) → after ended (replicate z 0) ≡ ended
fill-stays zero = refl
fill-stays (suc z) = fill-stays z

fill-ends : (z : ℕ) → T (may_end (after signed (replicate z 0)))
fill-ends zero = tt
fill-ends (suc zero) = tt
fill-ends (suc (suc z)) = rw (fill-stays z) tt

well-rest : (x : ℕ) (xs : List ℕ) → eqb x gap ≡ true → T (ends_well (x ∷ xs)) → T (line_well false xs)
well-rest x [] e t = rw e at t
well-rest x (y ∷ r) e t = t

module _ (z : ℕ) where
  -- what is written after n blanks and a sign
  ahead : (n x : ℕ) (q : List ℕ) → (blanks n ++ sign x q) ++ replicate z 0 ≡ blanks n ++ sign x (q ++ replicate z 0)
  ahead n x q = append_assoc (blanks n) (sign x q) (replicate z 0) ∙ ap (λ (r : List ℕ). blanks n ++ r) (sign-append x q (replicate z 0))

  rest-signed : (l : List ℕ) (n : ℕ) → T (may_end (after signed (squeeze n l ++ replicate z 0)))
  rest-signed [] n = fill-ends z
  rest-signed (x ∷ xs) n = go (eqb x gap) refl (rest-signed xs (suc n)) (rest-signed xs 0)
    where
      go : (b : Bool) → eqb x gap ≡ b → T (may_end (after signed (squeeze (suc n) xs ++ replicate z 0))) → T (may_end (after signed (squeeze 0 xs ++ replicate z 0)))
          → T (may_end (after signed ((if b then squeeze (suc n) xs else (blanks n ++ sign x (squeeze 0 xs))) ++ replicate z 0)))
      go true e a t = a
      go false e a t =
          subst (λ (s : ℕ). T (may_end s)) (sym (ap (after signed) (ahead n x (squeeze 0 xs)) ∙ blanks-signed x (squeeze 0 xs ++ replicate z 0) e n)) t

  rest-free : (l : List ℕ) (n : ℕ) → T (line_well false l) → T (may_end (after free (squeeze n l ++ replicate z 0)))
  rest-free [] n w = absurd w
  rest-free (x ∷ xs) n w = go (eqb x gap) refl (rest-free xs (suc n))
    where
      go : (b : Bool) → eqb x gap ≡ b → (T (line_well false xs) → T (may_end (after free (squeeze (suc n) xs ++ replicate z 0))))
          → T (may_end (after free ((if b then squeeze (suc n) xs else (blanks n ++ sign x (squeeze 0 xs))) ++ replicate z 0)))
      go true e a = a (well-rest x xs e w)
      go false e a =
          subst (λ (s : ℕ). T (may_end s)) (sym (ap (after free) (ahead n x (squeeze 0 xs)) ∙ blanks-free x (squeeze 0 xs ++ replicate z 0) e n)) (rest-signed xs 0)

  pub taken : (x : ℕ) (xs : List ℕ) → T (ends_well (x ∷ xs)) → T (may_end (after start (compress (x ∷ xs) ++ replicate z 0)))
  unfolding blanks
  taken x xs w = go (eqb x gap) refl
    where
      go : (b : Bool) → eqb x gap ≡ b → T (may_end (after start ((if b then (gap ∷ squeeze 0 xs) else (if b then squeeze 1 xs else (blanks 0 ++ sign x (squeeze 0 xs)))) ++ replicate z 0)))
      go true e = rest-free xs 0 (well-rest x xs e w)
      go false e =
          let q : List ℕ = squeeze 0 xs ++ replicate z 0 in
          subst (λ (s : ℕ). T (may_end s)) (sym (ap (after start) (ahead 0 x (squeeze 0 xs)) ∙ past-sign start x q refl refl e)) (rest-signed xs 0)

-- THE LAST CODE AND THE LAST WORD ARE NOT ZERO
full-some : (c : ℕ) (q : List ℕ) → T (ends_full q) → T (ends_full (suc c ∷ q))
full-some c [] t = rw (ne_eqb (suc c) 0 (λ e. omega arith)) tt
full-some c (x ∷ q) t = t

full-behind : (a : List ℕ) (x : ℕ) (b : List ℕ) → T (ends_full (x ∷ b)) → T (ends_full (a ++ (x ∷ b)))
full-behind [] x b t = t
full-behind (y ∷ []) x b t = t
full-behind (y ∷ w ∷ a) x b t = full-behind (w ∷ a) x b t

full-sign : (a : List ℕ) (c : ℕ) (q : List ℕ) → T (ends_full q) → T (ends_full (a ++ sign c q))
full-sign a zero q t = full-behind a 0 (1 ∷ q) (full-some 0 q t)
full-sign a (suc c) q t = full-behind a (suc c) q (full-some c q t)

full-squeeze : (l : List ℕ) (n : ℕ) → T (ends_full (squeeze n l))
full-squeeze [] n = tt
full-squeeze (x ∷ xs) n = go (eqb x gap) (full-squeeze xs (suc n)) (full-squeeze xs 0)
  where
    go : (b : Bool) → T (ends_full (squeeze (suc n) xs)) → T (ends_full (squeeze 0 xs)) → T (ends_full (if b then squeeze (suc n) xs else (blanks n ++ sign x (squeeze 0 xs))))
    go true a t = a
    go false a t = full-sign (blanks n) x (squeeze 0 xs) t

full-compress : (l : List ℕ) → T (ends_full (compress l))
full-compress [] = tt
full-compress (x ∷ xs) = go (eqb x gap) (full-squeeze xs 0) (full-squeeze (x ∷ xs) 0)
  where
    go : (b : Bool) → T (ends_full (squeeze 0 xs)) → T (ends_full (squeeze 0 (x ∷ xs))) → T (ends_full (if b then (gap ∷ squeeze 0 xs) else squeeze 0 (x ∷ xs)))
    go true a t = full-some 44 (squeeze 0 xs) a
    go false a t = t

fill-some : (cs : List ℕ) (w k : ℕ) → k < 10 → (v : ℕ) × ((r : List ℕ) × (fill w k cs ≡ v ∷ r))
fill-some [] w k h = (w * 64 ^ k, ([], rw (ne_eqb k 10 (λ e. omega arith))))
fill-some (x ∷ xs) w zero h = (w, (fill x 9 xs, refl))
fill-some (x ∷ xs) w (suc k) h = fill-some xs (w * 64 + x) k (omega arith)

full-more : (w x : ℕ) (xs : List ℕ) → T (ends_full (x ∷ xs)) → T (ends_full ((w * 64 + x) ∷ xs))
full-more w x [] t = rw (ne_eqb (w * 64 + x) 0 (λ e. T_not (eqb x 0) t (subst (λ (i : ℕ). T (eqb i 0)) (sym (zero_of e)) tt))) tt
  where
    zero_of : w * 64 + x ≡ 0 → x ≡ 0
    zero_of e = omega arith
full-more w x (y ∷ r) t = t

full-ahead : (w v : ℕ) (q r : List ℕ) → q ≡ v ∷ r → T (ends_full q) → T (ends_full (w ∷ q))
full-ahead w v q r e t = rw e (rw e at t)

full-fill : (cs : List ℕ) (w k : ℕ) → k < 10 → T (ends_full (w ∷ cs)) → T (ends_full (fill w k cs))
full-fill [] w k h t = rw (ne_eqb k 10 (λ e. omega arith), ne_eqb (w * 64 ^ k) 0 some) tt
  where
    pos : 0 < w
    pos = of w t
      where
        of : (w : ℕ) → T (ends_full (w ∷ [])) → 0 < w
        of zero t = absurd t
        of (suc w) t = omega arith

    some : w * 64 ^ k ≡ 0 → ⊥
    some e = let m : 0 * 64 ^ k < w * 64 ^ k = mul-lt-mul_of_pos_right pos (power_pos k) in omega arith
full-fill (x ∷ xs) w zero h t =
    let s = fill-some xs x 9 (omega arith) in
    full-ahead w s.0 (fill x 9 xs) s.1.0 s.1.1 (full-fill xs x 9 (omega arith) t)
full-fill (x ∷ xs) w (suc k) h t = full-fill xs (w * 64 + x) k (omega arith) (full-more w x xs t)

full-words : (cs : List ℕ) → T (ends_full cs) → T (ends_full (words_of cs))
unfolding words_of
full-words [] t = tt
full-words (x ∷ xs) t = full-fill xs (0 * 64 + x) 9 (omega arith) (full-more 0 x xs t)

pub full-written : (l : List ℕ) → T (ends_full (words_of (compress l)))
full-written l = full-words (compress l) (full-compress l)
