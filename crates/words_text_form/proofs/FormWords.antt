-- Two texts of the same codes, fill aside, are the same words. Assumes nothing.
use Prim.Native.Nat.{ℕ, zero, suc, ◌+◌, ◌-◌, ◌/◌, ◌%◌, ◌^◌, ◌<◌}
use native.Mathlib.Omega.{arith}
use native.Mathlib.Nat.{div-one, div-div-eq-div-mul, pow-suc, pow-succ'}
use mathlib.Core.Path.{◌≡◌, refl, sym, ap, ap₂, ◌∙◌, subst}
use mathlib.Core.List.{List, [], ◌∷◌, ◌++◌}
use lib.Dec.{T, ltb→lt}
use lib.ListN.{get_or, replicate}
use Rattle.words.specs.Base.{all, is_word}
use Rattle.words.specs.Text.{low_codes, all_codes}
use Rattle.words_text_form.specs.Form.{ends_full}
use Rattle.words.proofs.TestParts.{and_left, and_right}
use Rattle.words.proofs.CodeAtPlace.{low-beyond, word_at}

-- FILL
zeros-at : (z j : ℕ) → ◌≡◌ {A = ℕ} (get_or (replicate z 0) j 0) 0
zeros-at zero j = refl
zeros-at (suc z) zero = refl
zeros-at (suc z) (suc j) = zeros-at z j

pub fill-at : (cs : List ℕ) (z j : ℕ) → get_or (cs ++ replicate z 0) j 0 ≡ get_or cs j 0
fill-at [] z j = zeros-at z j
fill-at (c ∷ cs) z zero = refl
fill-at (c ∷ cs) z (suc j) = fill-at cs z j

-- A WORD
same_digits : (n v w : ℕ) → v < 64 ^ n → w < 64 ^ n → ((j : ℕ) → j < n → v / 64 ^ j % 64 ≡ w / 64 ^ j % 64) → v ≡ w
same_digits zero v w h l e = omega arith
same_digits (suc n) v w h l e =
    let lv : v / 64 < 64 ^ n = omega (arith, rw (pow-suc 64 n) at h) in
    let lw : w / 64 < 64 ^ n = omega (arith, rw (pow-suc 64 n) at l) in
    let low : v % 64 ≡ w % 64 = ap (λ (i : ℕ). i % 64) (sym (div-one v)) ∙ e 0 (omega arith) ∙ ap (λ (i : ℕ). i % 64) (div-one w) in
    let high : v / 64 ≡ w / 64 = same_digits n (v / 64) (w / 64) lv lw (λ j k. digit j v ∙ e (suc j) (omega arith) ∙ sym (digit j w)) in
    omega arith
  where
    digit : (j u : ℕ) → u / 64 / 64 ^ j % 64 ≡ u / 64 ^ suc j % 64
    digit j u = ap (λ (i : ℕ). i % 64) (div-div-eq-div-mul u 64 (64 ^ j) ∙ ap (λ (i : ℕ). u / i) (sym (pow-succ' 64 j)))

same_word : (v w : ℕ) (q r : List ℕ) → T (is_word v) → T (is_word w) → ((j : ℕ) → get_or (low_codes 10 v q) j 0 ≡ get_or (low_codes 10 w r) j 0) → v ≡ w
same_word v w q r h l e = same_digits 10 v w (ltb→lt v (2 ^ 60) h) (ltb→lt w (2 ^ 60) l) at_place
  where
    at_place : (j : ℕ) → j < 10 → v / 64 ^ j % 64 ≡ w / 64 ^ j % 64
    at_place j k =
        let f : 9 - (9 - j) ≡ j = omega arith in
        let p : 9 - j < 10 = omega arith in
        ap (λ (i : ℕ). v / 64 ^ i % 64) (sym f) ∙ sym (word_at v (9 - j) q p) ∙ e (9 - j) ∙ word_at w (9 - j) r p ∙ ap (λ (i : ℕ). w / 64 ^ i % 64) f

-- WORDS
full-rest : (w : ℕ) (ws : List ℕ) → T (ends_full (w ∷ ws)) → T (ends_full ws)
full-rest w [] t = tt
full-rest w (v ∷ r) t = t

not-fill : (w : ℕ) (ws : List ℕ) → T (all is_word (w ∷ ws)) → T (ends_full (w ∷ ws)) → ((j : ℕ) → get_or (all_codes (w ∷ ws)) j 0 ≡ 0) → ⊥
not-fill w [] h t e =
    let is : w ≡ 0 = same_word w 0 [] [] (and_left (is_word w) (all is_word []) h) tt (λ j. e j ∙ sym (zeros-at 10 j)) in
    subst (λ (i : ℕ). T (ends_full (i ∷ []))) is t
not-fill w (v ∷ r) h t e = not-fill v r (and_right (is_word w) (all is_word (v ∷ r)) h) t (λ j. sym (low-beyond 10 w j (all_codes (v ∷ r))) ∙ e (10 + j))

pub same-text-words : (vs ws : List ℕ) → T (all is_word vs) → T (all is_word ws) → T (ends_full vs) → T (ends_full ws)
    → ((j : ℕ) → get_or (all_codes vs) j 0 ≡ get_or (all_codes ws) j 0) → vs ≡ ws
same-text-words [] [] h l s t e = refl
same-text-words [] (w ∷ ws) h l s t e = absurd (not-fill w ws l t (λ j. sym (e j)))
same-text-words (v ∷ vs) [] h l s t e = absurd (not-fill v vs h s e)
same-text-words (v ∷ vs) (w ∷ ws) h l s t e =
    ap₂ {C = List ℕ} ◌∷◌ (same_word v w (all_codes vs) (all_codes ws) (and_left (is_word v) (all is_word vs) h) (and_left (is_word w) (all is_word ws) l) e)
    (same-text-words vs ws (and_right (is_word v) (all is_word vs) h) (and_right (is_word w) (all is_word ws) l) (full-rest v vs s) (full-rest w ws t)
    (λ j. sym (low-beyond 10 v j (all_codes vs)) ∙ e (10 + j) ∙ low-beyond 10 w j (all_codes ws)))
