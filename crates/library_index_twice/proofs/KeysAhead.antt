-- Keys one after another, each with those ahead of it: the first that stands twice is none of the first n. Assumes nothing.
--   in-ahead, not-ahead      whether a key stands among the first n
--   Until, until-..          the first that stands twice is none of the first n
use Rattle.std.specs.Prelude.{if◌then◌else◌}
use Prim.Native.Nat.{ℕ, zero, suc, ◌+◌, ◌≤◌, ◌<◌}
use native.Mathlib.Omega.{arith}
use native.Mathlib.Numerals.{add-one}
use native.Mathlib.Decide.{dec_le}
use mathlib.Core.Path.{◌≡◌, refl, sym, ap, ◌∙◌}
use mathlib.Core.Bool.{Bool, true, false, ◌||◌}
use mathlib.Core.List.{List}
use lib.Dec.{eqb}
use lib.ListN.{length, get_or, drop}
use lib.Seq.{drop-cons}
use borrow.Author.Tests.{eq-eqb, ne_eqb}
use Rattle.words.proofs.TestParts.{or-true}
use Rattle.words.specs.Base.{member}
use Rattle.words_lists.specs.Ahead.{ahead_of}
use Rattle.library_index_twice.specs.Twice.{twice_from, first_twice}

-- AMONG THE FIRST n
pub in-ahead : (key n at : ℕ) (keys : List ℕ) → at < n → get_or keys at 0 ≡ key → member key (ahead_of n keys) ≡ true
in-ahead key zero at keys lt e = absurd (omega arith)
in-ahead key (suc n) at keys lt e = go (in-ahead key n at keys) (dec_le n at)
  where
    go : (at < n → get_or keys at 0 ≡ key → member key (ahead_of n keys) ≡ true) → Dec (n ≤ at) → (eqb key (get_or keys n 0) || member key (ahead_of n keys)) ≡ true
    go on (yes le) =
        let z : at ≡ n = omega arith in
        ap (λ (b : Bool). b || member key (ahead_of n keys)) (eq-eqb key (get_or keys n 0) (sym e ∙ ap (λ (m : ℕ). get_or keys m 0) z))
    go on (no gt) = ap (λ (b : Bool). eqb key (get_or keys n 0) || b) (on (omega arith) e) ∙ or-true (eqb key (get_or keys n 0))

pub not-ahead : (key n : ℕ) (keys : List ℕ) → ((m : ℕ) → m < n → get_or keys m 0 ≡ key → ⊥) → member key (ahead_of n keys) ≡ false
not-ahead key zero keys none = refl
not-ahead key (suc n) keys none =
    ap (λ (b : Bool). b || member key (ahead_of n keys)) (ne_eqb key (get_or keys n 0) (λ e. none n (omega arith) (sym e)))
    ∙ not-ahead key n keys (λ m lt. none m (omega arith))

-- THE FIRST THAT STANDS TWICE is none of the first n
abbrev pub Until : List ℕ → ℕ → Type 0
Until keys n = first_twice keys ≡ n + twice_from (ahead_of n keys) (drop n keys)

module _ (keys : List ℕ) (n : ℕ) (h : Until keys n) (lt : n < length keys) where
  abbrev chosen : Bool → ℕ
  chosen b = if b then 0 else suc (twice_from (ahead_of (suc n) keys) (drop (suc n) keys))

  next : twice_from (ahead_of n keys) (drop n keys) ≡ chosen (member (get_or keys n 0) (ahead_of n keys))
  next = ap (twice_from (ahead_of n keys)) (drop-cons keys n 0 lt)

  pub until-on : member (get_or keys n 0) (ahead_of n keys) ≡ false → Until keys (n + 1)
  until-on e =
      let on : twice_from (ahead_of n keys) (drop n keys) ≡ suc (twice_from (ahead_of (suc n) keys) (drop (suc n) keys)) = next ∙ ap chosen e in
      let later : first_twice keys ≡ suc n + twice_from (ahead_of (suc n) keys) (drop (suc n) keys) = omega (arith, h, on) in
      later ∙ ap (λ (m : ℕ). m + twice_from (ahead_of m keys) (drop m keys)) (sym (add-one n))
