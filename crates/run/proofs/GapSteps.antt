-- One word more over the gap, and one byte more in the last word of a history.
use Prim.Native.Nat.{ℕ, suc, ◌+◌, ◌-◌, ◌*◌, ◌/◌, ◌%◌, ◌^◌, ◌≤◌, ◌<◌}
use native.Mathlib.Omega.{arith}
use native.Mathlib.Nat.{add-zero, add-suc, sub-zero}
use native.Mathlib.Numerals.{add-one}
use mathlib.Core.Path.{◌≡◌, refl, sym, ap, ◌∙◌}
use mathlib.Core.List.{List, [], ◌∷◌, ◌++◌, append_assoc, append-nil}
use lib.ListN.{length, take, drop, get_or, set, length-set, length-drop, drop_of_length-le}
use lib.Seq.{take-suc, take-suc-set, drop-set-lt, get_or-drop, drop-drop, get_or-take, drop-cons, drop_at, set_split, take-set-le, take-take, length-take-le, paste, take_at}
use borrow.Author.Tests.{eq-eqb, ne_eqb}
use Rattle.std.proofs.lemmas.List.{drop-take}
use Rattle.std.proofs.lemmas.List.Edits.{take-paste, drop-paste}
use Rattle.run.specs.GapWords.{Lowered, Raised}
use Rattle.run.specs.ByteMarks.{last_with, ByteAdded}

pub lowered : (w v : List ℕ) (lo hi n : ℕ) → lo ≤ hi → hi + n ≤ length w → v ≡ paste w lo (drop hi w) (hi + n - hi) → Lowered w lo hi n v
lowered w v lo hi n order room e =
    let many : hi + n - hi ≡ n = omega arith in
    let copied : v ≡ paste w lo (drop hi w) n = e ∙ ap (paste w lo (drop hi w)) many in
    let long : length (drop hi w) ≡ length w - hi = length-drop hi w in
    let far : hi + n ≡ lo + n + (hi - lo) = omega arith in
    let past : drop (lo + n) v ≡ drop (lo + n) w = ap (drop (lo + n)) copied ∙ drop-paste w lo (drop hi w) n (omega arith) (omega arith) in
    record {
      under = ap (take (lo + n)) copied ∙ take-paste w lo (drop hi w) n (omega arith) (omega arith);
      over = ap (λ (k : ℕ). drop k v) far ∙ sym (drop-drop (hi - lo) (lo + n) v) ∙ ap (drop (hi - lo)) past ∙ drop-drop (hi - lo) (lo + n) w ∙ ap (λ (k : ℕ). drop k w) (sym far);
    }

-- what one byte more makes of the last word
module _ (x l : ℕ) where
  pub last-second : l % 262144 ≡ 0 → l / 262144 % 262144 ≡ 0 → last_with x l ≡ (l + x * 262144) ∷ []
  unfolding last_with
  last-second p q = rw (eq-eqb (l % 2 ^ 18) 0 p, eq-eqb (l / 2 ^ 18 % 2 ^ 18) 0 q)

  pub last-third : l % 262144 ≡ 0 → (l / 262144 % 262144 ≡ 0 → ⊥) → last_with x l ≡ (l + x) ∷ []
  unfolding last_with
  last-third p q = rw (eq-eqb (l % 2 ^ 18) 0 p, ne_eqb (l / 2 ^ 18 % 2 ^ 18) 0 q)

  pub last-full : (l % 262144 ≡ 0 → ⊥) → last_with x l ≡ l % 576460752303423488 ∷ (576460752303423488 + x * 68719476736) ∷ []
  unfolding last_with
  last-full p = rw (ne_eqb (l % 2 ^ 18) 0 p)

module _ (w : List ℕ) (lo hi x : ℕ) (pos : 0 < lo) (order : lo ≤ hi) (room : hi ≤ length w) where
  abbrev last : ℕ
  last = get_or w (lo - 1) 0

  pred-is : lo ≡ suc (lo - 1)
  pred-is = omega arith

  under_one : (a : ℕ) → take lo (set w (lo - 1) a) ≡ take (lo - 1) w ++ (a ∷ [])
  under_one a = ap (λ (n : ℕ). take n (set w (lo - 1) a)) pred-is ∙ take-suc-set w (lo - 1) a (omega arith)

  pub add-one-word : (a : ℕ) → last_with x last ≡ a ∷ [] → ByteAdded w lo hi x lo (set w (lo - 1) a)
  add-one-word a e =
      record {
        low = omega arith;
        high = omega arith;
        next = ap (λ (l : List ℕ). lo + length l) (sym e);
        under = λ h. under_one a ∙ ap (λ (l : List ℕ). take (lo - 1) w ++ l) (sym e);
        over = drop-set-lt hi w (lo - 1) a (omega arith);
      }

  pub add-two-words : (a b : ℕ) → last_with x last ≡ a ∷ b ∷ [] → lo < hi → ByteAdded w lo hi x (lo + 1) (set (set w (lo - 1) a) lo b)
  add-two-words a b e gap =
      let v : List ℕ = set w (lo - 1) a in
      let inside : lo < length v = rw length-set (omega arith) in
      record {
        low = omega arith;
        high = omega arith;
        next = let n : length (last_with x last) ≡ 2 = ap length e in omega arith;
        under = λ h. rw (add-one lo) (take-suc-set v lo b inside ∙ ap (λ (l : List ℕ). l ++ (b ∷ [])) (under_one a) ∙ append_assoc (take (lo - 1) w)
            (a ∷ []) (b ∷ []) ∙ ap (λ (l : List ℕ). take (lo - 1) w ++ l) (sym e));
        over = drop-set-lt hi v lo b gap ∙ drop-set-lt hi w (lo - 1) a (omega arith);
      }

  pub add-no-room : (a b : ℕ) → last_with x last ≡ a ∷ b ∷ [] → hi ≤ lo → ByteAdded w lo hi x (lo + 1) w
  add-no-room a b e full =
      record {
        low = omega arith;
        high = omega arith;
        next = let n : length (last_with x last) ≡ 2 = ap length e in omega arith;
        under = λ h. absurd (omega arith);
        over = refl;
      }

pub raised : (w v : List ℕ) (lo hi n : ℕ) → n ≤ lo → lo ≤ hi → hi ≤ length w → v ≡ paste w (hi - n) (drop (lo - n) w) (lo - (lo - n)) → Raised w lo hi n v
raised w v lo hi n below order room e =
    let many : lo - (lo - n) ≡ n = omega arith in
    let copied : v ≡ paste w (hi - n) (drop (lo - n) w) n = e ∙ ap (paste w (hi - n) (drop (lo - n) w)) many in
    let long : length (take (hi - n) w) ≡ hi - n = length-take-le (hi - n) w (omega arith) in
    let whole : hi - n + n ≡ hi = omega arith in
    let count : lo - n + n ≡ lo = omega arith in
    let split : v ≡ take (hi - n) w ++ (take n (drop (lo - n) w) ++ drop hi w) = copied ∙ append_assoc (take (hi - n) w) (take n (drop (lo - n) w)) _ ∙ ap (λ (k : ℕ). take (hi - n) w ++ (take n (drop (lo - n) w) ++ drop k w)) whole in
    record {
      under = ap (take (hi - n)) split ∙ take_at (take (hi - n) w) _ (hi - n) long;
      over = ap (drop (hi - n)) split ∙ drop_at (take (hi - n) w) _ (hi - n) long ∙ ap (λ (t : List ℕ). t ++ drop hi w) (sym (drop-take (lo - n) n w) ∙ ap (λ (k : ℕ). drop (lo - n) (take k w)) count);
    }
