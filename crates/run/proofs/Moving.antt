-- The gap moved to a place keeps the order of all words: those between come to its other side.
use Prim.Native.Nat.{ℕ, ◌+◌, ◌-◌, ◌≤◌, ◌<◌}
use native.Mathlib.Omega.{arith}
use mathlib.Core.Path.{◌≡◌, refl, sym, ap, ◌∙◌}
use mathlib.Core.List.{List, [], ◌∷◌, ◌++◌, append-nil}
use lib.ListN.{length, drop, length-append, length-drop}
use lib.Seq.{length-take-le}
use Rattle.run.specs.GapWords.{Ordered, Parted, Lowered, Raised, Moves}
use Rattle.run.specs.declared.gap.Gap.{Gap}
use Rattle.run.proofs.Parting.{lowered, raised}

nothing : (a : List ℕ) → length a ≡ 0 → a ≡ []
nothing [] e = refl
nothing (x ∷ xs) e = absurd (omega arith)

module _ (w : List ℕ) (g : Gap) (order : Ordered w g) where
  pub under-len : (x a y : List ℕ) → Parted w g (x ++ a) y → length x + length a ≡ g.lo
  under-len x a y p = sym (length-append x a) ∙ sym (ap length p.under) ∙ length-take-le g.lo w (omega arith)

  pub over-len : (x a y : List ℕ) → Parted w g x (a ++ y) → g.hi + (length a + length y) ≡ length w
  over-len x a y p =
      let e : length (drop g.hi w) ≡ length w - g.hi = length-drop g.hi w in
      let f : length (drop g.hi w) ≡ length a + length y = ap length p.over ∙ length-append a y in
      omega arith

  module _ (p : ℕ) where
    pub move_down : p ≤ g.lo → (v : List ℕ) → Raised w g.lo g.hi (g.lo - p) v → Moves w g p v (record { lo = p; hi = g.hi - (g.lo - p) })
    move_down h v s = record { down = go; up = λ x a y part e. back x a y part e }
      where
        go : (x a y : List ℕ) → Parted w g (x ++ a) y → length x ≡ p → Parted v (record { lo = p; hi = g.hi - (g.lo - p) }) x (a ++ y)
        go x a y part e =
            let n : length x + length a ≡ g.lo = under-len x a y part in
            let l : length a ≡ g.lo - p = omega arith in
            let q : g.lo - (g.lo - p) ≡ p = omega arith in
            let r = raised w v g.lo g.hi (g.lo - p) x a y s part.under part.over l order.0 order.1 in
            record { under = rw q at r.0; over = r.1 }

        back : (x a y : List ℕ) → Parted w g x (a ++ y) → g.hi + length a ≡ p → Parted v (record { lo = p; hi = g.hi - (g.lo - p) }) (x ++ a) y
        back x a y part e =
            let z : a ≡ [] = nothing a (omega arith) in
            let n : length x + length a ≡ g.lo =
            under-len x a y (record {
              under = part.under ∙ sym (append-nil x) ∙ ap (λ (t : List ℕ). x ++ t) (sym z);
              over = part.over ∙ ap
                  (λ (t : List ℕ). t ++ y) z;
            }) in
            let r =
            go x [] y (record { under = part.under ∙ sym (append-nil x); over = part.over ∙ ap (λ (t : List ℕ). t ++ y) z }) (omega arith) in
            record { under = r.under ∙ sym (append-nil x) ∙ ap (λ (t : List ℕ). x ++ t) (sym z); over = r.over }

    pub move-none : g.lo < p → p < g.hi → Moves w g p w g
    move-none a b =
        record {
          down = λ x l y part e. absurd
              (let n : length x + length l ≡ g.lo = under-len x l y part in omega arith);
          up = λ x l y part e. absurd (omega arith);
        }

    pub move-far : g.lo < p → length w < p → Moves w g p w g
    move-far a b =
        record {
          down = λ x l y part e. absurd
              (let n : length x + length l ≡ g.lo = under-len x l y part in omega arith);
          up = λ x l y part e. absurd
              (let n : g.hi + (length l + length y) ≡ length w = over-len x l y part in omega arith);
        }

    pub move_up : g.lo < p → g.hi ≤ p → (v : List ℕ) → Lowered w g.lo g.hi (p - g.hi) v
        → Moves w g p v (record { lo = g.lo + (p - g.hi); hi = p })
    move_up a b v s =
        record {
          down = λ x l y part e. absurd (let n : length x + length l ≡ g.lo = under-len x l y part in omega arith);
          up = λ x l y part e. go x l y part e;
        }
      where
        go : (x l y : List ℕ) → Parted w g x (l ++ y) → g.hi + length l ≡ p → Parted v (record { lo = g.lo + (p - g.hi); hi = p }) (x ++ l) y
        go x l y part e =
            let n : length l ≡ p - g.hi = omega arith in
            let q : g.hi + (p - g.hi) ≡ p = omega arith in
            let r = lowered x l y s part.under part.over n in
            record { under = r.0; over = rw q at r.1 }
