-- A card has its bits once its first word is written, and what is left to do gives what was to do.
use Prim.Native.Nat.{ℕ, zero, suc, ◌+◌, ◌/◌, ◌%◌, ◌^◌, ◌≤◌, ◌<◌}
use native.Mathlib.Omega.{arith}
use native.Mathlib.Numerals.{add-one}
use mathlib.Core.Path.{◌≡◌, refl, sym, ap, ◌∙◌}
use mathlib.Core.Bool.{Bool}
use mathlib.Core.List.{List, [], ◌∷◌, ◌++◌, append_assoc, append-nil}
use lib.ListN.{length, take, drop, get_or, set, drop_of_length-le}
use lib.Seq.{drop-cons, set_split, set_at, take-suc, take_all, length-take-le, take-append-add, drop-append-add}
use borrow.Author.Tests.{le-leb, lt-leb}
use Rattle.library_yanks_bits.specs.SettledBits.{own_bits, own_says, with_active, further_bits, further_says, card_bits}
use Rattle.library.specs.CardWords.{further_len, card_len, cards_by}

-- a card with one history word, and one with more
module _ (yk : ℕ → Bool) (x : ℕ) (xs : List ℕ) where
  pub one-bits : 2 ^ 59 ≤ x → card_bits yk (x ∷ xs) ≡ with_active (own_bits yk x) (own_says yk x) ∷ xs
  unfolding card_bits
  one-bits h = rw (le-leb (2 ^ 59) x h)

  pub many-bits : x < 2 ^ 59 → card_bits yk (x ∷ xs) ≡ with_active (own_bits yk x) (further_says yk (own_says yk x) xs) ∷ further_bits yk xs
  unfolding card_bits
  many-bits h = rw (lt-leb (2 ^ 59) x h)

pub one-len : (x : ℕ) (xs : List ℕ) → 2 ^ 59 ≤ x → card_len (x ∷ xs) ≡ 1 + x / 2 ^ 36 % 2 ^ 18
unfolding card_len
one-len x xs h = rw (le-leb (2 ^ 59) x h)

pub many-len : (x : ℕ) (xs : List ℕ) → x < 2 ^ 59 → card_len (x ∷ xs) ≡ 1 + further_len xs + x / 2 ^ 36 % 2 ^ 18
unfolding card_len
many-len x xs h = rw (lt-leb (2 ^ 59) x h)

-- THE CARD at a place
module _ (yk : ℕ → Bool) (w : List ℕ) (at : ℕ) (low : at < length w) where
  abbrev x : ℕ
  x = get_or w at 0

  abbrev rest : List ℕ
  rest = drop (suc at) w

  cut : drop at w ≡ x ∷ rest
  cut = drop-cons w at 0 low

  onward : drop (at + 1) w ≡ rest
  onward = ap (λ (n : ℕ). drop n w) (add-one at)

  pub card-one : 2 ^ 59 ≤ x → set w at (with_active (own_bits yk x) (own_says yk x)) ≡ take at w ++ card_bits yk (drop at w)
  card-one h =
      set_split w at (with_active (own_bits yk x) (own_says yk x)) low ∙ ap (λ (l : List ℕ). take at w ++ l) (sym (one-bits yk x rest h))
      ∙ ap (λ (l : List ℕ). take at w ++ card_bits yk l) (sym cut)

  pub long-one : 2 ^ 59 ≤ x → at + 1 + x / 2 ^ 36 % 2 ^ 18 ≡ at + card_len (drop at w)
  long-one h =
      let n : card_len (x ∷ rest) ≡ 1 + x / 2 ^ 36 % 2 ^ 18 = one-len x rest h in
      let m : at + 1 + x / 2 ^ 36 % 2 ^ 18 ≡ at + card_len (x ∷ rest) = omega arith in
      m ∙ ap (λ (l : List ℕ). at + card_len l) (sym cut)

  -- the further words have theirs
  module _ (more : x < 2 ^ 59) where
    pub card-many : (so : ℕ) → so ≡ further_says yk (own_says yk x) (drop (at + 1) w)
        → set (take (at + 1) w ++ further_bits yk (drop (at + 1) w)) at (with_active (own_bits yk x) so) ≡ take at w ++ card_bits yk (drop at w)
    card-many so e =
        let z : ℕ = with_active (own_bits yk x) so in
        let head : take (at + 1) w ≡ take at w ++ (x ∷ []) = ap (λ (n : ℕ). take n w) (add-one at) ∙ take-suc w at 0 low in
        let said : so ≡ further_says yk (own_says yk x) rest = e ∙ ap (further_says yk (own_says yk x)) onward in
        (λ j. set (head j ++ further_bits yk (onward j)) at z)
        ∙ ap (λ (l : List ℕ). set l at z) (append_assoc (take at w) (x ∷ []) (further_bits yk rest))
        ∙ set_at (take at w) x (further_bits yk rest) z at (length-take-le at w (omega arith))
        ∙ (λ j. take at w ++ (with_active (own_bits yk x) (said j) ∷ further_bits yk rest))
        ∙ ap (λ (l : List ℕ). take at w ++ l) (sym (many-bits yk x rest more)) ∙ ap (λ (l : List ℕ). take at w ++ card_bits yk l) (sym cut)

    pub long-many : (n : ℕ) → n ≡ at + 1 + further_len (drop (at + 1) w) → n + x / 2 ^ 36 % 2 ^ 18 ≡ at + card_len (drop at w)
    long-many n e =
        let a : n ≡ at + 1 + further_len rest = e ∙ ap (λ (l : List ℕ). at + 1 + further_len l) onward in
        let b : card_len (x ∷ rest) ≡ 1 + further_len rest + x / 2 ^ 36 % 2 ^ 18 = many-len x rest more in
        let m : n + x / 2 ^ 36 % 2 ^ 18 ≡ at + card_len (x ∷ rest) = omega arith in
        m ∙ ap (λ (l : List ℕ). at + card_len l) (sym cut)

-- CARD AFTER CARD, each by f: those from `at` on, at most `left`, are still to do
pub record Ahead (f : List ℕ → List ℕ) (w v : List ℕ) (at : ℕ) : Type 0 where
  pub left : ℕ
  pub enough : length v ≤ at + left
  pub same : take at v ++ cards_by f left (drop at v) ≡ cards_by f (length w) w

module _ (f : List ℕ → List ℕ) where
  pub no-cards : f [] ≡ [] → (k : ℕ) → cards_by f k [] ≡ []
  unfolding cards_by card_len
  no-cards none zero = refl
  no-cards none (suc k) = ap (cards_by f k) none ∙ no-cards none k

  module _ (w : List ℕ) where
    pub ahead-start : Ahead f w w 0
    ahead-start = record { left = length w; enough = omega arith; same = refl }

    pub ahead_more : (v : List ℕ) (at : ℕ) → Ahead f w v at → at < length v → (u : List ℕ) (r : ℕ) → length u ≡ length v → at < r
        → u ≡ take at v ++ f (drop at v) → r ≡ at + card_len (drop at v) → Ahead f w u r
    unfolding cards_by
    ahead_more v at g low u r len on is next = go g.left g.enough g.same
      where
        go : (k : ℕ) → length v ≤ at + k → take at v ++ cards_by f k (drop at v) ≡ cards_by f (length w) w → Ahead f w u r
        go zero enough same = absurd (omega arith)
        go (suc k) enough same =
            let c : List ℕ = f (drop at v) in
            let m : ℕ = card_len (drop at v) in
            let t : length (take at v) ≡ at = length-take-le at v (omega arith) in
            let far : r ≡ length (take at v) + m = next ∙ ap (λ (j : ℕ). j + m) (sym t) in
            let under : take r u ≡ take at v ++ take m c = (λ j. take (far j) (is j)) ∙ take-append-add (take at v) c m in
            let over : drop r u ≡ drop m c = (λ j. drop (far j) (is j)) ∙ drop-append-add (take at v) c m in
            record {
              left = k;
              enough = omega arith;
              same = (λ j. under j ++ cards_by f k (over j)) ∙ append_assoc (take at v) (take m c) (cards_by f k (drop m c)) ∙ same;
            }

    pub ahead-end : f [] ≡ [] → (v : List ℕ) (at : ℕ) → Ahead f w v at → length v ≤ at → v ≡ cards_by f (length w) w
    ahead-end none v at g h =
        sym (take_all at v h) ∙ sym (append-nil (take at v)) ∙ ap (λ (l : List ℕ). take at v ++ l) (sym (no-cards none g.left))
        ∙ ap (λ (l : List ℕ). take at v ++ cards_by f g.left l) (sym (drop_of_length-le v h)) ∙ g.same

pub none-bits : (yk : ℕ → Bool) → card_bits yk [] ≡ []
unfolding card_bits
none-bits yk = refl
