-- The further words of a history: what is left to do from each word on gives what was to do from the first.
use Prim.Native.Nat.{ℕ, suc, ◌+◌, ◌^◌, ◌≤◌, ◌<◌}
use native.Mathlib.Omega.{arith}
use native.Mathlib.Nat.{add-zero}
use native.Mathlib.Numerals.{add-one}
use mathlib.Core.Path.{◌≡◌, refl, sym, ap, ◌∙◌}
use mathlib.Core.Bool.{Bool}
use mathlib.Core.List.{List, [], ◌∷◌, ◌++◌, append_assoc, append-nil}
use lib.ListN.{length, take, drop, get_or, set, drop_of_length-le}
use lib.Seq.{drop-cons, drop-set-lt, set_split, take-suc-set, take_all}
use borrow.Author.Tests.{le-leb, lt-leb}
use Rattle.library_yanks_bits.specs.SettledBits.{fix_word, say_word, further_bits, further_says}
use Rattle.library.specs.CardWords.{further_len}

-- the last word, and one that is not
module _ (yk : ℕ → Bool) (x : ℕ) (xs : List ℕ) where
  pub last-bits : 2 ^ 59 ≤ x → further_bits yk (x ∷ xs) ≡ fix_word yk x ∷ xs
  unfolding further_bits
  last-bits h = rw (le-leb (2 ^ 59) x h)

  pub more-bits : x < 2 ^ 59 → further_bits yk (x ∷ xs) ≡ fix_word yk x ∷ further_bits yk xs
  unfolding further_bits
  more-bits h = rw (lt-leb (2 ^ 59) x h)

  pub last_says_lem : (so : ℕ) → 2 ^ 59 ≤ x → further_says yk so (x ∷ xs) ≡ say_word so (fix_word yk x)
  unfolding further_says
  last_says_lem so h = rw (le-leb (2 ^ 59) x h)

  pub more-says : (so : ℕ) → x < 2 ^ 59 → further_says yk so (x ∷ xs) ≡ further_says yk (say_word so (fix_word yk x)) xs
  unfolding further_says
  more-says so h = rw (lt-leb (2 ^ 59) x h)

pub last-len : (x : ℕ) (xs : List ℕ) → 2 ^ 59 ≤ x → further_len (x ∷ xs) ≡ 1
unfolding further_len
last-len x xs h = rw (le-leb (2 ^ 59) x h)

pub more-len : (x : ℕ) (xs : List ℕ) → x < 2 ^ 59 → further_len (x ∷ xs) ≡ suc (further_len xs)
unfolding further_len
more-len x xs h = rw (lt-leb (2 ^ 59) x h)

-- so far as the word i, where `so` is said
pub record Telling (yk : ℕ → Bool) (w : List ℕ) (from so0 : ℕ) (v : List ℕ) (i so : ℕ) : Type 0 where
  pub words : take i v ++ further_bits yk (drop i v) ≡ take from w ++ further_bits yk (drop from w)
  pub at : i + further_len (drop i v) ≡ from + further_len (drop from w)
  pub says : further_says yk so (drop i v) ≡ further_says yk so0 (drop from w)

-- all is told
pub record AllTold (yk : ℕ → Bool) (w : List ℕ) (from so0 : ℕ) (v : List ℕ) (i so : ℕ) : Type 0 where
  pub words : v ≡ take from w ++ further_bits yk (drop from w)
  pub at : i ≡ from + further_len (drop from w)
  pub says : so ≡ further_says yk so0 (drop from w)

module _ (yk : ℕ → Bool) (w : List ℕ) (from so0 : ℕ) where
  pub tell-start : Telling yk w from so0 w from so0
  tell-start = record { words = refl; at = refl; says = refl }

  module _ (v : List ℕ) (i so : ℕ) (g : Telling yk w from so0 v i so) where
    pub tell_none : length v ≤ i → AllTold yk w from so0 v i so
    unfolding further_bits further_says further_len
    tell_none h =
        let e : drop i v ≡ [] = drop_of_length-le v h in
        record {
          words = sym (take_all i v h) ∙ sym (append-nil (take i v)) ∙ ap (λ (l : List ℕ). take i v ++ further_bits yk l) (sym e) ∙ g.words;
          at = sym (add-zero i) ∙ ap (λ (l : List ℕ). i + further_len l) (sym e) ∙ g.at;
          says = ap (λ (l : List ℕ). further_says yk so l) (sym e) ∙ g.says;
        }

    module _ (low : i < length v) where
      abbrev x : ℕ
      x = get_or v i 0

      abbrev y : ℕ
      y = fix_word yk x

      abbrev rest : List ℕ
      rest = drop (suc i) v

      cut : drop i v ≡ x ∷ rest
      cut = drop-cons v i 0 low

      pub tell-end : 2 ^ 59 ≤ x → AllTold yk w from so0 (set v i y) (i + 1) (say_word so y)
      tell-end h = record {
        words = set_split v i y low ∙ ap (λ (l : List ℕ). take i v ++ l) (sym (last-bits yk x rest h))
            ∙ ap (λ (l : List ℕ). take i v ++ further_bits yk l) (sym cut) ∙ g.words;
        at = ap (λ (n : ℕ). i + n) (sym (last-len x rest h)) ∙ ap (λ (l : List ℕ). i + further_len l) (sym cut) ∙ g.at;
        says = sym (last_says_lem yk x rest so h) ∙ ap (λ (l : List ℕ). further_says yk so l) (sym cut) ∙ g.says;
      }

      past : drop (i + 1) (set v i y) ≡ rest
      past = ap (λ (n : ℕ). drop n (set v i y)) (add-one i) ∙ drop-set-lt (suc i) v i y (omega arith)

      done : take (i + 1) (set v i y) ≡ take i v ++ (y ∷ [])
      done = ap (λ (n : ℕ). take n (set v i y)) (add-one i) ∙ take-suc-set v i y low

      pub tell-more : x < 2 ^ 59 → Telling yk w from so0 (set v i y) (i + 1) (say_word so y)
      tell-more h =
          let n : further_len (x ∷ rest) ≡ suc (further_len rest) = more-len x rest h in
          let m : i + 1 + further_len rest ≡ i + further_len (x ∷ rest) = omega arith in
          record {
            words = (λ j. done j ++ further_bits yk (past j)) ∙ append_assoc (take i v) (y ∷ []) (further_bits yk rest)
                ∙ ap (λ (l : List ℕ). take i v ++ l) (sym (more-bits yk x rest h))
                ∙ ap (λ (l : List ℕ). take i v ++ further_bits yk l) (sym cut) ∙ g.words;
            at = ap (λ (l : List ℕ). i + 1 + further_len l) past ∙ m ∙ ap (λ (l : List ℕ). i + further_len l) (sym cut) ∙ g.at;
            says = ap (λ (l : List ℕ). further_says yk (say_word so y) l) past ∙ sym (more-says yk x rest so h)
                ∙ ap (λ (l : List ℕ). further_says yk so l) (sym cut) ∙ g.says;
          }
