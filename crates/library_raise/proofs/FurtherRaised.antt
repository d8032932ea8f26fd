-- What is left to raise from each further word of a history on gives what was to raise from the first.
use Prim.Native.Nat.{ℕ, suc, ◌+◌, ◌^◌, ◌≤◌, ◌<◌}
use native.Mathlib.Omega.{arith}
use native.Mathlib.Nat.{add-zero}
use native.Mathlib.Numerals.{add-one}
use mathlib.Core.Path.{◌≡◌, refl, sym, ap, ◌∙◌}
use mathlib.Core.List.{List, [], ◌∷◌, ◌++◌, append_assoc, append-nil}
use lib.ListN.{length, take, drop, get_or, set, drop_of_length-le}
use lib.Seq.{drop-cons, drop-set-lt, set_split, take-suc-set, take_all}
use borrow.Author.Tests.{le-leb, lt-leb}
use Rattle.library.specs.CardWords.{further_len}
use Rattle.library_yanks_bits.proofs.Histories.{last-len, more-len}
use Rattle.library_raise.specs.Raised.{word_raised, further_raised}

-- the last word, and one that is not
module _ (n x : ℕ) (xs : List ℕ) where
  pub last-raised : 2 ^ 59 ≤ x → further_raised n (x ∷ xs) ≡ word_raised n x ∷ xs
  unfolding further_raised
  last-raised h = rw (le-leb (2 ^ 59) x h)

  pub more-raised : x < 2 ^ 59 → further_raised n (x ∷ xs) ≡ word_raised n x ∷ further_raised n xs
  unfolding further_raised
  more-raised h = rw (lt-leb (2 ^ 59) x h)

-- a word is written, and what is around it is as it was
module _ (v : List ℕ) (i y : ℕ) (low : i < length v) where
  pub past-set : drop (i + 1) (set v i y) ≡ drop (suc i) v
  past-set = ap (λ (k : ℕ). drop k (set v i y)) (add-one i) ∙ drop-set-lt (suc i) v i y (omega arith)

  pub upto-set : take (i + 1) (set v i y) ≡ take i v ++ (y ∷ [])
  upto-set = ap (λ (k : ℕ). take k (set v i y)) (add-one i) ∙ take-suc-set v i y low

-- so far as the word i
pub record Going (n : ℕ) (w : List ℕ) (from : ℕ) (v : List ℕ) (i : ℕ) : Type 0 where
  pub words : take i v ++ further_raised n (drop i v) ≡ take from w ++ further_raised n (drop from w)
  pub at : i + further_len (drop i v) ≡ from + further_len (drop from w)

-- all is raised
pub record AllRaised (n : ℕ) (w : List ℕ) (from : ℕ) (v : List ℕ) (i : ℕ) : Type 0 where
  pub words : v ≡ take from w ++ further_raised n (drop from w)
  pub at : i ≡ from + further_len (drop from w)

module _ (n : ℕ) (w : List ℕ) (from : ℕ) where
  pub going_start : Going n w from w from
  going_start = record { words = refl; at = refl }

  module _ (v : List ℕ) (i : ℕ) (g : Going n w from v i) where
    pub going-none : length v ≤ i → AllRaised n w from v i
    unfolding further_raised further_len
    going-none h =
        let e : drop i v ≡ [] = drop_of_length-le v h in
        record {
          words = sym (take_all i v h) ∙ sym (append-nil (take i v)) ∙ ap (λ (l : List ℕ). take i v ++ further_raised n l) (sym e) ∙ g.words;
          at = sym (add-zero i) ∙ ap (λ (l : List ℕ). i + further_len l) (sym e) ∙ g.at;
        }

    module _ (low : i < length v) where
      abbrev x : ℕ
      x = get_or v i 0

      abbrev y : ℕ
      y = word_raised n x

      abbrev rest : List ℕ
      rest = drop (suc i) v

      cut : drop i v ≡ x ∷ rest
      cut = drop-cons v i 0 low

      pub going_end : 2 ^ 59 ≤ x → AllRaised n w from (set v i y) (i + 1)
      going_end h = record {
        words = set_split v i y low ∙ ap (λ (l : List ℕ). take i v ++ l) (sym (last-raised n x rest h))
            ∙ ap (λ (l : List ℕ). take i v ++ further_raised n l) (sym cut) ∙ g.words;
        at = ap (λ (k : ℕ). i + k) (sym (last-len x rest h)) ∙ ap (λ (l : List ℕ). i + further_len l) (sym cut) ∙ g.at;
      }

      pub going_more : x < 2 ^ 59 → Going n w from (set v i y) (i + 1)
      going_more h =
          let past = past-set v i y low in
          let done = upto-set v i y low in
          let k : further_len (x ∷ rest) ≡ suc (further_len rest) = more-len x rest h in
          let m : i + 1 + further_len rest ≡ i + further_len (x ∷ rest) = omega arith in
          record {
            words = (λ j. done j ++ further_raised n (past j)) ∙ append_assoc (take i v) (y ∷ []) (further_raised n rest)
                ∙ ap (λ (l : List ℕ). take i v ++ l) (sym (more-raised n x rest h))
                ∙ ap (λ (l : List ℕ). take i v ++ further_raised n l) (sym cut) ∙ g.words;
            at = ap (λ (l : List ℕ). i + 1 + further_len l) past ∙ m ∙ ap (λ (l : List ℕ). i + further_len l) (sym cut) ∙ g.at;
          }
