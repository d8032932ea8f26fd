-- Row 4: the words of a table one after the other, each with those ahead of it. Assumes nothing.
--   bad-here, bad-on, bad-none       the first word of a table that fails
--   stands-ahead                     those ahead are the first words of the table
--   entry-..                         a word of the directory, one law for each way out
--   deck-..                          a word of the deck list, likewise
--   row4-entry, row4-deck            row 4 of the parts that are lent
use Rattle.std.specs.Prelude.{if◌then◌else◌}
use Prim.Native.Nat.{ℕ, zero, suc, ◌+◌, ◌-◌, ◌≤◌}
use native.Mathlib.Omega.{arith}
use mathlib.Core.Path.{◌≡◌, refl, sym, ap, ◌∙◌}
use mathlib.Core.Bool.{Bool, true, false, ◌&&◌, ◌||◌, not}
use mathlib.Core.List.{List, [], ◌∷◌, ◌++◌}
use mathlib.Core.Option.{Option}
use lib.Dec.{eqb}
use lib.ListN.{length, get_or, take, drop}
use lib.Seq.{take-suc}
use borrow.Author.Tests.{ne_eqb}
use Rattle.words.proofs.TestParts.{and-false, and-true}
use Rattle.words.specs.Base.{any, member, is_nil}
use Rattle.words_lists.specs.Ahead.{ahead_of}
use Rattle.words.specs.Names.{is_name, name_of, name_word, is_name_word}
use Rattle.words.specs.Spelt.{name_length}
use Rattle.library.specs.Library.{reserved, purged}
use Rattle.library.specs.Check.{first_bad, ok_entry, ok_deck_word, directory_count, directory_of}

module _ (ok : List ℕ → ℕ → Bool) (n : ℕ) (ws : List ℕ) where
  -- what is left to do at a place
  abbrev pub bad_from : ℕ → Option ℕ
  bad_from i = first_bad ok (ahead_of i ws) (n + i) (drop i ws)

any_last : (p : ℕ → Bool) (xs : List ℕ) (x : ℕ) → any p (xs ++ (x ∷ [])) ≡ (p x || any p xs)
any_last p [] x = refl
any_last p (y ∷ xs) x = ap (λ (b : Bool). p y || b) (any_last p xs x) ∙ turn (p y) (p x) (any p xs)
  where
    turn : (a b c : Bool) → (a || (b || c)) ≡ (b || (a || c))
    turn true true c = refl
    turn true false c = refl
    turn false b c = refl

pub stands-ahead : (w n : ℕ) (ws : List ℕ) → n ≤ length ws → member w (ahead_of n ws) ≡ member w (take n ws)
stands-ahead w zero ws h = nothing ws
  where
    nothing : (l : List ℕ) → false ≡ member w (take 0 l)
    nothing [] = refl
    nothing (x ∷ l) = refl
stands-ahead w (suc n) ws h =
    ap (λ (b : Bool). eqb w (get_or ws n 0) || b) (stands-ahead w n ws (omega arith)) ∙ sym (any_last (eqb w) (take n ws) (get_or ws n 0)) ∙ ap (member w) (sym (take-suc ws n 0 h))

pub some-ahead : (n : ℕ) (ws : List ℕ) → (n ≡ 0 → ⊥) → is_nil (ahead_of n ws) ≡ false
some-ahead zero ws h = absurd (h refl)
some-ahead (suc n) ws h = refl

-- a name has a character at least
pub name-word : (w : ℕ) → is_name_word w ≡ not (eqb (name_length w) 0)
unfolding is_name_word name_length is_name
name-word w = go (name_of w) (eqb (name_word (name_of w)) w)
  where
    go : (n : List ℕ) (b : Bool) → (is_name n && b) ≡ not (eqb (if is_name n && b then length n else 0) 0)
    go [] b = refl
    go (x ∷ n) b = each (is_name (x ∷ n) && b) (length n)
      where
        each : (c : Bool) (k : ℕ) → c ≡ not (eqb (if c then suc k else 0) 0)
        each true k = sym (ap not (ne_eqb (suc k) 0 (λ e. omega arith)))
        each false k = refl

module _ (ahead : List ℕ) (w : ℕ) where
  module _ (p : w ≡ purged → ⊥) where
    pub entry-twice : member w ahead ≡ true → ok_entry ahead w ≡ false
    entry-twice m = rw (ne_eqb w purged p, m) (and-false (is_name_word w && not (eqb w reserved)))

    pub entry-name : (w ≡ reserved → ⊥) → member w ahead ≡ false → ok_entry ahead w ≡ is_name_word w
    entry-name r m = rw (ne_eqb w purged p, m, ne_eqb w reserved r) (and-true (is_name_word w && true) ∙ and-true (is_name_word w))

module _ (directory ahead : List ℕ) (w : ℕ) where
  module _ (n : is_nil ahead ≡ false) where
    pub deck-twice : member w ahead ≡ true → ok_deck_word directory ahead w ≡ false
    deck-twice m = rw (n, m) (and-false (is_name_word w && member w directory))

    pub deck-name : member w directory ≡ true → member w ahead ≡ false → ok_deck_word directory ahead w ≡ is_name_word w
    deck-name k m = rw (n, k, m) (and-true (is_name_word w && true) ∙ and-true (is_name_word w))

-- the directory's words, then those of the deck list
module _ (ws : List ℕ) where
  module _ (n : ℕ) (is : n ≡ directory_count ws) where
    pub entries-are : take (2 + n - 2) (drop 2 ws) ≡ directory_of ws
    entries-are = let z : 2 + n - 2 ≡ directory_count ws = omega arith in ap (λ (k : ℕ). take k (drop 2 ws)) z
