-- Rows of eleven bytes, one after another: a name in nine columns, a kind and a mark. Assumes nothing.
--   name-justified       a name in columns that were blank
--   row_put, row-long    one row
--   first-long, rows_more              the rows of the first entries
--   row-at-long, row-at-is             an entry's row
use Rattle.std.specs.Prelude.{if◌then◌else◌}
use Prim.Native.Nat.{ℕ, zero, suc, ◌+◌, ◌-◌, ◌*◌, ◌≤◌, ◌<◌}
use native.Mathlib.Omega.{arith}
use native.Mathlib.Numerals.{add-one}
use mathlib.Core.Path.{◌≡◌, refl, sym, ap, ◌∙◌}
use mathlib.Core.Bool.{Bool, true, false}
use mathlib.Core.List.{List, [], ◌∷◌, ◌++◌, append_assoc}
use borrow.Rule.Slice.PartMut.{put_mid, post_of}
use lib.Dec.{eqb}
use lib.ListN.{length, get_or, take, drop, set, replicate, length-append, length-take, length-drop, length-replicate, replicate-append-replicate}
use lib.Seq.{paste, paste-suc, take_all, take-append-add, take_at, drop_at, drop-drop, set_at}
use Rattle.words.specs.Display.{blank}
use Rattle.words.specs.Names.{name_of, is_name_word, left_justified}
use Rattle.words.specs.Spelt.{name_into}
use Rattle.library_yanks.specs.Bytes.{flagged}
use Rattle.keeper_card.specs.Parts.{word_name}
use Rattle.keeper_card.proofs.PointedName.{name-few}
use Rattle.keeper_directory.specs.Keeper.{rows_up_to, purged_or, yank_mark}
use Rattle.keeper_directory.specs.Parts.{row_bytes, row_at}

-- BLANKS in nine columns
blanks-behind : (k : ℕ) → k ≤ 9 → drop k (replicate 9 blank) ≡ replicate (9 - k) blank
blanks-behind k h =
    let e : k + (9 - k) ≡ 9 = omega arith in
    ap (λ (n : ℕ). drop k (replicate n blank)) (sym e) ∙ ap (drop k) (sym (replicate-append-replicate k (9 - k) blank))
    ∙ drop_at (replicate k blank) (replicate (9 - k) blank) k (length-replicate k blank)

blanks-ahead : (k : ℕ) → k ≤ 9 → take (9 - k) (replicate 9 blank) ≡ replicate (9 - k) blank
blanks-ahead k h =
    let e : 9 - k + k ≡ 9 = omega arith in
    ap (λ (n : ℕ). take (9 - k) (replicate n blank)) (sym e) ∙ ap (take (9 - k)) (sym (replicate-append-replicate (9 - k) k blank))
    ∙ take_at (replicate (9 - k) blank) (replicate k blank) (9 - k) (length-replicate (9 - k) blank)

left-blank : (t : List ℕ) → length t ≤ 9 → t ++ drop (length t) (replicate 9 blank) ≡ left_justified 9 t
unfolding left_justified
left-blank t h =
    let e : length t + (9 - length t) ≡ 9 = omega arith in
    ap (λ (r : List ℕ). t ++ r) (blanks-behind (length t) h ∙ sym (blanks-ahead (length t) h))
    ∙ sym (take-append-add t (replicate 9 blank) (9 - length t)) ∙ ap (λ (n : ℕ). take n (t ++ replicate 9 blank)) e

pub name-justified : (w : ℕ) → name_into w (replicate 9 blank) ≡ left_justified 9 (word_name w)
unfolding name_into word_name
name-justified w = go (is_name_word w) refl
  where
    go : (b : Bool) → is_name_word w ≡ b → (if b then (name_of w ++ drop (length (name_of w)) (replicate 9 blank)) else replicate 9 blank) ≡ left_justified 9 (if b then name_of w else [])
    go true q = left-blank (name_of w) (name-few w q)
    go false q = left-blank [] (omega arith)

pub left-long : (t : List ℕ) → length (left_justified 9 t) ≡ 9
unfolding left_justified
left-long t = length-take 9 (t ++ replicate 9 blank) ∙ omega (arith, length-append t (replicate 9 blank), length-replicate 9 blank)

pub name-long : (w : ℕ) (o : List ℕ) → o ≡ name_into w (replicate 9 blank) → length o ≡ 9
name-long w o e = ap length (e ∙ name-justified w) ∙ left-long (word_name w)

-- ONE ROW
pub row-long : (w kind : ℕ) (yk : Bool) → length (row_bytes w kind yk) ≡ 11
unfolding row_bytes
row-long w kind yk = length-append (left_justified 9 (word_name w)) (purged_or w kind ∷ yank_mark yk ∷ []) ∙ omega (arith, left-long (word_name w))

-- nine columns, then two bytes more
two-more : (t s : List ℕ) (a b : ℕ) → length t ≡ 9 → length s ≡ 2 → set (set (t ++ s) 9 a) 10 b ≡ t ++ (a ∷ b ∷ [])
two-more t [] a b h l = absurd (omega arith)
two-more t (x ∷ []) a b h l = absurd (omega arith)
two-more t (x ∷ y ∷ []) a b h l =
    let front : List ℕ = t ++ (a ∷ []) in
    let long : length front ≡ 10 = length-append t (a ∷ []) ∙ omega arith in
    ap (λ (r : List ℕ). set r 10 b) (set_at t x (y ∷ []) a 9 h ∙ sym (append_assoc t (a ∷ []) (y ∷ []))) ∙ set_at front y [] b 10 long ∙ append_assoc t (a ∷ []) (b ∷ [])
two-more t (x ∷ y ∷ z ∷ s) a b h l = absurd (omega arith)

pub row_put : (w kind : ℕ) (yk : Bool) (row name r : List ℕ) (a b : ℕ) → length row ≡ 11 → name ≡ name_into w (replicate 9 blank) → r ≡ name ++ drop 9 row
    → a ≡ purged_or w kind → b ≡ yank_mark yk → set (set r 9 a) 10 b ≡ row_bytes w kind yk
unfolding row_bytes
row_put w kind yk row name r a b long en er ea eb =
    let t : List ℕ = left_justified 9 (word_name w) in
    let is : name ≡ t = en ∙ name-justified w in
    let nine : length name ≡ 9 = ap length is ∙ left-long (word_name w) in
    ap (λ (x : List ℕ). set (set x 9 a) 10 b) er ∙ two-more name (drop 9 row) a b nine (length-drop 9 row ∙ omega arith)
    ∙ (λ i. is i ++ (ea i ∷ eb i ∷ []))

-- THE ROWS of the first entries
module _ (f : ℕ → List ℕ) (long : (n : ℕ) → length (f n) ≡ 11) where
  pub first-long : (n : ℕ) → length (rows_up_to f n) ≡ n * 11
  first-long zero = refl
  first-long (suc n) = length-append (rows_up_to f n) (f (suc n)) ∙ omega (arith, first-long n, long (suc n))

  module _ (before : List ℕ) where
    abbrev pub front : ℕ → List ℕ
    front i = rows_up_to f i ++ drop (i * 11) before

    pub rows_more : (i : ℕ) (now x : List ℕ) → now ≡ front i → x ≡ f (i + 1) → put_mid (i * 11) (i * 11 + 11 - i * 11) now x ≡ front (i + 1)
    rows_more i now x e is =
        let d : i * 11 + 11 - i * 11 ≡ 11 = omega arith in
        let p : List ℕ = rows_up_to f i in
        let a : take (i * 11) now ≡ p = ap (take (i * 11)) e ∙ take_at p (drop (i * 11) before) (i * 11) (first-long i) in
        let k : i * 11 + 11 ≡ (i + 1) * 11 = omega arith in
        let b : post_of (i * 11) (i * 11 + 11 - i * 11) now ≡ drop ((i + 1) * 11) before =
        ap (λ (n : ℕ). drop n (drop (i * 11) now)) d ∙ ap (λ (l : List ℕ). drop 11 (drop (i * 11) l)) e
        ∙ ap (drop 11) (drop_at p (drop (i * 11) before) (i * 11) (first-long i)) ∙ drop-drop 11 (i * 11) before ∙ ap (λ (n : ℕ). drop n before) k in
        (λ j. a j ++ (is j ++ b j)) ∙ sym (append_assoc p (f (i + 1)) (drop ((i + 1) * 11) before))
        ∙ ap (λ (l : List ℕ). l ++ drop ((i + 1) * 11) before) (ap (λ (n : ℕ). p ++ f n) (add-one i) ∙ ap (rows_up_to f) (sym (add-one i)))

-- the rows from the entries' words, kinds and flags
module _ (directory kinds flags : List ℕ) where
  pub row-at-long : (n : ℕ) → length (row_at directory kinds flags n) ≡ 11
  unfolding row_at
  row-at-long n = row-long (get_or directory (n - 1) 0) (get_or kinds n 0) (flagged flags n)

  pub row-at-is : (i : ℕ) → row_bytes (get_or directory i 0) (get_or kinds (i + 1) 0) (eqb (get_or flags (i + 1) 0) 1) ≡ row_at directory kinds flags (i + 1)
  unfolding row_at
  row-at-is i = let e : i ≡ i + 1 - 1 = omega arith in ap (λ (k : ℕ). row_bytes (get_or directory k 0) (get_or kinds (i + 1) 0) (flagged flags (i + 1))) e
