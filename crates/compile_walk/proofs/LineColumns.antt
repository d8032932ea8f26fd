-- The columns of a line of the compile file, one after another: its text, its owner's name, its number. Assumes nothing.
--   left-filled, left_put          a text left justified: copied, then blanks
--   name-columns, number-columns, line-whole   the parts of a line put together
use Rattle.std.specs.Prelude.{if◌then◌else◌}
use Prim.Native.Nat.{ℕ, zero, suc, ◌+◌, ◌-◌, ◌*◌, ◌/◌, ◌%◌, ◌^◌, ◌≤◌, ◌<◌}
use native.Mathlib.Omega.{arith}
use native.Mathlib.Nat.{pow-suc}
use mathlib.Core.Path.{◌≡◌, refl, sym, ap, ap₂, ◌∙◌, subst}
use mathlib.Core.Bool.{Bool, true, false, ◌&&◌, not}
use mathlib.Core.List.{List, [], ◌∷◌, ◌++◌, append_assoc, append-nil}
use borrow.Author.Tests.{lt-ltb, le-leb, leb-true, leb-false}
use borrow.Rule.Slice.PartMut.{put_mid, post_of, mid_of, same_len_mid, mid_len}
use lib.Dec.{T, eqb, ltb, leb, leb→le}
use lib.ListN.{length, get_or, take, drop, set, replicate, length-append, length-drop, length-set, length-take, length-replicate, get_or-replicate, drop_of_length-le}
use Rattle.std.proofs.lemmas.List.{take-append-le, take-replicate}
use lib.Seq.{length-take-le, take-append-add, take_all, drop-cons, get_or-take, get_or-drop, ext_get_or, get_or-set_same, get_or-set_other, take_at, drop_at, drop-drop}
use Rattle.words_lists.specs.Over.{over}
use Rattle.words_lists.proofs.OverLists.{over-all}
use Rattle.words.specs.Base.{all, is_nil}
use Rattle.words.proofs.TestParts.{and_left, and_right, true-T}
use Rattle.words.specs.Display.{blank}
use Rattle.words.specs.Names.{is_name_byte, is_name, name_word, name_of, is_name_word, digits, numeral, left_justified, right_justified}
use Rattle.words.specs.Spelt.{name_into, number_into}
use Rattle.compile_walk.specs.Lines.{owner_name, line_for}

-- LEFT JUSTIFIED
pub left-length : (n : ℕ) (t : List ℕ) → length (left_justified n t) ≡ n
unfolding left_justified
left-length n t = length-take n (t ++ replicate n blank) ∙ omega (arith, length-append t (replicate n blank), length-replicate n blank)

column-of : (t : List ℕ) (n i : ℕ) → i < n → get_or (t ++ replicate n blank) i 0 ≡ get_or t i blank
column-of [] n i h = get_or-replicate n i blank 0 h
column-of (x ∷ t) n zero h = refl
column-of (x ∷ t) n (suc i) h = column-of t n i (omega arith)

left-column : (n : ℕ) (t : List ℕ) (i : ℕ) → i < n → get_or (left_justified n t) i 0 ≡ get_or t i blank
unfolding left_justified
left-column n t i h = get_or-take n (t ++ replicate n blank) i 0 h ∙ column-of t n i h

-- as much of the text as there is room for, then blanks
pub left-filled : (t : List ℕ) (n k : ℕ) → k ≡ (if leb (length t) n then length t else n) → take k t ++ replicate (n - k) blank ≡ left_justified n t
unfolding left_justified
left-filled t n k e = go (leb (length t) n) refl e
  where
    go : (x : Bool) → leb (length t) n ≡ x → k ≡ (if x then length t else n) → take k t ++ replicate (n - k) blank ≡ take n (t ++ replicate n blank)
    go true h q =
        let le : length t ≤ n = leb-true (length t) n h in
        let m : length t + (n - k) ≡ n = omega arith in
        ap₂ {C = List ℕ} ◌++◌ (take_all k t (omega arith)) (sym (take-replicate (n - k) n blank (omega arith)))
        ∙ sym (take-append-add t (replicate n blank) (n - k)) ∙ ap (λ (i : ℕ). take i (t ++ replicate n blank)) m
    go false h q =
        let lt : n < length t = leb-false (length t) n h in
        let z : n - k ≡ 0 = omega arith in
        ap₂ (λ (i j : ℕ). take i t ++ replicate j blank) q z ∙ append-nil (take n t) ∙ sym (take-append-le n t (replicate n blank) (omega arith))

-- s is the field f with what is copied of the text t, b the blanks behind it
pub left_put : (t f s b : List ℕ) (k : ℕ) → k ≡ (if leb (length t) (length f) then length t else length f) → k ≤ length t → k ≤ length f → s ≡ over 0 (take k t) f
    → b ≡ replicate (length (take (length s - k) (drop k s))) blank
    → take k s ++ (b ++ post_of k (length s - k) s) ≡ left_justified (length f) t
left_put t f s b k least in-text in-field copied blanks =
    let lp : length (take k t) ≡ k = length-take-le k t in-text in
    let is : s ≡ take k t ++ drop k f = copied ∙ over-all (take k t) f (omega arith) ∙ ap (λ (i : ℕ). take k t ++ drop i f) lp in
    let ls : length s ≡ length f = ap length is ∙ omega (arith, length-append (take k t) (drop k f), length-drop k f, lp) in
    let m : length (take (length s - k) (drop k s)) ≡ length f - k = length-take-le (length s - k) (drop k s) (omega (arith, length-drop k s)) ∙ omega (arith, ls) in
    let front : take k s ≡ take k t = ap (take k) is ∙ take_at (take k t) (drop k f) k lp in
    let none : post_of k (length s - k) s ≡ [] = drop_of_length-le (drop k s) {i = length s - k} (omega (arith, length-drop k s)) in
    let filled : b ≡ replicate (length f - k) blank = blanks ∙ ap (λ (i : ℕ). replicate i blank) m in
    (λ i. front i ++ (filled i ++ none i)) ∙ ap (λ (r : List ℕ). take k t ++ r) (append-nil (replicate (length f - k) blank)) ∙ left-filled t (length f) k least

-- a text is justified by its columns
left-same : (n : ℕ) (s t : List ℕ) → ((i : ℕ) → get_or s i blank ≡ get_or t i blank) → left_justified n s ≡ left_justified n t
left-same n s t e =
    ext_get_or 0 (left_justified n s) (left_justified n t) (left-length n s ∙ sym (left-length n t))
    (λ i h. let l : i < n = omega (arith, left-length n s) in left-column n s i l ∙ e i ∙ sym (left-column n t i l))

-- THE OWNER'S NAME, in columns that were blank
blank-column : (n i : ℕ) → get_or (replicate n blank) i blank ≡ blank
blank-column zero i = refl
blank-column (suc n) zero = refl
blank-column (suc n) (suc i) = blank-column n i

behind : (s r : List ℕ) → ((j : ℕ) → get_or r j blank ≡ blank) → (i : ℕ) → get_or (s ++ r) i blank ≡ get_or s i blank
behind [] r h i = h i
behind (x ∷ s) r h zero = refl
behind (x ∷ s) r h (suc i) = behind s r h i

pub name-columns : (w : ℕ) → left_justified 9 (name_into w (replicate 9 blank)) ≡ left_justified 9 (owner_name w)
unfolding name_into
name-columns w = go (is_name_word w)
  where
    go : (b : Bool) → left_justified 9 (if b then (name_of w ++ drop (length (name_of w)) (replicate 9 blank)) else replicate 9 blank) ≡ left_justified 9 (if b then name_of w else [])
    go true =
        left-same 9 (name_of w ++ drop (length (name_of w)) (replicate 9 blank)) (name_of w)
        (behind (name_of w) (drop (length (name_of w)) (replicate 9 blank)) (λ j. get_or-drop (length (name_of w)) (replicate 9 blank) j blank ∙ blank-column 9 (length (name_of w) + j)))
    go false = left-same 9 (replicate 9 blank) [] (blank-column 9)

-- THE NUMBER: at most as many digits as the powers of ten say
few-digits : (j k n : ℕ) (r : List ℕ) → n < 10 ^ (j + 1) → length (digits k n r) ≤ j + 1 + length r
few-digits j zero n r h = omega arith
few-digits zero (suc k) n r h = rw (lt-ltb n 10 h) (omega arith)
few-digits (suc j) (suc k) n r h =
    let p : suc j + 1 ≡ suc (j + 1) = omega arith in
    let l : n < 10 ^ (j + 1) * 10 = subst (λ (m : ℕ). n < m) (ap (λ (m : ℕ). 10 ^ m) p ∙ pow-suc 10 (j + 1)) h in
    go (ltb n 10) (few-digits j k (n / 10) ((48 + n % 10) ∷ r) (omega arith))
  where
    go : (b : Bool) → length (digits k (n / 10) ((48 + n % 10) ∷ r)) ≤ j + 1 + suc (length r)
        → length (if b then ((48 + n) ∷ r) else digits k (n / 10) ((48 + n % 10) ∷ r)) ≤ suc j + 1 + length r
    go true q = omega arith
    go false q = omega arith

pub number-columns : (n : ℕ) (f : List ℕ) → n < 262144 → length f ≡ 8 → number_into n f ≡ right_justified 8 (numeral n)
unfolding number_into numeral
number-columns n f h e =
    let few : length (digits 20 n []) ≤ 6 = few-digits 5 20 n [] (omega arith) in
    let fits : length (digits 20 n []) ≤ length f = omega arith in
    rw (le-leb (length (digits 20 n [])) (length f) fits, e)

-- THE LINE put together from its parts
-- the parts before they are written
abbrev ended : List ℕ → List ℕ
ended l = set (set l 72 blank) 90 10

module _ (l x y z : List ℕ) (long : length l ≡ 91) (lx : length x ≡ 72) (ly : length y ≡ 9) where
  abbrev m0 : List ℕ
  m0 = ended l

  abbrev m1 : List ℕ
  m1 = put_mid 0 72 m0 x

  abbrev m2 : List ℕ
  m2 = put_mid 73 9 m1 y

  m0-long : length m0 ≡ 91
  m0-long = length-set (set l 72 blank) 90 10 ∙ length-set l 72 blank ∙ long

  m0-blank : drop 72 m0 ≡ blank ∷ drop 73 m0
  m0-blank =
      let i : 72 < length m0 = omega (arith, m0-long) in
      let d : 72 < length l = omega arith in
      let e : get_or m0 72 0 ≡ blank = get_or-set_other (set l 72 blank) 90 72 10 0 (λ q. omega (arith, q)) ∙ get_or-set_same l 72 blank 0 d in
      drop-cons m0 72 0 i ∙ ap {B = List ℕ} (λ h. h ∷ drop 73 m0) e

  m0-end : drop 90 m0 ≡ 10 ∷ []
  m0-end =
      let i : 90 < length m0 = omega (arith, m0-long) in
      let d : 90 < length (set l 72 blank) = omega (arith, length-set l 72 blank) in
      let e : get_or m0 90 0 ≡ 10 = get_or-set_same (set l 72 blank) 90 10 0 d in
      drop-cons m0 90 0 i ∙ (λ k. e k ∷ drop_of_length-le m0 {i = 91} (omega (arith, m0-long)) k)

  m1-is : m1 ≡ (x ++ (blank ∷ [])) ++ drop 73 m0
  m1-is = ap (λ (r : List ℕ). x ++ r) m0-blank ∙ sym (append_assoc x (blank ∷ []) (drop 73 m0))

  pub m1-long : length m1 ≡ 91
  m1-long = same_len_mid 0 72 m0 x (lx ∙ sym (mid_len 0 72 m0 (omega (arith, m0-long)))) ∙ m0-long

  head-long : length (x ++ (blank ∷ [])) ≡ 73
  head-long = length-append x (blank ∷ []) ∙ omega arith

  m2-is : m2 ≡ (x ++ (blank ∷ [])) ++ (y ++ drop 82 m0)
  m2-is =
      let a : take 73 m1 ≡ x ++ (blank ∷ []) = ap (take 73) m1-is ∙ take_at (x ++ (blank ∷ [])) (drop 73 m0) 73 head-long in
      let b : post_of 73 9 m1 ≡ drop 82 m0 = ap (λ (r : List ℕ). drop 9 (drop 73 r)) m1-is ∙ ap (drop 9) (drop_at (x ++ (blank ∷ [])) (drop 73 m0) 73 head-long) ∙ drop-drop 9 73 m0 in
      λ i. a i ++ (y ++ b i)

  pub line-whole : put_mid 82 8 m2 z ≡ x ++ (blank ∷ (y ++ (z ++ (10 ∷ []))))
  line-whole =
      let h : List ℕ = (x ++ (blank ∷ [])) ++ y in
      let n : length h ≡ 82 = length-append (x ++ (blank ∷ [])) y ∙ omega (arith, head-long) in
      let w : m2 ≡ h ++ drop 82 m0 = m2-is ∙ sym (append_assoc (x ++ (blank ∷ [])) y (drop 82 m0)) in
      let a : take 82 m2 ≡ h = ap (take 82) w ∙ take_at h (drop 82 m0) 82 n in
      let b : post_of 82 8 m2 ≡ 10 ∷ [] = ap (λ (r : List ℕ). drop 8 (drop 82 r)) w ∙ ap (drop 8) (drop_at h (drop 82 m0) 82 n) ∙ drop-drop 8 82 m0 ∙ m0-end in
      (λ i. a i ++ (z ++ b i)) ∙ simp append_assoc

  pub m2-long : length m2 ≡ 91
  m2-long = same_len_mid 73 9 m1 y (ly ∙ sym (mid_len 73 82 m1 (omega (arith, m1-long)))) ∙ m1-long

pub put_whole : (l x y z text owner : List ℕ) (name seq : ℕ) → length l ≡ 91 → seq < 262144 → owner ≡ name_into name (replicate 9 blank)
    → x ≡ left_justified (length (mid_of 0 72 (ended l))) text
    → y ≡ left_justified (length (mid_of 73 9 (put_mid 0 72 (ended l) x))) owner
    → z ≡ number_into seq (mid_of 82 8 (put_mid 73 9 (put_mid 0 72 (ended l) x) y))
    → put_mid 82 8 (put_mid 73 9 (put_mid 0 72 (ended l) x) y) z ≡ line_for text name seq
unfolding line_for
put_whole l x y z text owner name seq long small eo ex ey ez =
    let l0 : length (ended l) ≡ 91 = length-set (set l 72 blank) 90 10 ∙ length-set l 72 blank ∙ long in
    let x0 : x ≡ left_justified 72 text = ex ∙ ap (λ (n : ℕ). left_justified n text) (mid_len 0 72 (ended l) (omega arith)) in
    let lx : length x ≡ 72 = ap length x0 ∙ left-length 72 text in
    let l1 : length (put_mid 0 72 (ended l) x) ≡ 91 = same_len_mid 0 72 (ended l) x (lx ∙ sym (mid_len 0 72 (ended l) (omega arith))) ∙ l0 in
    let y0 : y ≡ left_justified 9 owner = ey ∙ ap (λ (n : ℕ). left_justified n owner) (mid_len 73 82 (put_mid 0 72 (ended l) x) (omega arith)) in
    let y1 : y ≡ left_justified 9 (owner_name name) = y0 ∙ ap (left_justified 9) eo ∙ name-columns name in
    let ly : length y ≡ 9 = ap length y1 ∙ left-length 9 (owner_name name) in
    let l2 : length (mid_of 82 8 (put_mid 73 9 (put_mid 0 72 (ended l) x) y)) ≡ 8 = mid_len 82 90 (put_mid 73 9 (put_mid 0 72 (ended l) x) y) (omega (arith, m2-long l x y z long lx ly)) in
    let z0 : z ≡ right_justified 8 (numeral seq) = ez ∙ number-columns seq (mid_of 82 8 (put_mid 73 9 (put_mid 0 72 (ended l) x) y)) small l2 in
    line-whole l x y z long lx ly ∙ (λ i. x0 i ++ (blank ∷ (y1 i ++ (z0 i ++ (10 ∷ [])))))

-- a name's letters are no more than its columns
pub name-long : (w : ℕ) (o : List ℕ) → o ≡ name_into w (replicate 9 blank) → 9 ≡ length o
unfolding name_into is_name_word is_name
name-long w o e = sym (ap length e ∙ go (is_name_word w) refl)
  where
    few : T (is_name_word w) → length (name_of w) ≤ 9
    few t =
        let n : List ℕ = name_of w in
        let is : T (is_name n) = and_left (is_name n) (eqb (name_word n) w) t in
        leb→le (length n) 9 (and_right (not (is_nil n)) (leb (length n) 9) (and_left (not (is_nil n) && leb (length n) 9) (all is_name_byte n) is))

    go : (b : Bool) → is_name_word w ≡ b → length (if b then (name_of w ++ drop (length (name_of w)) (replicate 9 blank)) else replicate 9 blank) ≡ 9
    go true q =
        let k : length (name_of w) ≤ 9 = few (true-T (is_name_word w) q) in
        length-append (name_of w) (drop (length (name_of w)) (replicate 9 blank)) ∙ omega (arith, length-drop (length (name_of w)) (replicate 9 blank))
    go false q = refl

-- a line is 91 bytes long
right-length : (n : ℕ) (b : List ℕ) → length b ≤ n → length (right_justified n b) ≡ n
unfolding right_justified
right-length n b h = length-append (replicate (n - length b) blank) b ∙ omega (arith, length-replicate (n - length b) blank)

pub line-long : (text : List ℕ) (name seq : ℕ) → seq < 262144 → length (line_for text name seq) ≡ 91
unfolding line_for numeral
line-long text name seq h =
    let few : length (digits 20 seq []) ≤ 6 = few-digits 5 20 seq [] (omega arith) in
    let r = right-length 8 (digits 20 seq []) (omega arith) in
    let a = length-append (left_justified 72 text) (blank ∷ (left_justified 9 (owner_name name) ++ (right_justified 8 (digits 20 seq []) ++ (10 ∷ [])))) in
    let b = length-append (left_justified 9 (owner_name name)) (right_justified 8 (digits 20 seq []) ++ (10 ∷ [])) in
    let c = length-append (right_justified 8 (digits 20 seq [])) (10 ∷ []) in
    omega (arith, a, b, c, r, left-length 72 text, left-length 9 (owner_name name))
