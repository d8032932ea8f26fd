-- Rows 1 to 4 that find no fault, as facts on the directory and the deck list, both ways.
use Rattle.std.specs.Prelude.{if◌then◌else◌}
use Prim.Native.Nat.{ℕ, suc}
use native.Mathlib.Omega.{arith}
use mathlib.Core.Path.{◌≡◌, refl, sym, ap, ◌∙◌, subst}
use mathlib.Core.Bool.{Bool, true, false, ◌&&◌, ◌||◌, not}
use mathlib.Core.List.{List, [], ◌∷◌}
use mathlib.Core.Option.{Option, none, some}
use lib.Dec.{T, eqb, eqb→eq}
use Rattle.words.specs.Base.{any, all, member, is_nil, place_from}
use Rattle.words.specs.Names.{is_name_word}
use Rattle.words.proofs.TestParts.{and_both, eqb-turn}
use Rattle.library.specs.Each.{Each}
use Rattle.library.specs.Library.{reserved, purged}
use Rattle.library.specs.Sound.{no_two, sound_entry, same_name}
use Rattle.library.specs.Check.{first_of, fault_if, first_bad, ok_entry, ok_deck_word}
use Rattle.library.proofs.EachTest.{and_parts}
use Rattle.library.proofs.NoTwo.{free_after, free-no-two, no-two-free}

-- ROWS THAT FIND NOTHING
pub some-none : (p : ℕ) → ◌≡◌ {A = Option ℕ} (some p) none → ⊥
some-none p e = let z : ◌≡◌ {A = ℕ} 0 1 = cc in omega arith

pub first-none : (a b : Option ℕ) → first_of a b ≡ none → (a ≡ none) × (b ≡ none)
first-none none b e = (refl, e)
first-none (some p) b e = absurd (some-none p e)

pub none_first : (a b : Option ℕ) → a ≡ none → b ≡ none → first_of a b ≡ none
none_first a b p q = ap (λ (o : Option ℕ). first_of o b) p ∙ q

pub fault-none : (c : Bool) (p : ℕ) → fault_if c p ≡ none → T (not c)
fault-none true p e = absurd (some-none p e)
fault-none false p e = tt

pub none-fault : (c : Bool) (p : ℕ) → T (not c) → fault_if c p ≡ none
none-fault true p t = absurd t
none-fault false p t = refl

pub none-place : (p : ℕ → Bool) (n : ℕ) (xs : List ℕ) → Each (λ x. T (not (p x))) xs → place_from p n xs ≡ none
none-place p n [] h = refl
none-place p n (x ∷ xs) h = go (p x) h.0 (none-place p (suc n) xs h.1)
  where
    go : (c : Bool) → T (not c) → place_from p (suc n) xs ≡ none → (if c then some n else place_from p (suc n) xs) ≡ none
    go true t e = absurd t
    go false t e = e

pub place_none : (p : ℕ → Bool) (n : ℕ) (xs : List ℕ) → place_from p n xs ≡ none → Each (λ x. T (not (p x))) xs
place_none p n [] e = tt
place_none p n (x ∷ xs) e = go (p x) e (place_none p (suc n) xs)
  where
    go : (c : Bool) → (if c then some n else place_from p (suc n) xs) ≡ none → (place_from p (suc n) xs ≡ none → Each (λ y. T (not (p y))) xs)
        → T (not c) × Each (λ y. T (not (p y))) xs
    go true u f = absurd (some-none n u)
    go false u f = (tt, f u)

-- a test at each word, with those ahead of it
abbrev all_after : (List ℕ → ℕ → Bool) → List ℕ → List ℕ → Bool
all_after ok ahead [] = true
all_after ok ahead (w ∷ ws) = ok ahead w && all_after ok (w ∷ ahead) ws

bad-none : (ok : List ℕ → ℕ → Bool) (ahead : List ℕ) (n : ℕ) (ws : List ℕ) → first_bad ok ahead n ws ≡ none → T (all_after ok ahead ws)
bad-none ok ahead n [] e = tt
bad-none ok ahead n (w ∷ ws) e = go (ok ahead w) (bad-none ok (w ∷ ahead) (suc n) ws) e
  where
    go : (c : Bool) → (first_bad ok (w ∷ ahead) (suc n) ws ≡ none → T (all_after ok (w ∷ ahead) ws))
        → (if c then first_bad ok (w ∷ ahead) (suc n) ws else some n) ≡ none → T (c && all_after ok (w ∷ ahead) ws)
    go true f q = f q
    go false f q = absurd (some-none n q)

none-bad : (ok : List ℕ → ℕ → Bool) (ahead : List ℕ) (n : ℕ) (ws : List ℕ) → T (all_after ok ahead ws) → first_bad ok ahead n ws ≡ none
none-bad ok ahead n [] t = refl
none-bad ok ahead n (w ∷ ws) t = go (ok ahead w) (none-bad ok (w ∷ ahead) (suc n) ws) t
  where
    go : (c : Bool) → (T (all_after ok (w ∷ ahead) ws) → first_bad ok (w ∷ ahead) (suc n) ws ≡ none)
        → T (c && all_after ok (w ∷ ahead) ws) → (if c then first_bad ok (w ∷ ahead) (suc n) ws else some n) ≡ none
    go true f u = f u
    go false f u = absurd u

-- THE DIRECTORY: row 4's test of an entry is that it is sound, and no name that stands ahead
any_same : (p : Bool) (w : ℕ) (xs : List ℕ) → any (λ x. eqb w x && p) xs ≡ (member w xs && p)
any_same p w [] = refl
any_same p w (x ∷ xs) = ap (λ (b : Bool). (eqb w x && p) || b) (any_same p w xs) ∙ go (eqb w x) p (member w xs)
  where
    go : (a q m : Bool) → ((a && q) || (m && q)) ≡ ((a || m) && q)
    go true true m = refl
    go true false true = refl
    go true false false = refl
    go false q m = refl

entry-test : (ahead : List ℕ) (w : ℕ) → ok_entry ahead w ≡ (sound_entry w && not (any (same_name w) ahead))
entry-test ahead w = go (eqb w purged) (is_name_word w && not (eqb w reserved)) (member w ahead) ∙ ap (λ (b : Bool). sound_entry w && not b) (sym (any_same (not (eqb w purged)) w ahead))
  where
    go : (p s m : Bool) → (p || (s && not m)) ≡ ((p || s) && not (m && not p))
    go true s true = refl
    go true s false = refl
    go false true true = refl
    go false true false = refl
    go false false m = refl

pub same-name-turn : (v w : ℕ) → T (same_name v w) → T (same_name w v)
same-name-turn v w t =
    let q = and_parts (eqb v w) (not (eqb v purged)) t in
    let e : v ≡ w = eqb→eq v w q.0 in
    and_both (eqb w v) (not (eqb w purged)) (eqb-turn v w q.0) (subst (λ (x : ℕ). T (not (eqb x purged))) e q.1)

after-entries : (ahead ws : List ℕ) → T (all_after ok_entry ahead ws) → T (all sound_entry ws) × T (free_after same_name ahead ws)
after-entries ahead [] t = (tt, tt)
after-entries ahead (w ∷ ws) t =
    let free : Bool = not (any (same_name w) ahead) in
    let p = and_parts (ok_entry ahead w) (all_after ok_entry (w ∷ ahead) ws) t in
    let q = and_parts (sound_entry w) free (subst (λ (b : Bool). T b) (entry-test ahead w) p.0) in
    let r = after-entries (w ∷ ahead) ws p.1 in
    (and_both (sound_entry w) (all sound_entry ws) q.0 r.0, and_both free (free_after same_name (w ∷ ahead) ws) q.1 r.1)

entries-after : (ahead ws : List ℕ) → T (all sound_entry ws) → T (free_after same_name ahead ws) → T (all_after ok_entry ahead ws)
entries-after ahead [] s f = tt
entries-after ahead (w ∷ ws) s f =
    let free : Bool = not (any (same_name w) ahead) in
    let p = and_parts (sound_entry w) (all sound_entry ws) s in
    let q = and_parts free (free_after same_name (w ∷ ahead) ws) f in
    and_both (ok_entry ahead w) (all_after ok_entry (w ∷ ahead) ws)
    (subst (λ (b : Bool). T b) (sym (entry-test ahead w)) (and_both (sound_entry w) free p.0 q.0)) (entries-after (w ∷ ahead) ws p.1 q.1)

pub free-none : {A : Type 0} (xs : List A) → Each (λ x. T (not false)) xs
free-none [] = tt
free-none (x ∷ xs) = (tt, free-none xs)

pub entries-sound : (n : ℕ) (ws : List ℕ) → first_bad ok_entry [] n ws ≡ none → T (all sound_entry ws) × T (no_two same_name ws)
entries-sound n ws e =
    let q = after-entries [] ws (bad-none ok_entry [] n ws e) in
    (q.0, (free-no-two same_name same-name-turn [] ws q.1).1)

pub sound-entries : (n : ℕ) (ws : List ℕ) → T (all sound_entry ws) → T (no_two same_name ws) → first_bad ok_entry [] n ws ≡ none
sound-entries n ws s o = none-bad ok_entry [] n ws (entries-after [] ws s (no-two-free same_name same-name-turn [] ws (free-none ws) o))

-- THE DECK LIST: YANK$$$, then names of the directory, none twice
abbrev pub is_listed : List ℕ → ℕ → Bool
is_listed directory w = is_name_word w && member w directory

module _ (directory : List ℕ) where
  after-listed : (a : ℕ) (ahead ws : List ℕ) → T (all_after (ok_deck_word directory) (a ∷ ahead) ws) → Each (λ w. T (is_listed directory w)) ws × T (free_after eqb (a ∷ ahead) ws)
  after-listed a ahead [] t = (tt, tt)
  after-listed a ahead (w ∷ ws) t =
      let free : Bool = not (member w (a ∷ ahead)) in
      let p = and_parts (ok_deck_word directory (a ∷ ahead) w) (all_after (ok_deck_word directory) (w ∷ a ∷ ahead) ws) t in
      let q = and_parts (is_listed directory w) free p.0 in
      let r = after-listed w (a ∷ ahead) ws p.1 in
      ((q.0, r.0), and_both free (free_after eqb (w ∷ a ∷ ahead) ws) q.1 r.1)

  listed-after : (a : ℕ) (ahead ws : List ℕ) → Each (λ w. T (is_listed directory w)) ws → T (free_after eqb (a ∷ ahead) ws) → T (all_after (ok_deck_word directory) (a ∷ ahead) ws)
  listed-after a ahead [] h f = tt
  listed-after a ahead (w ∷ ws) h f =
      let free : Bool = not (member w (a ∷ ahead)) in
      let q = and_parts free (free_after eqb (w ∷ a ∷ ahead) ws) f in
      and_both (ok_deck_word directory (a ∷ ahead) w) (all_after (ok_deck_word directory) (w ∷ a ∷ ahead) ws)
      (and_both (is_listed directory w) free h.0 q.0) (listed-after w (a ∷ ahead) ws h.1 q.1)

  -- what row 4 says of the deck words
  pub record Listed (ws : List ℕ) : Type 0 where
    pub names : List ℕ
    pub first : ws ≡ reserved ∷ names
    pub listed : Each (λ w. T (is_listed directory w)) names
    pub once : T (no_two eqb names)

  pub list-sound : (n : ℕ) (ws : List ℕ) → T (not (is_nil ws)) → first_bad (ok_deck_word directory) [] n ws ≡ none → Listed ws
  list-sound n [] t e = absurd t
  list-sound n (w ∷ ws) t e =
      let q = and_parts (eqb w reserved) (all_after (ok_deck_word directory) (w ∷ []) ws) (bad-none (ok_deck_word directory) [] n (w ∷ ws) e) in
      let r = after-listed w [] ws q.1 in
      let f : w ≡ reserved = eqb→eq w reserved q.0 in
      record { names = ws; first = λ i. f i ∷ ws; listed = r.0; once = (free-no-two eqb eqb-turn (w ∷ []) ws r.1).1 }

  pub sound-list : (n : ℕ) (ws : List ℕ) → Each (λ w. T (is_listed directory w)) ws → Each (λ w. T (not (eqb w reserved))) ws → T (no_two eqb ws)
      → first_bad (ok_deck_word directory) [] n (reserved ∷ ws) ≡ none
  sound-list n ws h other o =
      none-bad (ok_deck_word directory) [] n (reserved ∷ ws)
      (listed-after reserved [] ws h (no-two-free eqb eqb-turn (reserved ∷ []) ws (alone ws other) o))
    where
      alone : (xs : List ℕ) → Each (λ w. T (not (eqb w reserved))) xs → Each (λ w. T (not (member w (reserved ∷ [])))) xs
      alone [] q = tt
      alone (x ∷ xs) q = (go (eqb x reserved) q.0, alone xs q.1)
        where
          go : (c : Bool) → T (not c) → T (not (c || false))
          go true t = t
          go false t = t
