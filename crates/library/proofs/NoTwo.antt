-- No two elements of a list alike: tested with those ahead of each, or with those behind it.
use Prim.Native.Nat.{ℕ}
use mathlib.Core.Path.{◌≡◌, refl, ap, ap₂, subst}
use mathlib.Core.Bool.{Bool, true, false, ◌&&◌, ◌||◌, not}
use mathlib.Core.List.{List, [], ◌∷◌, ◌++◌, map}
use lib.Dec.{T, T_not, not_T, eqb, eqb→eq, eqb_refl}
use Rattle.library.proofs.AnyAndAll.{any-map}
use Rattle.words.specs.Base.{any}
use Rattle.words.proofs.TestParts.{and_both}
use Rattle.library.specs.Each.{Each}
use Rattle.library.specs.Library.{Card}
use Rattle.library.specs.Sound.{no_two, same_card}
use Rattle.library.proofs.EachTest.{each_map, each_two, and_parts}
use Rattle.library.proofs.AppendedLists.{each_append, each-parts}

or_left : (a b : Bool) → T (not (a || b)) → T (not a)
or_left true b t = t
or_left false b t = tt

or_right : (a b : Bool) → T (not (a || b)) → T (not b)
or_right true b t = absurd t
or_right false b t = t

or-neither : (a b : Bool) → T (not a) → T (not b) → T (not (a || b))
or-neither true b s t = s
or-neither false b s t = t

pub any_none : {A : Type 0} (p : A → Bool) (xs : List A) → T (not (any p xs)) → Each (λ x. T (not (p x))) xs
any_none p [] t = tt
any_none p (x ∷ xs) t = (or_left (p x) (any p xs) t, any_none p xs (or_right (p x) (any p xs) t))

pub none_any : {A : Type 0} (p : A → Bool) (xs : List A) → Each (λ x. T (not (p x))) xs → T (not (any p xs))
none_any p [] h = tt
none_any p (x ∷ xs) h = or-neither (p x) (any p xs) h.0 (none_any p xs h.1)

-- none is like one ahead of it
abbrev pub free_after : {A : Type 0} → (A → A → Bool) → List A → List A → Bool
free_after alike ahead [] = true
free_after alike ahead (x ∷ xs) = not (any (alike x) ahead) && free_after alike (x ∷ ahead) xs

module _ {A : Type 0} (alike : A → A → Bool) (turn : (x y : A) → T (alike x y) → T (alike y x)) where
  not-turn : (x y : A) → T (not (alike x y)) → T (not (alike y x))
  not-turn x y t = not_T (alike y x) (λ u. T_not (alike x y) t (turn y x u))

  pub free-no-two : (ahead xs : List A) → T (free_after alike ahead xs) → Each (λ x. T (not (any (alike x) ahead))) xs × T (no_two alike xs)
  free-no-two ahead [] t = (tt, tt)
  free-no-two ahead (x ∷ xs) t =
      let p = and_parts (not (any (alike x) ahead)) (free_after alike (x ∷ ahead) xs) t in
      let q = free-no-two (x ∷ ahead) xs p.1 in
      let none-x = each_map _ _ (λ y u. not-turn y x (or_left (alike y x) (any (alike y) ahead) u)) xs q.0 in (
        (p.0, each_map _ _ (λ y u. or_right (alike y x) (any (alike y) ahead) u) xs q.0),
        and_both (not (any (alike x) xs)) (no_two alike xs) (none_any (alike x) xs none-x) q.1,
      )

  pub no-two-free : (ahead xs : List A) → Each (λ x. T (not (any (alike x) ahead))) xs → T (no_two alike xs) → T (free_after alike ahead xs)
  no-two-free ahead [] h t = tt
  no-two-free ahead (x ∷ xs) h t =
      let p = and_parts (not (any (alike x) xs)) (no_two alike xs) t in
      let free-x = each_two _ _ (λ y. T (not (any (alike y) (x ∷ ahead)))) (λ y u v. or-neither (alike y x) (any (alike y) ahead) (not-turn x y v) u) xs h.1 (any_none (alike x) xs p.0) in
      and_both (not (any (alike x) ahead)) (free_after alike (x ∷ ahead) xs) h.0 (no-two-free (x ∷ ahead) xs free-x p.1)

pub no-two-map : {A B : Type 0} (alike : B → B → Bool) (f : A → B) (xs : List A) → no_two alike (map f xs) ≡ no_two (λ x y. alike (f x) (f y)) xs
no-two-map alike f [] = refl
no-two-map alike f (x ∷ xs) = ap₂ ◌&&◌ (ap not (any-map (alike (f x)) f xs)) (no-two-map alike f xs)

-- what is alike in a second way is alike in the first: then no two in the first way are none in the second
pub no-two-less : {A : Type 0} (P : A → Type 0) (alike like : A → A → Bool) → ((x y : A) → P x → P y → T (like x y) → T (alike x y))
    → (xs : List A) → Each P xs → T (no_two alike xs) → T (no_two like xs)
no-two-less P alike like f [] h t = tt
no-two-less P alike like f (x ∷ xs) h t =
    let p = and_parts (not (any (alike x) xs)) (no_two alike xs) t in
    let none-x = each_two P (λ y. T (not (alike x y))) (λ y. T (not (like x y))) (λ y u v. not_T (like x y) (λ w. T_not (alike x y) v (f x y h.0 u w))) xs h.1 (any_none (alike x) xs p.0) in
    and_both (not (any (like x) xs)) (no_two like xs) (none_any (like x) xs none-x) (no-two-less P alike like f xs h.1 p.1)

-- LISTS APPENDED: none of the first is like one of the second
abbrev pub Across : {A : Type 0} → (A → A → Bool) → List A → List A → Type 0
Across alike xs ys = Each (λ x. Each (λ y. T (not (alike x y))) ys) xs

module _ {A : Type 0} (alike : A → A → Bool) where
  pub no-two-append : (xs ys : List A) → T (no_two alike xs) → T (no_two alike ys) → Across alike xs ys → T (no_two alike (xs ++ ys))
  no-two-append [] ys t u c = u
  no-two-append (x ∷ xs) ys t u c =
      let p = and_parts (not (any (alike x) xs)) (no_two alike xs) t in
      and_both (not (any (alike x) (xs ++ ys))) (no_two alike (xs ++ ys))
      (none_any (alike x) (xs ++ ys) (each_append (λ y. T (not (alike x y))) xs ys (any_none (alike x) xs p.0) c.0)) (no-two-append xs ys p.1 u c.1)

  pub no-two-parts : (xs ys : List A) → T (no_two alike (xs ++ ys)) → T (no_two alike xs) × T (no_two alike ys) × Across alike xs ys
  no-two-parts [] ys t = (tt, t, tt)
  no-two-parts (x ∷ xs) ys t =
      let p = and_parts (not (any (alike x) (xs ++ ys))) (no_two alike (xs ++ ys)) t in
      let q = each-parts (λ y. T (not (alike x y))) xs ys (any_none (alike x) (xs ++ ys) p.0) in
      let r = no-two-parts xs ys p.1 in
      (and_both (not (any (alike x) xs)) (no_two alike xs) (none_any (alike x) xs q.0) r.0, r.1, (q.1, r.2))

  pub across-all : (P Q : A → Type 0) → ((x y : A) → P x → Q y → T (not (alike x y))) → (xs ys : List A) → Each P xs → Each Q ys → Across alike xs ys
  across-all P Q f xs ys p q = each_map _ _ (λ x a. each_map _ _ (λ y b. f x y a b) ys q) xs p

  pub across-right : (xs ys zs : List A) → Across alike xs ys → Across alike xs zs → Across alike xs (ys ++ zs)
  across-right [] ys zs p q = tt
  across-right (x ∷ xs) ys zs p q = (each_append (λ y. T (not (alike x y))) ys zs p.0 q.0, across-right xs ys zs p.1 q.1)

  -- two lists cut in two each: no two alike in either, nor across, then none where the first parts come ahead of the second parts
  pub no-two-four : (turn : (x y : A) → T (alike x y) → T (alike y x)) (a b c d : List A) → T (no_two alike (a ++ c)) → T (no_two alike (b ++ d)) → Across alike (a ++ c) (b ++ d)
      → T (no_two alike ((a ++ b) ++ (c ++ d)))
  no-two-four turn a b c d t u x =
      let p = no-two-parts a c t in
      let q = no-two-parts b d u in
      let y = each-parts (λ e. Each (λ f. T (not (alike e f))) (b ++ d)) a c x in
      let ab = each_map _ _ (λ e h. each-parts (λ f. T (not (alike e f))) b d h) a y.0 in
      let cb = each_map _ _ (λ e h. each-parts (λ f. T (not (alike e f))) b d h) c y.1 in
      no-two-append (a ++ b) (c ++ d) (no-two-append a b p.0 q.0 (each_map _ _ (λ e h. h.0) a ab)) (no-two-append c d p.1 q.1 (each_map _ _ (λ e h. h.1) c cb))
      (each_append (λ e. Each (λ f. T (not (alike e f))) (c ++ d)) a b (across-right a c d p.2 (each_map _ _ (λ e h. h.1) a ab))
      (across-right b c d (flip c b (each_map _ _ (λ e h. h.0) c cb)) q.2))
    where
      flip_one : (e : A) (bs : List A) (cs : List A) → Across alike cs (e ∷ bs) → Each (λ f. T (not (alike e f))) cs × Across alike cs bs
      flip_one e bs [] h = (tt, tt)
      flip_one e bs (f ∷ cs) h =
          let r = flip_one e bs cs h.1 in
          ((not_T (alike e f) (λ v. T_not (alike f e) h.0.0 (turn e f v)), r.0), (h.0.1, r.1))

      flip : (cs bs : List A) → Across alike cs bs → Across alike bs cs
      flip cs [] h = tt
      flip cs (e ∷ bs) h = let r = flip_one e bs cs h in (r.0, flip cs bs r.1)

-- cards
pub same_turn : (c d : Card) → T (same_card c d) → T (same_card d c)
same_turn c d t =
    let q = and_parts (eqb c.owner d.owner) (eqb c.seq d.seq) t in
    and_both (eqb d.owner c.owner) (eqb d.seq c.seq) (flip c.owner d.owner q.0) (flip c.seq d.seq q.1)
  where
    flip : (m n : ℕ) → T (eqb m n) → T (eqb n m)
    flip m n u = subst (λ (x : ℕ). T (eqb x m)) (eqb→eq m n u) (eqb_refl m)
