-- A name's ways lead through the tree to the first entry that has it; where they end no entry has it. Assumes nothing.
--   Going, walk_start              the walk
--   Tree, tree-none                the tree
--   Seeking, seek-.., came         what the walk comes to in a tree
--   tree-more, planted-entry       a planted tree knows every name
use Rattle.std.specs.Prelude.{Result, Ok, Err, if◌then◌else◌}
use Prim.Native.Nat.{ℕ, zero, suc, ◌+◌, ◌*◌, ◌/◌, ◌%◌, ◌≤◌, ◌<◌}
use native.Mathlib.Omega.{arith}
use native.Mathlib.Decide.{dec_le}
use mathlib.Core.Path.{◌≡◌, refl, sym, ap, ◌∙◌, subst}
use mathlib.Core.Bool.{Bool, true, false}
use mathlib.Core.List.{List, [], ◌∷◌}
use lib.Dec.{eqb, ltb, leb}
use lib.ListN.{length, get_or, set, replicate, length-set, length-replicate}
use lib.Seq.{get_or-set_same, get_or-set_other, set-get_or}
use borrow.Author.Tests.{le-leb, eq-eqb, ne_eqb, ltb-true, ltb-false, leb-true, leb-false, eqb-true, eqb-false}
use Rattle.library.specs.Library.{entry_from, entry_of}
use Rattle.library_index_twice.specs.KeyTree.{way_of, Leads}
use Rattle.library_index_twice.proofs.WaysKept.{Keeps, lead-on, leads-kept}
use Rattle.library_index.specs.Names.{start_of, walked, entry_number, led, grown, grown_to, planted, entry_by, Knows}
use Rattle.library_index.proofs.Zeros.{zeros-zero}

-- THE WALK: what is still to go from here ends where the whole does
module _ (d ways : List ℕ) (n w : ℕ) where
  abbrev pub Going : ℕ → ℕ → Type 0
  Going at rest = (k : ℕ) × ((n ≤ at + k) × (walked n d ways n w 0 (start_of w) ≡ walked k d ways n w at rest))

  pub walk_start : (s : ℕ) → s ≡ start_of w → Going 0 s
  walk_start s e = (n, (omega arith, ap (walked n d ways n w 0) (sym e)))

-- where it stands first, and where nowhere
first_entry : (w c i : ℕ) (xs : List ℕ) → i < length xs → get_or xs i 0 ≡ w → ((j : ℕ) → j < i → get_or xs j 0 ≡ w → ⊥) → entry_from w c xs ≡ c + i
first_entry w c i [] lt e none = absurd (omega arith)
first_entry w c zero (x ∷ xs) lt e none = ap (λ (b : Bool). if b then c else entry_from w (suc c) xs) (eq-eqb w x (sym e)) ∙ omega arith
first_entry w c (suc i) (x ∷ xs) lt e none =
    ap (λ (b : Bool). if b then c else entry_from w (suc c) xs) (ne_eqb w x (λ q. none 0 (omega arith) (sym q)))
    ∙ first_entry w (suc c) i xs (omega arith) e (λ j l. none (suc j) (omega arith)) ∙ omega arith

no-entry : (w c : ℕ) (xs : List ℕ) → ((j : ℕ) → j < length xs → get_or xs j 0 ≡ w → ⊥) → entry_from w c xs ≡ 0
no-entry w c [] none = refl
no-entry w c (x ∷ xs) none =
    ap (λ (b : Bool). if b then c else entry_from w (suc c) xs) (ne_eqb w x (λ q. none 0 (omega arith) (sym q))) ∙ no-entry w (suc c) xs (λ j l. none (suc j) (omega arith))

-- the ways lead from a place to one with the name w, no later than m
record Led (d ways : List ℕ) (at rest w m : ℕ) : Type 0 where
  place : ℕ
  early : place ≤ m
  same : get_or d place 0 ≡ w
  count : ℕ
  leads : Leads ways count at rest place

-- ways of the first n entries lead to later ones, and those of an entry's name to the name
record Tree (d ways : List ℕ) (n : ℕ) : Type 0 where
  long : length ways ≡ 4096
  rises : (at rest : ℕ) → 0 < get_or ways (way_of at rest) 0 → (at < get_or ways (way_of at rest) 0) × (get_or ways (way_of at rest) 0 < n)
  leads : (m : ℕ) → m < n → Led d ways 0 (start_of (get_or d m 0)) (get_or d m 0) m

tree-none : (d ways : List ℕ) → length ways ≡ 4096 → ((i : ℕ) → get_or ways i 0 ≡ 0) → Tree d ways 0
tree-none d ways l z = record {
  long = l;
  rises = λ at rest h. absurd (omega (arith, h, z (way_of at rest)));
  leads = λ m lt. absurd (omega arith);
}

-- THE SEARCH: entries with the name lie ahead, and what lies ahead lies on the name's ways, with more of them too
record Seeking (d ways : List ℕ) (n w at rest : ℕ) : Type 0 where
  inside : 0 < n → at < n
  ahead : (m : ℕ) → m < n → get_or d m 0 ≡ w → Led d ways at rest w m
  whole : (ways' : List ℕ) → Keeps ways ways' → (m k : ℕ) → Leads ways' k at rest m → (j : ℕ) × Leads ways' j 0 (start_of w) m

-- where it comes to: the first entry with the name, or a way for it
record First (d ways : List ℕ) (n w m : ℕ) : Type 0 where
  place : ℕ
  number : m ≡ place + 1
  inside : place < n
  is : get_or d place 0 ≡ w
  first : (j : ℕ) → j < place → get_or d j 0 ≡ w → ⊥
  count : ℕ
  leads : Leads ways count 0 (start_of w) place

record Lacks (d ways : List ℕ) (n w way : ℕ) : Type 0 where
  none : (j : ℕ) → j < n → get_or d j 0 ≡ w → ⊥
  more : get_or d n 0 ≡ w → n < 1024 → Tree d (set ways way n) (suc n)

abbrev Came : List ℕ → List ℕ → ℕ → ℕ → Result ℕ ℕ → Type 0
Came d ways n w (Ok m) = First d ways n w m
Came d ways n w (Err way) = Lacks d ways n w way

module _ (d ways : List ℕ) (n w : ℕ) (tree : Tree d ways n) where
  leads-later : (k at rest m : ℕ) → Leads ways k at rest m → at ≤ m
  leads-later zero at rest m l = omega (arith, l)
  leads-later (suc k) at rest m l = let r = (tree.rises at rest l.0).0 in let le = leads-later k (get_or ways (way_of at rest) 0) (rest / 4) m l.1 in omega (arith, r, le)

  seek-start : Seeking d ways n w 0 (start_of w)
  seek-start = record {
    inside = λ h. h;
    ahead = λ m lt e. subst (λ (x : ℕ). Led d ways 0 (start_of x) x m) e (tree.leads m lt);
    whole = λ ways' keeps m k l. (k, l);
  }

  -- the first entry of all
  seek-first : (rest : ℕ) → n ≡ 0 → Lacks d ways n w (way_of 0 rest)
  seek-first rest z = record {
    none = λ j lt. absurd (omega arith);
    more = λ e few. subst (λ (ws : List ℕ). Tree d ws (suc n)) (sym same) record {
      long = tree.long;
      rises = λ at r h. let p = tree.rises at r h in (p.0, omega (arith, p.1));
      leads = λ m lt. record { place = 0; early = omega arith; same = ap (λ (i : ℕ). get_or d i 0) (omega arith); count = 0; leads = refl };
    };
  }
    where
      ends : Dec (1 ≤ get_or ways (way_of 0 rest) 0) → n ≡ get_or ways (way_of 0 rest) 0
      ends (yes h) = absurd (omega (arith, (tree.rises 0 rest h).1))
      ends (no h) = omega arith

      same : set ways (way_of 0 rest) n ≡ ways
      same = ap (set ways (way_of 0 rest)) (ends (dec_le 1 (get_or ways (way_of 0 rest) 0))) ∙ set-get_or ways (way_of 0 rest) 0

  module _ (at rest : ℕ) (seek : Seeking d ways n w at rest) where
    seek-out : n ≤ at → Lacks d ways n w (way_of 0 rest)
    seek-out le = go (dec_le 1 n)
      where
        go : Dec (1 ≤ n) → Lacks d ways n w (way_of 0 rest)
        go (yes some) = absurd (let lt : at < n = seek.inside some in omega arith)
        go (no none) = seek-first rest (omega arith)

    module _ (lt : at < n) where
      seek_found : get_or d at 0 ≡ w → First d ways n w (at + 1)
      seek_found e =
          let l = seek.whole ways (λ i h. refl) at 0 refl in record {
            place = at;
            number = refl;
            inside = lt;
            is = e;
            first = λ j less q. let a = seek.ahead j (omega arith) q in omega (arith, less, a.early, leads-later a.count at rest a.place a.leads);
            count = l.0;
            leads = l.1;
          }

      module _ (other : get_or d at 0 ≡ w → ⊥) where
        seek-on : 0 < get_or ways (way_of at rest) 0 → Seeking d ways n w (get_or ways (way_of at rest) 0) (rest / 4)
        seek-on h = record {
          inside = λ p. (tree.rises at rest h).1;
          ahead = λ m l e. further m (seek.ahead m l e);
          whole = λ ways' keeps m k l. seek.whole ways' keeps m (suc k) (lead-on ways ways' keeps at rest m k h l);
        }
          where
            further : (m : ℕ) → Led d ways at rest w m → Led d ways (get_or ways (way_of at rest) 0) (rest / 4) w m
            further m a = go a.count a.leads
              where
                go : (k : ℕ) → Leads ways k at rest a.place → Led d ways (get_or ways (way_of at rest) 0) (rest / 4) w m
                go zero l = absurd (other (ap (λ (i : ℕ). get_or d i 0) l ∙ a.same))
                go (suc k) l = record { place = a.place; early = a.early; same = a.same; count = k; leads = l.1 }

        module _ (ends : get_or ways (way_of at rest) 0 ≡ 0) where
          none : (m : ℕ) → m < n → get_or d m 0 ≡ w → ⊥
          none m l e = go (seek.ahead m l e).count (seek.ahead m l e).leads
            where
              go : (k : ℕ) → Leads ways k at rest (seek.ahead m l e).place → ⊥
              go zero p = other (ap (λ (i : ℕ). get_or d i 0) p ∙ (seek.ahead m l e).same)
              go (suc k) p = let h : 0 < get_or ways (way_of at rest) 0 = p.0 in omega arith

          module _ (is : get_or d n 0 ≡ w) (few : n < 1024) where
            abbrev ways' : List ℕ
            ways' = set ways (way_of at rest) n

            this : get_or ways' (way_of at rest) 0 ≡ n
            this = get_or-set_same ways (way_of at rest) n 0 (omega (arith, tree.long))

            keeps : Keeps ways ways'
            keeps i h = get_or-set_other ways (way_of at rest) i n 0 (λ e. let z : get_or ways i 0 ≡ get_or ways (way_of at rest) 0 = ap (λ (v : ℕ). get_or ways v 0) e in omega arith)

            new : (j : ℕ) × Leads ways' j 0 (start_of w) n
            new = seek.whole ways' keeps n 1 (omega (arith, this), this)

            rising : (i r : ℕ) → 0 < get_or ways' (way_of i r) 0 → (i < get_or ways' (way_of i r) 0) × (get_or ways' (way_of i r) 0 < suc n)
            rising i r h = go (eqb (way_of i r) (way_of at rest)) refl
              where
                go : (b : Bool) → eqb (way_of i r) (way_of at rest) ≡ b → (i < get_or ways' (way_of i r) 0) × (get_or ways' (way_of i r) 0 < suc n)
                go true e =
                    let z : i * 4 + r % 4 ≡ at * 4 + rest % 4 = eqb-true (way_of i r) (way_of at rest) e in
                    let v : get_or ways' (way_of i r) 0 ≡ n = ap (λ (x : ℕ). get_or ways' x 0) z ∙ this in
                    (omega (arith, v), omega (arith, v))
                go false e =
                    let v : get_or ways' (way_of i r) 0 ≡ get_or ways (way_of i r) 0 = get_or-set_other ways (way_of at rest) (way_of i r) n 0 (eqb-false (way_of i r) (way_of at rest) e) in
                    let p = tree.rises i r (subst (λ (x : ℕ). 0 < x) v h) in
                    (omega (arith, v, p.0), omega (arith, v, p.1))

            leading : (m : ℕ) → m < suc n → Led d ways' 0 (start_of (get_or d m 0)) (get_or d m 0) m
            leading m l = go (dec_le n m)
              where
                go : Dec (n ≤ m) → Led d ways' 0 (start_of (get_or d m 0)) (get_or d m 0) m
                go (yes le) =
                    let z : n ≡ m = omega arith in
                    subst (λ (i : ℕ). Led d ways' 0 (start_of (get_or d i 0)) (get_or d i 0) i) z record { place = n; early = omega arith; same = refl; count = new.0; leads = subst (λ (x : ℕ). Leads ways' new.0 0 (start_of x) n) (sym is) new.1 }
                go (no gt) =
                    let p = tree.leads m (omega arith) in
                    record { place = p.place; early = p.early; same = p.same; count = p.count; leads = leads-kept ways ways' keeps p.count 0 (start_of (get_or d m 0)) p.place p.leads }

            seek-put : Tree d (set ways (way_of at rest) n) (suc n)
            seek-put = record { long = length-set ways (way_of at rest) n ∙ tree.long; rises = rising; leads = leading }

          seek-ends : Lacks d ways n w (way_of at rest)
          seek-ends = record { none = none; more = seek-put }

  came : (k at rest : ℕ) → Seeking d ways n w at rest → n ≤ at + k → Came d ways n w (walked k d ways n w at rest)
  came zero at rest s le = seek-out at rest s (omega arith)
  came (suc k) at rest s le = go (ltb at n) refl (eqb (get_or d at 0) w) refl (leb (get_or ways (way_of at rest) 0) at) refl (came k (get_or ways (way_of at rest) 0) (rest / 4))
    where
      go : (a : Bool) → ltb at n ≡ a → (b : Bool) → eqb (get_or d at 0) w ≡ b → (c : Bool) → leb (get_or ways (way_of at rest) 0) at ≡ c
          → (Seeking d ways n w (get_or ways (way_of at rest) 0) (rest / 4) → n ≤ get_or ways (way_of at rest) 0 + k → Came d ways n w (walked k d ways n w (get_or ways (way_of at rest) 0) (rest / 4)))
          → Came d ways n w (if a then (if b then Ok (at + 1) else (if c then Err (way_of at rest) else walked k d ways n w (get_or ways (way_of at rest) 0) (rest / 4))) else Err (way_of 0 rest))
      go false e b f c g on = seek-out at rest s (ltb-false at n e)
      go true e true f c g on = seek_found at rest s (ltb-true at n e) (eqb-true (get_or d at 0) w f)
      go true e false f true g on = seek-ends at rest s (ltb-true at n e) (eqb-false (get_or d at 0) w f) (ended (dec_le 1 (get_or ways (way_of at rest) 0)))
        where
          ended : Dec (1 ≤ get_or ways (way_of at rest) 0) → get_or ways (way_of at rest) 0 ≡ 0
          ended (yes h) = absurd (omega (arith, (tree.rises at rest h).0, leb-true (get_or ways (way_of at rest) 0) at g))
          ended (no h) = omega arith
      go true e false f false g on =
          let lt : at < get_or ways (way_of at rest) 0 = leb-false (get_or ways (way_of at rest) 0) at g in
          on (seek-on at rest s (ltb-true at n e) (eqb-false (get_or d at 0) w f) (omega arith)) (omega arith)

-- ONE ENTRY MORE, and all
tree-more : (d ways : List ℕ) (n : ℕ) → Tree d ways n → n < 1024 → Tree d (grown d ways n) (suc n)
tree-more d ways n tree few = go (walked n d ways n (get_or d n 0) 0 (start_of (get_or d n 0))) (came d ways n (get_or d n 0) tree n 0 (start_of (get_or d n 0)) (seek-start d ways n (get_or d n 0) tree) (omega arith))
  where
    go : (r : Result ℕ ℕ) → Came d ways n (get_or d n 0) r → Tree d (led ways n r) (suc n)
    go (Err way) h = h.more refl few
    go (Ok m) h = record {
      long = tree.long;
      rises = λ at rest q. let r = tree.rises at rest q in (r.0, omega (arith, r.1));
      leads = λ i l. stands i l (dec_le n i);
    }
      where
        stands : (i : ℕ) → i < suc n → Dec (n ≤ i) → Led d ways 0 (start_of (get_or d i 0)) (get_or d i 0) i
        stands i l (yes le) =
            let z : n ≡ i = omega arith in
            subst (λ (x : ℕ). Led d ways 0 (start_of (get_or d x 0)) (get_or d x 0) x) z record { place = h.place; early = omega (arith, h.inside); same = h.is; count = h.count; leads = h.leads }
        stands i l (no gt) = tree.leads i (omega arith)

tree_all : (d ways : List ℕ) → Tree d ways 0 → (n : ℕ) → n ≤ 1024 → Tree d (grown_to n d ways) n
tree_all d ways tree zero le = tree
tree_all d ways tree (suc n) le = tree-more d (grown_to n d ways) n (tree_all d ways tree n (omega arith)) (omega arith)

tree-knows : (d ways : List ℕ) → Tree d ways (length d) → (w : ℕ) → entry_number (walked (length d) d ways (length d) w 0 (start_of w)) ≡ entry_of d w
unfolding entry_of
tree-knows d ways tree w = go (walked (length d) d ways (length d) w 0 (start_of w)) (came d ways (length d) w tree (length d) 0 (start_of w) (seek-start d ways (length d) w tree) (omega arith))
  where
    go : (r : Result ℕ ℕ) → Came d ways (length d) w r → entry_number r ≡ entry_from w 1 d
    go (Ok m) h = h.number ∙ omega arith ∙ sym (first_entry w 1 h.place d h.inside h.is h.first)
    go (Err way) h = sym (no-entry w 1 d h.none)

knows : (d ways : List ℕ) → Tree d ways 0 → Knows d (planted d ways)
unfolding planted entry_by
knows d ways tree w = go (ltb 1024 (length d)) refl
  where
    go : (b : Bool) → ltb 1024 (length d) ≡ b
        → (if b then entry_of d w else entry_number (walked (length d) d (grown_to (if leb (length d) 1024 then length d else 1024) d ways) (length d) w 0 (start_of w))) ≡ entry_of d w
    go true e = refl
    go false e =
        let le : length d ≤ 1024 = ltb-false 1024 (length d) e in
        ap (λ (b : Bool). entry_number (walked (length d) d (grown_to (if b then length d else 1024) d ways) (length d) w 0 (start_of w))) (le-leb (length d) 1024 le)
        ∙ tree-knows d (grown_to (length d) d ways) (tree_all d ways tree (length d) le) w

pub planted-entry : (d : List ℕ) → Knows d (planted d (replicate {A = ℕ} 4096 0))
planted-entry d = knows d (replicate {A = ℕ} 4096 0) (tree-none d (replicate {A = ℕ} 4096 0) (length-replicate {A = ℕ} 4096 0) (zeros-zero 4096))
