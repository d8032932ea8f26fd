-- Flags settled from an image are those of the cards of YANK$$$ that were read there. Assumes nothing.
--   top-bits                        every flag is 0 or 1
--   flagged-marked, acted-is        a card
--   names-known                     its names are the directory's
--   CardAt, AllAt, back_at          the cards that stand at places, the last first
--   pass-is, top-is                 one owner's cards, owners from the highest down
--   settled-bits, settled_is        the flags
use Rattle.std.specs.Prelude.{if◌then◌else◌}
use Prim.Native.Nat.{ℕ, zero, suc, ◌≤◌, ◌<◌}
use native.Mathlib.Omega.{arith}
use native.Mathlib.Decide.{dec_le}
use mathlib.Core.Path.{◌≡◌, refl, sym, ap, ◌∙◌, subst, fun_ext}
use mathlib.Core.Bool.{Bool, true, false, ◌&&◌, ◌||◌, not}
use mathlib.Core.List.{List, [], ◌∷◌, map}
use borrow.Author.Tests.{eqb-true, eqb-false, le-leb}
use lib.Dec.{T, eqb, ltb, ltb→lt}
use lib.ListN.{length, get_or, set, take, length-set}
use lib.Seq.{take_all, get_or-set_same, get_or-set_other, set_out}
use Rattle.words.proofs.TestParts.{or_assoc}
use Rattle.words.specs.Base.{any, all, member}
use Rattle.words_lines.specs.Directive.{directive, yank_names}
use Rattle.library.specs.Each.{Each}
use Rattle.library.specs.Library.{Card, history, name_at, entry_of}
use Rattle.library.specs.Yanks.{Target, whole_set, covers, is_yank, targets, last_says}
use Rattle.library.specs.Check.{ok_target}
use Rattle.library_yanks.specs.Bytes.{flagged}
use Rattle.library_yanks.specs.Ran.{applied, apply_if, passed, ran, no_flag}
use Rattle.library_yanks.proofs.Adding.{entry-within, flag-add}
use Rattle.library.proofs.EachTest.{and_parts}
use Rattle.library.proofs.AnyAndAll.{any-map}
use Rattle.library_image.specs.Places.{text_at, next_at, seen_at, line_in, places_in}
use Rattle.library_yanks.specs.Flags.{in_force, names_in, mark, marked, acted, onto, backward, owned, acted_all, from_top, top, settled_flags}
use Rattle.library_yanks.proofs.Marking.{mark_set}
use Rattle.library_index.proofs.Zeros.{zeros, zeros-long, zeros-zero}
use Rattle.library_yanks.proofs.Settling.{Lower, ran-settles}

-- LENGTHS stay
mark-long : (fs : List ℕ) (n : ℕ) → length (mark fs n) ≡ length fs
mark-long fs n = go (eqb n 0)
  where
    go : (b : Bool) → length (if b then fs else set fs n 1) ≡ length fs
    go true = refl
    go false = length-set fs n 1

marked-long : (d ns fs : List ℕ) → length (marked d ns fs) ≡ length fs
marked-long d [] fs = refl
marked-long d (w ∷ ns) fs = marked-long d ns (mark fs (entry_of d w)) ∙ mark-long fs (entry_of d w)

acted-long : (d ws fs : List ℕ) (p : ℕ) → length (acted d ws fs p) ≡ length fs
unfolding acted
acted-long d ws fs p = go (in_force ws fs p)
  where
    go : (b : Bool) → length (if b then marked d (names_in (line_in ws (text_at ws p) (next_at ws p))) fs else fs) ≡ length fs
    go true = marked-long d (names_in (line_in ws (text_at ws p) (next_at ws p))) fs
    go false = refl

all-long : (d ws ps fs : List ℕ) → length (acted_all d ws ps fs) ≡ length fs
all-long d ws [] fs = refl
all-long d ws (p ∷ ps) fs = all-long d ws ps (acted d ws fs p) ∙ acted-long d ws fs p

-- EVERY FLAG is 0 or 1
abbrev Bits : List ℕ → Type 0
Bits fs = (n : ℕ) → get_or fs n 0 ≤ 1

set-bits : (fs : List ℕ) (m : ℕ) → Bits fs → Bits (set fs m 1)
set-bits fs m h n = go (eqb n m) refl (dec_le (length fs) m)
  where
    go : (b : Bool) → eqb n m ≡ b → Dec (length fs ≤ m) → get_or (set fs m 1) n 0 ≤ 1
    go b e (yes out) = subst (λ (l : List ℕ). get_or l n 0 ≤ 1) (sym (set_out fs m 1 out)) (h n)
    go true e (no in·) =
        let s : get_or (set fs m 1) n 0 ≡ 1 = ap (λ (k : ℕ). get_or (set fs m 1) k 0) (eqb-true n m e) ∙ get_or-set_same fs m 1 0 (omega arith) in
        omega arith
    go false e (no in·) = omega (arith, get_or-set_other fs m n 1 0 (eqb-false n m e), h n)

mark-bits : (fs : List ℕ) (m : ℕ) → Bits fs → Bits (mark fs m)
mark-bits fs m h = go (eqb m 0)
  where
    go : (b : Bool) → Bits (if b then fs else set fs m 1)
    go true = h
    go false = set-bits fs m h

marked-bits : (d ns fs : List ℕ) → Bits fs → Bits (marked d ns fs)
marked-bits d [] fs h = h
marked-bits d (w ∷ ns) fs h = marked-bits d ns (mark fs (entry_of d w)) (mark-bits fs (entry_of d w) h)

acted-bits : (d ws fs : List ℕ) (p : ℕ) → Bits fs → Bits (acted d ws fs p)
unfolding acted
acted-bits d ws fs p h = go (in_force ws fs p)
  where
    go : (b : Bool) → Bits (if b then marked d (names_in (line_in ws (text_at ws p) (next_at ws p))) fs else fs)
    go true = marked-bits d (names_in (line_in ws (text_at ws p) (next_at ws p))) fs h
    go false = h

all-bits : (d ws ps fs : List ℕ) → Bits fs → Bits (acted_all d ws ps fs)
all-bits d ws [] fs h = h
all-bits d ws (p ∷ ps) fs h = all-bits d ws ps (acted d ws fs p) (acted-bits d ws fs p h)

top-bits : (d ws : List ℕ) (n : ℕ) (fs : List ℕ) → Bits fs → Bits (from_top d ws n fs)
top-bits d ws zero fs h = h
top-bits d ws (suc n) fs h = top-bits d ws n (acted_all d ws (owned ws (suc n) (backward ws)) fs) (all-bits d ws (owned ws (suc n) (backward ws)) fs h)

-- A CARD: names that the directory has
abbrev pub Known : List ℕ → List ℕ → Type 0
Known d ns = Each (λ w. 0 < entry_of d w) ns

or-none : (a : Bool) → a ≡ (a || false)
or-none true = refl
or-none false = refl

flagged-marked : (d ns fs : List ℕ) (j : ℕ) → length d < length fs → Known d ns → flagged (marked d ns fs) j ≡ (flagged fs j || any (λ w. eqb j (entry_of d w)) ns)
flagged-marked d [] fs j lt h = or-none (flagged fs j)
flagged-marked d (w ∷ ns) fs j lt h =
    let n : ℕ = entry_of d w in
    let in· : n < length fs = omega (arith, entry-within d w) in
    let m : mark fs n ≡ set fs n 1 = sym (mark_set fs n (λ e. omega (arith, e, h.0))) in
    flagged-marked d ns (mark fs n) j (omega (arith, lt, mark-long fs n)) h.1
    ∙ ap (λ (l : List ℕ). flagged l j || any (λ v. eqb j (entry_of d v)) ns) m
    ∙ ap (λ (b : Bool). b || any (λ v. eqb j (entry_of d v)) ns) (flag-add fs n j in·)
    ∙ or_assoc (flagged fs j) (eqb j n) (any (λ v. eqb j (entry_of d v)) ns)

pub named-targets : (d l : List ℕ) → targets d l ≡ map (λ w. whole_set (entry_of d w)) (names_in l)
unfolding targets names_in
named-targets d l = go (is_yank (directive l))
  where
    go : (b : Bool) → ◌≡◌ {A = List Target} (if b then map (λ w. whole_set (entry_of d w)) (yank_names l) else []) (map (λ w. whole_set (entry_of d w)) (if b then yank_names l else []))
    go true = refl
    go false = refl

-- the names of a card that row 8 lets pass
pub names-known : (d dw : List ℕ) (own : ℕ) (l : List ℕ) → T (all (ok_target d dw own) (targets d l)) → Known d (names_in l)
names-known d dw own l t = go (names_in l) (subst (λ (ts : List Target). T (all (ok_target d dw own) ts)) (named-targets d l) t)
  where
    go : (ns : List ℕ) → T (all (ok_target d dw own) (map (λ w. whole_set (entry_of d w)) ns)) → Known d ns
    go [] t = tt
    go (w ∷ ns) t =
        let n : ℕ = entry_of d w in
        let p = and_parts (ok_target d dw own (whole_set n)) (all (ok_target d dw own) (map (λ v. whole_set (entry_of d v)) ns)) t in
        let q = and_parts (ltb 0 n && ltb n own) (not (member (name_at d n) dw)) p.0 in
        (ltb→lt 0 n (and_parts (ltb 0 n) (ltb n own) q.0).0, go ns p.1)

-- what stands at a place is this card
pub record CardAt (ws : List ℕ) (p : ℕ) (c : Card) : Type 0 where
  pub own : (seen_at ws p).owner ≡ c.owner
  pub line : line_in ws (text_at ws p) (next_at ws p) ≡ c.line
  pub force : (fs : List ℕ) → in_force ws fs p ≡ last_says (flagged fs) false (history c)

module _ (d ws : List ℕ) (p : ℕ) (c : Card) (is : CardAt ws p c) (known : Known d (names_in c.line)) (fs : List ℕ) (lt : length d < length fs) where
  acted-is : flagged (acted d ws fs p) ≡ applied d (flagged fs) c
  unfolding acted
  acted-is = fun_ext (λ j. here j ∙ go j (last_says (flagged fs) false (history c)))
    where
      here : (j : ℕ) → flagged (if in_force ws fs p then marked d (names_in (line_in ws (text_at ws p) (next_at ws p))) fs else fs) j
          ≡ flagged (if last_says (flagged fs) false (history c) then marked d (names_in c.line) fs else fs) j
      here j = λ i. flagged (if is.force fs i then marked d (names_in (is.line i)) fs else fs) j

      go : (j : ℕ) (b : Bool) → flagged (if b then marked d (names_in c.line) fs else fs) j ≡ (flagged fs j || (b && any (covers 0 j) (targets d c.line)))
      go j true =
          flagged-marked d (names_in c.line) fs j lt known
          ∙ ap (λ (b : Bool). flagged fs j || b) (sym (ap (any (covers 0 j)) (named-targets d c.line) ∙ any-map (covers 0 j) (λ w. whole_set (entry_of d w)) (names_in c.line)))
      go j false = or-none (flagged fs j)

-- THE CARDS, the last first
abbrev pub AllAt : List ℕ → List ℕ → List Card → Type 0
AllAt ws [] [] = Unit {0}
AllAt ws [] (c ∷ cs) = ⊥
AllAt ws (p ∷ ps) [] = ⊥
AllAt ws (p ∷ ps) (c ∷ cs) = CardAt ws p c × AllAt ws ps cs

abbrev turned : List Card → List Card → List Card
turned back [] = back
turned back (c ∷ cs) = turned (c ∷ back) cs

back_at : (ws back ps : List ℕ) (bs cs : List Card) → AllAt ws back bs → AllAt ws ps cs → AllAt ws (onto back ps) (turned bs cs)
back_at ws back [] bs [] h k = h
back_at ws back [] bs (c ∷ cs) h k = absurd k
back_at ws back (p ∷ ps) bs [] h k = absurd k
back_at ws back (p ∷ ps) bs (c ∷ cs) h k = back_at ws (p ∷ back) ps (c ∷ bs) cs (k.0, h) k.1

each-turned : (P : Card → Type 0) (bs cs : List Card) → Each P bs → Each P cs → Each P (turned bs cs)
each-turned P bs [] h k = h
each-turned P bs (c ∷ cs) h k = each-turned P (c ∷ bs) cs (k.0, h) k.1

any-turned : (q : Card → Bool) (bs cs : List Card) → any q (turned bs cs) ≡ (any q bs || any q cs)
any-turned q bs [] = or-none (any q bs)
any-turned q bs (c ∷ cs) = any-turned q (c ∷ bs) cs ∙ swap (q c) (any q bs) (any q cs)
  where
    swap : (a b e : Bool) → ((a || b) || e) ≡ (b || (a || e))
    swap true true e = refl
    swap true false e = refl
    swap false b e = refl

-- ONE OWNER'S CARDS
module _ (d ws : List ℕ) where
  pass-is : (n : ℕ) (ps : List ℕ) (cs : List Card) → AllAt ws ps cs → Each (λ c. Known d (names_in c.line)) cs → (fs : List ℕ) → length d < length fs
      → flagged (acted_all d ws (owned ws n ps) fs) ≡ passed d n (flagged fs) cs
  pass-is n [] [] h k fs lt = refl
  pass-is n [] (c ∷ cs) h k fs lt = absurd h
  pass-is n (p ∷ ps) [] h k fs lt = absurd h
  pass-is n (p ∷ ps) (c ∷ cs) h k fs lt = here ∙ go (eqb c.owner n) (λ gs l. pass-is n ps cs h.1 k.1 gs l)
    where
      here : flagged (acted_all d ws (if eqb (seen_at ws p).owner n then (p ∷ owned ws n ps) else owned ws n ps) fs)
          ≡ flagged (acted_all d ws (if eqb c.owner n then (p ∷ owned ws n ps) else owned ws n ps) fs)
      here = ap (λ (o : ℕ). flagged (acted_all d ws (if eqb o n then (p ∷ owned ws n ps) else owned ws n ps) fs)) h.0.own

      go : (b : Bool) → ((gs : List ℕ) → length d < length gs → flagged (acted_all d ws (owned ws n ps) gs) ≡ passed d n (flagged gs) cs)
          → flagged (acted_all d ws (if b then (p ∷ owned ws n ps) else owned ws n ps) fs) ≡ passed d n (apply_if d (flagged fs) c b) cs
      go true on =
          on (acted d ws fs p) (omega (arith, lt, acted-long d ws fs p))
          ∙ ap (λ (f : ℕ → Bool). passed d n f cs) (acted-is d ws p c h.0 k.0 fs lt)
      go false on = on fs lt

  -- OWNERS FROM THE HIGHEST DOWN
  top-is : (cs : List Card) → AllAt ws (backward ws) cs → Each (λ c. Known d (names_in c.line)) cs → (n : ℕ) (fs : List ℕ) → length d < length fs
      → flagged (from_top d ws n fs) ≡ ran d cs n (flagged fs)
  top-is cs h k zero fs lt = refl
  top-is cs h k (suc n) fs lt =
      let gs : List ℕ = acted_all d ws (owned ws (suc n) (backward ws)) fs in
      top-is cs h k n gs (omega (arith, lt, all-long d ws (owned ws (suc n) (backward ws)) fs))
      ∙ ap (ran d cs n) (pass-is (suc n) (backward ws) cs h k fs lt)

-- THE FLAGS of as many words and numbers as a library may have
module _ (d ws : List ℕ) (size : ℕ) (few : length d ≤ 1023) (short : length ws ≤ 65536) where
  abbrev settled : List ℕ
  settled = from_top d ws (length d) (zeros size)

  whole : settled_flags d ws size ≡ settled
  unfolding settled_flags
  whole =
      let t : take 65536 ws ≡ ws = take_all 65536 ws short in
      let n : top d ≡ length d = ap (λ (b : Bool). if b then length d else 1023) (le-leb (length d) 1023 few) in
      λ i. from_top d (t i) (n i) (zeros size)

  pub settled-bits : (n : ℕ) → get_or (settled_flags d ws size) n 0 ≤ 1
  settled-bits n = subst (λ (fs : List ℕ). get_or fs n 0 ≤ 1) (sym whole) (top-bits d ws (length d) (zeros size) (λ m. omega (arith, zeros-zero size m)) n)

  -- where these cards stand in the words, any solution of their rule is what is flagged
  module _ (room : length d < size) (cs : List Card) (stand : AllAt ws (places_in ws 0) cs) (known : Each (λ c. Known d (names_in c.line)) cs)
      (low : Each (Lower d) cs) (F : ℕ → Bool) (solves : (n : ℕ) → F n ≡ any (λ c. any (covers 0 n) (targets d c.line) && last_says F false (history c)) cs) where
    abbrev back : List Card
    back = turned [] cs

    stand-back : AllAt ws (backward ws) back
    unfolding backward
    stand-back = back_at ws [] (places_in ws 0) [] cs tt stand

    zeros-none : flagged (zeros size) ≡ no_flag
    zeros-none = fun_ext (λ n. ap (λ (x : ℕ). eqb x 1) (zeros-zero size n))

    back-solves : (n : ℕ) → F n ≡ any (λ c. any (covers 0 n) (targets d c.line) && last_says F false (history c)) back
    back-solves n = solves n ∙ sym (any-turned (λ c. any (covers 0 n) (targets d c.line) && last_says F false (history c)) [] cs)

    pub settled_is : (n : ℕ) → flagged (settled_flags d ws size) n ≡ F n
    settled_is n =
        let e : flagged settled ≡ ran d back (length d) (flagged (zeros size)) =
        top-is d ws back stand-back (each-turned (λ c. Known d (names_in c.line)) [] cs tt known) (length d) (zeros size) (omega (arith, room, zeros-long size)) in
        ap (λ (fs : List ℕ). flagged fs n) whole ∙ (λ i. e i n) ∙ ap (λ (f : ℕ → Bool). ran d back (length d) f n) zeros-none
        ∙ ran-settles d F back (each-turned (Lower d) [] cs tt low) back-solves n
