-- In a sound library cards of YANK$$$ name lower numbers than their own, so the rule has exactly one solution.
use Prim.Native.Nat.{ℕ, ◌≤◌, ◌<◌}
use native.Mathlib.Omega.{arith}
use mathlib.Core.Path.{◌≡◌}
use mathlib.Core.Bool.{Bool, true, false, ◌&&◌, ◌||◌, not}
use mathlib.Core.List.{List, [], ◌∷◌}
use lib.Dec.{T, eqb, eqb→eq, ltb, ltb→lt, leb, leb→le}
use lib.ListN.{length}
use Rattle.words.specs.Base.{any, all, member}
use Rattle.words_lines.specs.Directive.{directive}
use Rattle.library.specs.Each.{Each}
use Rattle.library.specs.Library.{Byte, Card, Library, history, name_at, deck_names}
use Rattle.library.specs.Yanks.{Target, whole_set, covers, is_yank, targets, yanks_of, settled_yanks}
use Rattle.library.specs.Settled.{NamesLower}
use Rattle.library.specs.Check.{ok_target}
use Rattle.library.specs.Sound.{is_entry, never_falls, names_lower_sets, SoundCard, Sound}
use Rattle.library.specs.Exact.{YankedSolves, YankedUnique}
use Rattle.library.proofs.EachTest.{each_map, each_two, each-of-map, and_parts, all-each}
use Rattle.library.proofs.EntryNames.{is-named}
use Rattle.library.proofs.OneSolution.{settled-solves, solves-unique}

-- a history that never falls has no number below its first
pub falls-none : (n : ℕ) (bs : List Byte) → T (never_falls n bs) → Each (λ b. n ≤ b.number) bs
falls-none n [] t = tt
falls-none n (b ∷ bs) t =
    let q = and_parts (leb n b.number) (never_falls b.number bs) t in
    let le : n ≤ b.number = leb→le n b.number q.0 in
    (le, each_map (λ x. b.number ≤ x.number) (λ x. n ≤ x.number) (λ x r. omega (arith, r)) bs (falls-none b.number bs q.1))

-- what lower targets cover is lower
module _ (directory names : List ℕ) (own n : ℕ) where
  abbrev ok : Target → Bool
  ok = ok_target directory names own

  set-lower : (m : ℕ) → T (ok (whole_set m)) → n ≡ m → (0 < n) × (n < own)
  set-lower m t e =
      let p = and_parts (ltb 0 m && ltb m own) (not (member (name_at directory m) names)) t in
      let q = and_parts (ltb 0 m) (ltb m own) p.0 in
      (omega (arith, ltb→lt 0 m q.0), omega (arith, ltb→lt m own q.1))

  covers-lower : (ts : List Target) → T (all ok ts) → T (any (covers 0 n) ts) → (0 < n) × (n < own)
  covers-lower [] h t = absurd t
  covers-lower (whole_set m ∷ ts) h t =
      let q = and_parts (ok (whole_set m)) (all ok ts) h in
      go (eqb n m) (λ u. set-lower m q.0 (eqb→eq n m u)) (covers-lower ts q.1) t
    where
      go : (c : Bool) → (T c → (0 < n) × (n < own)) → (T (any (covers 0 n) ts) → (0 < n) × (n < own)) → T (c || any (covers 0 n) ts) → (0 < n) × (n < own)
      go true here later u = here tt
      go false here later u = later u

pub card-lower : (l : Library) (c : Card) → SoundCard l.directory c → T (names_lower_sets l c)
    → NamesLower (length l.directory) (record { acts = targets l.directory c.line; bytes = history c })
card-lower l c s t n u =
    let ts : List Target = targets l.directory c.line in
    let ok : T (all (ok_target l.directory (deck_names l) c.owner) ts) = (and_parts (is_yank (directive c.line)) (all (ok_target l.directory (deck_names l) c.owner) ts) t).1 in
    let q = covers-lower l.directory (deck_names l) c.owner n ts ok u in
    let lo : n < c.owner = q.1 in
    let own : c.owner ≤ length l.directory = (is-named l.directory c.owner (all-each (λ b. is_entry l.directory b.number) (history c) s.named).0).within in
    (q.0, omega arith, (lo, each_map (λ b. c.owner ≤ b.number) _ (λ b r. omega (arith, r)) c.later (falls-none c.owner c.later s.rises)))

pub yanks-lower : (l : Library) → Sound l → Each (NamesLower (length l.directory)) (yanks_of l)
unfolding yanks_of
yanks-lower l s =
    each-of-map (NamesLower (length l.directory)) (λ c. record { acts = targets l.directory c.line; bytes = history c }) l.yanks
    (each_two (SoundCard l.directory) (λ c. T (names_lower_sets l c)) _ (card-lower l) l.yanks s.yanks s.lower)

pub yanked-solves : YankedSolves
unfolding settled_yanks
yanked-solves l s = settled-solves (yanks_of l) (length l.directory) (yanks-lower l s)

pub yanked-unique : YankedUnique
yanked-unique l s f e = solves-unique (yanks_of l) (length l.directory) (yanks-lower l s) f (λ n. member n (settled_yanks l)) e (yanked-solves l s)
