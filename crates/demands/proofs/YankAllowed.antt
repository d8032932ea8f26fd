-- A set that only yanks known sets under a new name is refused for a limit alone, on a merged library too.
-- two and the other lacks its name.
--   Yankable, allowed-set       of one library
--   was-new, was-yankable       what an acceptance says
--   first-new, second-new, first-yankable, second-yankable   of two
--   allowed-first, allowed-second
use Rattle.std.specs.Prelude.{if◌then◌else◌}
use Prim.Native.Nat.{ℕ, suc, ◌+◌, ◌≤◌, ◌<◌}
use native.Mathlib.Omega.{arith}
use mathlib.Core.Path.{◌≡◌, refl, sym, ap, ap₂, ◌∙◌, subst}
use mathlib.Core.Bool.{Bool, true, false, ◌&&◌, ◌||◌, not}
use mathlib.Core.List.{List, [], ◌∷◌, ◌++◌}
use borrow.Author.Tests.{ne_eqb}
use lib.Dec.{T, eqb, ltb, eqb→eq}
use lib.ListN.{length, length-append}
use Rattle.words.proofs.TestParts.{not-true, or-true}
use Rattle.words.specs.Base.{any, member}
use Rattle.words.specs.Names.{is_name_word}
use Rattle.words_lines.specs.Directive.{lines, directive, yank_names}
use Rattle.words_lines.specs.declared.Line.{Line}
use Rattle.words_lines.specs.declared.Line.TheVariants.{Text, Skipped, Deck, Comdeck, Ident, Insert, Before, Delete, Restore, Yank as YankLine, Outside, Long, Malformed, NotCarried}
use Rattle.library.specs.Each.{Each}
use Rattle.library.specs.Library.{Card, Library, name_at, entry_of, entry_from, deck_names, reserved}
use Rattle.library.specs.Yanks.{whole_set}
use Rattle.library.specs.Image.{encode, within_limits}
use Rattle.library.specs.Check.{Checking, good, check, ok_target}
use Rattle.library.specs.Growth.{count}
use Rattle.library.specs.Sound.{Sound}
use Rattle.library.proofs.EachTest.{each_map, each_two, and_parts, each-under-map}
use Rattle.library.proofs.AppendedLists.{each-parts}
use Rattle.library.proofs.AnyAndAll.{any_false, no_true}
use Rattle.library.proofs.NoTwo.{none_any}
use Rattle.library.proofs.CheckSound.{check_sound}
use Rattle.library.proofs.NewEntries.{entry-append}
use Rattle.library.proofs.NameAtEnd.{entry-none, entry-some, name-append, deck-names-append}
use Rattle.library.proofs.EntryNames.{name-entry, not-purged}
use Rattle.library.proofs.NumbersBeyond.{from-beyond, entry-beyond}
use Rattle.run_meaning.specs.Step.{State, Step, went, refuse, limited, with_yanks, with_entry, start, set_unit, is_set, is_known, is_unknown, is_no_set, after_ident, after_yank, obey, step}
use Rattle.run_meaning.specs.Run.{Steps, ended, stopped, onward, steps, not_updated, updated, fitted, update, from_updated, run_checked, new_library, running, why_number}
use Rattle.run_meaning.specs.Units.{role_of, names_yanked, sets_of, yanked_names, yanks_or_skips, only_yanks, opens_yanking, is_yanking_set}
use Rattle.run_meaning.specs.declared.Why.{Why}
use Rattle.run_meaning.specs.declared.Why.TheVariants.{Known, Unknown as UnknownName, NoSet, Limit, Nowhere, Space, Stream}
use Rattle.run_meaning.proofs.AcceptedRun.{RanFrom, run-from, good-is}
use Rattle.run_meaning.proofs.UpdateGrowth.{EndsIn, no-update, update-ends}
use Rattle.compile_walk.proofs.ViewBack.{taken_back_library}
use Rattle.merge_meaning.specs.Merge.{merge}
use Rattle.merge_meaning.specs.Merged.{Mergeable}
use Rattle.merge_meaning.proofs.NamesApart.{not_first}
use Rattle.merge_meaning.proofs.MergedSound.{apart, first-free, second-free}
use Rattle.merge_meaning.proofs.AcceptedMerge.{MergedFrom, merged-from, mergeable, merged-passes}
use Rattle.demands.specs.MergedYank.{only_limits, AllowedFirst, AllowedSecond}
use Rattle.demands.proofs.MergedYankFlags.{yanked-are-names, Ran, ran-set, ran-known, ran-lower}

-- REFUSED FOR A LIMIT ALONE
abbrev Allowed : Steps → Type 0
Allowed (ended s) = Unit {0}
Allowed (stopped w n) = T (eqb (why_number w) 31)

-- x is a set of b
pub record Yankable (b : Library) (x : ℕ) : Type 0 where
  pub known : 0 < entry_of b.directory x
  pub no_deck : T (not (member x (deck_names b)))

onward-limited : (t : State) (rest : State → Steps) (n : ℕ) → Allowed (rest t) → Allowed (onward (limited t) rest n)
onward-limited t rest n h = go (within_limits t.lib)
  where
    go : (c : Bool) → Allowed (onward (refuse (not c) Limit (went t)) rest n)
    go true = h
    go false = tt

module _ (b : Library) (s : Sound b) (w : ℕ) where
  names_same : deck_names (with_entry b w) ≡ deck_names b
  unfolding deck_names
  names_same = ap {B = List ℕ} (λ ns. reserved ∷ ns) (deck-names-append b.directory (w ∷ []) b.decks s.decks)

  pub after-names : (own : List Card) → deck_names (taken_back_library b w own) ≡ deck_names b
  unfolding deck_names
  after-names own = ap {B = List ℕ} (λ ns. reserved ∷ ns) (deck-names-append b.directory (w ∷ []) b.decks s.decks)

  known-there : (x : ℕ) → Yankable b x → is_unknown (with_entry b w) x ≡ false
  known-there x y =
      let e : entry_of (b.directory ++ (w ∷ [])) x ≡ entry_of b.directory x = entry-append b.directory (w ∷ []) x y.known in
      let ne : eqb (entry_of (b.directory ++ (w ∷ [])) x) 0 ≡ false = ne_eqb (entry_of (b.directory ++ (w ∷ [])) x) 0 (λ z. let k : 0 < entry_of b.directory x = y.known in omega arith) in
      ap (λ (c : Bool). not (eqb x reserved || not c)) ne ∙ ap not (or-true (eqb x reserved))

  set_there : (x : ℕ) → Yankable b x → is_no_set (with_entry b w) x ≡ false
  set_there x y =
      let e : entry_of (b.directory ++ (w ∷ [])) x ≡ entry_of b.directory x = entry-append b.directory (w ∷ []) x y.known in
      let le : entry_of b.directory x ≤ length b.directory = (entry-some b.directory x y.known).1 in
      let ne : eqb (entry_of (b.directory ++ (w ∷ [])) x) (length (b.directory ++ (w ∷ []))) ≡ false =
      ne_eqb (entry_of (b.directory ++ (w ∷ [])) x) (length (b.directory ++ (w ∷ []))) (λ z. omega (arith, length-append b.directory (w ∷ []))) in
      ap₂ ◌||◌ (ap (member x) names_same ∙ not-true (member x (deck_names b)) y.no_deck) ne

  -- a state of the set: base with cards of its own
  module _ (ys : List Card) (t : State) (e : t.lib ≡ with_yanks (with_entry b w) ys) (k : t.kind ≡ set_unit) where
    yank-obeyed : (l : List ℕ) → Each (Yankable b) (yank_names l) → obey t l YankLine ≡ limited (after_yank t l)
    unfolding deck_names
    yank-obeyed l h =
        let set : is_set t.kind ≡ true = ap is_set k in
        let known : any (is_unknown t.lib) (yank_names l) ≡ false =
        ap (λ (o : Library). any (is_unknown o) (yank_names l)) e ∙ any_false (is_unknown (with_entry b w)) (yank_names l) (each_map (Yankable b) _ known-there (yank_names l) h) in
        let sets : any (is_no_set t.lib) (yank_names l) ≡ false =
        ap (λ (o : Library). any (is_no_set o) (yank_names l)) e ∙ any_false (is_no_set (with_entry b w)) (yank_names l) (each_map (Yankable b) _ set_there (yank_names l) h) in
        λ i. refuse (not (set i)) Nowhere (refuse (known i) UnknownName (refuse (sets i) NoSet (limited (after_yank t l))))

  yanks-allowed : (ys : List Card) (t : State) → t.lib ≡ with_yanks (with_entry b w) ys → t.kind ≡ set_unit → (n : ℕ) (ls : List (List ℕ)) → T (only_yanks ls) → Each (Yankable b) (yanked_names ls)
      → Allowed (steps t n ls)
  unfolding step
  yanks-allowed ys t e k n [] u h = tt
  yanks-allowed ys t e k n (l ∷ ls) u h =
      let q = and_parts (yanks_or_skips (role_of (directive l))) (only_yanks ls) u in
      let r = each-parts (Yankable b) (names_yanked (role_of (directive l)) l) (yanked_names ls) h in
      go (directive l) q.0 r.0 (yanks-allowed ys t e k (suc n) ls q.1 r.1)
      (λ v f j. yanks-allowed (ys ++ (v ∷ [])) (after_yank t l) f j (suc n) ls q.1 r.1)
    where
      on : State → Steps
      on v = steps v (suc n) ls

      go : (a : Line) → T (yanks_or_skips (role_of a)) → Each (Yankable b) (names_yanked (role_of a) l) → Allowed (on t)
          → ((v : Card) → (after_yank t l).lib ≡ with_yanks (with_entry b w) (ys ++ (v ∷ [])) → (after_yank t l).kind ≡ set_unit → Allowed (on (after_yank t l)))
          → Allowed (onward (obey t l a) on n)
      go YankLine x y same more =
          let v : Card = record { line = Rattle.words.specs.Text.trim l; seq = t.next; owner = length t.lib.directory; later = [] } in
          subst (λ (z : Step). Allowed (onward z on n)) (sym (yank-obeyed ys t e k l y))
          (onward-limited (after_yank t l) on n (more v (ap (λ (o : Library). with_yanks o (o.yanks ++ (v ∷ []))) e) k))
      go Skipped x y same more = same
      go Text x y same more = absurd x
      go (Deck c) x y same more = absurd x
      go (Comdeck c) x y same more = absurd x
      go (Ident c) x y same more = absurd x
      go (Insert c) x y same more = absurd x
      go (Before c) x y same more = absurd x
      go (Delete c d) x y same more = absurd x
      go (Restore c d) x y same more = absurd x
      go Outside x y same more = absurd x
      go Long x y same more = absurd x
      go Malformed x y same more = absurd x
      go NotCarried x y same more = absurd x

-- the whole set
pub allowed-set : (b : Library) → Sound b → (n : ℕ) (ls : List (List ℕ)) → T (is_yanking_set ls) → Each (λ w. is_known b w ≡ false) (sets_of ls) → Each (Yankable b) (yanked_names ls)
    → Allowed (steps (start b) n ls)
unfolding step
allowed-set b s n [] t f h = absurd t
allowed-set b s n (l ∷ ls) t f h = go (directive l) t f h (allowed-set b s (suc n) ls)
  where
    on : State → Steps
    on v = steps v (suc n) ls

    go : (a : Line) → T (opens_yanking (role_of a) (is_yanking_set ls) (only_yanks ls)) → Each (λ w. is_known b w ≡ false) (Rattle.run_meaning.specs.Units.set_names (role_of a) ++ sets_of ls)
        → Each (Yankable b) (names_yanked (role_of a) l ++ yanked_names ls)
        → (T (is_yanking_set ls) → Each (λ w. is_known b w ≡ false) (sets_of ls) → Each (Yankable b) (yanked_names ls) → Allowed (on (start b)))
        → Allowed (onward (obey (start b) l a) on n)
    go (Ident w) u x y r =
        subst (λ (c : Bool). Allowed (onward (refuse c Known (limited (after_ident (start b) w))) on n)) (sym x.0)
        (onward-limited (after_ident (start b) w) on n (yanks-allowed b s w b.yanks (after_ident (start b) w) refl refl (suc n) ls u y))
    go Skipped u x y r = r u x y
    go YankLine u x y r = absurd u
    go Text u x y r = absurd u
    go (Deck c) u x y r = absurd u
    go (Comdeck c) u x y r = absurd u
    go (Insert c) u x y r = absurd u
    go (Before c) u x y r = absurd u
    go (Delete c d) u x y r = absurd u
    go (Restore c d) u x y r = absurd u
    go Outside u x y r = absurd u
    go Long u x y r = absurd u
    go Malformed u x y r = absurd u
    go NotCarried u x y r = absurd u

-- WHAT AN ACCEPTANCE SAYS: the set's name was new
stopped-ended : {A : Type 0} (w : Why) (n : ℕ) (s : State) → stopped w n ≡ ended s → A
stopped-ended w n s e = absurd (let z : ◌≡◌ {A = ℕ} 0 1 = cc in omega arith)

no-sets : (ls : List (List ℕ)) → T (only_yanks ls) → sets_of ls ≡ []
no-sets [] t = refl
no-sets (l ∷ ls) t = go (directive l) (and_parts (yanks_or_skips (role_of (directive l))) (only_yanks ls) t).0 (no-sets ls (and_parts (yanks_or_skips (role_of (directive l))) (only_yanks ls) t).1)
  where
    go : (a : Line) → T (yanks_or_skips (role_of a)) → sets_of ls ≡ [] → Rattle.run_meaning.specs.Units.set_names (role_of a) ++ sets_of ls ≡ []
    go YankLine u e = e
    go Skipped u e = e
    go Text u e = absurd u
    go (Deck c) u e = absurd u
    go (Comdeck c) u e = absurd u
    go (Ident c) u e = absurd u
    go (Insert c) u e = absurd u
    go (Before c) u e = absurd u
    go (Delete c d) u e = absurd u
    go (Restore c d) u e = absurd u
    go Outside u e = absurd u
    go Long u e = absurd u
    go Malformed u e = absurd u
    go NotCarried u e = absurd u

was-new : (b : Library) (n : ℕ) (ls : List (List ℕ)) (s : State) → T (is_yanking_set ls) → steps (start b) n ls ≡ ended s → Each (λ w. is_known b w ≡ false) (sets_of ls)
unfolding step
was-new b n [] s t e = absurd t
was-new b n (l ∷ ls) s t e = go (directive l) t e (was-new b (suc n) ls s)
  where
    on : State → Steps
    on v = steps v (suc n) ls

    new-name : (w : ℕ) (c : Bool) → is_known b w ≡ c → onward (refuse c Known (limited (after_ident (start b) w))) on n ≡ ended s → is_known b w ≡ false
    new-name w true k h = stopped-ended Known n s h
    new-name w false k h = k

    go : (a : Line) → T (opens_yanking (role_of a) (is_yanking_set ls) (only_yanks ls)) → onward (obey (start b) l a) on n ≡ ended s
        → (T (is_yanking_set ls) → steps (start b) (suc n) ls ≡ ended s → Each (λ w. is_known b w ≡ false) (sets_of ls))
        → Each (λ w. is_known b w ≡ false) (Rattle.run_meaning.specs.Units.set_names (role_of a) ++ sets_of ls)
    go (Ident w) u h r =
        (new-name w (is_known b w) refl h, subst (λ (ws : List ℕ). Each (λ x. is_known b x ≡ false) ws) (sym (no-sets ls u)) tt)
    go Skipped u h r = r u h
    go YankLine u h r = absurd u
    go Text u h r = absurd u
    go (Deck c) u h r = absurd u
    go (Comdeck c) u h r = absurd u
    go (Insert c) u h r = absurd u
    go (Before c) u h r = absurd u
    go (Delete c d) u h r = absurd u
    go (Restore c d) u h r = absurd u
    go Outside u h r = absurd u
    go Long u h r = absurd u
    go Malformed u h r = absurd u
    go NotCarried u h r = absurd u

-- and each name on its lines was a set's
was-yankable : (b : Library) → Sound b → (ws : List ℕ) (new : Library) → Ran b ws new → Each (Yankable b) ws
was-yankable b s ws new r =
    each_two _ _ (Yankable b) one ws (ran-known b ws new s r)
    (each-under-map (λ t. T (ok_target (b.directory ++ (r.name ∷ [])) (deck_names (taken_back_library b r.name r.own)) (suc (count b)) t)) (λ x. whole_set (entry_of b.directory x)) ws (ran-lower b ws new s r))
  where
    one : (x : ℕ) → 0 < entry_of b.directory x
        → T (ok_target (b.directory ++ (r.name ∷ [])) (deck_names (taken_back_library b r.name r.own)) (suc (count b)) (whole_set (entry_of b.directory x))) → Yankable b x
    one x pos t =
        let n : ℕ = entry_of b.directory x in
        let d : List ℕ = b.directory ++ (r.name ∷ []) in
        let at = entry-some b.directory x pos in
        let off : T (not (member (name_at d n) (deck_names (taken_back_library b r.name r.own)))) =
        (and_parts (ltb 0 n && ltb n (suc (count b))) (not (member (name_at d n) (deck_names (taken_back_library b r.name r.own)))) t).1 in
        let name : name_at d n ≡ x = name-append b.directory (r.name ∷ []) n (pos, at.1) ∙ name-entry b.directory x at.0 in
        record {
          known = pos;
          no_deck = subst (λ (ns : List ℕ). T (not (member x ns))) (after-names b s r.name r.own) (subst (λ (y : ℕ). T (not (member y (deck_names (taken_back_library b r.name r.own))))) name off);
        }

-- OF TWO
none_from : (w n : ℕ) (xs : List ℕ) → T (not (member w xs)) → entry_from w n xs ≡ 0
none_from w n [] t = refl
none_from w n (x ∷ xs) t = go (eqb w x) t (none_from w (suc n) xs)
  where
    go : (c : Bool) → T (not (c || member w xs)) → (T (not (member w xs)) → entry_from w (suc n) xs ≡ 0) → (if c then n else entry_from w (suc n) xs) ≡ 0
    go true u f = absurd u
    go false u f = f u

none_both : (xs ys : List ℕ) (w : ℕ) → entry_of xs w ≡ 0 → entry_of ys w ≡ 0 → entry_of (xs ++ ys) w ≡ 0
unfolding entry_of
none_both xs ys w e f =
    from-beyond w 1 xs ys (omega arith) (none_any (eqb w) xs (entry-none xs w e)) ∙ none_from w (1 + length xs) ys (none_any (eqb w) ys (entry-none ys w f))

new-parts : (l : Library) (w : ℕ) → is_known l w ≡ false → (eqb w reserved ≡ false) × (entry_of l.directory w ≡ 0)
new-parts l w e = go (eqb w reserved) (eqb (entry_of l.directory w) 0) (eqb→eq (entry_of l.directory w) 0) e
  where
    go : (a c : Bool) → (T c → entry_of l.directory w ≡ 0) → (a || not c) ≡ false → (a ≡ false) × (entry_of l.directory w ≡ 0)
    go true c f h = no_true (sym h)
    go false true f h = (refl, f tt)
    go false false f h = no_true (sym h)

parts-new : (l : Library) (w : ℕ) → eqb w reserved ≡ false → entry_of l.directory w ≡ 0 → is_known l w ≡ false
parts-new l w a e = ap₂ (λ (r : Bool) (n : ℕ). r || not (eqb n 0)) a e

module _ (l m : Library) (g : Mergeable l m) where
  first-new : (w : ℕ) → is_known l w ≡ false → entry_of m.directory w ≡ 0 → is_known (merge l m) w ≡ false
  first-new w k e = let q = new-parts l w k in parts-new (merge l m) w q.0 (none_both l.directory m.directory w q.1 e)

  second-new : (w : ℕ) → is_known m w ≡ false → entry_of l.directory w ≡ 0 → is_known (merge l m) w ≡ false
  second-new w k e = let q = new-parts m w k in parts-new (merge l m) w q.0 (none_both l.directory m.directory w e q.1)

  first-yankable : (x : ℕ) → Yankable l x → Yankable (merge l m) x
  first-yankable x y =
      let pos : 0 < entry_of l.directory x = y.known in
      let e : entry_of (l.directory ++ m.directory) x ≡ entry_of l.directory x = entry-append l.directory m.directory x y.known in
      record { known = omega arith; no_deck = first-free l m g.first g.second g.apart x (entry-some l.directory x y.known).0 y.no_deck }

  second-yankable : (x : ℕ) → T (is_name_word x) → Yankable m x → Yankable (merge l m) x
  second-yankable x n y =
      let pos : 0 < entry_of m.directory x = y.known in
      let here : T (member x m.directory) = (entry-some m.directory x y.known).0 in
      let off : T (not (member x l.directory)) = not_first l.directory m.directory (apart l m g.first g.second g.apart) x (not-purged x n) here in
      let e : entry_of (l.directory ++ m.directory) x ≡ length l.directory + entry_of m.directory x = entry-beyond l.directory m.directory x off y.known in
      record { known = omega arith; no_deck = second-free l m g.first g.second g.apart x here y.no_deck }

-- IMAGES AND STREAMS
short-stream : (b : Library) (x : List ℕ) (p : ℕ) (new : Library) → update b x p ≡ updated new → ltb 262144 (length x) ≡ false
unfolding update
short-stream b x p new e = go (ltb 262144 (length x)) e
  where
    go : (c : Bool) → (if c then not_updated Stream 0 else fitted p (steps (start b) 1 (lines x))) ≡ updated new → c ≡ false
    go true h = absurd (no-update Stream 0 new h)
    go false h = refl

-- what is allowed line by line is allowed of the run
run-allowed : (image : List ℕ) (b : Library) → check image ≡ good b → (x : List ℕ) → ltb 262144 (length x) ≡ false → (q : ℕ) → Allowed (steps (start b) 1 (lines x)) → T (only_limits (running image x q))
unfolding running update
run-allowed image b ok x short q h =
    subst (λ (k : Checking). T (only_limits (run_checked k x q))) (sym ok)
    (subst (λ (c : Bool). T (only_limits (from_updated (if c then not_updated Stream 0 else fitted q (steps (start b) 1 (lines x)))))) (sym short) (go (steps (start b) 1 (lines x)) h))
  where
    space : (s : State) (c : Bool) → T (only_limits (from_updated (if c then not_updated Space 0 else updated s.lib)))
    space s true = tt
    space s false = tt

    either : (a b : Bool) → T a → T (a || b)
    either true b t = tt
    either false b t = absurd t

    go : (r : Steps) → Allowed r → T (only_limits (from_updated (fitted q r)))
    go (ended s) u = space s (ltb q (length (encode s.lib)))
    go (stopped w n) u = either (eqb (why_number w) 31) (eqb (why_number w) 32) u

-- what an accepted run of such a set says of its library
record Accepted (b : Library) (x : List ℕ) : Type 0 where
  short : ltb 262144 (length x) ≡ false
  fresh : Each (λ w. is_known b w ≡ false) (sets_of (lines x))
  yankable : Each (Yankable b) (yanked_names (lines x))

accepted : (image : List ℕ) (b : Library) → check image ≡ good b → (x : List ℕ) → T (is_yanking_set (lines x)) → (p : ℕ) (new : Library) → running image x p ≡ new_library new → Accepted b x
accepted image b ok x t p new u =
    let f : RanFrom image x p new = run-from image x p new u in
    let e : update b x p ≡ updated new = subst (λ (o : Library). update o x p ≡ updated new) (good-is image f.0 b f.1 ok) f.2 in
    let s : Sound b = check_sound image b ok in
    let r : EndsIn b x new = update-ends p b x new e in
    record {
      short = short-stream b x p new e;
      fresh = was-new b 1 (lines x) r.0 t r.1;
      yankable = was-yankable b s (yanked_names (lines x)) new (ran-set b x p new s t e);
    }

pub allowed-first : AllowedFirst
unfolding AllowedFirst
allowed-first a b room c e m k x t free p taken u q =
    let h : MergedFrom a b room c = merged-from a b room c e in
    let l : Library = h.one in
    let n : Library = h.two in
    let g : Mergeable l n = mergeable h in
    let lacks : Each (λ w. entry_of n.directory w ≡ 0) (sets_of (lines x)) =
    subst (λ (o : Library). Each (λ w. entry_of o.directory w ≡ 0) (sets_of (lines x))) (good-is b m n k h.second) free in
    let r : Accepted l x = accepted a l h.first x t p taken u in
    let pass = merged-passes a b room c e in
    let sound : Sound (merge l n) = subst Sound h.same pass.0 in
    run-allowed (encode c) (merge l n) (pass.1 ∙ ap good h.same) x r.short q
    (allowed-set (merge l n) sound 1 (lines x) t
    (each_two _ _ (λ w. is_known (merge l n) w ≡ false) (λ w i j. first-new l n g w i j) (sets_of (lines x)) r.fresh lacks)
    (each_map (Yankable l) (Yankable (merge l n)) (first-yankable l n g) (yanked_names (lines x)) r.yankable))

pub allowed-second : AllowedSecond
unfolding AllowedSecond
allowed-second a b room c e m k x t free p taken u q =
    let h : MergedFrom a b room c = merged-from a b room c e in
    let l : Library = h.one in
    let n : Library = h.two in
    let g : Mergeable l n = mergeable h in
    let lacks : Each (λ w. entry_of l.directory w ≡ 0) (sets_of (lines x)) =
    subst (λ (o : Library). Each (λ w. entry_of o.directory w ≡ 0) (sets_of (lines x))) (good-is a m l k h.first) free in
    let r : Accepted n x = accepted b n h.second x t p taken u in
    let pass = merged-passes a b room c e in
    let sound : Sound (merge l n) = subst Sound h.same pass.0 in
    run-allowed (encode c) (merge l n) (pass.1 ∙ ap good h.same) x r.short q
    (allowed-set (merge l n) sound 1 (lines x) t
    (each_two _ _ (λ w. is_known (merge l n) w ≡ false) (λ w i j. second-new l n g w i j) (sets_of (lines x)) r.fresh lacks)
    (each_two (λ w. T (is_name_word w)) (Yankable n) (Yankable (merge l n)) (second-yankable l n g) (yanked_names (lines x)) (yanked-are-names (lines x)) r.yankable))
