-- M5: a set that only yanks leaves in a merged library the flags that it leaves in the one whose sets it names.
-- are those that it leaves in that library, and those of the other as they were.
use Rattle.std.specs.Prelude.{if◌then◌else◌}
use Prim.Native.Nat.{ℕ, suc, ◌+◌, ◌≤◌, ◌<◌}
use native.Mathlib.Omega.{arith}
use native.Mathlib.Decide.{ℕ_discrete}
use mathlib.Core.Path.{◌≡◌, refl, sym, ap, ap₂, ◌∙◌, subst}
use mathlib.Core.Bool.{Bool, true, false, ◌&&◌, ◌||◌, not}
use mathlib.Core.List.{List, [], ◌∷◌, ◌++◌, map}
use lib.Dec.{T, eqb, ltb, ltb→lt}
use lib.ListN.{length, length-append}
use Rattle.words.specs.Base.{any, all, member}
use Rattle.words.specs.Names.{is_name_word}
use Rattle.words_lines.specs.Directive.{lines, directive}
use Rattle.words_lines.specs.declared.Line.{Line}
use Rattle.words_lines.specs.declared.Line.TheVariants.{Text, Skipped, Deck, Comdeck, Ident, Insert, Before, Delete, Restore, Yank as YankLine, Outside, Long, Malformed, NotCarried}
use Rattle.library.specs.Each.{Each}
use Rattle.library.specs.Library.{Card, Library, name_at, entry_from, entry_of, deck_names}
use Rattle.library.specs.Yanks.{Target, whole_set, covers, is_yank, targets, Yank, yanked_by, yanked}
use Rattle.library.specs.Growth.{count}
use Rattle.library.specs.Check.{ok_target}
use Rattle.library.specs.Sound.{names_lower_sets, Sound}
use Rattle.library.proofs.EachTest.{each_map, and_parts, all-each, each-under-map}
use Rattle.library.proofs.AppendedLists.{each_append, any_append, map-append}
use Rattle.library.proofs.NoTwo.{none_any}
use Rattle.library.proofs.NewEntries.{entry-append}
use Rattle.library.proofs.NameAtEnd.{entry-none, entry-some}
use Rattle.library.proofs.Rollback.{yank_of, all_acts, OwnCard, rule-own}
use Rattle.library.proofs.YankTargets.{sound-stable}
use Rattle.library.proofs.SettledFlags.{yank_list, flags, yanked-rule, flags-only, flags-yanked}
use Rattle.run_meaning.specs.Step.{start, with_entry}
use Rattle.run_meaning.specs.Run.{steps, updated, update}
use Rattle.run_meaning.specs.Units.{role_of, names_yanked, yanked_names, is_yanking_set}
use Rattle.run_meaning.proofs.HoldsThrough.{ended_is}
use Rattle.run_meaning.proofs.FlatFlags.{stable-yanks, above-free}
use Rattle.run_meaning.proofs.YankingSet.{acts_on, Yanking, YankedBySet, yanking-ended}
use Rattle.run_meaning.proofs.UpdateGrowth.{EndsIn, update-ends}
use Rattle.run_meaning.proofs.StepSound.{update-sound}
use Rattle.compile_walk.proofs.ViewBack.{taken_back_library}
use Rattle.merge_meaning.specs.Merge.{merge}
use Rattle.merge_meaning.specs.Merged.{Mergeable, raise_deck_number}
use Rattle.library.proofs.NumbersBeyond.{from-beyond, entry-beyond}
use Rattle.library.proofs.EntryNames.{not-purged}
use Rattle.library.proofs.YankNames.{yank-named}
use Rattle.merge_meaning.proofs.NamesApart.{Apart, not_first}
use Rattle.merge_meaning.proofs.RaisedStaysSound.{raise_target}
use Rattle.merge_meaning.proofs.MergedSound.{sound-both}
use Rattle.merge_meaning.proofs.MergedFlags.{wanted, wanted-low, wanted-high, rule-low, rule-high, each_number}

-- A SET THAT ONLY YANKS
module _ (b : Library) (w : ℕ) (own : List Card) (s : Sound b) (mine : Each (OwnCard (suc (count b))) own) where
  -- the rule over the library with the set's cards at the end of YANK$$$
  rule-after : (f : ℕ → Bool) → f (suc (count b)) ≡ false → (deck n : ℕ)
      → yanked_by (yank_list (taken_back_library b w own)) f deck n ≡ (yanked_by (yank_list b) f deck n || any (covers deck n) (all_acts (b.directory ++ (w ∷ [])) own))
  rule-after f e deck n =
      let d : List ℕ = b.directory ++ (w ∷ []) in
      ap (λ (ys : List Yank). yanked_by ys f deck n) (map-append (yank_of d) b.yanks own)
      ∙ any_append _ (map (yank_of d) b.yanks) (map (yank_of d) own)
      ∙ ap₂ ◌||◌ (ap (λ (ys : List Yank). yanked_by ys f deck n) (stable-yanks b.directory d b.yanks (sound-stable b s (w ∷ [])))) (rule-own f (suc (count b)) e d deck n own mine)

  module _ (t : Sound (taken_back_library b w own)) where
    count-after : count (taken_back_library b w own) ≡ suc (count b)
    count-after = length-append b.directory (w ∷ []) ∙ omega arith

    -- the set is not yanked itself
    free-after : flags (taken_back_library b w own) (suc (count b)) ≡ false
    free-after = ap (λ (f : ℕ → Bool). f (suc (count b))) (flags-yanked (taken_back_library b w own) t) ∙ above-free (taken_back_library b w own) t (suc (count b)) (omega (arith, count-after))

    -- and names lower numbers
    acts-lower : Each (λ x. T (ok_target (b.directory ++ (w ∷ [])) (deck_names (taken_back_library b w own)) (suc (count b)) x)) (all_acts (b.directory ++ (w ∷ [])) own)
    acts-lower = go own mine (parts b.yanks own t.lower)
      where
        ok : Target → Type 0
        ok x = T (ok_target (b.directory ++ (w ∷ [])) (deck_names (taken_back_library b w own)) (suc (count b)) x)

        parts : (xs ys : List Card) → Each (λ c. T (names_lower_sets (taken_back_library b w own) c)) (xs ++ ys) → Each (λ c. T (names_lower_sets (taken_back_library b w own) c)) ys
        parts [] ys h = h
        parts (x ∷ xs) ys h = parts xs ys h.1

        one : (c : Card) → OwnCard (suc (count b)) c → T (names_lower_sets (taken_back_library b w own) c) → Each ok (targets (b.directory ++ (w ∷ [])) c.line)
        one c h u =
            let d : List ℕ = b.directory ++ (w ∷ []) in
            let ds : List ℕ = deck_names (taken_back_library b w own) in
            let q = and_parts (is_yank (directive c.line)) (all (ok_target d ds c.owner) (targets d c.line)) u in
            all-each (ok_target d ds (suc (count b))) (targets d c.line) (subst (λ (n : ℕ). T (all (ok_target d ds n) (targets d c.line))) h.0 q.1)

        go : (cs : List Card) → Each (OwnCard (suc (count b))) cs → Each (λ c. T (names_lower_sets (taken_back_library b w own) c)) cs → Each ok (all_acts (b.directory ++ (w ∷ [])) cs)
        go [] h u = tt
        go (c ∷ cs) h u = each_append ok (targets (b.directory ++ (w ∷ [])) c.line) (all_acts (b.directory ++ (w ∷ [])) cs) (one c h.0 u.0) (go cs h.1 u.1)

-- NAMES: those that a set could yank in a library are names of that library
pub known-before : (directory : List ℕ) (w x : ℕ) → 0 < entry_of (directory ++ (w ∷ [])) x → entry_of (directory ++ (w ∷ [])) x ≤ length directory → 0 < entry_of directory x
unfolding entry_of
known-before directory w x pos le = go (ℕ_discrete (entry_of directory x) 0)
  where
    none : entry_of directory x ≡ 0 → ⊥
    none e =
        let f : entry_from x 1 (directory ++ (w ∷ [])) ≡ entry_from x (1 + length directory) (w ∷ []) = from-beyond x 1 directory (w ∷ []) (omega arith) (none_any (eqb x) directory (entry-none directory x e)) in
        last (eqb x w) (omega (arith, f)) (omega (arith, f))
      where
        last : (c : Bool) → 0 < (if c then (1 + length directory) else 0) → (if c then (1 + length directory) else 0) ≤ length directory → ⊥
        last true p q = omega arith
        last false p q = omega arith

    go : Dec (entry_of directory x ≡ 0) → 0 < entry_of directory x
    go (yes e) = absurd (none e)
    go (no ne) = omega (arith, ne)

-- x is a name that a set w could yank there
abbrev pub Known : List ℕ → List ℕ → Type 0
Known directory ws = Each (λ x. 0 < entry_of directory x) ws

known-names : (directory deck_words : List ℕ) (w : ℕ) (ws : List ℕ)
    → Each (λ x. T (ok_target (directory ++ (w ∷ [])) deck_words (suc (length directory)) x)) (acts_on (directory ++ (w ∷ [])) ws) → Known directory ws
known-names directory deck_words w ws h = each_map _ _ one ws (each-under-map _ (λ x. whole_set (entry_of (directory ++ (w ∷ [])) x)) ws h)
  where
    one : (x : ℕ) → T (ok_target (directory ++ (w ∷ [])) deck_words (suc (length directory)) (whole_set (entry_of (directory ++ (w ∷ [])) x))) → 0 < entry_of directory x
    one x t =
        let n : ℕ = entry_of (directory ++ (w ∷ [])) x in
        let p = and_parts (ltb 0 n && ltb n (suc (length directory))) (not (member (name_at (directory ++ (w ∷ [])) n) deck_words)) t in
        let q = and_parts (ltb 0 n) (ltb n (suc (length directory))) p.0 in
        known-before directory w x (ltb→lt 0 n q.0) (omega (arith, ltb→lt n (suc (length directory)) q.1))

pub acts-append : (directory more ws : List ℕ) → Known directory ws → acts_on (directory ++ more) ws ≡ acts_on directory ws
acts-append directory more [] h = refl
acts-append directory more (w ∷ ws) h = ap₂ {C = List Target} ◌∷◌ (ap whole_set (entry-append directory more w h.0)) (acts-append directory more ws h.1)

pub acts-raise : (first second : List ℕ) → Apart first second → (ws : List ℕ) → Each (λ w. T (is_name_word w)) ws → Known second ws
    → (acts_on (first ++ second) ws ≡ map (raise_target (length first)) (acts_on second ws)) × Known (first ++ second) ws
acts-raise first second a [] n h = (refl, tt)
acts-raise first second a (w ∷ ws) n h =
    let pos : 0 < entry_of second w = h.0 in
    let e : entry_of (first ++ second) w ≡ length first + entry_of second w = entry-beyond first second w (not_first first second a w (not-purged w n.0) (entry-some second w h.0).0) h.0 in
    let r = acts-raise first second a ws n.1 h.1 in
    (ap₂ {C = List Target} ◌∷◌ (ap whole_set e) r.0, (omega arith, r.1))

names-yanked : (l : List ℕ) (a : Line) → directive l ≡ a → Each (λ w. T (is_name_word w)) (names_yanked (role_of a) l)
names-yanked l YankLine e = yank-named l (subst (λ (a : Line). T (is_yank a)) (sym e) tt)
names-yanked l Text e = tt
names-yanked l Skipped e = tt
names-yanked l (Deck w) e = tt
names-yanked l (Comdeck w) e = tt
names-yanked l (Ident w) e = tt
names-yanked l (Insert r) e = tt
names-yanked l (Before r) e = tt
names-yanked l (Delete a b) e = tt
names-yanked l (Restore a b) e = tt
names-yanked l Outside e = tt
names-yanked l Long e = tt
names-yanked l Malformed e = tt
names-yanked l NotCarried e = tt

pub yanked-are-names : (ls : List (List ℕ)) → Each (λ w. T (is_name_word w)) (yanked_names ls)
yanked-are-names [] = tt
yanked-are-names (l ∷ ls) = each_append _ (names_yanked (role_of (directive l)) l) (yanked_names ls) (names-yanked l (directive l) refl) (yanked-are-names ls)

-- A RUN of such a set: the library it leaves
pub record Ran (b : Library) (ws : List ℕ) (new : Library) : Type 0 where
  pub name : ℕ
  pub own : List Card
  pub lib : new ≡ taken_back_library b name own
  pub mine : Each (OwnCard (suc (count b))) own
  pub acts : all_acts (b.directory ++ (name ∷ [])) own ≡ acts_on (b.directory ++ (name ∷ [])) ws
  pub sound : Sound (taken_back_library b name own)

pub ran-set : (b : Library) (x : List ℕ) (room : ℕ) (new : Library) → Sound b → T (is_yanking_set (lines x)) → update b x room ≡ updated new → Ran b (yanked_names (lines x)) new
ran-set b x room new s t u =
    let e : EndsIn b x new = update-ends room b x new u in
    let r : YankedBySet b (yanked_names (lines x)) e.0 = ended_is (YankedBySet b (yanked_names (lines x))) (steps (start b) 1 (lines x)) e.0 e.1 (yanking-ended (start b) 1 (lines x) t) in
    let w : ℕ = r.0 in
    let y : Yanking (with_entry b w) (yanked_names (lines x)) e.0 = r.1 in
    let c : length (b.directory ++ (w ∷ [])) ≡ suc (count b) = length-append b.directory (w ∷ []) ∙ omega arith in
    let lib : new ≡ taken_back_library b w y.own = sym e.2 ∙ y.lib in
    record {
      name = w;
      own = y.own;
      lib = lib;
      mine = subst (λ (m : ℕ). Each (OwnCard m) y.own) c y.mine;
      acts = y.acts;
      sound = subst Sound lib (update-sound b x room new s u);
    }

-- what is yanked after it: f is the one solution, where the set is not yanked itself
module _ (b : Library) (ws : List ℕ) (new : Library) (s : Sound b) (r : Ran b ws new) where
  abbrev d : List ℕ
  d = b.directory ++ (r.name ∷ [])

  abbrev after : Library
  after = taken_back_library b r.name r.own

  pub ran-known : Known b.directory ws
  ran-known =
      known-names b.directory (deck_names after) r.name ws
      (subst (λ (ts : List Target). Each (λ x. T (ok_target d (deck_names after) (suc (count b)) x)) ts) r.acts (acts-lower b r.name r.own s r.mine r.sound))

  pub ran-lower : Each (λ x. T (ok_target d (deck_names after) (suc (count b)) x)) (acts_on b.directory ws)
  ran-lower =
      subst (λ (ts : List Target). Each (λ x. T (ok_target d (deck_names after) (suc (count b)) x)) ts) (r.acts ∙ acts-append b.directory (r.name ∷ []) ws ran-known)
      (acts-lower b r.name r.own s r.mine r.sound)

  pub ran-free : flags after (suc (count b)) ≡ false
  ran-free = free-after b r.name r.own s r.mine r.sound

  pub ran-rule : (f : ℕ → Bool) → f (suc (count b)) ≡ false → (deck n : ℕ) → yanked_by (yank_list after) f deck n ≡ (yanked_by (yank_list b) f deck n || any (covers deck n) (acts_on d ws))
  ran-rule f e deck n =
      rule-after b r.name r.own s r.mine f e deck n ∙ ap (λ (ts : List Target). yanked_by (yank_list b) f deck n || any (covers deck n) ts) r.acts

  -- the rule that the flags solve, by the names' numbers in the library as it was
  pub ran-yanked : (deck n : ℕ) → yanked after deck n ≡ (yanked_by (yank_list b) (flags after) deck n || any (covers deck n) (acts_on b.directory ws))
  ran-yanked deck n =
      yanked-rule after deck n ∙ ran-rule (flags after) ran-free deck n
      ∙ ap (λ (ts : List Target). yanked_by (yank_list b) (flags after) deck n || any (covers deck n) ts) (acts-append b.directory (r.name ∷ []) ws ran-known)

  pub ran-solves : (n : ℕ) → flags after n ≡ (yanked_by (yank_list b) (flags after) 0 n || any (covers 0 n) (acts_on b.directory ws))
  ran-solves n = ap (λ (f : ℕ → Bool). f n) (flags-yanked after r.sound) ∙ ran-yanked 0 n

  pub ran-only : (f : ℕ → Bool) → f (suc (count b)) ≡ false → ((n : ℕ) → f n ≡ (yanked_by (yank_list b) f 0 n || any (covers 0 n) (acts_on d ws))) → flags after ≡ f
  ran-only f e h = flags-only after r.sound f (λ n. h n ∙ sym (ran-rule f e 0 n))

-- THE MERGED LIBRARY: f and g what is to be yanked of the first and of the second, X and Y what the set's cards add to each
module _ (l m : Library) (q : Mergeable l m) (ws : List ℕ) (new : Library) (r : Ran (merge l m) ws new) (f g : ℕ → Bool) (X Y : ℕ → ℕ → Bool)
    (low : (deck n : ℕ) → n ≤ length l.directory → any (covers deck n) (acts_on ((l.directory ++ m.directory) ++ (r.name ∷ [])) ws) ≡ X deck n)
    (high : (deck n : ℕ) → 0 < n → any (covers (raise_deck_number (length l.directory) deck) (length l.directory + n)) (acts_on ((l.directory ++ m.directory) ++ (r.name ∷ [])) ws) ≡ Y deck n)
    (one : (n : ℕ) → n ≤ length l.directory → f n ≡ (yanked_by (yank_list l) f 0 n || X 0 n))
    (two : (n : ℕ) → 0 < n → g n ≡ (yanked_by (yank_list m) g 0 n || Y 0 n))
    (free : g (suc (count m)) ≡ false) where
  abbrev k : ℕ
  k = length l.directory

  abbrev after_both : Library
  after_both = taken_back_library (merge l m) r.name r.own

  abbrev both : ℕ → Bool
  both = wanted l m q.first q.second q.apart f g

  sound-merged : Sound (merge l m)
  sound-merged = sound-both l m q.first q.second q.apart q.limits

  both-free : both (suc (count (merge l m))) ≡ false
  both-free =
      let e : suc (count (merge l m)) ≡ k + suc (count m) = omega (arith, length-append l.directory m.directory) in
      ap both e ∙ wanted-high l m q.first q.second q.apart f g (suc (count m)) (omega arith) ∙ free

  abbrev ts : List Target
  ts = acts_on ((l.directory ++ m.directory) ++ (r.name ∷ [])) ws

  low-is : (deck n : ℕ) → n ≤ k → (yanked_by (yank_list (merge l m)) both deck n || any (covers deck n) ts) ≡ (yanked_by (yank_list l) f deck n || X deck n)
  low-is deck n le = ap₂ ◌||◌ (rule-low l m q.first q.second q.apart f g deck n le) (low deck n le)

  high_is : (deck n : ℕ) → 0 < n → (yanked_by (yank_list (merge l m)) both (raise_deck_number k deck) (k + n) || any (covers (raise_deck_number k deck) (k + n)) ts) ≡ (yanked_by (yank_list m) g deck n || Y deck n)
  high_is deck n pos = ap₂ ◌||◌ (rule-high l m q.first q.second q.apart f g deck n pos) (high deck n pos)

  flags-both : flags after_both ≡ both
  flags-both =
      ran-only (merge l m) ws new sound-merged r both both-free
      (each_number l m q.first q.second q.apart f g (λ n. both n ≡ (yanked_by (yank_list (merge l m)) both 0 n || any (covers 0 n) ts))
      (λ n le. wanted-low l m q.first q.second q.apart f g n le ∙ one n le ∙ sym (low-is 0 n le))
      (λ n pos. wanted-high l m q.first q.second q.apart f g n pos ∙ two n pos ∙ sym (high_is 0 n pos)))

  yanked-both : (deck n : ℕ) → yanked after_both deck n ≡ (yanked_by (yank_list (merge l m)) both deck n || any (covers deck n) ts)
  yanked-both deck n =
      yanked-rule after_both deck n ∙ ap (λ (h : ℕ → Bool). yanked_by (yank_list after_both) h deck n) flags-both
      ∙ ran-rule (merge l m) ws new sound-merged r both both-free deck n

  pub after_first : (deck n : ℕ) → n ≤ k → yanked after_both deck n ≡ (yanked_by (yank_list l) f deck n || X deck n)
  after_first deck n le = yanked-both deck n ∙ low-is deck n le

  pub after-second : (deck n : ℕ) → 0 < n → yanked after_both (raise_deck_number k deck) (k + n) ≡ (yanked_by (yank_list m) g deck n || Y deck n)
  after-second deck n pos = yanked-both (raise_deck_number k deck) (k + n) ∙ high_is deck n pos
