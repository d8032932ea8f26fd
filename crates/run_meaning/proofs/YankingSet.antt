-- A set that only yanks leaves the library as it was, with its name and its cards at the end of YANK$$$.
use Rattle.std.specs.Prelude.{if◌then◌else◌}
use Prim.Native.Nat.{ℕ, suc}
use mathlib.Core.Path.{◌≡◌, refl, sym, ap, ◌∙◌, subst}
use mathlib.Core.Bool.{not, ◌&&◌}
use mathlib.Core.List.{List, [], ◌∷◌, ◌++◌, map, append-nil, append_assoc}
use lib.Dec.{T}
use lib.ListN.{length}
use Rattle.words.specs.Base.{any}
use Rattle.words.specs.Text.{trim}
use Rattle.words_lines.specs.Directive.{directive, line_number, yank_names}
use Rattle.words_lines.specs.declared.Line.{Line}
use Rattle.words_lines.specs.declared.Line.TheVariants.{Text, Skipped, Deck as DeckLine·, Comdeck, Ident, Insert, Before, Delete, Restore, Yank as YankLine, Outside as LineOutside, Long as LineLong, Malformed as LineMalformed, NotCarried as LineNotCarried}
use Rattle.words_lines.proofs.TrailingBlanks.{directive-trim, yank_names-trim}
use Rattle.words_lines.proofs.AskedLine.{Readable, line-readable}
use Rattle.library.specs.Each.{Each}
use Rattle.library.specs.Library.{Card, Library, entry_of}
use Rattle.library.specs.Yanks.{Target, whole_set, is_yank, targets}
use Rattle.library.specs.Growth.{count}
use Rattle.library.proofs.EachTest.{all-each}
use Rattle.library.proofs.AppendedLists.{each_append, map-append}
use Rattle.library.proofs.Rollback.{all_acts, OwnCard}
use Rattle.run_meaning.specs.Step.{State, Step, went, limited, with_yanks, with_entry, new_card, is_known, after_ident, is_unknown, is_no_set, after_yank, obey, step}
use Rattle.run_meaning.specs.Run.{Steps, ended, stopped, onward, steps}
use Rattle.run_meaning.specs.Units.{Role, deck_start, set_start, yank_line, skipped_line, other_line, role_of, unit_names, set_names, names_yanked, names_of, sets_of, yanked_names, starts_deck, only_sets, yanks_or_skips, only_yanks, opens_yanking, is_yanking_set}
use Rattle.run_meaning.specs.declared.Why.TheVariants.{Known, Unknown as UnknownName, NoSet}
use Rattle.run_meaning.proofs.HoldsThrough.{Went, Ended, refuse-went, limited-went, in-set-went, onward-ended, steps-ended}

-- WHAT A YANK CARD ACTS ON: what the line named that it was made from
abbrev pub acts_on : List ℕ → List ℕ → List Target
acts_on directory ws = map (λ w. whole_set (entry_of directory w)) ws

pub card-acts : (directory l : List ℕ) → directive l ≡ YankLine → targets directory (trim l) ≡ acts_on directory (yank_names l)
unfolding targets
card-acts directory l e =
    let f : Readable l = line-readable l (ap line_number e) in
    ap (λ (a : Line). if is_yank a then map (λ w. whole_set (entry_of directory w)) (yank_names (trim l)) else []) (directive-trim l f.0 f.1 ∙ e)
    ∙ ap (λ (ws : List ℕ). map (λ w. whole_set (entry_of directory w)) ws) (yank_names-trim l)

acts-append : (directory : List ℕ) (cs ds : List Card) → all_acts directory (cs ++ ds) ≡ all_acts directory cs ++ all_acts directory ds
acts-append directory [] ds = refl
acts-append directory (c ∷ cs) ds =
    ap (λ (ts : List Target). targets directory c.line ++ ts) (acts-append directory cs ds)
    ∙ sym (append_assoc (targets directory c.line) (all_acts directory cs) (all_acts directory ds))

-- AFTER THE IDENT LINE: base is the library with the set's name; ws are the names on YANK lines so far
pub record Yanking (base : Library) (ws : List ℕ) (s : State) : Type 0 where
  pub own : List Card
  pub lib : s.lib ≡ with_yanks base (base.yanks ++ own)
  pub mine : Each (OwnCard (count base)) own
  pub acts : all_acts base.directory own ≡ acts_on base.directory ws

module _ (base : Library) where
  yank-more : (ws : List ℕ) (s : State) (l : List ℕ) → directive l ≡ YankLine → Yanking base ws s → Yanking base (ws ++ yank_names l) (after_yank s l)
  yank-more ws s l e y =
      let d : s.lib.directory ≡ base.directory = ap (λ (b : Library). b.directory) y.lib in
      let c : Card = new_card s l in record {
        own = y.own ++ (c ∷ []);
        lib = ap (λ (b : Library). with_yanks b (b.yanks ++ (c ∷ []))) y.lib
            ∙ ap (with_yanks base) (append_assoc base.yanks y.own (c ∷ []));
        mine = each_append (OwnCard (count base)) y.own (c ∷ []) y.mine ((ap length d, refl), tt);
        acts = acts-append base.directory y.own (c ∷ [])
            ∙ (λ i. y.acts i ++ (append-nil (targets base.directory (trim l)) ∙ card-acts base.directory l e) i)
            ∙ sym (map-append (λ w. whole_set (entry_of base.directory w)) ws (yank_names l));
      }

  unnamed : (ws : List ℕ) (r : Step) → Went (Yanking base ws) r → Went (Yanking base (ws ++ [])) r
  unnamed ws r h = subst (λ (m : List ℕ). Went (Yanking base m) r) (sym (append-nil ws)) h

  obey-yanks : (ws : List ℕ) (s : State) (l : List ℕ) (a : Line) → directive l ≡ a → T (yanks_or_skips (role_of a)) → Yanking base ws s
      → Went (Yanking base (ws ++ names_yanked (role_of a) l)) (obey s l a)
  obey-yanks ws s l YankLine e t y =
      in-set-went (Yanking base (ws ++ yank_names l)) s _
      (λ _. refuse-went (Yanking base (ws ++ yank_names l)) (any (is_unknown s.lib) (yank_names l)) UnknownName _
      (λ _. refuse-went (Yanking base (ws ++ yank_names l)) (any (is_no_set s.lib) (yank_names l)) NoSet (limited (after_yank s l))
      (λ _. limited-went (Yanking base (ws ++ yank_names l)) (after_yank s l) (yank-more ws s l e y))))
  obey-yanks ws s l Skipped e t y = unnamed ws (went s) y
  obey-yanks ws s l Text e t y = absurd t
  obey-yanks ws s l (DeckLine· w) e t y = absurd t
  obey-yanks ws s l (Comdeck w) e t y = absurd t
  obey-yanks ws s l (Ident w) e t y = absurd t
  obey-yanks ws s l (Insert r) e t y = absurd t
  obey-yanks ws s l (Before r) e t y = absurd t
  obey-yanks ws s l (Delete a b) e t y = absurd t
  obey-yanks ws s l (Restore a b) e t y = absurd t
  obey-yanks ws s l LineOutside e t y = absurd t
  obey-yanks ws s l LineLong e t y = absurd t
  obey-yanks ws s l LineMalformed e t y = absurd t
  obey-yanks ws s l LineNotCarried e t y = absurd t

  step-yanks : (ws : List ℕ) (s : State) (l : List ℕ) → T (yanks_or_skips (role_of (directive l))) → Yanking base ws s
      → Went (Yanking base (ws ++ names_yanked (role_of (directive l)) l)) (step s l)
  unfolding step
  step-yanks ws s l t y = obey-yanks ws s l (directive l) refl t y

  yanks-ended : (s : State) (n : ℕ) (ls : List (List ℕ)) → T (only_yanks ls) → Yanking base [] s → Ended (Yanking base (yanked_names ls)) (steps s n ls)
  yanks-ended s n ls t y =
      steps-ended (Yanking base) (λ l. T (yanks_or_skips (role_of (directive l)))) (λ l. names_yanked (role_of (directive l)) l) step-yanks [] s n ls
      (all-each (λ l. yanks_or_skips (role_of (directive l))) ls t) y

-- THE WHOLE SET: w is its name
abbrev pub YankedBySet : Library → List ℕ → State → Type 0
YankedBySet l ws s = (w : ℕ) × Yanking (with_entry l w) ws s

ident-yanking : (s : State) (w : ℕ) → Yanking (with_entry s.lib w) [] (after_ident s w)
ident-yanking s w = record {
  own = [];
  lib = ap (with_yanks (with_entry s.lib w)) (sym (append-nil s.lib.yanks));
  mine = tt;
  acts = refl;
}

ended-map : (P Q : State → Type 0) → ((t : State) → P t → Q t) → (r : Steps) → Ended P r → Ended Q r
ended-map P Q f (ended t) p = f t p
ended-map P Q f (stopped w n) p = tt

pub yanking-ended : (s : State) (n : ℕ) (ls : List (List ℕ)) → T (is_yanking_set ls) → Ended (YankedBySet s.lib (yanked_names ls)) (steps s n ls)
unfolding step
yanking-ended s n [] t = absurd t
yanking-ended s n (l ∷ ls) t = go (directive l) t (yanking-ended s (suc n) ls)
  where
    Q : Line → State → Type 0
    Q a = YankedBySet s.lib (names_yanked (role_of a) l ++ yanked_names ls)

    on : State → Steps
    on t = steps t (suc n) ls

    go : (a : Line) → T (opens_yanking (role_of a) (is_yanking_set ls) (only_yanks ls))
        → (T (is_yanking_set ls) → Ended (YankedBySet s.lib (yanked_names ls)) (on s)) → Ended (Q a) (onward (obey s l a) on n)
    go (Ident w) u r =
        onward-ended (λ q. q ≡ after_ident s w) (Q (Ident w)) (obey s l (Ident w)) on n
        (refuse-went (λ q. q ≡ after_ident s w) (is_known s.lib w) Known (limited (after_ident s w)) (λ _. limited-went (λ q. q ≡ after_ident s w) (after_ident s w) refl))
        (λ q e. subst (λ (x : State). Ended (Q (Ident w)) (on x)) (sym e)
        (ended-map (Yanking (with_entry s.lib w) (yanked_names ls)) (Q (Ident w)) (λ x y. (w, y)) (on (after_ident s w))
        (yanks-ended (with_entry s.lib w) (after_ident s w) (suc n) ls u (ident-yanking s w))))
    go Skipped u r = r u
    go YankLine u r = absurd u
    go Text u r = absurd u
    go (DeckLine· w) u r = absurd u
    go (Comdeck w) u r = absurd u
    go (Insert k) u r = absurd u
    go (Before k) u r = absurd u
    go (Delete a b) u r = absurd u
    go (Restore a b) u r = absurd u
    go LineOutside u r = absurd u
    go LineLong u r = absurd u
    go LineMalformed u r = absurd u
    go LineNotCarried u r = absurd u

-- such a set starts no deck unit
yanks-sets : (ls : List (List ℕ)) → T (only_yanks ls) → T (only_sets ls)
yanks-sets [] t = tt
yanks-sets (l ∷ ls) t = go (role_of (directive l)) (yanks-sets ls) t
  where
    go : (a : Role) → (T (only_yanks ls) → T (only_sets ls)) → T (yanks_or_skips a && only_yanks ls) → T (not (starts_deck a) && only_sets ls)
    go (deck_start w) f u = absurd u
    go (set_start w) f u = absurd u
    go yank_line f u = f u
    go skipped_line f u = f u
    go other_line f u = absurd u

pub yanking-sets : (ls : List (List ℕ)) → T (is_yanking_set ls) → T (only_sets ls)
yanking-sets [] t = absurd t
yanking-sets (l ∷ ls) t = go (role_of (directive l)) (yanking-sets ls) t
  where
    go : (a : Role) → (T (is_yanking_set ls) → T (only_sets ls)) → T (opens_yanking a (is_yanking_set ls) (only_yanks ls)) → T (not (starts_deck a) && only_sets ls)
    go (deck_start w) f u = absurd u
    go (set_start w) f u = yanks-sets ls u
    go yank_line f u = absurd u
    go skipped_line f u = f u
    go other_line f u = absurd u

-- where no unit is a deck's, the names of the units are those of the sets
pub sets-names : (ls : List (List ℕ)) → T (only_sets ls) → sets_of ls ≡ names_of ls
sets-names [] t = refl
sets-names (l ∷ ls) t = go (role_of (directive l)) (sets-names ls) t
  where
    go : (a : Role) → (T (only_sets ls) → sets_of ls ≡ names_of ls) → T (not (starts_deck a) && only_sets ls) → set_names a ++ sets_of ls ≡ unit_names a ++ names_of ls
    go (deck_start w) f u = absurd u
    go (set_start w) f u = ap {B = List ℕ} (λ r. w ∷ r) (f u)
    go yank_line f u = f u
    go skipped_line f u = f u
    go other_line f u = f u
