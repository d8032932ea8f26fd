-- With a new name at a directory's end its numbers and names stay, and what is sound stays sound.
use Rattle.std.specs.Prelude.{if◌then◌else◌}
use Prim.Native.Nat.{ℕ, zero, suc, ◌+◌, ◌-◌, ◌≤◌, ◌<◌}
use native.Mathlib.Omega.{arith}
use mathlib.Core.Path.{◌≡◌, refl, sym, ap, ap₂, ◌∙◌, subst}
use mathlib.Core.Bool.{Bool, true, false, ◌&&◌, ◌||◌, not}
use mathlib.Core.List.{List, [], ◌∷◌, ◌++◌, map}
use lib.Dec.{T, eqb, eqb→eq, eqb_refl, ltb, lt→ltb, le→leb, ltb→lt, T_not, not_T}
use lib.ListN.{length, length-append, get_or-append}
use lib.Seq.{get_or-append_seam}
use Rattle.library.proofs.TableRows.{same-name-turn}
use Rattle.words.specs.Base.{all, member}
use Rattle.words.specs.Names.{is_name_word}
use Rattle.words.proofs.TestParts.{and_both, all_append}
use Rattle.words_lines.specs.Directive.{directive}
use Rattle.library.specs.Each.{Each}
use Rattle.library.specs.Library.{Card, Deck, deck_of, history, deck_card, name_at, entry_from, entry_of, reserved, purged}
use Rattle.library.specs.Yanks.{Target, whole_set, is_yank, targets}
use Rattle.library.specs.Check.{ok_target}
use Rattle.library.specs.Growth.{Within}
use Rattle.library.specs.Sound.{no_two, number_tests, is_entry, sound_entry, same_name, SoundCard, SoundDeck}
use Rattle.library.proofs.EachTest.{each_map, and_parts, all-each, each_all, each-all_of}
use Rattle.library.proofs.EntryNames.{NamedAt, name-at, is-named, any_at}
use Rattle.library.proofs.InsertedElement.{inserted-end, inserted-no-two}
use Rattle.library.proofs.YankTargets.{targets-append, deck-number}

-- NUMBERS
pub name-append : (directory more : List ℕ) (n : ℕ) → Within 0 (length directory) n → name_at (directory ++ more) n ≡ name_at directory n
name-append directory more n w =
    let pos : 0 < n = w.0 in
    let le : n ≤ length directory = w.1 in
    name-at (directory ++ more) n pos ∙ get_or-append directory more 0 (n - 1) (omega arith) ∙ sym (name-at directory n pos)

pub name-end : (directory : List ℕ) (w : ℕ) → name_at (directory ++ (w ∷ [])) (suc (length directory)) ≡ w
name-end directory w = get_or-append_seam directory w [] 0

named-of : (directory : List ℕ) (n : ℕ) → NamedAt directory n → T (is_entry directory n)
named-of directory n q = each-all_of (number_tests directory n) (lt→ltb 0 n q.above, (le→leb n (length directory) q.within, (q.named, tt)))

pub named-append : (directory more : List ℕ) (n : ℕ) → T (is_entry directory n) → T (is_entry (directory ++ more) n)
named-append directory more n t =
    let q : NamedAt directory n = is-named directory n t in
    let le : n ≤ length directory = q.within in
    named-of (directory ++ more) n (record {
      above = q.above;
      within = omega (arith, length-append directory more);
      named = subst (λ (x : ℕ). T (not (eqb x purged))) (sym (name-append directory more n (q.above, q.within))) q.named;
    })

pub named_end : (directory : List ℕ) (w : ℕ) → (w ≡ purged → ⊥) → T (is_entry (directory ++ (w ∷ [])) (suc (length directory)))
named_end directory w ne =
    named-of (directory ++ (w ∷ [])) (suc (length directory)) (record {
      above = omega arith;
      within = omega (arith, length-append directory (w ∷ []));
      named = subst (λ (x : ℕ). T (not (eqb x purged))) (sym (name-end directory w)) (not_T (eqb w purged) (λ t. ne (eqb→eq w purged t)));
    })

-- NAMES
from-none : (w n : ℕ) (xs : List ℕ) → 0 < n → entry_from w n xs ≡ 0 → Each (λ x. T (not (eqb w x))) xs
from-none w n [] pos e = tt
from-none w n (x ∷ xs) pos e = go (eqb w x) e (from-none w (suc n) xs (omega arith))
  where
    go : (c : Bool) → (if c then n else entry_from w (suc n) xs) ≡ 0 → (entry_from w (suc n) xs ≡ 0 → Each (λ y. T (not (eqb w y))) xs)
        → T (not c) × Each (λ y. T (not (eqb w y))) xs
    go true h f = absurd (omega arith)
    go false h f = (tt, f h)

-- a name without a number is none of the directory's
pub entry-none : (directory : List ℕ) (w : ℕ) → entry_of directory w ≡ 0 → Each (λ x. T (not (eqb w x))) directory
unfolding entry_of
entry-none directory w e = from-none w 1 directory (omega arith) e

from_some : (w n : ℕ) (xs : List ℕ) → 0 < n → 0 < entry_from w n xs → T (member w xs) × (entry_from w n xs < n + length xs)
from_some w n [] pos h = absurd (omega arith)
from_some w n (x ∷ xs) pos h = go (eqb w x) h (from_some w (suc n) xs (omega arith))
  where
    go : (c : Bool) → 0 < (if c then n else entry_from w (suc n) xs) → (0 < entry_from w (suc n) xs → T (member w xs) × (entry_from w (suc n) xs < suc n + length xs))
        → T (c || member w xs) × ((if c then n else entry_from w (suc n) xs) < n + suc (length xs))
    go true k f = (tt, omega arith)
    go false k f = let q = f k in (q.0, omega (arith, q.1))

-- one with a number is, and the number is within the count
pub entry-some : (directory : List ℕ) (w : ℕ) → 0 < entry_of directory w → T (member w directory) × (entry_of directory w ≤ length directory)
unfolding entry_of
entry-some directory w h = let q = from_some w 1 directory (omega arith) h in (q.0, omega (arith, q.1))

pub entry-within : (directory : List ℕ) (w : ℕ) → entry_of directory w ≤ length directory
entry-within directory w = go (entry_of directory w) refl
  where
    go : (n : ℕ) → entry_of directory w ≡ n → entry_of directory w ≤ length directory
    go zero e = omega arith
    go (suc n) e = (entry-some directory w (omega arith)).1

pub names-end : (directory : List ℕ) (w : ℕ) → entry_of directory w ≡ 0 → T (no_two same_name directory) → T (no_two same_name (directory ++ (w ∷ [])))
names-end directory w e t =
    inserted-no-two w same_name same-name-turn (inserted-end w directory)
    (each_map _ _ (λ x u. not_T (same_name w x) (λ v. T_not (eqb w x) u (and_parts (eqb w x) (not (eqb w purged)) v).0)) directory (entry-none directory w e)) t

pub entries-end : (directory : List ℕ) (w : ℕ) → T (is_name_word w) → T (not (eqb w reserved)) → T (all sound_entry directory) → T (all sound_entry (directory ++ (w ∷ [])))
entries-end directory w n r t = all_append sound_entry directory (w ∷ []) t (go (eqb w purged) (is_name_word w && not (eqb w reserved)) (and_both (is_name_word w) (not (eqb w reserved)) n r))
  where
    go : (a b : Bool) → T b → T ((a || b) && true)
    go true b u = tt
    go false true u = tt
    go false false u = u

-- CARDS AND DECKS
pub card-append : (directory more : List ℕ) (c : Card) → SoundCard directory c → SoundCard (directory ++ more) c
card-append directory more c s = record {
  line = s.line;
  numbered = s.numbered;
  fits = s.fits;
  named = each_all (λ b. is_entry (directory ++ more) b.number) (history c)
      (each_map _ _ (λ b t. named-append directory more b.number t) (history c) (all-each (λ b. is_entry directory b.number) (history c) s.named));
  rises = s.rises;
}

pub deck-append : (directory more : List ℕ) (d : Deck) → SoundDeck directory d → SoundDeck (directory ++ more) d
deck-append directory more d s = record {
  title = s.title ∙ ap (deck_of d.common) (sym (name-append directory more d.number (deck-number directory d s)));
  first = card-append directory more (deck_card d) s.first;
  cards = each_map _ _ (card-append directory more) d.cards s.cards;
  others = s.others;
}

pub deck-names-append : (directory more : List ℕ) (ds : List Deck) → Each (SoundDeck directory) ds
    → map (λ d. name_at (directory ++ more) d.number) ds ≡ map (λ d. name_at directory d.number) ds
deck-names-append directory more [] h = refl
deck-names-append directory more (d ∷ ds) h =
    ap₂ {C = List ℕ} ◌∷◌ (name-append directory more d.number (deck-number directory d h.0)) (deck-names-append directory more ds h.1)

-- CARDS OF YANK$$$: the deck list may grow by names that the directory lacked
target-append : (directory more deck_words longer : List ℕ) (own : ℕ) (t : Target) → own ≤ length directory
    → ((x : ℕ) → T (member x directory) → T (not (member x deck_words)) → T (not (member x longer)))
    → T (ok_target directory deck_words own t) → T (ok_target (directory ++ more) longer own t)
target-append directory more deck_words longer own (whole_set n) le f t =
    let p = and_parts (ltb 0 n && ltb n own) (not (member (name_at directory n) deck_words)) t in
    let q = and_parts (ltb 0 n) (ltb n own) p.0 in
    let pos : 0 < n = ltb→lt 0 n q.0 in
    let lt : n < own = ltb→lt n own q.1 in
    let here : T (member (name_at directory n) directory) = any_at (eqb (name_at directory n)) directory (n - 1) (omega arith) (subst (λ (x : ℕ). T (eqb (name_at directory n) x)) (name-at directory n pos) (eqb_refl (name_at directory n))) in
    and_both (ltb 0 n && ltb n own) (not (member (name_at (directory ++ more) n) longer)) p.0
    (subst (λ (x : ℕ). T (not (member x longer))) (sym (name-append directory more n (pos, omega arith))) (f (name_at directory n) here p.1))

pub yank-append : (directory more deck_words longer : List ℕ) (c : Card) → c.owner ≤ length directory
    → ((x : ℕ) → T (member x directory) → T (not (member x deck_words)) → T (not (member x longer)))
    → T (is_yank (directive c.line) && all (ok_target directory deck_words c.owner) (targets directory c.line))
    → T (is_yank (directive c.line) && all (ok_target (directory ++ more) longer c.owner) (targets (directory ++ more) c.line))
yank-append directory more deck_words longer c le f t =
    let p = and_parts (is_yank (directive c.line)) (all (ok_target directory deck_words c.owner) (targets directory c.line)) t in
    let h = all-each (ok_target directory deck_words c.owner) (targets directory c.line) p.1 in
    and_both (is_yank (directive c.line)) (all (ok_target (directory ++ more) longer c.owner) (targets (directory ++ more) c.line)) p.0
    (subst (λ (ts : List Target). T (all (ok_target (directory ++ more) longer c.owner) ts)) (sym (targets-append directory more deck_words c.owner c.line h))
    (each_all (ok_target (directory ++ more) longer c.owner) (targets directory c.line)
    (each_map _ _ (λ x u. target-append directory more deck_words longer c.owner x le f u) (targets directory c.line) h)))
