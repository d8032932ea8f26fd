-- What the cards of YANK$$$ in a sound library act on stays the same whatever names come after.
-- This is where the kinds of target are told apart.
use Rattle.std.specs.Prelude.{if◌then◌else◌}
use Prim.Native.Nat.{ℕ, ◌+◌, ◌≤◌, ◌<◌}
use native.Mathlib.Omega.{arith}
use mathlib.Core.Path.{◌≡◌, refl, sym, ap, ap₂, ◌∙◌, subst}
use mathlib.Core.Bool.{Bool, true, false, ◌&&◌, not}
use mathlib.Core.List.{List, [], ◌∷◌, ◌++◌, map}
use lib.Dec.{T, eqb, ltb, eqb→eq, ltb→lt}
use lib.ListN.{length}
use Rattle.words.specs.Base.{all, member}
use Rattle.words.proofs.TestParts.{and_left, and_right}
use Rattle.words_lines.specs.Directive.{directive, yank_names}
use Rattle.library.specs.Each.{Each}
use Rattle.library.specs.Library.{Card, Deck, Library, history, deck_card, name_at, deck_names, entry_of}
use Rattle.library.specs.Yanks.{Target, whole_set, covers, is_yank, targets, yanks_of}
use Rattle.library.specs.Settled.{NamesLower}
use Rattle.library.specs.Growth.{count, Within, NewCard, Unknown, same_names}
use Rattle.library.specs.Check.{ok_target}
use Rattle.library.specs.Sound.{is_entry, SoundCard, SoundDeck, Sound}
use Rattle.library.proofs.EachTest.{each_map, each_two, and_parts, all-each}
use Rattle.library.proofs.EntryNames.{is-named}
use Rattle.library.proofs.YankedUnique.{falls-none, yanks-lower}
use Rattle.library.proofs.AnyAndAll.{any_false, any-member, all-member, any-map}
use Rattle.library.proofs.NewEntries.{entry-append, entry_new, entry-each}
use Rattle.library.proofs.Rollback.{yank_of, TakesBack}

-- THE KINDS OF TARGET
-- names keep what they stand for
names-append : (directory more deck_words : List ℕ) (own : ℕ) (ws : List ℕ)
    → Each (λ t. T (ok_target directory deck_words own t)) (map (λ w. whole_set (entry_of directory w)) ws)
    → map (λ w. whole_set (entry_of (directory ++ more) w)) ws ≡ map (λ w. whole_set (entry_of directory w)) ws
names-append directory more deck_words own [] h = refl
names-append directory more deck_words own (w ∷ ws) h =
    let m : ℕ = entry_of directory w in
    let a : Bool = ltb 0 m in
    let b : Bool = ltb m own in
    let z : Bool = not (member (name_at directory m) deck_words) in
    let pos : 0 < m = ltb→lt 0 m (and_left a b (and_left (a && b) z h.0)) in
    ap₂ {C = List Target} ◌∷◌ (ap whole_set (entry-append directory more w pos)) (names-append directory more deck_words own ws h.1)

pub targets-append : (directory more deck_words : List ℕ) (own : ℕ) (l : List ℕ)
    → Each (λ t. T (ok_target directory deck_words own t)) (targets directory l) → targets (directory ++ more) l ≡ targets directory l
unfolding targets
targets-append directory more deck_words own l h = go (is_yank (directive l)) h
  where
    go : (c : Bool) → Each (λ t. T (ok_target directory deck_words own t)) (if c then map (λ w. whole_set (entry_of directory w)) (yank_names l) else [])
        → (if c then map (λ w. whole_set (entry_of (directory ++ more) w)) (yank_names l) else []) ≡ (if c then map (λ w. whole_set (entry_of directory w)) (yank_names l) else [])
    go true k = names-append directory more deck_words own (yank_names l) k
    go false k = refl

-- exactly the new names of a directory: the numbers after its old count are taken back
pub names-take-back : (directory ns more ws : List ℕ) → Unknown directory ns → T (same_names ns ws)
    → TakesBack (length directory) (length directory + length ns) (map (λ w. whole_set (entry_of (directory ++ (ns ++ more)) w)) ws)
names-take-back directory ns more ws u same = record {
  low = λ deck n le. any-map (covers deck n) act ws ∙ any_false (λ w. eqb n (number w)) ws (each_map _ _ (λ w t. below n le w t) ws (all-each (λ w. member w ns) ws only));
  mid = λ deck n a b.
      let r : (w : ℕ) × T (member w ns) × (number w ≡ n) = entry-each more directory ns u n a b in
      any-map (covers deck n) act ws
      ∙ any-member (λ w. eqb n (number w)) ws r.0 (all-member (λ m. member m ws) ns r.0 r.1 each) (subst (λ (m : ℕ). T (eqb n m)) (sym r.2) (lib.Dec.eqb_refl n));
}
  where
    number : ℕ → ℕ
    number w = entry_of (directory ++ (ns ++ more)) w

    act : ℕ → Target
    act w = whole_set (number w)

    only : T (all (λ w. member w ns) ws)
    only = and_left (all (λ w. member w ns) ws) (all (λ n. member n ws) ns) same

    each : T (all (λ n. member n ws) ns)
    each = and_right (all (λ w. member w ns) ws) (all (λ n. member n ws) ns) same

    below : (n : ℕ) → n ≤ length directory → (w : ℕ) → T (member w ns) → eqb n (number w) ≡ false
    below n le w t = go (eqb n (number w)) (eqb→eq n (number w))
      where
        go : (c : Bool) → (T c → n ≡ number w) → c ≡ false
        go true e = let f : n ≡ entry_of (directory ++ (ns ++ more)) w = e tt in absurd (omega (arith, entry_new more directory ns u w t))
        go false e = refl

-- SOUND LIBRARIES
pub card-numbers : (directory : List ℕ) (c : Card) → SoundCard directory c → NewCard 0 (length directory) c
card-numbers directory c s =
    let h = all-each (λ b. is_entry directory b.number) (history c) s.named in
    let own = is-named directory c.owner h.0 in (
      (own.above, own.within),
      each_two (λ b. T (is_entry directory b.number)) (λ b. c.owner ≤ b.number) _ (λ b p q. (q, (is-named directory b.number p).within)) c.later
          h.1 (falls-none c.owner c.later s.rises),
    )

pub deck-number : (directory : List ℕ) (d : Deck) → SoundDeck directory d → Within 0 (length directory) d.number
deck-number directory d s = (card-numbers directory (deck_card d) s.first).0

pub sound-lower : (l : Library) → Sound l → Each (NamesLower (count l)) (map (yank_of l.directory) l.yanks)
unfolding yanks_of
sound-lower l s = yanks-lower l s

pub sound-stable : (l : Library) → Sound l → (more : List ℕ) → Each (λ c. targets (l.directory ++ more) c.line ≡ targets l.directory c.line) l.yanks
sound-stable l s more =
    each_map _ _
    (λ c t. targets-append l.directory more (deck_names l) c.owner c.line
    (all-each (ok_target l.directory (deck_names l) c.owner) (targets l.directory c.line) (and_parts (is_yank (directive c.line)) (all (ok_target l.directory (deck_names l) c.owner) (targets l.directory c.line)) t).1))
    l.yanks s.lower
