-- In a merged library the first's numbers are yanked as in the first, the second's raised as in the second. The flags are written down, and they solve
-- the rule. It goes over whatever a card of YANK$$$ acts on (Target, covers; Raised).
use Prim.Native.Nat.{ℕ, ◌+◌, ◌-◌, ◌≤◌, ◌<◌}
use native.Mathlib.Omega.{arith}
use native.Mathlib.Decide.{dec_le}
use mathlib.Core.Path.{◌≡◌, refl, sym, ap, ap₂, ◌∙◌, subst}
use mathlib.Core.Bool.{Bool, false, ◌&&◌, ◌||◌}
use mathlib.Core.List.{List, [], ◌∷◌, ◌++◌, map}
use mathlib.Core.Option.{none}
use lib.Dec.{T}
use lib.ListN.{length}
use Rattle.words.proofs.TestParts.{or-false}
use Rattle.words.specs.Base.{any, all}
use Rattle.words_lines.specs.Directive.{directive}
use Rattle.library.specs.Each.{Each}
use Rattle.library.specs.Library.{Card, Library, history, deck_names}
use Rattle.library.specs.Yanks.{last_says, covers, is_yank, targets, Yank, yanked_by, Solves, yanked}
use Rattle.library.specs.Growth.{NewCard}
use Rattle.library.specs.Image.{within_limits}
use Rattle.library.specs.Check.{ok_target}
use Rattle.library.specs.Sound.{SoundCard, Sound}
use Rattle.library.proofs.EachTest.{each_map, and_parts, all-each}
use Rattle.library.proofs.AppendedLists.{any_append, map-append}
use Rattle.library.proofs.OneSolution.{says-agree}
use Rattle.library.proofs.Rollback.{yank_of}
use Rattle.library.proofs.YankTargets.{card-numbers, sound-stable}
use Rattle.library.proofs.SettledFlags.{yank_list, flags, yanked-rule, flags-solve, flags-only}
use Rattle.library_raise.specs.RaisedCards.{raise_card}
use Rattle.library_raise.proofs.RaisedCardWords.{says-raised}
use Rattle.merge_meaning.specs.Merge.{merge, shared_name}
use Rattle.merge_meaning.specs.Merged.{Mergeable, raise_deck_number, YankedFirst, YankedSecond}
use Rattle.merge_meaning.proofs.RaisedStaysSound.{any-raise, raise-low, none-covers, first-high, targets-raise}
use Rattle.merge_meaning.proofs.MergedSound.{apart, sound-both}

-- HISTORIES: every number of a sound card is positive, and at most the directory's count
pub positive : (directory : List ℕ) (c : Card) → SoundCard directory c → Each (λ b. 0 < b.number) (history c)
positive directory c s =
    let n : NewCard 0 (length directory) c = card-numbers directory c s in
    (n.0.0, each_map _ _ (λ b r. omega (arith, n.0.0, r.0)) c.later n.1)

pub counted : (directory : List ℕ) (c : Card) → SoundCard directory c → Each (λ b. b.number ≤ length directory) (history c)
counted directory c s = let n : NewCard 0 (length directory) c = card-numbers directory c s in (n.0.1, each_map _ _ (λ b r. r.1) c.later n.1)

-- what the lines of a sound library act on
Acting : Library → Card → Type 0
Acting l c = Each (λ t. T (ok_target l.directory (deck_names l) c.owner t)) (targets l.directory c.line)

acting : (l : Library) → Sound l → Each (Acting l) l.yanks
unfolding Acting
acting l s =
    each_map _ _ (λ c t. all-each (ok_target l.directory (deck_names l) c.owner) (targets l.directory c.line)
    (and_parts (is_yank (directive c.line)) (all (ok_target l.directory (deck_names l) c.owner) (targets l.directory c.line)) t).1) l.yanks s.lower

module _ (l m : Library) (s : Sound l) (t : Sound m) (none-shared : shared_name l m ≡ none) where
  abbrev first : List ℕ
  first = l.directory

  abbrev second : List ℕ
  second = m.directory

  abbrev k : ℕ
  k = length first

  -- f and g: what is yanked in each library; what is to be in the merged one
  module _ (f g : ℕ → Bool) where
    picked : (n : ℕ) → Dec (n ≤ k) → Bool
    picked n (yes a) = f n
    picked n (no a) = g (n - k)

    pub wanted : ℕ → Bool
    wanted n = picked n (dec_le n k)

    pub wanted-low : (n : ℕ) → n ≤ k → wanted n ≡ f n
    unfolding wanted picked
    wanted-low n le = go (dec_le n k)
      where
        go : (a : Dec (n ≤ k)) → picked n a ≡ f n
        go (yes a) = refl
        go (no a) = absurd (a le)

    pub wanted-high : (n : ℕ) → 0 < n → wanted (k + n) ≡ g n
    unfolding wanted picked
    wanted-high n pos = go (dec_le (k + n) k)
      where
        go : (a : Dec (k + n ≤ k)) → picked (k + n) a ≡ g n
        go (yes a) = absurd (omega arith)
        go (no a) = let e : k + n - k ≡ n = omega arith in ap g e

    -- the rule over the first's cards
    rule-first : (deck n : ℕ) (cs : List Card) → Each (λ c. targets (first ++ second) c.line ≡ targets first c.line) cs → Each (SoundCard first) cs
        → yanked_by (map (yank_of (first ++ second)) cs) wanted deck n ≡ yanked_by (map (yank_of first) cs) f deck n
    rule-first deck n [] e h = refl
    rule-first deck n (c ∷ cs) e h =
        ap₂ ◌||◌
        (ap₂ ◌&&◌ (ap (any (covers deck n)) e.0) (says-agree wanted f false (history c) (each_map _ _ (λ b r. wanted-low b.number r) (history c) (counted first c h.0))))
        (rule-first deck n cs e.1 h.1)

    rule-first-high : (deck n : ℕ) → 0 < n → (cs : List Card) → Each (Acting l) cs → Each (SoundCard first) cs → yanked_by (map (yank_of first) cs) f deck (k + n) ≡ false
    unfolding Acting
    rule-first-high deck n pos [] a h = refl
    rule-first-high deck n pos (c ∷ cs) a h =
        let le : c.owner ≤ k = (card-numbers first c h.0).0.1 in
        ap₂ ◌||◌
        (ap (λ (b : Bool). b && last_says f false (history c)) (first-high k deck n pos first (deck_names l) c.owner (omega arith) (targets first c.line) a.0))
        (rule-first-high deck n pos cs a.1 h.1)

    -- the rule over the second's cards, raised
    rule-second : (deck n : ℕ) (cs : List Card) → Each (Acting m) cs → Each (SoundCard second) cs
        → yanked_by (map (yank_of (first ++ second)) (map (raise_card k) cs)) wanted (raise_deck_number k deck) (k + n) ≡ yanked_by (map (yank_of second) cs) g deck n
    unfolding Acting
    rule-second deck n [] a h = refl
    rule-second deck n (c ∷ cs) a h =
        ap₂ ◌||◌
        (ap₂ ◌&&◌
        (ap (any (covers (raise_deck_number k deck) (k + n))) (targets-raise first second (apart l m s t none-shared) (deck_names m) c.owner c.line a.0) ∙ any-raise k deck n (targets second c.line))
        (says-raised k g wanted wanted-high false (history c) (positive second c h.0)))
        (rule-second deck n cs a.1 h.1)

    rule-second-low : (deck n : ℕ) → n ≤ k → (cs : List Card) → Each (Acting m) cs → yanked_by (map (yank_of (first ++ second)) (map (raise_card k) cs)) wanted deck n ≡ false
    unfolding Acting
    rule-second-low deck n le [] a = refl
    rule-second-low deck n le (c ∷ cs) a =
        ap₂ ◌||◌
        (ap (λ (b : Bool). b && last_says wanted false (history (raise_card k c)))
        (ap (any (covers deck n)) (targets-raise first second (apart l m s t none-shared) (deck_names m) c.owner c.line a.0) ∙ raise-low k deck n le second (deck_names m) c.owner (targets second c.line) a.0))
        (rule-second-low deck n le cs a.1)

    rule-both : (deck n : ℕ) → yanked_by (yank_list (merge l m)) wanted deck n
        ≡ (yanked_by (map (yank_of (first ++ second)) l.yanks) wanted deck n || yanked_by (map (yank_of (first ++ second)) (map (raise_card k) m.yanks)) wanted deck n)
    rule-both deck n =
        ap (λ (ys : List Yank). yanked_by ys wanted deck n) (map-append (yank_of (first ++ second)) l.yanks (map (raise_card k) m.yanks))
        ∙ any_append _ (map (yank_of (first ++ second)) l.yanks) (map (yank_of (first ++ second)) (map (raise_card k) m.yanks))

    pub rule-low : (deck n : ℕ) → n ≤ k → yanked_by (yank_list (merge l m)) wanted deck n ≡ yanked_by (yank_list l) f deck n
    rule-low deck n le =
        rule-both deck n
        ∙ ap₂ ◌||◌ (rule-first deck n l.yanks (sound-stable l s second) s.yanks) (rule-second-low deck n le m.yanks (acting m t))
        ∙ or-false (yanked_by (yank_list l) f deck n)

    pub rule-high : (deck n : ℕ) → 0 < n → yanked_by (yank_list (merge l m)) wanted (raise_deck_number k deck) (k + n) ≡ yanked_by (yank_list m) g deck n
    rule-high deck n pos =
        rule-both (raise_deck_number k deck) (k + n)
        ∙ ap₂ ◌||◌
        (rule-first (raise_deck_number k deck) (k + n) l.yanks (sound-stable l s second) s.yanks ∙ rule-first-high (raise_deck_number k deck) n pos l.yanks (acting l s) s.yanks)
        (rule-second deck n m.yanks (acting m t) t.yanks)

    -- a fact of every number is one of the first's and one of the second's, raised
    pub each_number : (P : ℕ → Type 0) → ((n : ℕ) → n ≤ k → P n) → ((n : ℕ) → 0 < n → P (k + n)) → (n : ℕ) → P n
    each_number P low high n = go (dec_le n k)
      where
        go : Dec (n ≤ k) → P n
        go (yes a) = low n a
        go (no a) = let j : ℕ = n - k in let e : k + j ≡ n = omega arith in subst P e (high j (omega arith))

  abbrev both-flags : ℕ → Bool
  both-flags = wanted (flags l) (flags m)

  both-solve : Solves (yank_list (merge l m)) both-flags
  both-solve =
      each_number (flags l) (flags m) (λ n. both-flags n ≡ yanked_by (yank_list (merge l m)) both-flags 0 n)
      (λ n le. wanted-low (flags l) (flags m) n le ∙ flags-solve l s n ∙ sym (rule-low (flags l) (flags m) 0 n le))
      (λ n pos. wanted-high (flags l) (flags m) n pos ∙ flags-solve m t n ∙ sym (rule-high (flags l) (flags m) 0 n pos))

  module _ (limits : T (within_limits (merge l m))) where
    flags-are : flags (merge l m) ≡ both-flags
    flags-are = flags-only (merge l m) (sound-both l m s t none-shared limits) both-flags both-solve

    first-is : (deck n : ℕ) → n ≤ k → yanked (merge l m) deck n ≡ yanked l deck n
    first-is deck n le =
        yanked-rule (merge l m) deck n ∙ ap (λ (f : ℕ → Bool). yanked_by (yank_list (merge l m)) f deck n) flags-are ∙ rule-low (flags l) (flags m) deck n le ∙ sym (yanked-rule l deck n)

    second_is : (deck n : ℕ) → 0 < n → yanked (merge l m) (raise_deck_number k deck) (k + n) ≡ yanked m deck n
    second_is deck n pos =
        yanked-rule (merge l m) (raise_deck_number k deck) (k + n)
        ∙ ap (λ (f : ℕ → Bool). yanked_by (yank_list (merge l m)) f (raise_deck_number k deck) (k + n)) flags-are ∙ rule-high (flags l) (flags m) deck n pos ∙ sym (yanked-rule m deck n)

pub yanked-first : YankedFirst
yanked-first l m g = first-is l m g.first g.second g.apart g.limits

pub yanked-raised : (l m : Library) → Mergeable l m → (deck n : ℕ) → 0 < n
    → yanked (merge l m) (raise_deck_number (length l.directory) deck) (length l.directory + n) ≡ yanked m deck n
yanked-raised l m g = second_is l m g.first g.second g.apart g.limits

-- neither 0 nor the last number of a directory is yanked anywhere
none-act : (l : Library) (deck n : ℕ) → (0 < n → length l.directory ≤ n) → (cs : List Card) → Each (Acting l) cs → Each (SoundCard l.directory) cs
    → yanked_by (map (yank_of l.directory) cs) (flags l) deck n ≡ false
unfolding Acting
none-act l deck n out [] a h = refl
none-act l deck n out (c ∷ cs) a h =
    let le : c.owner ≤ length l.directory = (card-numbers l.directory c h.0).0.1 in
    ap₂ ◌||◌
    (ap (λ (b : Bool). b && last_says (flags l) false (history c))
    (none-covers deck n l.directory (deck_names l) c.owner (λ p. let o : length l.directory ≤ n = out p in omega arith) (targets l.directory c.line) a.0))
    (none-act l deck n out cs a.1 h.1)

yanked-free : (l : Library) → Sound l → (deck n : ℕ) → (0 < n → length l.directory ≤ n) → yanked l deck n ≡ false
yanked-free l s deck n out = yanked-rule l deck n ∙ none-act l deck n out l.yanks (acting l s) s.yanks

pub yanked-second : YankedSecond
yanked-second l m g deck n = go (dec_le 1 n)
  where
    none-zero : yanked (merge l m) (raise_deck_number (length l.directory) deck) (length l.directory + 0) ≡ yanked m deck 0
    none-zero =
        let e : length l.directory + 0 ≡ length l.directory = omega arith in
        ap (yanked (merge l m) (raise_deck_number (length l.directory) deck)) e
        ∙ yanked-first l m g (raise_deck_number (length l.directory) deck) (length l.directory) (omega arith)
        ∙ yanked-free l g.first (raise_deck_number (length l.directory) deck) (length l.directory) (λ p. omega arith)
        ∙ sym (yanked-free m g.second deck 0 (λ p. absurd (omega arith)))

    go : Dec (1 ≤ n) → yanked (merge l m) (raise_deck_number (length l.directory) deck) (length l.directory + n) ≡ yanked m deck n
    go (yes a) = yanked-raised l m g deck n (omega arith)
    go (no a) =
        let z : 0 ≡ n = omega (arith, a) in
        subst (λ (i : ℕ). yanked (merge l m) (raise_deck_number (length l.directory) deck) (length l.directory + i) ≡ yanked m deck i) z none-zero
