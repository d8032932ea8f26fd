-- After sets are taken back each lower number is yanked where it was, and those sets are yanked everywhere.
-- where it was, and those sets are yanked everywhere; so old cards are as active as they were, and cards of those sets are inactive.
-- It goes over whatever a card of YANK$$$ acts on (Target, covers).
use Rattle.std.specs.Prelude.{if◌then◌else◌}
use Prim.Native.Nat.{ℕ, suc, ◌≤◌, ◌<◌}
use native.Mathlib.Omega.{arith}
use native.Mathlib.Decide.{dec_le}
use mathlib.Core.Path.{◌≡◌, refl, sym, ap, ap₂, ◌∙◌, fun_ext}
use mathlib.Core.Bool.{Bool, true, false, ◌&&◌, ◌||◌}
use mathlib.Core.List.{List, [], ◌∷◌, ◌++◌, map}
use lib.Dec.{T}
use Rattle.words.proofs.TestParts.{or-true, or-false, and-true, and-false}
use Rattle.words.specs.Base.{any, member}
use Rattle.library.specs.Each.{Each}
use Rattle.library.specs.Library.{Byte, Card, history}
use Rattle.library.specs.Yanks.{last_says, Target, covers, targets, Yank, yanked_by, Solves, settled}
use Rattle.library.specs.Settled.{NamesLower}
use Rattle.library.specs.Growth.{NewCard, KeptCard, GrownCards, no_cards, kept_card, added_card}
use Rattle.library.proofs.EachTest.{each_map}
use Rattle.library.proofs.AppendedLists.{any_append, map-append}
use Rattle.library.proofs.OneSolution.{says-agree, solves-unique, settled-solves}

-- HISTORIES
pub says-append : (f : ℕ → Bool) (so : Bool) (bs cs : List Byte) → last_says f so (bs ++ cs) ≡ last_says f (last_says f so bs) cs
says-append f so [] cs = refl
says-append f so (b ∷ bs) cs = says-append f (if f b.number then so else b.activating) bs cs

pub says-yanked : (f : ℕ → Bool) (so : Bool) (bs : List Byte) → Each (λ b. f b.number ≡ true) bs → last_says f so bs ≡ so
says-yanked f so [] h = refl
says-yanked f so (b ∷ bs) h = ap (λ (c : Bool). last_says f (if c then so else b.activating) bs) h.0 ∙ says-yanked f so bs h.1

history-kept : (lo hi : ℕ) (c d : Card) (k : KeptCard lo hi c d) → history d ≡ history c ++ k.extra
history-kept lo hi c d k = λ i. record { number = k.owner i; activating = true } ∷ k.later i

abbrev pub yank_of : List ℕ → Card → Yank
yank_of directory c = record { acts = targets directory c.line; bytes = history c }

-- f: the flags before; g: those after
module _ (lo top : ℕ) (f g : ℕ → Bool) (low : (n : ℕ) → n ≤ lo → g n ≡ f n) (mid : (n : ℕ) → lo < n → n ≤ top → g n ≡ true) where
  pub kept-says : (c d : Card) → KeptCard lo top c d → NewCard 0 lo c → last_says g false (history d) ≡ last_says f false (history c)
  kept-says c d k n =
      ap (last_says g false) (history-kept lo top c d k)
      ∙ says-append g false (history c) k.extra
      ∙ says-yanked g (last_says g false (history c)) k.extra (each_map _ _ (λ b r. mid b.number r.0 r.1) k.extra k.within)
      ∙ says-agree g f false (history c) (low c.owner n.0.1, each_map _ _ (λ b r. low b.number r.1) c.later n.1)

  pub new-says : (d : Card) → NewCard lo top d → last_says g false (history d) ≡ false
  new-says d n =
      says-yanked g false (history d)
      (mid d.owner n.0.0 n.0.1, each_map _ _ (λ b r. mid b.number (omega (arith, n.0.0, r.0)) r.1) d.later n.1)

  -- the rule over the cards that have grown is the rule over the old ones
  rule-grown : (directory more : List ℕ) (deck n : ℕ) {cs ds : List Card} → GrownCards lo top cs ds → Each (NewCard 0 lo) cs
      → Each (λ c. targets more c.line ≡ targets directory c.line) cs
      → yanked_by (map (yank_of more) ds) g deck n ≡ yanked_by (map (yank_of directory) cs) f deck n
  rule-grown directory more deck n no_cards h s = refl
  rule-grown directory more deck n (kept_card {c = c} {d = d} k r) h s =
      ap₂ ◌||◌
      (ap₂ ◌&&◌ (ap (λ (l : List ℕ). any (covers deck n) (targets more l)) k.line ∙ ap (any (covers deck n)) s.0) (kept-says c d k h.0))
      (rule-grown directory more deck n r h.1 s.1)
  rule-grown directory more deck n (added_card {d = d} w r) h s =
      ap₂ ◌||◌
      (ap (λ (b : Bool). any (covers deck n) (targets more d.line) && b) (new-says d w) ∙ and-false (any (covers deck n) (targets more d.line)))
      (rule-grown directory more deck n r h s)

-- THE YANKING SET: all that its cards act on, and that they are in force while it is not yanked
abbrev pub all_acts : List ℕ → List Card → List Target
all_acts directory [] = []
all_acts directory (c ∷ cs) = targets directory c.line ++ all_acts directory cs

abbrev pub OwnCard : ℕ → Card → Type 0
OwnCard n c = (c.owner ≡ n) × (c.later ≡ [])

own-says : (f : ℕ → Bool) (n : ℕ) → f n ≡ false → (c : Card) → OwnCard n c → last_says f false (history c) ≡ true
own-says f n e c h =
    let same : history c ≡ record { number = n; activating = true } ∷ [] = λ i. record { number = h.0 i; activating = true } ∷ h.1 i in
    ap (last_says f false) same ∙ ap (λ (b : Bool). if b then false else true) e

pub rule-own : (f : ℕ → Bool) (top : ℕ) → f top ≡ false → (directory : List ℕ) (deck n : ℕ) (cs : List Card) → Each (OwnCard top) cs
    → yanked_by (map (yank_of directory) cs) f deck n ≡ any (covers deck n) (all_acts directory cs)
rule-own f top e directory deck n [] h = refl
rule-own f top e directory deck n (c ∷ cs) h =
    ap₂ ◌||◌
    (ap (λ (b : Bool). any (covers deck n) (targets directory c.line) && b) (own-says f top e c h.0) ∙ and-true (any (covers deck n) (targets directory c.line)))
    (rule-own f top e directory deck n cs h.1)
    ∙ sym (any_append (covers deck n) (targets directory c.line) (all_acts directory cs))

-- nothing acts on the highest number or above it
rule-top : (f : ℕ → Bool) (directory : List ℕ) (top n : ℕ) → top ≤ n → (cs : List Card) → Each (λ c. c.owner ≤ top) cs
    → Each (NamesLower top) (map (yank_of directory) cs) → yanked_by (map (yank_of directory) cs) f 0 n ≡ false
rule-top f directory top n le [] o s = refl
rule-top f directory top n le (c ∷ cs) o s =
    ap₂ ◌||◌ (go (any (covers 0 n) (targets directory c.line)) (s.0 n)) (rule-top f directory top n le cs o.1 s.1)
  where
    go : (b : Bool) → (T b → (0 < n) × (n ≤ top) × Each (λ x. n < x.number) (history c)) → (b && last_says f false (history c)) ≡ false
    go true h = let r = h tt in absurd (omega (arith, r.2.0, o.0))
    go false h = refl

-- what the sets lo + 1 to top are taken back by
pub record TakesBack (lo top : ℕ) (acts : List Target) : Type 0 where
  pub low : (deck n : ℕ) → n ≤ lo → any (covers deck n) acts ≡ false
  pub mid : (deck n : ℕ) → lo < n → n ≤ top → any (covers deck n) acts ≡ true

-- THE LAW: cs is YANK$$$ as it was, ds as it grew, own what the yanking set added
pub record Rollback (lo top : ℕ) (directory more : List ℕ) (cs ds own : List Card) : Type 0 where
  pub grown : GrownCards lo top cs ds
  pub numbers : Each (NewCard 0 lo) cs
  pub stable : Each (λ c. targets more c.line ≡ targets directory c.line) cs
  pub lower : Each (NamesLower lo) (map (yank_of directory) cs)
  pub owners : Each (λ c. c.owner ≤ suc top) (ds ++ own)
  pub higher : Each (NamesLower (suc top)) (map (yank_of more) (ds ++ own))
  pub mine : Each (OwnCard (suc top)) own
  pub back : TakesBack lo top (all_acts more own)

module _ (lo top : ℕ) (directory more : List ℕ) (cs ds own : List Card) (r : Rollback lo top directory more cs ds own) where
  abbrev olds : List Yank
  olds = map (yank_of directory) cs

  abbrev news : List Yank
  news = map (yank_of more) (ds ++ own)

  abbrev before-flags : ℕ → Bool
  before-flags n = member n (settled olds lo lo)

  abbrev after-flags : ℕ → Bool
  after-flags n = member n (settled news (suc top) (suc top))

  -- what the flags are to be
  picked : (n : ℕ) → Dec (n ≤ lo) → Dec (n ≤ top) → Bool
  picked n (yes a) b = before-flags n
  picked n (no a) (yes b) = true
  picked n (no a) (no b) = false

  wanted : ℕ → Bool
  wanted n = picked n (dec_le n lo) (dec_le n top)

  wanted-low : (n : ℕ) → n ≤ lo → wanted n ≡ before-flags n
  unfolding wanted picked
  wanted-low n le = go (dec_le n lo) (dec_le n top)
    where
      go : (a : Dec (n ≤ lo)) (b : Dec (n ≤ top)) → picked n a b ≡ before-flags n
      go (yes a) b = refl
      go (no a) b = absurd (a le)

  wanted-mid : (n : ℕ) → lo < n → n ≤ top → wanted n ≡ true
  unfolding wanted picked
  wanted-mid n l h = go (dec_le n lo) (dec_le n top)
    where
      go : (a : Dec (n ≤ lo)) (b : Dec (n ≤ top)) → picked n a b ≡ true
      go (yes a) b = absurd (omega arith)
      go (no a) (yes b) = refl
      go (no a) (no b) = absurd (b h)

  wanted-high : (n : ℕ) → lo ≤ top → top < n → wanted n ≡ false
  unfolding wanted picked
  wanted-high n le h = go (dec_le n lo) (dec_le n top)
    where
      go : (a : Dec (n ≤ lo)) (b : Dec (n ≤ top)) → picked n a b ≡ false
      go (yes a) b = absurd (omega arith)
      go (no a) (yes b) = absurd (omega arith)
      go (no a) (no b) = refl

  module _ (le : lo ≤ top) where
    -- the rule under those flags, in any deck
    rule-news : (deck n : ℕ) → yanked_by news wanted deck n ≡ (yanked_by olds before-flags deck n || any (covers deck n) (all_acts more own))
    rule-news deck n =
        ap (λ (ys : List Yank). yanked_by ys wanted deck n) (map-append (yank_of more) ds own)
        ∙ any_append _ (map (yank_of more) ds) (map (yank_of more) own)
        ∙ ap₂ ◌||◌ (rule-grown lo top before-flags wanted wanted-low wanted-mid directory more deck n r.grown r.numbers r.stable)
        (rule-own wanted (suc top) (wanted-high (suc top) le (omega arith)) more deck n own r.mine)

    rule-low : (deck n : ℕ) → n ≤ lo → yanked_by news wanted deck n ≡ yanked_by olds before-flags deck n
    rule-low deck n h =
        rule-news deck n ∙ ap (λ (b : Bool). yanked_by olds before-flags deck n || b) (r.back.low deck n h) ∙ or-false (yanked_by olds before-flags deck n)

    rule-mid : (deck n : ℕ) → lo < n → n ≤ top → yanked_by news wanted deck n ≡ true
    rule-mid deck n a b =
        rule-news deck n ∙ ap (λ (c : Bool). yanked_by olds before-flags deck n || c) (r.back.mid deck n a b) ∙ or-true (yanked_by olds before-flags deck n)

    wanted-solves : Solves news wanted
    wanted-solves n = go (dec_le n lo) (dec_le n top)
      where
        go : Dec (n ≤ lo) → Dec (n ≤ top) → wanted n ≡ yanked_by news wanted 0 n
        go (yes a) b = wanted-low n a ∙ settled-solves olds lo r.lower n ∙ sym (rule-low 0 n a)
        go (no a) (yes b) = wanted-mid n (omega arith) b ∙ sym (rule-mid 0 n (omega arith) b)
        go (no a) (no b) = wanted-high n le (omega arith) ∙ sym (rule-top wanted more (suc top) n (omega arith) (ds ++ own) r.owners r.higher)

    flags-are : after-flags ≡ wanted
    flags-are = fun_ext (solves-unique news (suc top) r.higher after-flags wanted (settled-solves news (suc top) r.higher) wanted-solves)

    pub yanked-low : (deck n : ℕ) → n ≤ lo → yanked_by news after-flags deck n ≡ yanked_by olds before-flags deck n
    yanked-low deck n h = ap (λ (f : ℕ → Bool). yanked_by news f deck n) flags-are ∙ rule-low deck n h

    pub yanked-mid : (deck n : ℕ) → lo < n → n ≤ top → yanked_by news after-flags deck n ≡ true
    yanked-mid deck n a b = ap (λ (f : ℕ → Bool). yanked_by news f deck n) flags-are ∙ rule-mid deck n a b
