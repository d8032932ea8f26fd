-- What is yanked changes only with the cards of YANK$$$, and the unit's own number is never yanked.
use Prim.Native.Nat.{ℕ, ◌≤◌}
use native.Mathlib.Omega.{arith}
use mathlib.Core.Path.{◌≡◌, refl, sym, ap, ap₂, ◌∙◌, fun_ext}
use mathlib.Core.Bool.{Bool, false, ◌&&◌, ◌||◌}
use mathlib.Core.List.{List, [], ◌∷◌, ◌++◌, map}
use lib.ListN.{length}
use Rattle.words.proofs.TestParts.{bool_iff}
use Rattle.words.specs.Base.{any}
use Rattle.library.specs.Each.{Each}
use Rattle.library.specs.Library.{Card, Deck, Library, history}
use Rattle.library.specs.Yanks.{Yank, covers, last_says, targets, yanked_by, yanks_of, settled_yanks, yanked}
use Rattle.library.specs.Settled.{NamesLower}
use Rattle.library.specs.Growth.{count}
use Rattle.library.specs.Sound.{SoundCard, Sound}
use Rattle.library.proofs.Rollback.{yank_of}
use Rattle.library.proofs.YankTargets.{card-numbers, sound-stable, sound-lower}
use Rattle.library.proofs.SettledFlags.{yank_list, flags, yanked-rule, flags-solve, flags-only}
use Rattle.run_meaning.specs.Step.{unit_number, with_decks, with_entry}

-- A CHANGE IN A DECK
pub flags-decks : (l : Library) (ds : List Deck) → yanked (with_decks l ds) ≡ yanked l
unfolding yanked settled_yanks yanks_of
flags-decks l ds = refl

-- A NEW NAME
pub stable-yanks : (directory more : List ℕ) (cs : List Card) → Each (λ c. targets more c.line ≡ targets directory c.line) cs → map (yank_of more) cs ≡ map (yank_of directory) cs
stable-yanks directory more [] h = refl
stable-yanks directory more (c ∷ cs) h = λ i. record { acts = h.0 i; bytes = history c } ∷ stable-yanks directory more cs h.1 i

pub flags-entry : (l : Library) (ds : List Deck) (w : ℕ) → Sound l → Sound (with_entry (with_decks l ds) w) → yanked (with_entry (with_decks l ds) w) 0 ≡ yanked l 0
flags-entry l ds w s t = fun_ext same
  where
    m : Library
    m = with_entry (with_decks l ds) w

    cards : yank_list m ≡ yank_list l
    cards = stable-yanks l.directory (l.directory ++ (w ∷ [])) l.yanks (sound-stable l s (w ∷ []))

    set : flags m ≡ flags l
    set = flags-only m t (flags l) (λ n. flags-solve l s n ∙ sym (ap (λ (ys : List Yank). yanked_by ys (flags l) 0 n) cards))

    same : (n : ℕ) → yanked m 0 n ≡ yanked l 0 n
    same n = yanked-rule m 0 n ∙ ap₂ (λ (ys : List Yank) (f : ℕ → Bool). yanked_by ys f 0 n) cards set ∙ sym (yanked-rule l 0 n)

-- THE UNIT'S OWN NUMBER: whatever is named is lower than a card's owner
none-yanked : (f : ℕ → Bool) (n : ℕ) (ys : List Yank) → Each (λ y. any (covers 0 n) y.acts ≡ false) ys → yanked_by ys f 0 n ≡ false
none-yanked f n [] h = refl
none-yanked f n (y ∷ ys) h = ap₂ (λ (a b : Bool). (a && last_says f false y.bytes) || b) h.0 (none-yanked f n ys h.1)

above-named : (directory : List ℕ) (n : ℕ) → length directory ≤ n → (cs : List Card) → Each (NamesLower (length directory)) (map (yank_of directory) cs) → Each (SoundCard directory) cs
    → Each (λ y. any (covers 0 n) y.acts ≡ false) (map (yank_of directory) cs)
above-named directory n le [] h s = tt
above-named directory n le (c ∷ cs) h s = (
  bool_iff (any (covers 0 n) (targets directory c.line)) false
      (λ t. let q = h.0 n t in let o = card-numbers directory c s.0 in absurd (omega (arith, q.2.0, o.0.1))) (λ t. absurd t),
  above-named directory n le cs h.1 s.1,
)

-- no number above those of all cards of YANK$$$ is
pub above-free : (l : Library) → Sound l → (n : ℕ) → length l.directory ≤ n → yanked l 0 n ≡ false
above-free l s n le = yanked-rule l 0 n ∙ none-yanked (flags l) n (yank_list l) (above-named l.directory n le l.yanks (sound-lower l s) s.yanks)

pub unit-free : (l : Library) → Sound l → yanked l 0 (unit_number l) ≡ false
unit-free l s = above-free l s (count l) (omega arith)
