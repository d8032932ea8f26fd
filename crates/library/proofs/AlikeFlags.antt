-- Libraries that differ only in the text of inactive cards have the same numbers yanked.
use Prim.Native.Nat.{ℕ}
use mathlib.Core.Path.{◌≡◌, refl, sym, ap, ap₂, ◌∙◌, subst}
use mathlib.Core.Bool.{◌||◌, Bool, true, false, ◌&&◌}
use mathlib.Core.List.{List, [], ◌∷◌, map}
use lib.Dec.{T}
use Rattle.words.proofs.TestParts.{and-false}
use Rattle.words.specs.Base.{any}
use Rattle.library.specs.Library.{Byte, Card, Library, history}
use Rattle.library.specs.Yanks.{last_says, active, covers, targets, yanked_by, yanked}
use Rattle.library.specs.Sound.{Sound}
use Rattle.library.specs.Alike.{Pairwise, LikeCard, Alike}
use Rattle.library.proofs.Rollback.{yank_of}
use Rattle.library.proofs.SettledFlags.{yank_list, flags, yanked-rule, flags-solve, flags-only, flags-yanked}

history-like : (yk : ℕ → Bool) (c d : Card) → LikeCard yk c d → history d ≡ history c
history-like yk c d k = λ i. record { number = k.owner i; activating = true } ∷ k.later i

pub active-like : (yk : ℕ → Bool) (c d : Card) → LikeCard yk c d → active yk d ≡ active yk c
unfolding active
active-like yk c d k = ap (last_says yk false) (history-like yk c d k)

rule-like : (f : ℕ → Bool) (directory : List ℕ) (deck n : ℕ) (cs ds : List Card) → Pairwise (LikeCard f) cs ds
    → yanked_by (map (yank_of directory) ds) f deck n ≡ yanked_by (map (yank_of directory) cs) f deck n
unfolding active
rule-like f directory deck n [] [] h = refl
rule-like f directory deck n [] (d ∷ ds) h = absurd h
rule-like f directory deck n (c ∷ cs) [] h = absurd h
rule-like f directory deck n (c ∷ cs) (d ∷ ds) h =
    ap₂ ◌||◌ (ap (λ (bs : List Byte). acts d && last_says f false bs) (history-like f c d h.0) ∙ go (last_says f false (history c)) h.0.line)
    (rule-like f directory deck n cs ds h.1)
  where
    acts : Card → Bool
    acts x = any (covers deck n) (targets directory x.line)

    go : (b : Bool) → (T b → d.line ≡ c.line) → (acts d && b) ≡ (acts c && b)
    go true e = ap (λ (l : List ℕ). any (covers deck n) (targets directory l) && true) (e tt)
    go false e = and-false (acts d) ∙ sym (and-false (acts c))

module _ (l m : Library) (s : Sound l) (t : Sound m) (a : Alike l m) where
  rule-alike : (deck n : ℕ) → yanked_by (yank_list m) (flags l) deck n ≡ yanked_by (yank_list l) (flags l) deck n
  rule-alike deck n =
      ap (λ (d : List ℕ). yanked_by (map (yank_of d) m.yanks) (flags l) deck n) a.directory
      ∙ rule-like (flags l) l.directory deck n l.yanks m.yanks
      (subst (λ (f : ℕ → Bool). Pairwise (LikeCard f) l.yanks m.yanks) (sym (flags-yanked l s)) a.yanks)

  pub yanked-alike : (deck n : ℕ) → yanked m deck n ≡ yanked l deck n
  yanked-alike deck n =
      yanked-rule m deck n
      ∙ ap (λ (f : ℕ → Bool). yanked_by (yank_list m) f deck n) (flags-only m t (flags l) (λ k. flags-solve l s k ∙ sym (rule-alike 0 k)))
      ∙ rule-alike deck n
      ∙ sym (yanked-rule l deck n)
