-- What is yanked in a sound library is the one solution of the rule over its cards of YANK$$$.
use Prim.Native.Nat.{ℕ}
use mathlib.Core.Path.{◌≡◌, refl, sym, ◌∙◌, fun_ext}
use mathlib.Core.Bool.{Bool}
use mathlib.Core.List.{List, map}
use Rattle.words.specs.Base.{member}
use Rattle.library.specs.Library.{Library}
use Rattle.library.specs.Yanks.{Yank, yanks_of, yanked_by, Solves, settled, settled_yanks, yanked}
use Rattle.library.specs.Growth.{count}
use Rattle.library.specs.Sound.{Sound}
use Rattle.library.proofs.Rollback.{yank_of}
use Rattle.library.proofs.YankedUnique.{yanked-solves, yanked-unique}

abbrev pub yank_list : Library → List Yank
yank_list l = map (yank_of l.directory) l.yanks

-- what is yanked in YANK$$$
abbrev pub flags : Library → ℕ → Bool
flags l n = member n (settled (yank_list l) (count l) (count l))

pub yanked-rule : (l : Library) (deck n : ℕ) → yanked l deck n ≡ yanked_by (yank_list l) (flags l) deck n
unfolding yanked settled_yanks yanks_of
yanked-rule l deck n = refl

pub flags-solve : (l : Library) → Sound l → Solves (yank_list l) (flags l)
unfolding settled_yanks yanks_of
flags-solve l s = yanked-solves l s

pub flags-only : (l : Library) → Sound l → (f : ℕ → Bool) → Solves (yank_list l) f → flags l ≡ f
unfolding settled_yanks yanks_of
flags-only l s f h = fun_ext (λ n. sym (yanked-unique l s f h n))

pub flags-yanked : (l : Library) → Sound l → flags l ≡ yanked l 0
flags-yanked l s = fun_ext (λ n. flags-solve l s n ∙ sym (yanked-rule l 0 n))
