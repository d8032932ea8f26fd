-- Of a run that wrote a library the check accepted the image, and the stream was not refused.
use Prim.Native.Nat.{ℕ}
use native.Mathlib.Omega.{arith}
use mathlib.Core.Path.{◌≡◌, refl, ap, ◌∙◌}
use mathlib.Core.List.{List}
use Rattle.library.specs.Library.{Library}
use Rattle.library.specs.Check.{Checking, good, bad, check}
use Rattle.library.specs.declared.Fault.{Fault}
use Rattle.run_meaning.specs.Run.{Updated, updated, not_updated, update, new_library, bad_library, bad_stream, from_updated, run_checked, running}
use Rattle.run_meaning.specs.declared.Why.{Why}

new_is : (a b : Library) → new_library a ≡ new_library b → a ≡ b
new_is a b e = cc

bad-new : (f : Fault) (p : ℕ) (l : Library) → bad_library f p ≡ new_library l → ⊥
bad-new f p l e = let z : ◌≡◌ {A = ℕ} 0 1 = cc in omega arith

stream-new : (w : Why) (n : ℕ) (l : Library) → bad_stream w n ≡ new_library l → ⊥
stream-new w n l e = let z : ◌≡◌ {A = ℕ} 0 1 = cc in omega arith

abbrev pub RanFrom : List ℕ → List ℕ → ℕ → Library → Type 0
RanFrom image x room l = (old : Library) × (check image ≡ good old) × (update old x room ≡ updated l)

pub run-from : (image x : List ℕ) (room : ℕ) (l : Library) → running image x room ≡ new_library l → RanFrom image x room l
unfolding running
run-from image x room l e = accepted (check image) refl e
  where
    gave : (old : Library) (u : Updated) → check image ≡ good old → update old x room ≡ u → from_updated u ≡ new_library l → RanFrom image x room l
    gave old (updated m) q r f = (old, q, r ∙ ap updated (new_is m l f))
    gave old (not_updated w n) q r f = absurd (stream-new w n l f)

    accepted : (c : Checking) → check image ≡ c → run_checked c x room ≡ new_library l → RanFrom image x room l
    accepted (good old) q f = gave old (update old x room) q refl f
    accepted (bad k p) q f = absurd (bad-new k p l f)

pub good-is : (image : List ℕ) (a b : Library) → check image ≡ good a → check image ≡ good b → a ≡ b
good-is image a b p q = cc
