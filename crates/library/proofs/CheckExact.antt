-- The check accepts exactly the images of sound libraries, and a sound library has an image of its own.
use mathlib.Core.Path.{◌≡◌, sym, ap, ◌∙◌}
use Rattle.library.specs.Check.{good, check}
use Rattle.library.specs.Exact.{CheckExact, EncodeOnce}
use Rattle.library.proofs.CheckEncode.{check-encode}
use Rattle.library.proofs.CheckSound.{check_sound}
use Rattle.library.proofs.EncodeCheck.{encode-check}

pub check-exact : CheckExact
check-exact ws l = (λ e. (check_sound ws l e, check-encode ws l e), λ h. ap check (sym h.1) ∙ encode-check l h.0)

pub encode-once : EncodeOnce
encode-once l m s t e = let a : good l ≡ good m = sym (encode-check l s) ∙ ap check e ∙ encode-check m t in cc
