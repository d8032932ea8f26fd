-- The first's rows come ahead of the second's; what both checks accept is merged.
use mathlib.Core.Path.{◌≡◌, refl, sym, ap, ◌∙◌}
use mathlib.Core.Bool.{true}
use Rattle.std.specs.Prelude.{Result, Ok, Err}
use Rattle.std.specs.Result.{MatchResult, IsErrAnd, is_ok}
use Rattle.std.proofs.lemmas.Result.{err_from_is_err_and}
use Rattle.library.specs.declared.Refusal.{Refusal}
use Rattle.library.proofs.ImageParts.{accepted-is, readable}
use Rattle.merge_meaning.specs.declared.MergeRefused.{MergeRefused}
use Rattle.merge_meaning.specs.declared.MergeRefused.TheVariants.{First, Second}
use Rattle.merge.proofs.MergeAnswer.{first-answer, second-answer, sound-answer}
use Rattle.merge.proofs.merge.Goals as goal

-- what a check answers whose refusal is named by its library
refused_by : (K : Refusal → MergeRefused) (r : Result (Unit {0}) Refusal) (x : MergeRefused)
    → MatchResult r (λ u. ◌≡◌ {A = Result (Unit {0}) MergeRefused} (Err x) (Ok u)) (λ e. IsErrAnd {T = Unit {0}} (Err x) (λ y. y ≡ K e)) → (k : Refusal) × (r ≡ Err k) × (x ≡ K k)
refused_by K (Ok u) x h = absurd cc
refused_by K (Err k) x h = (k, refl, h)

accepted_by : (r : Result (Unit {0}) Refusal) → true ≡ is_ok r → r ≡ Ok tt
accepted_by (Ok u) e = refl
accepted_by (Err k) e = absurd cc

pub returns-in_err-map_err : goal.returns-in_err-map_err
returns-in_err-map_err c =
    let a = c.args in
    let r = err_from_is_err_and c.from_residual.result c.from_residual.ensures.1 in
    let k = refused_by First c.check.result _ c.in_err-map_err.ensures.cases in
    let m = first-answer a.first.now a.second.now a.space.now k.0 (sym k.1 ∙ c.check.ensures) in
    record { answer = rw (r.1, r.2, k.2) m.answer; space = m.written }

pub returns-in_err-map_err-2 : goal.returns-in_err-map_err-2
returns-in_err-map_err-2 c =
    let a = c.args in
    let q = c.from_residual-in_err-map_err-2 in
    let r = err_from_is_err_and q.result q.ensures.1 in
    let k = refused_by Second c.check-2.result _ c.in_err-map_err-2.ensures.cases in
    let f = accepted_by c.check.result c.in_ok-map_err.ensures.variant in
    let m = second-answer a.first.now a.second.now a.space.now k.0 (sym f ∙ c.check.ensures) (sym k.1 ∙ c.check-2.ensures) in
    record { answer = rw (r.1, r.2, k.2) m.answer; space = m.written }

pub merge_sound-requires : goal.merge_sound-requires
merge_sound-requires c =
    let a = c.args in
    let f = accepted-is a.first.now (sym c.check.ensures ∙ accepted_by c.check.result c.in_ok-map_err.ensures.variant) in
    let g = accepted-is a.second.now (sym c.check-2.ensures ∙ accepted_by c.check-2.result c.in_ok-map_err-2.ensures.variant) in
    (readable a.first.now f.0 f.1, readable a.second.now g.0 g.1)

pub returns : goal.returns
returns c =
    let a = c.args in
    let f = accepted_by c.check.result c.in_ok-map_err.ensures.variant in
    let g = accepted_by c.check-2.result c.in_ok-map_err-2.ensures.variant in
    let m = sound-answer a.first.now a.second.now a.space.now (sym f ∙ c.check.ensures) (sym g ∙ c.check-2.ensures) _ _ c.merge_sound.ensures in
    record { answer = m.answer; space = m.written }
