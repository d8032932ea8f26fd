-- What is left of a stream from a line on goes as the whole stream goes from the start.
use Rattle.std.specs.Prelude.{Result, Ok, Err}
use Rattle.std.specs.Result.{MatchResult, IsErrAnd, is_ok}
use Prim.Native.Nat.{ℕ, suc, ◌+◌, ◌≤◌, ◌<◌}
use native.Mathlib.Omega.{arith}
use mathlib.Core.Path.{◌≡◌, refl, sym, ap, ap₂, ◌∙◌, subst}
use mathlib.Core.Bool.{true, false}
use mathlib.Core.List.{List, ◌∷◌}
use lib.ListN.{length, drop}
use Rattle.words_lines.specs.Directive.{lines}
use Rattle.words_lines.specs.FirstLine.{line_of, line_after}
use Rattle.words_lines.proofs.StreamLines.{lines_none, lines_more, line-within, after_line_lem, line-after-is}
use Rattle.run_meaning.specs.Step.{State, Step, went, refused, step}
use Rattle.run_meaning.specs.Run.{Steps, ended, stopped, onward, steps}
use Rattle.run.specs.Desk.{Sane}
use Rattle.run.specs.Resettled.{Arrays, HeldIn, AnsweredIn, ObeysLine}
use Rattle.run.specs.Streamed.{EndedIn, ObeysStream}
use Rattle.run.specs.declared.desk.Desk.{Desk}
use Rattle.run_meaning.specs.declared.RunRefused.{RunRefused}
use Rattle.run_meaning.specs.declared.RunRefused.TheVariants.{Stream as OfStream}
use Rattle.run_meaning.specs.declared.Why.{Why}

-- the line at `at` is the n-th
pub record Reached (bytes : List ℕ) (b : Arrays) (e : Desk) (n at : ℕ) (s : State) : Type 0 where
  pub now : State
  pub held : HeldIn b e now
  pub same : steps s 1 (lines bytes) ≡ steps now n (lines (drop at bytes))

-- what keeps the loop safe
pub record Going (w dir names decks flags : List ℕ) (d : Desk) (k m j at n long : ℕ) : Type 0 where
  pub sane : Sane w d
  pub directory : length dir ≡ 1024
  pub listed : length names ≡ k
  pub numbers : length decks ≡ m
  pub flagged : length flags ≡ j
  pub within : at ≤ long + 1
  pub number : n ≤ at + 1

abbrev pub Goes : Arrays → Desk → List ℕ → Arrays → Desk → ℕ → ℕ → Type 0
Goes a d bytes b e n at = (s : State) → HeldIn a d s → Reached bytes b e n at s

pub goes-start : (a : Arrays) (d : Desk) (bytes : List ℕ) → Goes a d bytes a d 1 0
goes-start a d bytes s h = record { now = s; held = h; same = refl }

-- the place after a line of a stream, and how far it is
pub next_place : (bytes : List ℕ) (at : ℕ) → at < length bytes → length bytes ≤ 262144 → (line : List ℕ) → line ≡ line_of (drop at bytes) → (next : ℕ) → next ≡ line_after at (length line)
    → (next ≡ at + length line + 1) × (next ≤ length bytes + 1)
next_place bytes at lt short line is next after =
    let q : next ≡ at + length line + 1 = after ∙ line-after-is at (length line) (omega arith) in
    let k : length line ≡ length (line_of (drop at bytes)) = ap length is in
    let e : at + length (line_of (drop at bytes)) ≤ length bytes = line-within bytes at (omega arith) in
    (q, omega arith)

-- what a line's step was, by what it is mapped to
pub mapped-ok : (r : Result Desk Why) (m : Result Desk RunRefused) (P : Why → Type 0) (e : Desk) → MatchResult r (λ x. m ≡ Ok x) P → is_ok m ≡ is_ok r → m ≡ Ok e → r ≡ Ok e
mapped-ok (Ok x) m P e h k q = cc
mapped-ok (Err y) m P e h k q = let z : true ≡ false = ap is_ok (sym q) ∙ k in absurd (cc)

pub mapped-err : (r : Result Desk Why) (m : Result Desk RunRefused) (n : ℕ) (P : Why → RunRefused → Type 0) → ((y : Why) (z : RunRefused) → P y z → z ≡ OfStream y n)
    → MatchResult r (λ x. m ≡ Ok x) (λ y. IsErrAnd m (P y)) → (z : RunRefused) → m ≡ Err z → (y : Why) × ((r ≡ Err y) × (z ≡ OfStream y n))
mapped-err (Ok x) m n P f h z q = absurd (cc)
mapped-err (Err y) (Ok x) n P f h z q = absurd (cc)
mapped-err (Err y) (Err w) n P f h z q = let e : w ≡ OfStream y n = f y w h in (y, (refl, cc))

-- what a step that was answered was
module _ (b : Arrays) (t : Step) where
  on-went : (e : Desk) → AnsweredIn b (Ok e) t → (u : State) × ((t ≡ went u) × HeldIn b e u)
  on-went e h = go t refl h
    where
      go : (x : Step) → t ≡ x → AnsweredIn b (Ok e) x → (u : State) × ((t ≡ went u) × HeldIn b e u)
      go (went u) q h = (u, (q, h))
      go (refused z) q h = absurd h

  off-refused : (y : Why) → AnsweredIn b (Err y) t → t ≡ refused y
  off-refused y h = go t refl h
    where
      go : (x : Step) → t ≡ x → AnsweredIn b (Err y) x → t ≡ refused y
      go (went u) q h = absurd h
      go (refused z) q h = q ∙ ap refused (sym h)

module _ (a : Arrays) (d : Desk) (bytes : List ℕ) (b : Arrays) (e : Desk) (n at : ℕ) (g : Goes a d bytes b e n at) where
  pub goes_end : length bytes ≤ at → ObeysStream a d bytes b (Ok e)
  goes_end le s h =
      let r : Reached bytes b e n at s = g s h in
      let q : steps s 1 (lines bytes) ≡ ended r.now = r.same ∙ ap (steps r.now n) (lines_none bytes at le) in
      subst (EndedIn b (Ok e)) (sym q) r.held

  module _ (line : List ℕ) (is : line ≡ line_of (drop at bytes)) (lt : at < length bytes) where
    first : (t : State) → steps t n (lines (drop at bytes)) ≡ onward (step t line) (λ u. steps u (suc n) (lines (drop (at + length line + 1) bytes))) n
    first t =
        ap (steps t n) (lines_more bytes at lt ∙ ap₂ (λ (x : List ℕ) (y : List ℕ). x ∷ lines y) (sym is) (after_line_lem bytes at ∙ ap (λ (x : List ℕ). drop (at + length x + 1) bytes) (sym is)))

    on-more : (c : Arrays) (f : Desk) → ObeysLine b e line c (Ok f) → Goes a d bytes c f (n + 1) (at + length line + 1)
    on-more c f o s h =
        let r : Reached bytes b e n at s = g s h in
        let u : _ = on-went c (step r.now line) f (o r.now r.held) in
        let rest : State → Steps = λ x. steps x (suc n) (lines (drop (at + length line + 1) bytes)) in
        record {
          now = u.0;
          held = u.1.1;
          same = r.same ∙ first r.now ∙ ap (λ (x : Step). onward x rest n) u.1.0 ∙ ap (λ (k : ℕ). steps u.0 k (lines (drop (at + length line + 1) bytes))) (omega arith);
        }

    pub goes-more : (c : Arrays) (f : Desk) (next : ℕ) → next ≡ at + length line + 1 → ObeysLine b e line c (Ok f) → Goes a d bytes c f (n + 1) next
    goes-more c f next q o = subst (Goes a d bytes c f (n + 1)) (sym q) (on-more c f o)

    pub goes-stop : (c : Arrays) (y : Why) → ObeysLine b e line c (Err y) → ObeysStream a d bytes c (Err (OfStream y n))
    goes-stop c y o s h =
        let r : Reached bytes b e n at s = g s h in
        let rest : State → Steps = λ x. steps x (suc n) (lines (drop (at + length line + 1) bytes)) in
        let q : steps s 1 (lines bytes) ≡ stopped y n = r.same ∙ first r.now ∙ ap (λ (x : Step). onward x rest n) (off-refused c (step r.now line) y (o r.now r.held)) in
        subst (EndedIn c (Err (OfStream y n))) (sym q) refl
