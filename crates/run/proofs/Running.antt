-- A run from the check to the answer: taken up, its lines obeyed, written out.
use Rattle.std.specs.Prelude.{if◌then◌else◌, Result, Ok, Err}
use Prim.Native.Nat.{ℕ, ◌≤◌, ◌<◌}
use native.Mathlib.Omega.{arith}
use mathlib.Core.Path.{◌≡◌, refl, sym, ap, ap₂, ◌∙◌, subst}
use mathlib.Core.Bool.{Bool}
use mathlib.Core.List.{List}
use lib.ListN.{length}
use Rattle.words_lines.specs.Directive.{lines}
use Rattle.library.specs.Yanks.{yanked}
use Rattle.library.specs.Check.{Checking, check, checked}
use Rattle.library.specs.declared.Refusal.{Refusal}
use Rattle.run_meaning.specs.Step.{start}
use Rattle.run_meaning.specs.Run.{Steps, ended, stopped, steps, not_updated, fitted, update, from_updated, run_checked, running, ran, run_into}
use Rattle.run.specs.Desk.{Sane}
use Rattle.run.specs.Resettled.{Resettled, Arrays}
use Rattle.run.specs.Streamed.{in_arrays, EndedIn, ObeysStream}
use Rattle.run.specs.Written.{after_lines, Answers, Finishes, Begins, RunsFrom, RunsLines, RunsStream}
use Rattle.library.proofs.ImageParts.{accepted-is, rejected-is}
use Rattle.run.specs.Loaded.{Loads}
use Rattle.run.specs.declared.desk.Desk.{Desk}
use Rattle.run_meaning.specs.declared.RunRefused.{RunRefused}
use Rattle.run_meaning.specs.declared.RunRefused.TheVariants.{Library as OfLibrary, Stream as OfStream}
use Rattle.run_meaning.specs.declared.Why.TheVariants.{Stream}
use Rattle.run_meaning.proofs.FlatFind.{ltb_yes, ltb_no}

pub sane-again : (w v : List ℕ) (d : Desk) → length v ≡ length w → Sane w d → Sane v d
sane-again w v d e s =
    record {
      ordered = (s.ordered.0, omega (arith, e, s.ordered.1));
      room = e ∙ s.room;
      entries = s.entries;
      decks = s.decks;
      cards = s.cards;
      next = s.next;
      yanks = s.yanks;
      low = s.low;
    }

-- TAKEN UP, and settled
pub begun-held : (old w dir names decks : List ℕ) (d : Desk) (v flags : List ℕ) → Loads old w dir names decks d → Resettled w dir d v flags
    → Begins old (in_arrays v dir names decks flags) d
begun-held old w dir names decks d v flags load settle l ok = settle (yanked l 0) names decks (start l) (load l ok)

-- THE LINES, and what follows them
pub from-ended : (a : Arrays) (d : Desk) (bytes : List ℕ) (b : Arrays) (e : Desk) (space new : List ℕ) (r : Result ℕ RunRefused) → ObeysStream a d bytes b (Ok e)
    → Finishes b.words b.dir b.names e space new r → RunsFrom a d bytes space new r
from-ended a d bytes b e space new r obeys fin s h = go (steps s 1 (lines bytes)) (obeys s h)
  where
    go : (x : Steps) → EndedIn b (Ok e) x → Answers (after_lines (length space) x) space new r
    go (ended t) held = fin b.decks b.flags t held
    go (stopped z m) held = absurd held

pub from-stopped : (a : Arrays) (d : Desk) (bytes : List ℕ) (b : Arrays) (x : RunRefused) (space : List ℕ) → ObeysStream a d bytes b (Err x) → RunsFrom a d bytes space space (Err x)
from-stopped a d bytes b x space obeys s h = go (steps s 1 (lines bytes)) (obeys s h)
  where
    go : (t : Steps) → EndedIn b (Err x) t → Answers (after_lines (length space) t) space space (Err x)
    go (ended t) e = absurd e
    go (stopped z m) e = record { answer = ap Err e; written = refl }

pub lines-run : (old : List ℕ) (a : Arrays) (d : Desk) (bytes space new : List ℕ) (r : Result ℕ RunRefused) → Begins old a d → RunsFrom a d bytes space new r → RunsLines old bytes space new r
lines-run old a d bytes space new r b f l ok = f (start l) (b l ok)

-- 19
pub stream-over : (old bytes space : List ℕ) → 262144 < length bytes → RunsStream old bytes space space (Err (OfStream Stream 0))
unfolding update
stream-over old bytes space lt l ok =
    let u : update l bytes (length space) ≡ not_updated Stream 0 =
    ap (λ (b : Bool). if b then not_updated Stream 0 else fitted (length space) (steps (start l) 1 (lines bytes))) (ltb_yes 262144 (length bytes) lt) in
    record { answer = ap (λ x. ran (from_updated x)) (sym u); written = ap (λ x. run_into (from_updated x) space) (sym u) }

pub stream-within : (old bytes space new : List ℕ) (r : Result ℕ RunRefused) → length bytes ≤ 262144 → RunsLines old bytes space new r → RunsStream old bytes space new r
unfolding update
stream-within old bytes space new r le h l ok =
    let u : update l bytes (length space) ≡ fitted (length space) (steps (start l) 1 (lines bytes)) =
    ap (λ (b : Bool). if b then not_updated Stream 0 else fitted (length space) (steps (start l) 1 (lines bytes))) (ltb_no 262144 (length bytes) le) in
    subst (λ x. Answers (from_updated x) space new r) (sym u) (h l ok)

-- THE CHECK ahead of all
module _ (old : List ℕ) where
  module _ (bytes space : List ℕ) where
    pub run-refused : (f : Refusal) → checked (check old) ≡ Err f → Answers (running old bytes (length space)) space space (Err (OfLibrary f))
    unfolding running
    run-refused f e =
        subst (λ (x : Checking). Answers (run_checked x bytes (length space)) space space (Err (OfLibrary f))) (sym (rejected-is old f e)) (record { answer = refl; written = refl })

    pub run-accepted : (new : List ℕ) (r : Result ℕ RunRefused) → checked (check old) ≡ Ok tt → RunsStream old bytes space new r → Answers (running old bytes (length space)) space new r
    unfolding running
    run-accepted new r e h =
        let g = accepted-is old e in
        subst (λ (x : Checking). Answers (run_checked x bytes (length space)) space new r) (sym g.1) (h g.0 g.1)
