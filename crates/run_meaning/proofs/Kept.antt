-- R4 and R5: an accepted run keeps the library sound, adds the cards of its lines and drops none.
use Rattle.std.specs.Prelude.{if◌then◌else◌}
use Prim.Native.Nat.{ℕ, ◌+◌, ◌≤◌}
use mathlib.Core.Path.{◌≡◌, refl, sym, ap, ◌∙◌, subst}
use mathlib.Core.Bool.{Bool, true, false, not}
use mathlib.Core.List.{List, []}
use lib.Dec.{T, leb→le, ltb, nltb→le}
use lib.ListN.{length}
use Rattle.words_lines.specs.Directive.{lines}
use Rattle.library.specs.Library.{Library, stream}
use Rattle.library.specs.Image.{limit_tests, within_limits, encode}
use Rattle.library.specs.Sound.{Sound}
use Rattle.library.proofs.EachTest.{all_of-each}
use Rattle.library.proofs.CheckEncode.{check-encode}
use Rattle.library.proofs.CheckSound.{check_sound}
use Rattle.library.proofs.EncodeCheck.{encode-check}
use Rattle.library.proofs.GrowthSteps.{growth-refl}
use Rattle.library.proofs.GrownStream.{growth-stream}
use Rattle.run_meaning.specs.Step.{State, start}
use Rattle.run_meaning.specs.Run.{Steps, ended, stopped, steps, updated, not_updated, fitted, update}
use Rattle.run_meaning.specs.declared.Why.TheVariants.{Stream, Space}
use Rattle.run_meaning.specs.Units.{names_of}
use Rattle.run_meaning.specs.Kept.{cards_added, UpdateKept, R4, R5, RunIdle}
use Rattle.run_meaning.proofs.HoldsThrough.{Ended, ended_is, steps-ended}
use Rattle.run_meaning.proofs.UpdateGrowth.{updated-is, no-update, EndsIn, update-ends, update-holds, update-growth, each_line}
use Rattle.run_meaning.specs.Safe.{Safe}
use Rattle.run_meaning.proofs.StepSound.{step-safe, update-sound}
use Rattle.run_meaning.proofs.CardsAdded.{steps-cards}
use Rattle.run_meaning.proofs.NoUnits.{steps-idle}
use Rattle.run_meaning.proofs.AcceptedRun.{RanFrom, run-from, good-is}

-- SOUND LIBRARIES
start-safe : (old : Library) → Sound old → Safe (start old)
start-safe old s = record { sound = s; place = tt; set = λ u. absurd u }

-- the library is sound wherever a run ends
ended-map : (P Q : State → Type 0) → ((t : State) → P t → Q t) → (r : Steps) → Ended P r → Ended Q r
ended-map P Q f (ended t) p = f t p
ended-map P Q f (stopped w n) p = tt

pub steps-sound : (old : Library) → Sound old → (n : ℕ) (ls : List (List ℕ)) → Ended (λ s. Sound s.lib) (steps (start old) n ls)
steps-sound old s n ls =
    ended-map Safe (λ t. Sound t.lib) (λ t h. h.sound) (steps (start old) n ls)
    (steps-ended (λ ns. Safe) (λ l. Unit {0}) (λ l. []) (λ ns t l q k. step-safe t l k) [] (start old) n ls (each_line ls) (start-safe old s))

pub sound-short : (l : Library) → Sound l → length (encode l) ≤ 65536
unfolding within_limits
sound-short l s = leb→le (length (encode l)) 65536 (all_of-each (limit_tests l) s.limits).1.1.1.1.0

-- a library that was accepted has room
update-fits : (old : Library) (x : List ℕ) (room : ℕ) (new : Library) → update old x room ≡ updated new → length (encode new) ≤ room
unfolding update
update-fits old x room new e = size (ltb 262144 (length x)) e
  where
    fits : (s : State) (c : Bool) → (T (not c) → length (encode s.lib) ≤ room) → (if c then not_updated Space 0 else updated s.lib) ≡ updated new → length (encode new) ≤ room
    fits s true g f = absurd (no-update Space 0 new f)
    fits s false g f = subst (λ (l : Library). length (encode l) ≤ room) (updated-is s.lib new f) (g tt)

    end : (r : Steps) → fitted room r ≡ updated new → length (encode new) ≤ room
    end (ended s) f = fits s (ltb room (length (encode s.lib))) (nltb→le room (length (encode s.lib))) f
    end (stopped w n) f = absurd (no-update w n new f)

    size : (c : Bool) → (if c then not_updated Stream 0 else fitted room (steps (start old) 1 (lines x))) ≡ updated new → length (encode new) ≤ room
    size true f = absurd (no-update Stream 0 new f)
    size false f = end (steps (start old) 1 (lines x)) f

pub update-kept : UpdateKept
update-kept old x room new s e = record {
  cards = update-holds (λ l. length (stream l) ≡ length (stream old) + cards_added (lines x)) room old x new e
      (steps-cards (start old) 1 (lines x) (start-safe old s) (length (stream old)) refl);
  order = growth-stream old (names_of (lines x)) new (update-growth old [] room old x new (growth-refl old) e);
  growth = update-growth old [] room old x new (growth-refl old) e;
  idle = λ t. let r : EndsIn old x new = update-ends room old x new e in
      sym r.2 ∙ ap (λ (q : State). q.lib) (ended_is (λ q. q ≡ start old) (steps (start old) 1 (lines x)) r.0 r.1 (steps-idle old 1 (lines x) t));
}

-- IMAGES
pub run-passes : R4
run-passes image x room new e =
    let r : RanFrom image x room new = run-from image x room new e in
    let s : Sound new = update-sound r.0 x room new (check_sound image r.0 r.1) r.2 in
    record { sound = s; accepted = encode-check new s; short = sound-short new s; fits = update-fits r.0 x room new r.2 }

pub run-keeps : R5
run-keeps image x room old new c e =
    let r : RanFrom image x room new = run-from image x room new e in
    let u : update old x room ≡ updated new = subst (λ (l : Library). update l x room ≡ updated new) (good-is image r.0 old r.1 c) r.2 in
    update-kept old x room new (check_sound image old c) u

pub run-idle : RunIdle
run-idle image x room new t e =
    let r : RanFrom image x room new = run-from image x room new e in
    ap encode ((run-keeps image x room r.0 new r.1 e).idle t) ∙ check-encode image r.0 r.1
