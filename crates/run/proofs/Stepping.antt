-- A step in code and the step of the definitions: the same limits, the same refusals, a state that is held.
use Rattle.run_meaning.specs.declared.Why.{Why}
use Rattle.std.specs.Prelude.{if◌then◌else◌, Result, Ok, Err}
use Prim.Native.Nat.{ℕ, ◌+◌, ◌-◌, ◌≤◌, ◌<◌}
use native.Mathlib.Omega.{arith}
use mathlib.Core.Path.{◌≡◌, refl, sym, ap, ◌∙◌, subst}
use mathlib.Core.Bool.{Bool, true, false, not}
use mathlib.Core.List.{List, ◌++◌}
use lib.Dec.{T, leb, leb→le, le→leb}
use lib.ListN.{length, take, drop, length-append, length-drop}
use borrow.Author.Tests.{le-leb, le-ltb}
use Rattle.words.specs.Base.{all, all_of}
use Rattle.words.proofs.TestParts.{T-true, bool_iff}
use Rattle.library.specs.Each.{Each}
use Rattle.library.specs.Library.{Card, Library, stream}
use Rattle.library.specs.Image.{cards_words, short_history, within_limits}
use Rattle.library.proofs.EachTest.{all_of-each, each-all_of}
use Rattle.library.proofs.LimitsByCount.{words, Small, within-small, small-within, cards-append}
use Rattle.run_meaning.specs.Step.{State, Step, went, refused, limited, step}
use Rattle.run_meaning.specs.Safe.{Safe}
use Rattle.library.specs.Counts.{count_tests, within_counts}
use Rattle.run_meaning.specs.Numbering.{number_after}
use Rattle.run.specs.GapWords.{Ordered}
use Rattle.run.specs.Work.{Work}
use Rattle.run.specs.Desk.{word_count, fit_tests, fitted, SaneAfter, Held, Answered}
use Rattle.run.specs.declared.gap.Gap.{Gap}
use Rattle.run.specs.declared.desk.Desk.{Desk}
use Rattle.run_meaning.specs.declared.Why.TheVariants.{Limit}
use Rattle.run_meaning.proofs.HoldsThrough.{Went}
use Rattle.run_meaning.proofs.StepSound.{step-safe}

-- 31 BY COUNTS
pub record Fitting (d : Desk) : Type 0 where
  pub ordered : d.gap.lo ≤ d.gap.hi
  pub entries : d.entries ≤ 1023
  pub decks : d.decks ≤ 254
  pub cards : d.cards ≤ 16383
  pub total : 3 + d.entries + d.decks + d.gap.lo + (65536 - d.gap.hi) ≤ 65536

fits-of : (d : Desk) → T (all_of (fit_tests d)) → Fitting d
unfolding within_counts
fits-of d t =
    let h : Each T (fit_tests d) = all_of-each (fit_tests d) t in
    let k : Each T (count_tests d.entries (d.decks + 1) d.cards (word_count d)) = all_of-each (count_tests d.entries (d.decks + 1) d.cards (word_count d)) h.1.0 in record {
      ordered = leb→le d.gap.lo d.gap.hi h.0;
      entries = leb→le d.entries 1023 k.0;
      decks = omega (arith, leb→le (d.decks + 1) 255 k.1.0);
      cards = leb→le d.cards 16383 k.1.1.0;
      total = leb→le (word_count d) 65536 k.1.1.1.0;
    }

of-fits : (d : Desk) → Fitting d → T (all_of (fit_tests d))
unfolding within_counts
of-fits d f =
    let k : T (all_of (count_tests d.entries (d.decks + 1) d.cards (word_count d))) = each-all_of (count_tests d.entries (d.decks + 1) d.cards (word_count d)) (
      le→leb d.entries 1023 f.entries,
      (
        le→leb (d.decks + 1) 255 (omega (arith, f.decks)),
        (le→leb d.cards 16383 f.cards, (le→leb (word_count d) 65536 f.total, tt)),
      ),
    ) in
    each-all_of (fit_tests d) (le→leb d.gap.lo d.gap.hi f.ordered, (k, tt))

pub fitted-yes : (d : Desk) → Fitting d → fitted d ≡ Ok d
fitted-yes d f = ap (λ (b : Bool). if b then Ok d else Err Limit) (T-true (all_of (fit_tests d)) (of-fits d f))

pub fitted-no : (d : Desk) → (Fitting d → ⊥) → fitted d ≡ Err Limit
fitted-no d f = ap (λ (b : Bool). if b then Ok d else Err Limit) (bool_iff (all_of (fit_tests d)) false (λ t. absurd (f (fits-of d t))) (λ t. absurd t))

-- the number of the next card
pub number-after-is : (n : ℕ) → n ≤ 262143 → number_after n ≡ n + 1
unfolding number_after
number-after-is n h = rw (le-ltb 262143 n h)

pub fitted-sane : (w : List ℕ) (d : Desk) → d.gap.hi ≤ length w → length w ≡ 65536 → d.next ≤ d.cards + 1 → d.yanks ≤ d.cards → d.low ≤ d.cards → SaneAfter w (fitted d)
fitted-sane w d hi room next yanks low = go (all_of (fit_tests d)) (fits-of d)
  where
    go : (b : Bool) → (T b → Fitting d) → SaneAfter w (if b then Ok d else Err Limit)
    go true f =
        let h : Fitting d = f tt in
        record { ordered = (h.ordered, hi); room = room; entries = h.entries; decks = h.decks; cards = h.cards; next = next; yanks = yanks; low = low }
    go false f = tt

-- THE WORDS AT WORK
pub work-words : (w : List ℕ) (g : Gap) (yk : ℕ → Bool) (cs1 cs2 : List Card) → Work w g yk cs1 cs2 → Ordered w g
    → length (cards_words yk (cs1 ++ cs2)) ≡ g.lo + (length w - g.hi)
work-words w g yk cs1 cs2 k o =
    let a : length (take g.lo w) ≡ length (cards_words yk cs1) = ap length k.parted.under in
    let b : length (drop g.hi w) ≡ length (cards_words yk cs2) = ap length k.parted.over in
    let c : length (cards_words yk (cs1 ++ cs2)) ≡ length (cards_words yk cs1 ++ cards_words yk cs2) = ap length (cards-append yk cs1 cs2) in
    let lo : g.lo ≤ length w = omega (arith, o.0, o.1) in
    let t : length (take g.lo w) ≡ g.lo = lib.Seq.length-take-le g.lo w lo in
    omega (arith, length-append (cards_words yk cs1) (cards_words yk cs2), length-drop g.hi w)

-- the counts of a state that a step may lead to, as the code has them
pub record Counted (w : List ℕ) (d : Desk) (l : Library) : Type 0 where
  pub entries : d.entries ≡ length l.directory
  pub decks : d.decks ≡ length l.decks
  pub cards : d.cards ≡ length (stream l)
  pub short : T (all short_history (stream l))
  pub room : length w ≡ 65536
  pub fits : d.gap.lo ≤ d.gap.hi → words l ≡ d.gap.lo + (65536 - d.gap.hi)
  pub crowded : d.gap.hi < d.gap.lo → 65536 < words l

module _ (w dir names decks flags : List ℕ) (d : Desk) (t : State) (c : Counted w d t.lib) where
  fitting-small : Fitting d → Small t.lib
  fitting-small f =
      let e : words t.lib ≡ d.gap.lo + (65536 - d.gap.hi) = c.fits f.ordered in
      record {
        entries = omega (arith, f.entries, c.entries);
        decks = omega (arith, f.decks, c.decks);
        cards = omega (arith, f.cards, c.cards);
        short = c.short;
        total = omega (arith, f.total, c.entries, c.decks);
      }

  small-fitting : Small t.lib → Fitting d
  small-fitting s =
      let o : d.gap.lo ≤ d.gap.hi = ordered (leb d.gap.lo d.gap.hi) (leb→le d.gap.lo d.gap.hi) (lib.Dec.nleb→lt d.gap.lo d.gap.hi) in
      let e : words t.lib ≡ d.gap.lo + (65536 - d.gap.hi) = c.fits o in
      record {
        ordered = o;
        entries = omega (arith, s.entries, c.entries);
        decks = omega (arith, s.decks, c.decks);
        cards = omega (arith, s.cards, c.cards);
        total = omega (arith, s.total, c.entries, c.decks);
      }
    where
      ordered : (b : Bool) → (T b → d.gap.lo ≤ d.gap.hi) → (T (not b) → d.gap.hi < d.gap.lo) → d.gap.lo ≤ d.gap.hi
      ordered true f g = f tt
      ordered false f g = let x : 65536 < words t.lib = c.crowded (g tt) in absurd (omega (arith, s.total))

  -- 31 is answered exactly where the definitions answer it
  pub limited-answer : (s : State) (l : List ℕ) → step s l ≡ limited t → Safe s → (d.gap.lo ≤ d.gap.hi → Safe t → Held w dir names decks flags d t)
      → Answered w dir names decks flags (fitted d) (step s l)
  limited-answer s l e safe held = subst (λ (x : Step). Answered w dir names decks flags (fitted d) x) (sym e) (go (within_limits t.lib) refl)
    where
      kept : limited t ≡ went t → Safe t
      kept q = subst (Went Safe) (e ∙ q) (step-safe s l safe)

      go : (b : Bool) → within_limits t.lib ≡ b → Answered w dir names decks flags (fitted d) (limited t)
      go true q =
          let f : Fitting d = small-fitting (within-small t.lib (subst (λ (x : Bool). T x) (sym q) tt)) in
          let g : limited t ≡ went t = ap (λ (x : Bool). Rattle.run_meaning.specs.Step.refuse (not x) Limit (went t)) q in
          subst (λ (x : Result Desk Why). Answered w dir names decks flags x (limited t)) (sym (fitted-yes d f))
          (subst (λ (x : Step). Answered w dir names decks flags (Ok d) x) (sym g) (held f.ordered (kept g)))
      go false q =
          let off : Fitting d → ⊥ = λ f. let z : ◌≡◌ {A = Bool} true false = sym (small-within t.lib (fitting-small f)) ∙ q in subst (λ (x : Bool). T x) z tt in
          let g : limited t ≡ refused Limit = ap (λ (x : Bool). Rattle.run_meaning.specs.Step.refuse (not x) Limit (went t)) q in
          subst (λ (x : Result Desk Why). Answered w dir names decks flags x (limited t)) (sym (fitted-no d off))
          (subst (λ (x : Step). Answered w dir names decks flags (Err Limit) x) (sym g) refl)
