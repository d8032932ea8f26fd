-- YANK$$$ marked: all of it stands below the gap, and the bits are settled for the new flags.
use Rattle.std.specs.Prelude.{if◌then◌else◌, Result, Ok, Err}
use Prim.Native.Nat.{ℕ, ◌+◌, ◌-◌, ◌≤◌}
use native.Mathlib.Omega.{arith}
use mathlib.Core.Path.{◌≡◌, sym, ap, ◌∙◌, subst}
use mathlib.Core.Bool.{Bool, true, false}
use mathlib.Core.List.{List, ◌++◌, map}
use lib.ListN.{length, take, drop, length-append, take-append-drop}
use lib.Seq.{take-append_seam, length-take-le}
use Rattle.words.specs.Base.{all_of}
use Rattle.library.specs.Library.{Card, deck_cards, joined, stream}
use Rattle.library.specs.Image.{cards_words}
use Rattle.library.proofs.LimitsByCount.{words, words-under, Small, within-small}
use Rattle.run_meaning.specs.Step.{TextPlace, State, limited, step}
use Rattle.run_meaning.specs.Safe.{Safe}
use Rattle.run.specs.GapWords.{Ordered}
use Rattle.run.specs.Work.{Work, OpensAt}
use Rattle.run.specs.Desk.{fit_tests, fitted, Sane, SaneAfter, TextGoes, HeldUnder, Answered}
use Rattle.run.specs.Resettled.{Resettled}
use Rattle.run.specs.RangeSteps.{LeadAfter, Remarked, YankMarks}
use Rattle.run.specs.declared.gap.Gap.{Gap}
use Rattle.run.specs.declared.desk.Desk.{Desk}
use Rattle.run.specs.declared.desk.TextAt.TheVariants.{Yanks as TextYanks}
use Rattle.run_meaning.specs.declared.Why.{Why}
use Rattle.run_meaning.specs.declared.Why.TheVariants.{Limit}
use Rattle.run.proofs.Locating.{lo-is}
use Rattle.run.proofs.Stepping.{Fitting, fitted-yes, fitted-sane, work-words, Counted, limited-answer}

-- the state after it
abbrev pub yank_desk : Desk → Gap → Desk
yank_desk d m =
    record { gap = m; low = d.yanks; entries = d.entries; decks = d.decks; cards = d.cards; yanks = d.yanks; lead = m.lo; set = d.set; next = d.next; place = TextYanks }

-- what is within the limits is answered as it is
fitted-same : (d e : Desk) → fitted d ≡ Ok e → d ≡ e
fitted-same d e q = go (all_of (fit_tests d)) q
  where
    go : (b : Bool) → (if b then Ok d else Err Limit) ≡ Ok e → d ≡ e
    go true p = cc
    go false p = let z : ◌≡◌ {A = ℕ} 0 1 = cc in absurd (omega arith)

pub yank-lead : (d : Desk) (m : Gap) (e : Desk) → fitted (yank_desk d m) ≡ Ok e → e.lead ≤ e.gap.lo
yank-lead d m e q = subst (λ (x : Desk). x.lead ≤ x.gap.lo) (fitted-same (yank_desk d m) e q) (omega arith)

pub yank-sane : (w v : List ℕ) (d : Desk) (m : Gap) (e : Desk) → Sane w d → length v ≡ length w → Ordered w m → fitted (yank_desk d m) ≡ Ok e → Sane v e
yank-sane w v d m e sane same o q =
    subst (SaneAfter v) q (fitted-sane v (yank_desk d m) (omega (arith, o.1, same)) (same ∙ sane.room) sane.next sane.yanks sane.yanks)

module _ (w dir : List ℕ) (d : Desk) (h : Gap) (room : length w ≡ 65536) (n : ℕ) (lead : LeadAfter (length w) d h n) (v : List ℕ) (m : Gap)
    (opens : OpensAt w h n v m) (same : length v ≡ length w) (order : Ordered w m)
    (yk : ℕ → Bool) (names decks line : List ℕ) (s t : State) (safe : Safe s) (obeyed : step s line ≡ limited t) (r : Remarked yk w dir names decks d h t) where
  abbrev cs : List Card
  cs = r.below ++ r.above

  abbrev ys : List Card
  ys = t.lib.yanks

  size : length (cards_words yk ys) ≡ n
  size = sym (lead (length (cards_words yk ys)) r.others r.before r.after)

  first : take (length ys) cs ≡ ys
  unfolding stream
  first = ap (take (length ys)) r.whole ∙ take-append_seam ys (joined (map deck_cards t.lib.decks))

  within : length ys ≤ length cs
  unfolding stream
  within = let e : length cs ≡ length (ys ++ joined (map deck_cards t.lib.decks)) = ap length r.whole in omega (arith, length-append ys (joined (map deck_cards t.lib.decks)))

  work : Work v m yk (take (length ys) cs) (drop (length ys) cs)
  work = opens yk r.below r.above (length ys) r.work (ap (λ (x : List Card). length (cards_words yk x)) first ∙ size) within

  ordered : Ordered v m
  ordered = (order.0, omega (arith, order.1, same))

  whole : take (length ys) cs ++ drop (length ys) cs ≡ stream t.lib
  whole = take-append-drop (length ys) cs ∙ r.whole

  held : Safe t → HeldUnder yk v dir names decks (yank_desk d m) t
  held st = record {
    below = take (length ys) cs;
    above = drop (length ys) cs;
    work = work;
    whole = whole;
    low = r.yanks ∙ sym (length-take-le (length ys) cs within);
    cards = r.cards;
    tables = record { directory = r.tables.directory; entries = r.tables.entries; listed = r.tables.listed; count = r.tables.count; marked = r.tables.marked };
    yanks = r.yanks;
    leads = sym (lo-is v m ordered yk (take (length ys) cs) (drop (length ys) cs) work) ∙ ap (λ (x : List Card). length (cards_words yk x)) first;
    set = r.set;
    next = r.next;
    place = subst (λ (p : TextPlace). TextGoes t.lib (length (take (length ys) cs)) TextYanks p) (sym r.place) tt;
    safe = st;
  }

  total : words t.lib ≡ m.lo + (65536 - m.hi)
  total =
      sym (words-under yk t.lib) ∙ ap (λ (x : List Card). length (cards_words yk x)) (sym whole)
      ∙ work-words v m yk (take (length ys) cs) (drop (length ys) cs) work ordered ∙ ap (λ (k : ℕ). m.lo + (k - m.hi)) (same ∙ room)

  counted : (u : List ℕ) → length u ≡ length w → Counted u (yank_desk d m) t.lib
  counted u long = record {
    entries = r.tables.entries;
    decks = r.tables.count;
    cards = r.cards;
    short = r.short;
    room = long ∙ room;
    fits = λ le. total;
    crowded = λ lt. absurd (omega (arith, order.0));
  }

  yank-on : (u flags : List ℕ) → length u ≡ length w → Resettled v dir (yank_desk d m) u flags → Answered u dir names decks flags (fitted (yank_desk d m)) (step s line)
  yank-on u flags long settled =
      limited-answer u dir names decks flags (yank_desk d m) t (counted u long) s line obeyed safe (λ le st. settled yk names decks t (held st))

  fitting : Safe t → Fitting (yank_desk d m)
  fitting st =
      let k : Small t.lib = within-small t.lib st.sound.limits in
      let e : d.entries ≡ length t.lib.directory = r.tables.entries in
      let f : d.decks ≡ length t.lib.decks = r.tables.count in
      let g : d.cards ≡ length (stream t.lib) = r.cards in
      record {
        ordered = order.0;
        entries = omega (arith, k.entries);
        decks = omega (arith, k.decks);
        cards = omega (arith, k.cards);
        total = omega (arith, k.total, total);
      }

  yank-off : (flags : List ℕ) (y : Why) → fitted (yank_desk d m) ≡ Err y → Answered v dir names decks flags (Err y) (step s line)
  yank-off flags y e =
      subst (λ (x : Result Desk Why). Answered v dir names decks flags x (step s line)) e
      (limited-answer v dir names decks flags (yank_desk d m) t (counted v same) s line obeyed safe
      (λ le st. let f : fitted (yank_desk d m) ≡ Ok (yank_desk d m) = fitted-yes (yank_desk d m) (fitting st) in let z : ◌≡◌ {A = ℕ} 0 1 = cc in absurd (omega arith)))

module _ (w dir : List ℕ) (d : Desk) (h : Gap) (room : length w ≡ 65536) (n : ℕ) (lead : LeadAfter (length w) d h n) (v : List ℕ) (m : Gap)
    (opens : OpensAt w h n v m) (same : length v ≡ length w) (order : Ordered w m) where
  pub yank-went : (e : Desk) → fitted (yank_desk d m) ≡ Ok e → (u flags : List ℕ) → length u ≡ length w → Resettled v dir e u flags → YankMarks w dir d h u flags (Ok e)
  yank-went e q u flags long settled yk names decks line s t safe obeyed r =
      subst (λ (x : Result Desk Why). Answered u dir names decks flags x (step s line)) q
      (yank-on w dir d h room n lead v m opens same order yk names decks line s t safe obeyed r u flags long
      (subst (λ (x : Desk). Resettled v dir x u flags) (sym (fitted-same (yank_desk d m) e q)) settled))

  pub yank-refused : (y : Why) → fitted (yank_desk d m) ≡ Err y → (flags : List ℕ) → YankMarks w dir d h v flags (Err y)
  yank-refused y q flags yk names decks line s t safe obeyed r = yank-off w dir d h room n lead v m opens same order yk names decks line s t safe obeyed r flags y q
