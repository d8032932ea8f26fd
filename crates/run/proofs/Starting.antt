-- A unit begins: a known name is refused; a new one stands at the directory's end, and nothing else changes.
use Rattle.std.specs.Prelude.{Err}
use Prim.Native.Nat.{ℕ, ◌+◌, ◌-◌, ◌≤◌}
use native.Mathlib.Omega.{arith}
use native.Mathlib.Numerals.{add-one}
use mathlib.Core.Path.{◌≡◌, refl, sym, ap, ◌∙◌, subst}
use mathlib.Core.Bool.{Bool, true, false, not}
use mathlib.Core.List.{List, [], ◌∷◌, ◌++◌}
use lib.Dec.{T}
use lib.ListN.{length, take, set, length-append}
use lib.Seq.{take-suc-set}
use Rattle.words.specs.Base.{all}
use Rattle.words_lines.specs.Directive.{directive}
use Rattle.words_lines.specs.declared.Line.TheVariants.{Ident}
use Rattle.library.specs.Library.{Card, Library, deck_names, reserved}
use Rattle.library.specs.Yanks.{yanked}
use Rattle.library.specs.Image.{cards_words, short_history}
use Rattle.library.specs.Sound.{Sound}
use Rattle.library.proofs.NameAtEnd.{deck-names-append}
use Rattle.library.proofs.LimitsByCount.{words, words-under, within-small}
use Rattle.run_meaning.specs.Step.{State, Step, refuse, limited, is_known, with_entry, after_ident, obey, step}
use Rattle.run_meaning.specs.Safe.{Safe}
use Rattle.run.specs.Work.{Work}
use Rattle.run.specs.Desk.{fitted, Sane, Held, Answered}
use Rattle.run.specs.Obeyed.{StaysSane, IdentSteps}
use Rattle.run.specs.YankNames.{unknown_in}
use Rattle.run.specs.declared.desk.Desk.{Desk}
use Rattle.run.specs.declared.desk.TextAt.TheVariants.{Nowhere as TextNowhere}
use Rattle.run_meaning.specs.declared.Why.TheVariants.{Known}
use Rattle.run_meaning.proofs.FlatStream.{entry-flat}
use Rattle.run_meaning.proofs.FlatFlags.{flags-entry}
use Rattle.run.proofs.Stepping.{work-words, Counted, limited-answer, fitted-sane}

-- 25
pub known_is : (l : Library) (directory : List ℕ) (w : ℕ) (b : Bool) → directory ≡ l.directory → unknown_in directory w ≡ b → is_known l w ≡ not b
known_is l directory w b e f = twice (is_known l w) ∙ ap not (sym (ap (λ (ds : List ℕ). unknown_in ds w) e) ∙ f)
  where
    twice : (x : Bool) → x ≡ not (not x)
    twice true = refl
    twice false = refl

ident-obeyed : (s : State) (line : List ℕ) (word : ℕ) (b : Bool) → directive line ≡ Ident word → is_known s.lib word ≡ b → step s line ≡ refuse b Known (limited (after_ident s word))
unfolding step
ident-obeyed s line word b asks e = ap (obey s line) asks ∙ ap (λ (x : Bool). refuse x Known (limited (after_ident s word))) e

pub ident-known : (dir : List ℕ) (d : Desk) (word : ℕ) (new : List ℕ) → unknown_in (take d.entries dir) word ≡ false → IdentSteps dir d word new (Err Known)
ident-known dir d word new e w names decks flags line s sane asks held =
    subst (λ (x : Step). Answered w new names decks flags (Err Known) x)
    (sym (ident-obeyed s line word true asks (known_is s.lib (take d.entries dir) word false held.tables.directory e))) refl

-- IDENT
ident-names : (l : Library) (w : ℕ) → Sound l → deck_names (with_entry l w) ≡ deck_names l
unfolding deck_names
ident-names l w s = ap {B = List ℕ} (λ x. reserved ∷ x) (deck-names-append l.directory (w ∷ []) l.decks s.decks)

abbrev pub ident_desk : Desk → Desk
ident_desk d =
    record { gap = d.gap; low = d.low; entries = d.entries + 1; decks = d.decks; cards = d.cards; yanks = d.yanks; lead = d.lead; set = true; next = 1; place = TextNowhere }

module _ (dir : List ℕ) (d : Desk) (word : ℕ) (long : length dir ≡ 1024) (few : d.entries ≤ 1023) (unknown : unknown_in (take d.entries dir) word ≡ true)
    (w names decks flags line : List ℕ) (s : State) (sane : Sane w d) (asks : directive line ≡ Ident word) (held : Held w dir names decks flags d s) where
  abbrev l : Library
  l = s.lib

  abbrev t : State
  t = after_ident s word

  abbrev yk : ℕ → Bool
  yk = yanked l 0

  stepped : step s line ≡ limited t
  stepped = ident-obeyed s line word false asks (known_is l (take d.entries dir) word true held.tables.directory unknown)

  total : words t.lib ≡ d.gap.lo + (65536 - d.gap.hi)
  total =
      sym (words-under yk t.lib) ∙ ap (λ (cs : List Card). length (cards_words yk cs)) (entry-flat l word ∙ sym held.whole)
      ∙ work-words w d.gap yk held.below held.above held.work sane.ordered ∙ ap (λ (n : ℕ). d.gap.lo + (n - d.gap.hi)) sane.room

  longer : d.entries + 1 ≡ length (l.directory ++ (word ∷ []))
  longer = let e : d.entries ≡ length l.directory = held.tables.entries in omega (arith, length-append l.directory (word ∷ []))

  counted : Counted w (ident_desk d) t.lib
  counted = record {
    entries = longer;
    decks = held.tables.count;
    cards = held.cards ∙ sym (ap length (entry-flat l word));
    short = subst (λ (cs : List Card). T (all short_history cs)) (sym (entry-flat l word)) (within-small l held.safe.sound.limits).short;
    room = sane.room;
    fits = λ le. total;
    crowded = λ lt. absurd (omega (arith, lt, sane.ordered.0));
  }

  after : Safe t → Held w (set dir d.entries word) names decks flags (ident_desk d) t
  after safe =
      let f : yanked t.lib 0 ≡ yk = flags-entry l l.decks word held.safe.sound safe.sound in record {
        below = held.below;
        above = held.above;
        work = subst (λ (g : ℕ → Bool). Work w d.gap g held.below held.above) (sym f) held.work;
        whole = held.whole ∙ sym (entry-flat l word);
        low = held.low;
        cards = counted.cards;
        tables = record {
          directory = ap (λ (n : ℕ). take n (set dir d.entries word)) (add-one d.entries) ∙ take-suc-set dir d.entries word (omega arith) ∙ ap (λ (ds : List ℕ). ds ++ (word ∷ [])) held.tables.directory;
          entries = longer;
          listed = held.tables.listed ∙ sym listing;
          count = held.tables.count;
          marked = held.tables.marked;
        };
        yanks = held.yanks;
        leads = held.leads ∙ ap (λ (g : ℕ → Bool). length (cards_words g l.yanks)) (sym f);
        settled = λ n. held.settled n ∙ ap (λ (g : ℕ → Bool). g n) (sym f);
        set = refl;
        next = refl;
        place = tt;
        safe = safe;
      }
    where
      listing : deck_names (with_entry l word) ≡ deck_names l
      listing = ident-names l word held.safe.sound

  ident-answer : Answered w (set dir d.entries word) names decks flags (fitted (ident_desk d)) (step s line)
  ident-answer = limited-answer w (set dir d.entries word) names decks flags (ident_desk d) t counted s line stepped held.safe (λ le safe. after safe)

pub ident-on : (dir : List ℕ) (d : Desk) (word : ℕ) → length dir ≡ 1024 → d.entries ≤ 1023 → unknown_in (take d.entries dir) word ≡ true
    → IdentSteps dir d word (set dir d.entries word) (fitted (ident_desk d))
ident-on dir d word long few unknown w names decks flags line s sane asks held = ident-answer dir d word long few unknown w names decks flags line s sane asks held

pub ident-sane : (d : Desk) → StaysSane d (fitted (ident_desk d))
ident-sane d w sane = fitted-sane w (ident_desk d) sane.ordered.1 sane.room (omega arith) sane.yanks sane.low
