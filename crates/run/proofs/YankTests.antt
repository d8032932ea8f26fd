-- The names of a YANK line, one by one: 26 and 27 by the directory and the deck list, over the whole line.
use Rattle.std.specs.Prelude.{Result, Err}
use Rattle.std.specs.List.{list_any}
use Prim.Native.Nat.{ℕ, ◌+◌}
use mathlib.Core.Path.{◌≡◌, refl, sym, ap, ap₂, ◌∙◌, subst}
use mathlib.Core.Bool.{Bool, true, false, ◌||◌, not}
use mathlib.Core.List.{List, [], ◌∷◌}
use lib.Dec.{eqb}
use lib.ListN.{length, take}
use Rattle.words.specs.Base.{any, member}
use Rattle.words_lines.specs.Directive.{directive, field, yank_names}
use Rattle.words_lines.specs.declared.Line.TheVariants.{Yank as YankLine}
use Rattle.words_lines.proofs.FieldNames.{names_from, names_more, names-none, yank-names}
use Rattle.library.specs.Library.{Library, reserved, entry_of}
use Rattle.run_meaning.specs.Step.{State, Step, refused, refuse, limited, is_set, is_unknown, is_no_set, after_yank, obey, step}
use Rattle.run.specs.Desk.{Tables, Held, Answered}
use Rattle.run.specs.Resettled.{YankSteps}
use Rattle.run.specs.YankNames.{names_in, unknown_in, no_set_in, Settling, PutsYank}
use Rattle.run.specs.declared.desk.Desk.{Desk}
use Rattle.run_meaning.specs.declared.Why.{Why}
use Rattle.run_meaning.specs.declared.Why.TheVariants.{Nowhere, Unknown, NoSet}
use Rattle.run_meaning.proofs.FlatFind.{eqb_yes, eqb_no}

-- A FIELD OF NAMES: the library's test of a list is the same
pub any-listed : (q : ℕ → Bool) (ns : List ℕ) → list_any q ns ≡ any q ns
any-listed q [] = refl
any-listed q (n ∷ ns) = ap (λ (b : Bool). q n || b) (any-listed q ns)

-- A YANK LINE
module _ (s : State) (line : List ℕ) (asks : directive line ≡ YankLine) (set unknown barred : Bool) (is : is_set s.kind ≡ set)
    (a : any (is_unknown s.lib) (yank_names line) ≡ unknown) (b : any (is_no_set s.lib) (yank_names line) ≡ barred) where
  pub yank-obeyed : step s line ≡ refuse (not set) Nowhere (refuse unknown Unknown (refuse barred NoSet (limited (after_yank s line))))
  unfolding step
  yank-obeyed =
      ap (obey s line) asks
      ∙ ap (λ (x : Bool). refuse (not x) Nowhere (refuse (any (is_unknown s.lib) (yank_names line)) Unknown (refuse (any (is_no_set s.lib) (yank_names line)) NoSet (limited (after_yank s line))))) is
      ∙ ap₂ (λ (x y : Bool). refuse (not set) Nowhere (refuse x Unknown (refuse y NoSet (limited (after_yank s line))))) a b

module _ (dir names decks : List ℕ) (d : Desk) (l : Library) (t : Tables dir names decks d l) (line : List ℕ) (asks : directive line ≡ YankLine) where
  line-names : names_in (field line) ≡ yank_names line
  unfolding names_from
  line-names = yank-names line asks

  pub unknown-line : any (unknown_in (take d.entries dir)) (names_in (field line)) ≡ any (is_unknown l) (yank_names line)
  unknown-line = ap₂ (λ (ds ns : List ℕ). any (unknown_in ds) ns) t.directory line-names

  pub no-set-line : any (no_set_in d.entries (take d.entries dir) (take (d.decks + 1) names)) (names_in (field line)) ≡ any (is_no_set l) (yank_names line)
  no-set-line =
      ap₂ (λ (n : ℕ) (ds : List ℕ). any (no_set_in n ds (take (d.decks + 1) names)) (names_in (field line))) t.entries t.directory
      ∙ ap₂ (λ (list ns : List ℕ). any (no_set_in (length l.directory) l.directory list) ns) t.listed line-names

-- the answers: 24, 26, 27
module _ (w dir names flags : List ℕ) (d : Desk) (line v newFlags : List ℕ) where
  refused-so : (y : Why) → ((decks : List ℕ) (s : State) → directive line ≡ YankLine → Held w dir names decks flags d s → step s line ≡ refused y)
      → YankSteps w dir names flags d line v newFlags (Err y)
  refused-so y f decks s asks held = subst (λ (x : Step). Answered v dir names decks newFlags (Err y) x) (sym (f decks s asks held)) refl

  pub yank-off : d.set ≡ false → YankSteps w dir names flags d line v newFlags (Err Nowhere)
  yank-off e =
      refused-so Nowhere (λ decks s asks held.
      yank-obeyed s line asks false (any (is_unknown s.lib) (yank_names line)) (any (is_no_set s.lib) (yank_names line)) (sym held.set ∙ e) refl refl)

  module _ (set : d.set ≡ true) where
    pub yank-unknown : any (unknown_in (take d.entries dir)) (names_in (field line)) ≡ true → YankSteps w dir names flags d line v newFlags (Err Unknown)
    yank-unknown e =
        refused-so Unknown (λ decks s asks held.
        yank-obeyed s line asks true true (any (is_no_set s.lib) (yank_names line)) (sym held.set ∙ set)
        (sym (unknown-line dir names decks d s.lib held.tables line asks) ∙ e) refl)

    module _ (known : any (unknown_in (take d.entries dir)) (names_in (field line)) ≡ false) where
      pub yank-no-set : any (no_set_in d.entries (take d.entries dir) (take (d.decks + 1) names)) (names_in (field line)) ≡ true
          → YankSteps w dir names flags d line v newFlags (Err NoSet)
      yank-no-set e =
          refused-so NoSet (λ decks s asks held.
          yank-obeyed s line asks true false true (sym held.set ∙ set)
          (sym (unknown-line dir names decks d s.lib held.tables line asks) ∙ known) (sym (no-set-line dir names decks d s.lib held.tables line asks) ∙ e))

      -- and where none holds
      yank-goes : any (no_set_in d.entries (take d.entries dir) (take (d.decks + 1) names)) (names_in (field line)) ≡ false
          → (decks : List ℕ) (s : State) → directive line ≡ YankLine → Held w dir names decks flags d s → step s line ≡ limited (after_yank s line)
      yank-goes e decks s asks held =
          yank-obeyed s line asks true false false (sym held.set ∙ set)
          (sym (unknown-line dir names decks d s.lib held.tables line asks) ∙ known) (sym (no-set-line dir names decks d s.lib held.tables line asks) ∙ e)

      -- the line is then a card, and once the bits are settled the new state is held
      pub yank-on : any (no_set_in d.entries (take d.entries dir) (take (d.decks + 1) names)) (names_in (field line)) ≡ false
          → (mid : List ℕ) (e : Result Desk Why) → PutsYank w d line mid e → length v ≡ 65536 → Settling mid dir e v newFlags → YankSteps w dir names flags d line v newFlags e
      yank-on free mid e puts room settling decks s asks held = puts dir names decks flags v newFlags s asks held set (yank-goes free decks s asks held) room settling
