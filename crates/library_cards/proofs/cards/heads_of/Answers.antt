-- The words ahead of a text are one more than the place of the last of them.
use Prim.Native.Nat.{ℕ, ◌+◌, ◌-◌}
use mathlib.Core.Path.{◌≡◌, sym, ap, ◌∙◌}
use mathlib.Core.List.{List}
use lib.ListN.{length, take, drop, length-drop}
use Rattle.std.proofs.Math.Seq.{take-length}
use Rattle.std.specs.Prelude.{Option, option_map}
use Rattle.std.specs.List.{position_from}
use Rattle.words.specs.Base.{place_from}
use Rattle.library.specs.Check.{is_last_word}
use Rattle.library_tables.specs.Found.{found}
use Rattle.library_cards.proofs.HeadsWithin.{heads_found}
use borrow.Author.Rules.{rules}
use Rattle.library_cards.proofs.cards.heads_of.Goals as goal

-- the part that is lent goes up to the image's end
told : (ws : List ℕ) (at : ℕ) (r : Option ℕ) → r ≡ position_from is_last_word 0 (take (length ws - at) (drop at ws))
    → option_map (λ (i : ℕ). i + 1) r ≡ found (place_from is_last_word 1 (drop at ws))
told ws at r e =
    let rest : take (length ws - at) (drop at ws) ≡ drop at ws = ap (λ (n : ℕ). take n (drop at ws)) (sym (length-drop at ws)) ∙ take-length (drop at ws) in
    ap (option_map (λ (i : ℕ). i + 1)) (e ∙ ap (position_from is_last_word 0) rest) ∙ heads_found 0 (drop at ws)

pub returns-in_err-i : goal.returns-in_err-i
returns-in_err-i c = search rules ∙ told c.args.image.now c.args.at _ (sym c.in_err-i.was ∙ c.last_word.ensures.value)

pub returns : goal.returns
returns c = told c.args.image.now c.args.at _ (sym c.in_ok-i.was ∙ c.last_word.ensures.value)
