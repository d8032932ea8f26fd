use mathlib.Core.Path.{sym, ap, ◌∙◌}
use Prim.Native.Nat.{ℕ, ◌+◌}
use mathlib.Core.List.{List}
use mathlib.Core.Option.{Option}
use lib.ListN.{length, get_or, drop, drop_of_length-le}
use lib.Seq.{drop-drop}
use Rattle.library.specs.Library.{deck_line}
use Rattle.library.specs.Check.{Stored, row7}
use Rattle.library_tables.specs.Found.{found}
use Rattle.library_check.proofs.Spanning.{still-start, still-on, still-here, still-end}
use Rattle.library_check.proofs.Showing.{shown-next, shown-place}
use Rattle.library_check.proofs.Decking.{shown-begins, shown_ok, none-ok, row_on, row-taken, row_here, names_more, lacking}
use Rattle.library_check.proofs.deck_cards.decks_fault.Goals as goal
use Rattle.library_check.proofs.deck_cards.decks_fault.Goals.{then-list-d-via-then-list-d, then-list-d-via-else-list-d+then-not-is_next}

pub loop-at-init : goal.loop-at-init
loop-at-init c =
    let a = c.args in
    let ws = c.args.image.now in
    let D = c.args.directory.now in
    still-start D ws a.from (length ws) (λ ss. row7 D (drop 1 a.list.now) ss (length ws))

pub returns-then-list-d : goal.returns-then-list-d
returns-then-list-d c =
    let ws = c.args.image.now in
    let D = c.args.directory.now in
    let L = c.args.list.now in
    let from = c.args.from in
    let end = length ws in
    let all : List Stored → Option ℕ = λ ss. row7 D (drop 1 L) ss end in
    let l = c.loop-at in
    let now : List Stored → Option ℕ = λ ss. row7 D (drop l.d L) ss end in
    let r = c.see-c.result in
    let sees = c.see-c.ensures.value in
    let a₁ = c.deck_at-line.result in
    let reads = c.deck_at-line.ensures in
    let x = get_or L l.d 0 in
    elim c.then-list-d.branch [
      | then-list-d-via-then-list-d v ↦
          λ ss h. sym (ap found (still-here D ws from end all l.at now l.invariant c.loop-at-test.true _
          (λ s w t. row_here D (drop l.d L) end s t (shown-begins D ws l.at s w r sees a₁ reads ∙ sym c.begins.ensures ∙ c.if-begins.true)
          (none-ok D (drop l.d L) s (deck_line s.card.line) (drop_of_length-le L v.if-list-d.true)) l.at (shown-place D ws l.at s w r sees)) ss h))
      | then-list-d-via-else-list-d+then-not-is_next v ↦
          λ ss h. sym (ap found (still-here D ws from end all l.at now l.invariant c.loop-at-test.true _
          (λ s w t. row_here D (drop l.d L) end s t (shown-begins D ws l.at s w r sees a₁ reads ∙ sym c.begins.ensures ∙ c.if-begins.true)
          (shown_ok D ws l.at s w r sees a₁ reads x (drop l.d L) (drop (l.d + 1) L) (names_more L l.d v.if-list-d.false) ∙ sym v.is_next.ensures ∙ v.if-not-is_next.true) l.at (shown-place D ws l.at s w r sees)) ss h))
    ]

pub loop-at-preserved-else-not-is_next : goal.loop-at-preserved-else-not-is_next
loop-at-preserved-else-not-is_next c =
    let ws = c.args.image.now in
    let D = c.args.directory.now in
    let L = c.args.list.now in
    let from = c.args.from in
    let end = length ws in
    let all : List Stored → Option ℕ = λ ss. row7 D (drop 1 L) ss end in
    let l = c.loop-at in
    let now : List Stored → Option ℕ = λ ss. row7 D (drop l.d L) ss end in
    let r = c.see-c.result in
    let sees = c.see-c.ensures.value in
    let a₁ = c.deck_at-line.result in
    let reads = c.deck_at-line.ensures in
    let x = get_or L l.d 0 in
    let more = names_more L l.d c.if-list-d.false in
    still-on D ws from end all l.at now l.invariant c.loop-at-test.true r.next (λ ss. row7 D (drop (l.d + 1) L) ss end)
    (λ s w. (
      shown-next D ws l.at s w r sees,
      λ t. row-taken D (drop l.d L) end s t (shown-begins D ws l.at s w r sees a₁ reads ∙ sym c.begins.ensures ∙ c.if-begins.true)
          (shown_ok D ws l.at s w r sees a₁ reads x (drop l.d L) (drop (l.d + 1) L) more ∙ sym c.is_next.ensures ∙ c.if-not-is_next.false)
          ∙ ap (λ (n : List ℕ). row7 D n t end) (drop-drop 1 l.d L),
    ))

pub loop-at-preserved : goal.loop-at-preserved
loop-at-preserved c =
    let ws = c.args.image.now in
    let D = c.args.directory.now in
    let L = c.args.list.now in
    let from = c.args.from in
    let end = length ws in
    let all : List Stored → Option ℕ = λ ss. row7 D (drop 1 L) ss end in
    let l = c.loop-at in
    let now : List Stored → Option ℕ = λ ss. row7 D (drop l.d L) ss end in
    let r = c.see-c.result in
    let sees = c.see-c.ensures.value in
    let a₁ = c.deck_at-line.result in
    let reads = c.deck_at-line.ensures in
    still-on D ws from end all l.at now l.invariant c.loop-at-test.true r.next now
    (λ s w. (shown-next D ws l.at s w r sees, λ t. row_on D (drop l.d L) end s t (shown-begins D ws l.at s w r sees a₁ reads ∙ sym c.begins.ensures ∙ c.if-begins.false)))

pub returns : goal.returns
returns c =
    let ws = c.args.image.now in
    let D = c.args.directory.now in
    let L = c.args.list.now in
    let end = length ws in
    let l = c.loop-at in
    λ ss h. c.then_some.ensures ∙ lacking L l.d end ∙ sym (ap found (still-end D ws c.args.from end (λ ss. row7 D (drop 1 L) ss end) l.at (λ ss. row7 D (drop l.d L) ss end) l.invariant c.loop-at-test.false ss h))
