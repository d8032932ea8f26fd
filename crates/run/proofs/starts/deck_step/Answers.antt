-- A name that is known is refused; a new deck's card is put at the end, its name is written into both lists and its number flagged.
use Prim.Native.Nat.{ℕ, ◌+◌, ◌≤◌}
use mathlib.Core.Path.{◌≡◌, refl, sym, ◌∙◌, subst}
use lib.Dec.{lit<}
use lib.ListN.{length, set, length-set}
use Rattle.run.specs.Desk.{SaneAfter}
use Rattle.run.specs.Obeyed.{DeckSteps}
use Rattle.run.proofs.Sums.{place_up, same_place, order-on, room-place, card-fits, entry-fits, entry-bytes, entry-bytes-on, entry-number, entry_in, entries-in, entry-in-on, deck-fits, deck-bytes, deck-in, entries-few, decks-few, two-on}
use Rattle.run.proofs.Stepping.{fitted-sane}
use Rattle.run.proofs.Decking.{deck-known, deck-on, deck_desk}
use Rattle.run.proofs.starts.deck_step.Goals as goal

pub overflow_add-k : goal.overflow_add-k
overflow_add-k c = deck-fits _ c.requires.0.decks

pub shape_of-dir-then-not-is_unknown : goal.shape_of-dir-then-not-is_unknown
shape_of-dir-then-not-is_unknown c = refl

pub returns-then-not-is_unknown : goal.returns-then-not-is_unknown
returns-then-not-is_unknown c =
    let a = c.args in
    let u = c.is_unknown in record { sane_after = tt; deck_steps = deck-known a.w.now a.dir.now a.names.now a.decks.now a.d a.word a.line.now a.w.now a.dir.now a.names.now a.decks.now (sym u.ensures ∙ c.if-not-is_unknown.true) }

pub open_ahead-m-requires : goal.open_ahead-m-requires
open_ahead-m-requires c = let p = c.requires.0 in (p.ordered, room-place _ p.room)

pub overflow_add-n : goal.overflow_add-n
overflow_add-n c = entry-fits _ c.requires.0.entries

pub put_line-h-requires : goal.put_line-h-requires
put_line-h-requires c =
    let p = c.requires.0 in
    let o = c.open_ahead-m in
    let h = c.open_ahead-m.result.hi in
    ((o.ensures.ordered.0, subst (λ (k : ℕ). h ≤ k) (sym o.auto.w) o.ensures.ordered.1), (room-place _ (o.auto.w ∙ p.room), (lit< tt, entry-number _ p.entries)))

pub offset_bounds-dir-n : goal.offset_bounds-dir-n
offset_bounds-dir-n c = entry-bytes _ c.requires.0.entries

pub bounds-dir-n : goal.bounds-dir-n
bounds-dir-n c = entry_in _ _ c.requires.0.entries c.requires.1.0

pub offset_bounds-names-k : goal.offset_bounds-names-k
offset_bounds-names-k c = deck-bytes _ c.requires.0.decks

pub bounds-names-k : goal.bounds-names-k
bounds-names-k c = deck-in _ _ c.requires.0.decks c.requires.1.1.0

pub overflow_add-decks : goal.overflow_add-decks
overflow_add-decks c = entry-fits _ c.requires.0.entries

pub offset_bounds-decks-n : goal.offset_bounds-decks-n
offset_bounds-decks-n c = entry-bytes-on _ c.requires.0.entries

pub bounds-decks-n : goal.bounds-decks-n
bounds-decks-n c = entry-in-on _ _ c.requires.0.entries c.requires.1.1.1

pub overflow_add-d : goal.overflow_add-d
overflow_add-d c = card-fits _ c.requires.0.cards

pub overflow_add-n-2 : goal.overflow_add-n-2
overflow_add-n-2 c = entry-fits _ c.requires.0.entries

pub overflow_add-d-2 : goal.overflow_add-d-2
overflow_add-d-2 c = card-fits _ c.requires.0.cards

pub limited-requires : goal.limited-requires
limited-requires c =
    let p = c.requires.0 in
    let o = c.open_ahead-m in
    let h = c.put_line-h.ensures.hi_in_bounds in
    (order-on _ _ _ h.0 (room-place _ (o.auto.w ∙ p.room)), (h.1, (entries-few _ p.entries, decks-few _ p.decks)))

pub shape_of-w : goal.shape_of-w
shape_of-w c = c.put_line-h.auto.w ∙ c.open_ahead-m.auto.w

pub shape_of-dir : goal.shape_of-dir
shape_of-dir c = let a = c.args in length-set a.dir.now a.d.entries a.word

pub shape_of-names : goal.shape_of-names
shape_of-names c = let a = c.args in length-set a.names.now (a.d.decks + 1) a.word

pub shape_of-decks : goal.shape_of-decks
shape_of-decks c = let a = c.args in length-set a.decks.now (a.d.entries + 1) 1

pub returns : goal.returns
returns c =
    let a = c.args in
    let pre = c.requires in
    let u = c.is_unknown in
    let o = c.open_ahead-m in
    let p = c.put_line-h in
    let half : length o.new.w ≡ length a.w.now = c.open_ahead-m.auto.w in
    let same : length p.new.w ≡ length a.w.now = p.auto.w ∙ half in
    let high : p.result.hi ≤ length o.new.w = c.put_line-h.ensures.hi_in_bounds.0 in
    let r = c.limited.ensures in record {
      sane_after = subst (SaneAfter p.new.w) (sym r) (fitted-sane p.new.w (deck_desk a.d p.result) (subst (λ (k : ℕ). p.result.hi ≤ k) (sym p.auto.w) high) (same ∙ pre.0.room) (two-on _) (place_up _ _ pre.0.yanks) (same_place _));
      deck_steps = subst (DeckSteps a.w.now a.dir.now a.names.now a.decks.now a.d a.word a.line.now p.new.w (set a.dir.now a.d.entries a.word) (set a.names.now (a.d.decks + 1) a.word) (set a.decks.now (a.d.entries + 1) 1)) (sym r)
          (deck-on a.w.now a.dir.now a.names.now a.decks.now a.d a.word a.line.now o.new.w o.result p.new.w p.result pre.0 pre.1.0 pre.1.1.0 pre.1.1.1 (sym u.ensures ∙ c.if-not-is_unknown.false) o.ensures.opens_ahead half (same ∙ pre.0.room) high p.ensures.puts_line);
    }
