-- At the end of YANK$$$ the gap is opened, the card is put there, and the limits are tested by counts.
use Prim.Native.Nat.{ℕ, ◌+◌, ◌≤◌}
use mathlib.Core.Path.{◌≡◌, sym, ap, ◌∙◌, subst}
use lib.ListN.{length}
use Rattle.run.specs.Desk.{fitted, SaneAfter}
use Rattle.run.specs.YankNames.{LeadAfter, PutsYank}
use Rattle.run.proofs.Sums.{sum-order, order-on, room-place, card-fits, entry-below, entries-small, decks-small, next-below, next-number}
use Rattle.run.proofs.Stepping.{number-after-is, fitted-sane}
use Rattle.run.proofs.YankPutting.{yank_desk_at, yank_desk, lead_after, lead-over, yank-put}
use Rattle.run.proofs.yanks.put_yank.Goals as goal

pub returns-then-w-d : goal.returns-then-w-d
returns-then-w-d c = let a = c.args in record { sane_after = (tt, tt); puts_yank = lead-over a.w.now a.d a.line.now a.w.now c.requires c.if-w-d.true }

pub put_line-h-requires : goal.put_line-h-requires
put_line-h-requires c =
    let p = c.requires in
    let o = c.open_at-m in
    let h = c.open_at-m.result.hi in
    ((o.ensures.ordered.0, subst (λ (k : ℕ). h ≤ k) (sym o.auto.w) o.ensures.ordered.1), (room-place _ (o.auto.w ∙ p.room), (next-below _ _ p.next p.cards, entry-below _ p.entries)))

pub overflow_add-d : goal.overflow_add-d
overflow_add-d c = let p = c.requires in card-fits _ (order-on _ _ _ p.yanks p.cards)

pub overflow_add-d-2 : goal.overflow_add-d-2
overflow_add-d-2 c = card-fits _ c.requires.cards

pub overflow_add-d-3 : goal.overflow_add-d-3
overflow_add-d-3 c = let p = c.requires in card-fits _ (order-on _ _ _ p.yanks p.cards)

pub limited-requires : goal.limited-requires
limited-requires c =
    let p = c.requires in
    let o = c.open_at-m in
    let h = c.put_line-h.ensures.hi_in_bounds in
    (order-on _ _ _ h.0 (room-place _ (o.auto.w ∙ p.room)), (h.1, (entries-small _ p.entries, decks-small _ p.decks)))

pub shape_of-w : goal.shape_of-w
shape_of-w c = c.put_line-h.auto.w ∙ c.open_at-m.auto.w

pub returns : goal.returns
returns c =
    let a = c.args in
    let pre = c.requires in
    let o = c.open_at-m in
    let n = c.number_after-next in
    let p = c.put_line-h in
    let half : length o.new.w ≡ length a.w.now = c.open_at-m.auto.w in
    let same : length p.new.w ≡ length a.w.now = p.auto.w ∙ half in
    let high : p.result.hi ≤ length o.new.w = c.put_line-h.ensures.hi_in_bounds.0 in
    let d = yank_desk a.d p.result in
    let after : n.result ≡ a.d.next + 1 = n.ensures ∙ number-after-is a.d.next (next-number _ _ pre.next pre.cards) in
    let r = c.limited.ensures ∙ ap (λ (x : ℕ). fitted (yank_desk_at a.d p.result x)) after in record {
      sane_after = (
        subst (SaneAfter p.new.w) (sym r) (fitted-sane p.new.w d (subst (λ (k : ℕ). p.result.hi ≤ k) (sym p.auto.w) high) (same ∙ pre.room) (sum-order _ _ 1 pre.next) (sum-order _ _ 1 pre.yanks) (sum-order _ _ 1 pre.yanks)),
        subst LeadAfter (sym r) (lead_after a.d p.result),
      );
      puts_yank = subst (PutsYank a.w.now a.d a.line.now p.new.w) (sym r)
          (yank-put a.w.now a.d a.line.now o.new.w o.result p.new.w p.result pre o.ensures.opens_at half (same ∙ pre.room) high p.ensures.puts_line);
    }
