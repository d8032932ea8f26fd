-- The owner's byte speaks first, then the rest of the history; the last said is the card's activity.
use Prim.Native.Nat.{ℕ, ◌+◌, ◌*◌, ◌/◌, ◌^◌}
use native.Mathlib.Omega.{arith}
use mathlib.Core.Path.{◌≡◌, ap, ◌∙◌}
use lib.ListN.{drop, get_or}
use Rattle.library.specs.Image.{bit}
use Rattle.library_yanks_bits.specs.SettledBits.{flagged, say_byte, own_bits, own_says, with_active, further_says}
use Rattle.library_yanks_bits.proofs.Cards.{card-one, card-many, long-one, long-many}
use Rattle.library_yanks_bits.proofs.settle_card.Goals as goal

pub returns-then-x-ge-LAST : goal.returns-then-x-ge-LAST
returns-then-x-ge-LAST c =
    let a = c.args in
    let low = c.requires in
    let yk = flagged a.f.now in
    let x = get_or a.w.now a.at 0 in
    let fx = c.fix_byte-b in
    let said = c.say_byte-so.ensures ∙ ap (say_byte 0) fx.ensures.0 in
    let z : c.with_active.result ≡ with_active (own_bits yk x) (own_says yk x) =
    c.with_active.ensures ∙ (λ j. with_active (x / 2 ^ 18 * 2 ^ 18 + fx.ensures.0 j) (said j)) in record { lower_bound = (omega arith, long-one yk a.w.now a.at low c.if-x-ge-LAST.true); w_after = rw z (card-one yk a.w.now a.at low c.if-x-ge-LAST.true) }

pub returns : goal.returns
returns c =
    let a = c.args in
    let low = c.requires in
    let more = c.if-x-ge-LAST.false in
    let yk = flagged a.f.now in
    let x = get_or a.w.now a.at 0 in
    let fx = c.fix_byte-b in
    let h = c.settle_history-t in
    let so = bit h.result.so 0 in
    let z : c.with_active-2.result ≡ with_active (own_bits yk x) so =
    c.with_active-2.ensures ∙ (λ j. with_active (x / 2 ^ 18 * 2 ^ 18 + fx.ensures.0 j) so) in
    let said : so ≡ further_says yk (own_says yk x) (drop (a.at + 1) a.w.now) =
    h.ensures.says ∙ ap (λ (k : ℕ). further_says yk k (drop (a.at + 1) a.w.now)) (c.say_byte-so.ensures ∙ ap (say_byte 0) fx.ensures.0) in record { lower_bound = (omega (arith, h.ensures.bounds.0), long-many yk a.w.now a.at low more h.result.at h.ensures.at); w_after = rw (z, h.ensures.w_after) (card-many yk a.w.now a.at low more so said) }
