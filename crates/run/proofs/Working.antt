-- In the library in work marked cards fit, and settled cards are those under the new flags.
use Rattle.std.specs.Prelude.{if◌then◌else◌}
use Prim.Native.Nat.{ℕ, ◌+◌, ◌-◌, ◌≤◌, ◌<◌}
use native.Mathlib.Omega.{arith}
use mathlib.Core.Path.{◌≡◌, refl, sym, ap, ◌∙◌}
use mathlib.Core.Bool.{Bool, true, false, ◌&&◌, not, beq}
use mathlib.Core.List.{List, [], ◌∷◌, ◌++◌, append-nil}
use lib.Dec.{eqb}
use borrow.Author.Tests.{le-leb, leb-true}
use lib.ListN.{length, take, drop, length-append, length-drop, drop_of_length-le}
use lib.Seq.{take_all, take_at, drop_at, length-take-le, drop-drop, take-append-le, take-take}
use borrow.Rule.Slice.PartMut.{mid_of, post_of, put_mid}
use Rattle.words.specs.Base.{all}
use Rattle.library.specs.Each.{Each}
use Rattle.library.specs.Library.{Byte, Card, history}
use Rattle.library.specs.Yanks.{active}
use Rattle.library.specs.Image.{card_words, cards_words, short_history}
use Rattle.run.specs.CardHeads.{FitsByte, Fits}
use Rattle.run.specs.GapWords.{Ordered}
use Rattle.run.specs.ByteMarks.{mark_one, mark_all, Short, MarksRange}
use Rattle.library_yanks_bits.specs.SettledBits.{settled_words}
use Rattle.run.specs.Work.{Work, Resettles}
use Rattle.run.specs.declared.gap.Gap.{Gap}
use Rattle.run.proofs.Ranging.{given}
use Rattle.run.proofs.Walking.{cards-append, card-len}
use Rattle.run.proofs.CardSettling.{settled-cards}
use Rattle.run.proofs.Locating.{each_append, lo-is}

-- A MARKED CARD FITS where its history is short enough
each_snoc : (x : Byte) → FitsByte x → (bs : List Byte) → Each FitsByte bs → Each FitsByte (bs ++ (x ∷ []))
each_snoc x fx [] f = (fx, tt)
each_snoc x fx (b ∷ bs) f = (f.0, each_snoc x fx bs f.1)

mark-fits : (yk : ℕ → Bool) (was : Bool) (n : ℕ) → 0 < n → n < 65536 → (c : Card) → Fits c → Short (mark_one yk was n c) → Fits (mark_one yk was n c)
mark-fits yk was n pos low c f = go (beq (active yk c) was)
  where
    more : Each FitsByte (c.later ++ (record { number = n; activating = not was } ∷ []))
    more = each_snoc (record { number = n; activating = not was }) (pos, low) c.later f.later

    go : (b : Bool) → Short (if b then given yk was n c was else c) → Fits (if b then given yk was n c was else c)
    go true s = record { count = f.count; above = f.above; below = f.below; first = f.first; later = more; short = s }
    go false s = f

pub marks-fit : (yk : ℕ → Bool) (was : Bool) (n : ℕ) → 0 < n → n < 65536 → (cs : List Card) → Each Fits cs → Each Short (mark_all yk was n cs)
    → Each Fits (mark_all yk was n cs)
unfolding mark_all
marks-fit yk was n pos low [] f s = tt
marks-fit yk was n pos low (c ∷ cs) f s = (mark-fits yk was n pos low c f.0 s.0, marks-fit yk was n pos low cs f.1 s.1)

-- THE LIMIT of 64 bytes as a test
pub and-true : (a b : Bool) → (a && b) ≡ true → (a ≡ true) × (b ≡ true)
and-true true b e = (refl, e)
and-true false b e = absurd (let z : ◌≡◌ {A = ℕ} 0 1 = cc in omega arith)

pub short-all : (cs : List Card) → Each Short cs → all short_history cs ≡ true
short-all [] s = refl
short-all (c ∷ cs) s = rw (le-leb (length (history c)) 64 (let h : length c.later ≤ 63 = s.0 in omega arith)) (short-all cs s.1)

pub all_short : (cs : List Card) → all short_history cs ≡ true → Each Short cs
all_short [] e = tt
all_short (c ∷ cs) e =
    let p = and-true (short_history c) (all short_history cs) e in
    let h : length (history c) ≤ 64 = leb-true (length (history c)) 64 p.0 in
    (omega arith, all_short cs p.1)

-- DELETE, RESTORE: the cards cs2 from the gap on are marked and stand below it
pub work-mark : (w : List ℕ) (g : Gap) (stop : ℕ) (was : Bool) (n : ℕ) (v : List ℕ) (h : Gap) → MarksRange w g stop was n v h
    → (yk : ℕ → Bool) (cs1 cs2 cs3 : List Card) → Work w g yk cs1 (cs2 ++ cs3) → Each Fits cs2 → Each Fits cs3
    → g.hi + length (cards_words yk cs2) ≡ stop → yk n ≡ false → 0 < n → n < 65536 → h.lo ≤ h.hi → Work v h yk (cs1 ++ mark_all yk was n cs2) cs3
work-mark w g stop was n v h marks yk cs1 cs2 cs3 k f2 f3 e out pos low room =
    let m =
    marks yk cs2 (cards_words yk cs1) (cards_words yk cs3) (record { under = k.parted.under; over = k.parted.over ∙ cards-append yk cs2 cs3 }) e
    f2 out in
    let p = m.parted room in
    record {
      parted = record { under = p.under ∙ sym (cards-append yk cs1 (mark_all yk was n cs2)); over = p.over };
      fit1 = each_append cs1 (mark_all yk was n cs2) k.fit1 (marks-fit yk was n pos low cs2 f2 (m.short room));
      fit2 = f3;
    }

-- all settled again
pub cards-len : (p q : ℕ → Bool) (cs : List Card) → length (cards_words p cs) ≡ length (cards_words q cs)
cards-len p q [] = refl
cards-len p q (c ∷ cs) =
    length-append (card_words p c) (cards_words p cs) ∙ (λ i. (card-len p c ∙ sym (card-len q c)) i + cards-len p q cs i)
    ∙ sym (length-append (card_words q c) (cards_words q cs))

-- below the gap, x, then from its end on, y
pub resettled : (w : List ℕ) (g : Gap) → Ordered w g → (new : ℕ → Bool) → new 0 ≡ false → (x : List ℕ) → x ≡ settled_words new (take g.lo w)
    → (y : List ℕ) → y ≡ settled_words new (mid_of g.hi (length (x ++ drop g.lo w) - g.hi) (x ++ drop g.lo w))
    → Resettles w g new (put_mid g.hi (length (x ++ drop g.lo w) - g.hi) (x ++ drop g.lo w) y)
resettled w g order new zero-out x x-is y y-is yk cs1 cs2 k =
    let v : List ℕ = x ++ drop g.lo w in
    let l : length (cards_words new cs1) ≡ g.lo = cards-len new yk cs1 ∙ lo-is w g order yk cs1 cs2 k in
    let low : v ≡ cards_words new cs1 ++ drop g.lo w =
    ap (λ (t : List ℕ). t ++ drop g.lo w) (x-is ∙ ap (settled_words new) k.parted.under ∙ settled-cards new yk zero-out cs1 k.fit1) in
    let n1 : length v ≡ length (cards_words new cs1) + length (drop g.lo w) = ap length low ∙ length-append (cards_words new cs1) (drop g.lo w) in
    let n2 : length (drop g.lo w) ≡ length w - g.lo = length-drop g.lo w in
    let long : length (take g.hi v) ≡ g.hi = length-take-le g.hi v (omega arith) in
    let apart : g.lo + (g.hi - g.lo) ≡ g.hi = omega arith in
    let far : (t : List ℕ) → drop (g.hi - g.lo) (drop g.lo t) ≡ drop g.hi t =
    λ t. drop-drop (g.hi - g.lo) g.lo t ∙ ap (λ (n : ℕ). drop n t) apart in
    let same : drop g.lo v ≡ drop g.lo w = ap (λ (t : List ℕ). drop g.lo t) low ∙ drop_at (cards_words new cs1) (drop g.lo w) g.lo l in
    let above : drop g.hi v ≡ cards_words yk cs2 =
    sym (far v) ∙ ap (λ (t : List ℕ). drop (g.hi - g.lo) t) same ∙ far w ∙ k.parted.over in
    let n3 : length (drop g.hi v) ≡ length v - g.hi = length-drop g.hi v in
    let n4 : length (drop g.hi v) ≤ length v - g.hi = omega arith in
    let all : mid_of g.hi (length v - g.hi) v ≡ drop g.hi v = take_all (length v - g.hi) (drop g.hi v) n4 in
    let none : post_of g.hi (length v - g.hi) v ≡ [] = drop_of_length-le (drop g.hi v) n4 in
    let high : y ++ post_of g.hi (length v - g.hi) v ≡ cards_words new cs2 =
    (λ i. (y-is ∙ ap (settled_words new) (all ∙ above) ∙ settled-cards new yk zero-out cs2 k.fit2) i ++ none i) ∙ append-nil (cards_words new cs2) in
    record {
      parted = record {
        under = take-append-le g.lo (take g.hi v) (y ++ post_of g.hi (length v - g.hi) v) (omega arith)
            ∙ take-take g.lo g.hi v order.0 ∙ ap (λ (t : List ℕ). take g.lo t) low
            ∙ take_at (cards_words new cs1) (drop g.lo w) g.lo l;
        over = drop_at (take g.hi v) (y ++ post_of g.hi (length v - g.hi) v) g.hi long ∙ high;
      };
      fit1 = k.fit1;
      fit2 = k.fit2;
    }
