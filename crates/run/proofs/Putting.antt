-- A new card's head and text, written below the gap, make it the last card there.
use Rattle.std.specs.Prelude.{if◌then◌else◌}
use Prim.Native.Nat.{ℕ, suc, ◌+◌, ◌-◌, ◌*◌, ◌^◌, ◌≤◌, ◌<◌}
use native.Mathlib.Omega.{arith}
use native.Mathlib.Numerals.{add-one}
use mathlib.Core.Path.{◌≡◌, sym, ap, ◌∙◌}
use mathlib.Core.Bool.{Bool, true, false}
use mathlib.Core.List.{List, [], ◌∷◌, ◌++◌, append_assoc}
use lib.ListN.{length, take, drop, set, length-append, length-set, length-drop}
use lib.Seq.{length-take-le, take-suc-set, drop-set-lt, take-paste, drop-paste, paste, drop-drop}
use Rattle.run.proofs.Walking.{cards-snoc}
use Rattle.run.proofs.Locating.{each_append}
use Rattle.words.specs.Text.{text_words}
use Rattle.library.specs.Library.{Card}
use Rattle.library.specs.Yanks.{active}
use Rattle.library.specs.Image.{bit, card_words, cards_words}
use Rattle.words_lists.specs.Over.{over}
use Rattle.words_lists.proofs.OverLists.{over-put}
use Rattle.run.specs.CardHeads.{card_of, Fits}
use Rattle.run.specs.GapWords.{Ordered, Parted}
use Rattle.run.specs.ByteMarks.{Puts}
use Rattle.run.specs.Work.{PutsCard}
use Rattle.run.specs.declared.gap.Gap.{Gap}

-- bits 59 and 58, the words of text, the number, and an activating byte
abbrev pub new_head : ℕ → ℕ → ℕ → ℕ
new_head k seq n = 576460752303423488 + 288230376151711744 + k * 68719476736 + seq * 262144 + 65536 + n

pub new-words : (yk : ℕ → Bool) (line : List ℕ) (seq n : ℕ) → yk n ≡ false
    → card_words yk (card_of line seq n) ≡ new_head (length (text_words line)) seq n ∷ text_words line
unfolding card_words active
new-words yk line seq n out =
    ap {B = List ℕ} (λ (b : Bool). (2 ^ 59 + bit (if b then false else true) 58 + length (text_words line) * 2 ^ 36 + seq * 2 ^ 18 +
    (bit b 17 + 2 ^ 16 + n)) ∷ text_words line) out
    ∙ ap {B = List ℕ} (λ (k : ℕ). k ∷ text_words line) (sum (length (text_words line)))
  where
    sum : (k : ℕ) → 2 ^ 59 + 2 ^ 58 + k * 2 ^ 36 + seq * 2 ^ 18 + (0 + 2 ^ 16 + n) ≡ new_head k seq n
    sum k = omega arith

-- the first k words of the lent text
module _ (w : List ℕ) (g : Gap) (lent : List ℕ) (k seq n : ℕ) (order : Ordered w g) (has : k ≤ length lent) where
  abbrev text : List ℕ
  text = take k lent

  text-long : length text ≡ k
  text-long = length-take-le k lent has

  abbrev new : Gap
  new = record { lo = g.lo + 1 + k; hi = g.hi }

  put-size : (v : List ℕ)
      → ((below rest : List ℕ) → Parted w g below rest → new.lo ≤ new.hi → Parted v new (below ++ (new_head k seq n ∷ text)) rest)
      → Puts w g text seq n v new
  put-size v put yk line below rest is part out =
      let l : length below ≡ g.lo = sym (ap length part.under) ∙ length-take-le g.lo w (omega arith) in
      let s : length (below ++ (new_head k seq n ∷ text)) ≡ length below + suc (length text) = length-append below (new_head k seq n ∷ text) in
      let t : length text ≡ k = text-long in
      let d : length (drop g.hi w) ≡ length w - g.hi = length-drop g.hi w in
      let e : length (drop g.hi w) ≡ length rest = ap length part.over in
      let ws : card_words yk (card_of line seq n) ≡ new_head k seq n ∷ text =
      new-words yk line seq n out ∙ (λ i. new_head ((ap length is ∙ t) i) seq n ∷ is i) in
      rw ws (record { parted = put below rest part; size = omega arith; above = omega arith })

  pub put-none : g.hi < g.lo + 1 + k → Puts w g text seq n w new
  put-none full = put-size w (λ below rest part h. absurd (omega arith))

  pub put-done : g.lo + 1 + k ≤ g.hi → Puts w g text seq n (paste (set w g.lo (new_head k seq n)) (g.lo + 1) lent k) new
  put-done room =
      let hd : ℕ = new_head k seq n in
      let w1 : List ℕ = set w g.lo hd in
      let inside : g.lo < length w = omega arith in
      let len : length w1 ≡ length w = length-set w g.lo hd in
      let fit : g.lo + 1 ≤ length w1 = omega arith in
      let far : g.lo < g.hi = omega arith in
      let t : take (g.lo + 1 + k) (paste w1 (g.lo + 1) lent k) ≡ (take g.lo w ++ (hd ∷ [])) ++ text =
      take-paste w1 (g.lo + 1) lent k fit has ∙ (λ i. take (add-one g.lo i) w1 ++ text)
      ∙ ap (λ (l : List ℕ). l ++ text) (take-suc-set w g.lo hd inside) in
      let m : ℕ = g.hi - (g.lo + 1 + k) in
      let kk : g.hi ≡ g.lo + 1 + k + m = omega arith in
      let far-of : (l : List ℕ) → drop g.hi l ≡ drop m (drop (g.lo + 1 + k) l) =
      λ l. ap (λ (z : ℕ). drop z l) kk ∙ sym (drop-drop m (g.lo + 1 + k) l) in
      let d : drop g.hi (paste w1 (g.lo + 1) lent k) ≡ drop g.hi w =
      far-of (paste w1 (g.lo + 1) lent k) ∙ ap (λ (l : List ℕ). drop m l) (drop-paste w1 (g.lo + 1) lent k fit has) ∙ sym (far-of w1)
      ∙ drop-set-lt g.hi w g.lo hd far in
      put-size (paste w1 (g.lo + 1) lent k) (λ below rest part h. record {
        under = t ∙ append_assoc (take g.lo w) (hd ∷ []) text ∙ ap (λ (l : List ℕ). l ++ (hd ∷ text)) part.under;
        over = d ∙ part.over;
      })

  -- the text copied into the part behind the head
  pub put-copied : g.lo + 1 + k ≤ g.hi → Puts w g text seq n (over (g.lo + 1) text (set w g.lo (new_head k seq n))) new
  put-copied room =
      let w1 : List ℕ = set w g.lo (new_head k seq n) in
      let len : length w1 ≡ length w = length-set w g.lo (new_head k seq n) in
      rw (over-put (g.lo + 1) text w1 (omega (arith, text-long)), text-long) (put-done room)

  -- of the library in work
  pub work-put : k ≤ 16 → seq < 262144 → n < 65536 → (v : List ℕ) (h : Gap) → Puts w g text seq n v h → PutsCard w g text seq n v h
  work-put small low named v h puts yk cs1 cs2 line is work out pos numbered =
      let c : Card = card_of line seq n in
      let p = puts yk line (cards_words yk cs1) (cards_words yk cs2) is work.parted out in
      let sn : cards_words yk (cs1 ++ (c ∷ [])) ≡ cards_words yk cs1 ++ card_words yk c = cards-snoc yk cs1 c in
      let s : h.lo ≡ length (cards_words yk cs1 ++ card_words yk c) = p.size in
      let s2 : length (cards_words yk (cs1 ++ (c ∷ []))) ≡ length (cards_words yk cs1 ++ card_words yk c) = ap length sn in
      let a : h.hi + length (cards_words yk cs2) ≡ length w = p.above in
      let t : length (text_words line) ≡ k = ap length is ∙ text-long in
      let f : Fits c = record { count = omega arith; above = numbered; below = low; first = (pos, named); later = tt; short = omega arith } in
      record {
        work = λ room. record {
          parted = record { under = (p.parted room).under ∙ sym sn; over = (p.parted room).over };
          fit1 = each_append cs1 (c ∷ []) work.fit1 (f, tt);
          fit2 = work.fit2;
        };
        fits = λ room. omega arith;
        crowded = λ over. omega arith;
      }
