-- The cards of a range pass over the gap one after another, those of the wanted activity with one byte more.
use Rattle.std.specs.Prelude.{if◌then◌else◌}
use Prim.Native.Nat.{ℕ, ◌+◌, ◌-◌, ◌≤◌, ◌<◌}
use native.Mathlib.Omega.{arith}
use mathlib.Core.Path.{◌≡◌, refl, sym, ap, ◌∙◌}
use mathlib.Core.Bool.{Bool, true, false, not, beq}
use mathlib.Core.List.{List, [], ◌∷◌, ◌++◌, map, append_assoc, append-nil}
use lib.Dec.{eqb}
use lib.ListN.{length, drop, length-append, length-drop}
use borrow.Author.Tests.{eqb-true, leb-true, leb-false}
use Rattle.run.proofs.Walking.{card-len, some-heads}
use Rattle.run.proofs.Marking.{above}
use Rattle.run.proofs.Parting.{lowered}
use Rattle.run.proofs.Growing.{map-append}
use Rattle.library.specs.Each.{Each}
use Rattle.library.specs.Library.{Byte, Card}
use Rattle.library.specs.Yanks.{active}
use Rattle.library.specs.Image.{bit, byte_bits, further_words, card_words, cards_words}
use Rattle.run.specs.CardHeads.{text_of, heads_of, heads_len, Fits, SeesAny, FullAny}
use Rattle.run.specs.GapWords.{Ordered, Parted, Lowered}
use Rattle.run.specs.ByteMarks.{byte_of, with_byte, Marks, mark_one, mark_all, Passes, Short, MarksRange}
use Rattle.run.specs.declared.gap.Gap.{Gap}
use Rattle.run.specs.declared.card.Seen.{Seen}

-- WHICH CARDS: the stored bit tells which
module _ (yk : ℕ → Bool) (was : Bool) (n : ℕ) (c : Card) where
  abbrev pub given : Bool → Card
  given k = record { line = c.line; seq = c.seq; owner = c.owner; later = c.later ++ (record { number = n; activating = not k } ∷ []) }

  pub mark-yes : beq (active yk c) was ≡ true → mark_one yk was n c ≡ with_byte (byte_of n (not was)) c
  unfolding with_byte
  mark-yes e = ap (λ (b : Bool). if b then given was else c) e

  pub mark-no : beq (active yk c) was ≡ false → mark_one yk was n c ≡ c
  mark-no e = ap (λ (b : Bool). if b then given was else c) e

-- ONE CARD
module _ (w : List ℕ) (g : Gap) (was : Bool) (n : ℕ) (order : Ordered w g) (s : Seen) (sees : SeesAny w g.hi s) where
  pub pass-marked : beq s.active was ≡ true → FullAny w g.hi s.heads false → (v : List ℕ) (h : Gap) → Marks w g n (not was) v h → Passes w g was n v h
  unfolding with_byte
  pass-marked is full v h m yk c below rest part f out =
      let z = sees yk c rest part.over f in
      let p = m yk c below rest part f out in
      let nf : length c.later < 63 = leb-false 63 (length c.later) (sym (full yk c rest part.over f z.heads)) in
      let l : length (c.later ++ (byte_of n (not was) ∷ [])) ≡ length c.later + 1 = length-append c.later (byte_of n (not was) ∷ []) in
      let sz : h.lo ≡ length (below ++ card_words yk (with_byte (byte_of n (not was)) c)) = p.size in
      let ab : h.hi + length rest ≡ length w = p.above in
      rw (mark-yes yk was n c (ap (λ (x : Bool). beq x was) (sym z.active) ∙ is))
      (record { parted = p.parted; above = λ q. p.above; short = λ q. omega arith; crowded = λ q t. omega arith })

  -- a history of 64 bytes takes no more
  pub pass-full : beq s.active was ≡ true → FullAny w g.hi s.heads true → (v : List ℕ) (h : Gap) → h.hi < h.lo → Passes w g was n v h
  unfolding with_byte
  pass-full is full v h over yk c below rest part f out =
      let z = sees yk c rest part.over f in
      let nf : 63 ≤ length c.later = leb-true 63 (length c.later) (sym (full yk c rest part.over f z.heads)) in
      let l : length (c.later ++ (byte_of n (not was) ∷ [])) ≡ length c.later + 1 = length-append c.later (byte_of n (not was) ∷ []) in
      rw (mark-yes yk was n c (ap (λ (x : Bool). beq x was) (sym z.active) ∙ is))
      (record {
        parted = λ q. absurd (omega arith);
        above = λ q. absurd (omega arith);
        short = λ q. absurd (omega arith);
        crowded = λ q t. absurd
            (omega arith);
      })

  pub pass-bad : length w < g.hi + (s.heads + s.count) → (v : List ℕ) (h : Gap) → Passes w g was n v h
  pass-bad short v h yk c below rest part f out =
      let z = sees yk c rest part.over f in
      let a : g.hi + (heads_len c + length (text_of c)) + length rest ≡ length w =
      above w g.lo g.hi n (not was) order.0 order.1 yk c below rest part.under part.over f out in
      let b : s.heads ≡ heads_len c = z.heads in
      let d : s.count ≡ length (text_of c) = z.count in
      absurd (omega arith)

  pub pass_same : beq s.active was ≡ false → (v : List ℕ) → Lowered w g.lo g.hi (s.heads + s.count) v
      → Passes w g was n v (record { lo = g.lo + (s.heads + s.count); hi = g.hi + (s.heads + s.count) })
  pass_same differs v sh yk c below rest part f out =
      let z = sees yk c rest part.over f in
      let b : s.heads ≡ heads_len c = z.heads in
      let d : s.count ≡ length (text_of c) = z.count in
      let k : length (card_words yk c) ≡ heads_len c + length (text_of c) = card-len yk c in
      let l : length (card_words yk c) ≡ s.heads + s.count = omega arith in
      let p = lowered below (card_words yk c) rest sh part.under part.over l in
      let a : g.hi + (heads_len c + length (text_of c)) + length rest ≡ length w =
      above w g.lo g.hi n (not was) order.0 order.1 yk c below rest part.under part.over f out in
      rw (mark-no yk was n c (ap (λ (x : Bool). beq x was) (sym z.active) ∙ differs))
      (record {
        parted = λ h. record { under = p.0; over = p.1 };
        above = λ q. omega arith;
        short = λ q. f.short;
        crowded = λ q t. absurd
            (omega arith);
      })

-- a mark never shortens
further-grows : (x : ℕ) (bs : List ℕ) → length (further_words bs) ≤ length (further_words (bs ++ (x ∷ [])))
further-grows x [] = omega arith
further-grows x (a ∷ []) = omega arith
further-grows x (a ∷ b ∷ []) = omega arith
further-grows x (a ∷ b ∷ c ∷ r) = let h : length (further_words r) ≤ length (further_words (r ++ (x ∷ []))) = further-grows x r in omega arith

byte-grows : (yk : ℕ → Bool) (x : Byte) (c : Card) → length (card_words yk c) ≤ length (card_words yk (with_byte x c))
unfolding with_byte card_words heads_of
byte-grows yk x c =
    let a : length (card_words yk c) ≡ length (heads_of yk c) + length (text_of c) = length-append (heads_of yk c) (text_of c) in
    let b : length (card_words yk (with_byte x c)) ≡ length (heads_of yk (with_byte x c)) + length (text_of c) =
    length-append (heads_of yk (with_byte x c)) (text_of c) in
    let d : length (further_words (map (byte_bits yk) (c.later ++ (x ∷ []))))
    ≡ length (further_words (map (byte_bits yk) c.later ++ (byte_bits yk x ∷ []))) =
    ap (λ (l : List ℕ). length (further_words l)) (map-append (byte_bits yk) c.later x) in
    let e : length (further_words (map (byte_bits yk) c.later)) ≤ length (further_words (map (byte_bits yk) c.later ++ (byte_bits yk x ∷ []))) =
    further-grows (byte_bits yk x) (map (byte_bits yk) c.later) in
    omega arith

pub mark-grows : (yk : ℕ → Bool) (was : Bool) (n : ℕ) (c : Card) → length (card_words yk c) ≤ length (card_words yk (mark_one yk was n c))
unfolding with_byte
mark-grows yk was n c = go (beq (active yk c) was)
  where
    go : (b : Bool) → length (card_words yk c) ≤ length (card_words yk (if b then given yk was n c was else c))
    go true = byte-grows yk (record { number = n; activating = not was }) c
    go false = omega arith

pub marks-grow : (yk : ℕ → Bool) (was : Bool) (n : ℕ) (cs : List Card) → length (cards_words yk cs) ≤ length (cards_words yk (mark_all yk was n cs))
unfolding mark_all
marks-grow yk was n [] = omega arith
marks-grow yk was n (c ∷ cs) =
    let a : length (card_words yk c ++ cards_words yk cs) ≡ length (card_words yk c) + length (cards_words yk cs) =
    length-append (card_words yk c) (cards_words yk cs) in
    let b : length (card_words yk (mark_one yk was n c) ++ cards_words yk (mark_all yk was n cs))
    ≡ length (card_words yk (mark_one yk was n c)) + length (cards_words yk (mark_all yk was n cs)) =
    length-append (card_words yk (mark_one yk was n c)) (cards_words yk (mark_all yk was n cs)) in
    let d : length (card_words yk c) ≤ length (card_words yk (mark_one yk was n c)) = mark-grows yk was n c in
    let e : length (cards_words yk cs) ≤ length (cards_words yk (mark_all yk was n cs)) = marks-grow yk was n cs in
    omega arith

-- THE RANGE: what is still ahead of the gap makes the goal
pub record codes_left (w : List ℕ) (h : Gap) (stop : ℕ) (was : Bool) (n : ℕ) (yk : ℕ → Bool) (cs : List Card) (below rest : List ℕ) : Type 0 where
  pub front : List ℕ
  pub ahead : List Card
  pub parted : Parted w h front (cards_words yk ahead ++ rest)
  pub left : h.hi + length (cards_words yk ahead) ≡ stop
  pub fit : Each Fits ahead
  pub same : front ++ cards_words yk (mark_all yk was n ahead) ≡ below ++ cards_words yk (mark_all yk was n cs)
  pub all_short : Each Short (mark_all yk was n ahead) → Each Short (mark_all yk was n cs)
  pub still-short : Each Short (mark_all yk was n cs) → Each Short (mark_all yk was n ahead)

abbrev pub Lefts : List ℕ → Gap → ℕ → Bool → ℕ → List ℕ → Gap → Type 0
Lefts w g stop was n v h =
    (yk : ℕ → Bool) (cs : List Card) (below rest : List ℕ) → Parted w g below (cards_words yk cs ++ rest) → g.hi + length (cards_words yk cs) ≡ stop
    → Each Fits cs → yk n ≡ false
    → codes_left v h stop was n yk cs below rest

module _ (w : List ℕ) (g : Gap) (stop : ℕ) (was : Bool) (n : ℕ) where
  pub range-start : Lefts w g stop was n w g
  range-start yk cs below rest p l f out =
      record { front = below; ahead = cs; parted = p; left = l; fit = f; same = refl; all_short = λ a. a; still-short = λ a. a }

  module _ (v : List ℕ) (h : Gap) (l : Lefts w g stop was n v h) where
    pub range-more : h.hi < stop → (u : List ℕ) (k : Gap) → Passes v h was n u k → length u ≡ length v → k.lo ≤ k.hi → h.hi ≤ length v
        → Lefts w g stop was n u k
    unfolding mark_all
    range-more short u k pass len room end yk cs below rest p e f out =
        let s = l yk cs below rest p e f out in
        go s.front s.ahead s.parted s.left s.fit s.same s.all_short s.still-short
      where
        go : (front : List ℕ) (ahead : List Card) → Parted v h front (cards_words yk ahead ++ rest) → h.hi + length (cards_words yk ahead) ≡ stop
            → Each Fits ahead
            → front ++ cards_words yk (mark_all yk was n ahead) ≡ below ++ cards_words yk (mark_all yk was n cs)
            → (Each Short (mark_all yk was n ahead) → Each Short (mark_all yk was n cs)) →
            (Each Short (mark_all yk was n cs) → Each Short (mark_all yk was n ahead))
            → codes_left u k stop was n yk cs below rest
        go front [] pt lf ft sm al st = absurd (omega arith)
        go front (c ∷ more) pt lf ft sm al st =
            let pt2 : Parted v h front (card_words yk c ++ (cards_words yk more ++ rest)) =
            record { under = pt.under; over = pt.over ∙ append_assoc (card_words yk c) (cards_words yk more) rest } in
            let r = pass yk c front (cards_words yk more ++ rest) pt2 ft.0 out in
            let a1 : k.hi + length (cards_words yk more ++ rest) ≡ length v = r.above room in
            let a2 : length (cards_words yk more ++ rest) ≡ length (cards_words yk more) + length rest = length-append (cards_words yk more) rest in
            let a3 : length (drop h.hi v) ≡ length v - h.hi = length-drop h.hi v in
            let a4 : length (drop h.hi v) ≡ length (card_words yk c ++ cards_words yk more) + length rest =
            ap length pt.over ∙ length-append (card_words yk c ++ cards_words yk more) rest in
            record {
              front = front ++ card_words yk (mark_one yk was n c);
              ahead = more;
              parted = r.parted room;
              left = omega arith;
              fit = ft.1;
              same = append_assoc front (card_words yk (mark_one yk was n c)) (cards_words yk (mark_all yk was n more)) ∙ sm;
              all_short = λ a. al (r.short room, a);
              still-short = λ a. (st a).1;
            }

    -- no room for one of them: then none for all
    pub range-crowded : h.hi < stop → length v ≡ length w → (u : List ℕ) (k : Gap) → Passes v h was n u k → k.hi < k.lo
        → MarksRange w g stop was n u k
    unfolding mark_all
    range-crowded short len u k pass over yk cs below rest p e f out =
        let s = l yk cs below rest p e f out in
        record {
          parted = λ q. absurd (omega arith);
          short = λ q. absurd (omega arith);
          crowded = λ q t. go s.front s.ahead s.parted s.left s.fit s.same (s.still-short t);
        }
      where
        go : (front : List ℕ) (ahead : List Card) → Parted v h front (cards_words yk ahead ++ rest) → h.hi + length (cards_words yk ahead) ≡ stop
            → Each Fits ahead
            → front ++ cards_words yk (mark_all yk was n ahead) ≡ below ++ cards_words yk (mark_all yk was n cs) → Each Short (mark_all yk was n ahead)
            → length w < length (below ++ cards_words yk (mark_all yk was n cs)) + length rest
        go front [] pt lf ft sm st = absurd (omega arith)
        go front (c ∷ more) pt lf ft sm st =
            let d : Card = mark_one yk was n c in
            let r =
            pass yk c front (cards_words yk more ++ rest)
            (record { under = pt.under; over = pt.over ∙ append_assoc (card_words yk c) (cards_words yk more) rest }) ft.0 out in
            let a1 : length v < length (front ++ card_words yk d) + length (cards_words yk more ++ rest) = r.crowded over st.0 in
            let a2 : length (cards_words yk more ++ rest) ≡ length (cards_words yk more) + length rest = length-append (cards_words yk more) rest in
            let a4 : length ((front ++ card_words yk d) ++ cards_words yk (mark_all yk was n more))
            ≡ length (front ++ card_words yk d) + length (cards_words yk (mark_all yk was n more)) =
            length-append (front ++ card_words yk d) (cards_words yk (mark_all yk was n more)) in
            let a5 : length ((front ++ card_words yk d) ++ cards_words yk (mark_all yk was n more))
            ≡ length (below ++ cards_words yk (mark_all yk was n cs)) =
            ap length (append_assoc front (card_words yk d) (cards_words yk (mark_all yk was n more)) ∙ sm) in
            let a6 : length (cards_words yk more) ≤ length (cards_words yk (mark_all yk was n more)) = marks-grow yk was n more in
            omega arith

    pub range-end : stop ≤ h.hi → h.lo ≤ h.hi → MarksRange w g stop was n v h
    unfolding mark_all
    range-end past room yk cs below rest p e f out =
        let s = l yk cs below rest p e f out in
        let z : s.ahead ≡ [] = none s.ahead s.left in
        record {
          parted = λ q. go s.front s.ahead z s.parted s.same;
          short = λ q. s.all_short (rw z tt);
          crowded = λ q. absurd (omega arith);
        }
      where
        none : (ahead : List Card) → h.hi + length (cards_words yk ahead) ≡ stop → ahead ≡ []
        none [] lf = refl
        none (c ∷ more) lf =
            let a : length (card_words yk c ++ cards_words yk more) ≡ length (card_words yk c) + length (cards_words yk more) =
            length-append (card_words yk c) (cards_words yk more) in
            let b : length (card_words yk c) ≡ heads_len c + length (text_of c) = card-len yk c in
            let d : 0 < heads_len c = some-heads c in
            absurd (omega arith)

        go : (front : List ℕ) (ahead : List Card) → ahead ≡ [] → Parted v h front (cards_words yk ahead ++ rest)
            → front ++ cards_words yk (mark_all yk was n ahead) ≡ below ++ cards_words yk (mark_all yk was n cs)
            → Parted v h (below ++ cards_words yk (mark_all yk was n cs)) rest
        go front [] z pt sm = record { under = pt.under ∙ sym (append-nil front) ∙ sm; over = pt.over }
        go front (c ∷ more) z pt sm = absurd (let y : length (c ∷ more) ≡ 0 = ap length z in omega arith)
