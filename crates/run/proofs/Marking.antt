-- A card that passes over the gap with one byte more is written there as the card with that byte.
use Rattle.std.specs.Prelude.{if◌then◌else◌}
use Rattle.std.specs.Int.{from_bool}
use Prim.Native.Nat.{ℕ, ◌+◌, ◌-◌, ◌*◌, ◌/◌, ◌%◌, ◌^◌, ◌≤◌, ◌<◌}
use native.Mathlib.Omega.{arith}
use mathlib.Core.Path.{◌≡◌, refl, sym, ap, ◌∙◌}
use mathlib.Core.Bool.{Bool, false}
use mathlib.Core.List.{List, [], ◌∷◌, ◌++◌, map, append_assoc}
use lib.Dec.{eqb}
use lib.ListN.{length, take, drop, get_or, set, length-append, length-drop}
use lib.Seq.{length-take-le}
use Rattle.words.specs.Base.{is_nil}
use Rattle.library.specs.Library.{Byte, Card, history}
use Rattle.library.specs.Yanks.{last_says, active}
use Rattle.library.specs.Image.{byte_bits, further_words, head_words, card_words}
use Rattle.run.specs.CardHeads.{own_byte, text_of, head_word, heads_of, heads_len, Fits, SeesAny}
use Rattle.run.specs.GapWords.{Ordered, Parted, Lowered}
use Rattle.run.specs.ByteMarks.{byte_of, with_byte, last_with, ByteAdded, Marks}
use Rattle.run.specs.declared.gap.Gap.{Gap}
use Rattle.run.specs.declared.card.Seen.{Seen}
use Rattle.run.proofs.Heads.{heads-len, bits_below}
use Rattle.run.proofs.Growing.{Grown, grow-heads, says-append, map-append, sound-bits, sound-all, byte-is, act-set}
use Rattle.run.proofs.Parting.{lowered, byte-added, read_under, write_under, write-over}

-- the card's head words, the old activity bit still in them
abbrev pub heads_with : (ℕ → Bool) → Bool → Card → ℕ → List ℕ
heads_with yk act c x = head_words act (length (text_of c)) c.seq (byte_bits yk (own_byte c) ∷ (map (byte_bits yk) c.later ++ (x ∷ [])))

pub with-is : (yk : ℕ → Bool) (c : Card) (n : ℕ) (on : Bool) → yk n ≡ false
    → heads_with yk on c (from_bool on * 65536 + n) ≡ heads_of yk (with_byte (byte_of n on) c)
unfolding heads_of with_byte active
with-is yk c n on e =
    let x : Byte = byte_of n on in
    let act : last_says yk false ((history c) ++ (x ∷ [])) ≡ on =
    says-append yk false (history c) x ∙ ap (λ (b : Bool). (if b then (last_says yk false (history c)) else on)) e in
    let bs : map (byte_bits yk) (c.later ++ (x ∷ [])) ≡ map (byte_bits yk) c.later ++ ((from_bool on * 65536 + n) ∷ []) =
    map-append (byte_bits yk) c.later x ∙ (λ i. map (byte_bits yk) c.later ++ (byte-is yk n on e i ∷ [])) in
    sym (λ i. head_words (act i) (length (text_of c)) c.seq (byte_bits yk (own_byte c) ∷ bs i))

pub same-heads : (yk : ℕ → Bool) (p q : Bool) (c : Card) (x : ℕ) → length (heads_with yk p c x) ≡ length (heads_with yk q c x)
same-heads yk p q c x = refl

module _ (w : List ℕ) (lo hi n : ℕ) (on : Bool) (order : lo ≤ hi) (end : hi ≤ length w) (yk : ℕ → Bool) (c : Card) (below rest : List ℕ)
    (under : take lo w ≡ below) (over : drop hi w ≡ card_words yk c ++ rest) (f : Fits c) (out : yk n ≡ false) where
  abbrev x : ℕ
  x = from_bool on * 65536 + n

  pub long : length below ≡ lo
  long = sym (ap length under) ∙ length-take-le lo w (omega arith)

  -- what stands above the gap
  pub above : hi + (heads_len c + length (text_of c)) + length rest ≡ length w
  unfolding card_words heads_of
  above =
      let a : length (drop hi w) ≡ length w - hi = length-drop hi w in
      let b : length (drop hi w) ≡ length (heads_of yk c ++ text_of c) + length rest = ap length over ∙ length-append (heads_of yk c ++ text_of c) rest in
      let d : length (heads_of yk c ++ text_of c) ≡ length (heads_of yk c) + length (text_of c) = length-append (heads_of yk c) (text_of c) in
      let e : length (heads_of yk c) ≡ heads_len c = heads-len yk c in
      omega arith

  module _ (w1 : List ℕ) (s1 : Lowered w lo hi (heads_len c) w1) (len1 : length w1 ≡ length w)
      (r : ℕ) (w2 : List ℕ) (s2 : ByteAdded w1 (lo + heads_len c) (hi + heads_len c) x r w2) (len2 : length w2 ≡ length w1) where
    abbrev after : List ℕ
    after = heads_with yk (active yk c) c x

    moved : (take (lo + heads_len c) w1 ≡ below ++ heads_of yk c) × (drop (hi + heads_len c) w1 ≡ text_of c ++ rest)
    unfolding card_words heads_of
    moved = lowered below (heads_of yk c) (text_of c ++ rest) s1 under (over ∙ append_assoc (heads_of yk c) (text_of c) rest) (heads-len yk c)

    grown : Grown x (heads_of yk c) after
    unfolding heads_of
    grown =
        grow-heads (active yk c) x (length (text_of c)) c.seq (byte_bits yk (own_byte c)) (map (byte_bits yk) c.later) f.count f.below
        (sound-bits yk (own_byte c) f.first) (sound-all yk c.later f.later)

    pub longer : (r ≡ length below + length after) ×
        ((r ≤ hi + heads_len c → take r w2 ≡ below ++ after) × (drop (hi + heads_len c) w2 ≡ text_of c ++ rest))
    longer =
        let g = grown in
        let a : hi + (heads_len c + length (text_of c)) + length rest ≡ length w = above in
        let t : take (lo + heads_len c) w1 ≡ (below ++ g.front) ++ (g.last ∷ []) =
        moved.0 ∙ ap (λ (z : List ℕ). below ++ z) g.was ∙ sym (append_assoc below g.front (g.last ∷ [])) in
        let e = byte-added (below ++ g.front) g.last (text_of c ++ rest) s2 t moved.1 (omega arith) in
        let n1 : r + 1 ≡ lo + heads_len c + length (last_with x g.last) = e.0 in
        let n2 : length after ≡ length g.front + length (last_with x g.last) =
        ap length g.now ∙ length-append g.front (last_with x g.last) in
        let n3 : heads_len c ≡ length g.front + 1 = sym (heads-len yk c) ∙ ap length g.was ∙ length-append g.front (g.last ∷ []) in
        let n4 : length below ≡ lo = long in (
          omega arith,
          (
            λ h. e.1.0 h ∙ append_assoc below g.front (last_with x g.last) ∙ ap (λ (z : List ℕ). below ++ z)
                (sym g.now),
            e.1.1,
          ),
        )

    pub size_is : r + length (text_of c) ≡ length (below ++ card_words yk (with_byte (byte_of n on) c))
    unfolding card_words heads_of with_byte
    size_is =
        let a : r ≡ length below + length after = longer.0 in
        let b : length after ≡ length (heads_of yk (with_byte (byte_of n on) c)) =
        same-heads yk (active yk c) on c x ∙ ap length (with-is yk c n on out) in
        let d : length (below ++ (heads_of yk (with_byte (byte_of n on) c) ++ text_of c))
        ≡ length below + length (heads_of yk (with_byte (byte_of n on) c) ++ text_of c) =
        length-append below (heads_of yk (with_byte (byte_of n on) c) ++ text_of c) in
        let e : length (heads_of yk (with_byte (byte_of n on) c) ++ text_of c) ≡ length (heads_of yk (with_byte (byte_of n on) c)) + length (text_of c) =
        length-append (heads_of yk (with_byte (byte_of n on) c)) (text_of c) in
        omega arith

    module _ (fits : r ≤ hi + heads_len c) (v : ℕ) (val : v ≡ get_or w2 lo 0 - get_or w2 lo 0 / 2 ^ 58 % 2 * 2 ^ 58 + from_bool on * 2 ^ 58)
        (w4 : List ℕ) (s4 : Lowered (set w2 lo v) r (hi + heads_len c) (length (text_of c)) w4) where
      room : r ≤ length w2
      room = let a : hi + (heads_len c + length (text_of c)) + length rest ≡ length w = above in omega arith

      active-set : take r (set w2 lo v) ≡ below ++ heads_of yk (with_byte (byte_of n on) c)
      active-set =
          let bs : List ℕ = map (byte_bits yk) c.later ++ (x ∷ []) in
          let old : ℕ = head_word (is_nil bs) (active yk c) (length (text_of c)) c.seq (byte_bits yk (own_byte c)) in
          let t : take r w2 ≡ below ++ (old ∷ further_words bs) = longer.1.0 fits in
          let z : get_or w2 lo 0 ≡ old = read_under w2 r (hi + heads_len c) below old (further_words bs) t lo long room fits in
          let u : v ≡ head_word (is_nil bs) on (length (text_of c)) c.seq (byte_bits yk (own_byte c)) =
          val ∙ ap (λ (k : ℕ). k - k / 2 ^ 58 % 2 * 2 ^ 58 + from_bool on * 2 ^ 58) z
          ∙ act-set (is_nil bs) (active yk c) (length (text_of c)) c.seq (byte_bits yk (own_byte c)) on f.count f.below
          (bits_below yk (own_byte c) f.first) in
          write_under w2 r (hi + heads_len c) below old (further_words bs) t lo long room fits v
          ∙ (λ i. below ++ (u i ∷ further_words bs)) ∙ ap (λ (l : List ℕ). below ++ l) (with-is yk c n on out)

      still : drop (hi + heads_len c) (set w2 lo v) ≡ text_of c ++ rest
      still =
          let bs : List ℕ = map (byte_bits yk) c.later ++ (x ∷ []) in
          write-over w2 r (hi + heads_len c) below _ (further_words bs) (longer.1.0 fits) lo long room fits v ∙ longer.1.1

      pub done : Parted w4 (record { lo = r + length (text_of c); hi = hi + heads_len c + length (text_of c) })
          (below ++ card_words yk (with_byte (byte_of n on) c)) rest
      unfolding card_words heads_of with_byte
      done =
          let p = lowered (below ++ heads_of yk (with_byte (byte_of n on) c)) (text_of c) rest s4 active-set still refl in
          record { under = p.0 ∙ append_assoc below (heads_of yk (with_byte (byte_of n on) c)) (text_of c); over = p.1 }

-- the same, by what was seen
module _ (w : List ℕ) (g : Gap) (n : ℕ) (on : Bool) (order : Ordered w g) (s : Seen) (sees : SeesAny w g.hi s) where
  pub mark-bad : length w < g.hi + s.heads + s.count → (v : List ℕ) (h : Gap) → Marks w g n on v h
  mark-bad short v h yk c below rest part f out =
      let z = sees yk c rest part.over f in
      let a : g.hi + (heads_len c + length (text_of c)) + length rest ≡ length w =
      above w g.lo g.hi n on order.0 order.1 yk c below rest part.under part.over f out in
      let b : s.heads ≡ heads_len c = z.heads in
      let d : s.count ≡ length (text_of c) = z.count in
      absurd (omega arith)

  module _ (w1 : List ℕ) (s1 : Lowered w g.lo g.hi s.heads w1) (len1 : length w1 ≡ length w)
      (r : ℕ) (w2 : List ℕ) (s2 : ByteAdded w1 (g.lo + s.heads) (g.hi + s.heads) (from_bool on * 65536 + n) r w2) (len2 : length w2 ≡ length w1) where
    abbrev next : Gap
    next = record { lo = r + s.count; hi = g.hi + s.heads + s.count }

    sized : (v : List ℕ)
        → ((yk : ℕ → Bool) (c : Card) (below rest : List ℕ) → Parted w g below
        (card_words yk c ++ rest) → Fits c → yk n ≡ false → s.heads ≡ heads_len c → s.count ≡ length (text_of c)
        → next.lo ≤ next.hi → Parted v next (below ++ card_words yk (with_byte (byte_of n on) c)) rest) → Marks w g n on v next
    sized v put yk c below rest part f out =
        let z = sees yk c rest part.over f in
        let b : s.heads ≡ heads_len c = z.heads in
        let d : s.count ≡ length (text_of c) = z.count in
        let a : g.hi + (heads_len c + length (text_of c)) + length rest ≡ length w =
        above w g.lo g.hi n on order.0 order.1 yk c below rest part.under part.over f out in
        let q =
        size_is w g.lo g.hi n on order.0 order.1 yk c below rest part.under part.over f out w1 (rw b at s1) len1 r w2
        (rw b at s2) len2 in
        record { parted = put yk c below rest part f out b d; size = ap (λ (k : ℕ). r + k) d ∙ q; above = omega arith }

    pub mark-none : g.hi + s.heads < r → Marks w g n on w2 next
    mark-none over = sized w2 (λ yk c below rest part f out b d h. absurd (omega arith))

    pub mark-done : r ≤ g.hi + s.heads → (v : ℕ) → v ≡ get_or w2 g.lo 0 - get_or w2 g.lo 0 / 2 ^ 58 % 2 * 2 ^ 58 + from_bool on * 2 ^ 58
        → (w4 : List ℕ) → Lowered (set w2 g.lo v) r (g.hi + s.heads) s.count w4 → Marks w g n on w4 next
    mark-done fits v val w4 s4 =
        sized w4 (λ yk c below rest part f out b d h.
        rw (b, d) (done w g.lo g.hi n on order.0 order.1 yk c below rest part.under part.over f out w1 (rw b at s1) len1 r w2
        (rw b at s2) len2 (rw b at fits) v val w4 (rw (b, d) at s4)))
