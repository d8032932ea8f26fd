-- A range ends with the card named, and Limit is answered exactly where a limit would be passed.
use Rattle.std.specs.Prelude.{Result, Ok, Err}
use Prim.Native.Nat.{ℕ, ◌+◌, ◌≤◌, ◌<◌}
use native.Mathlib.Omega.{arith}
use mathlib.Core.Path.{◌≡◌, refl, sym, ap, ◌∙◌}
use mathlib.Core.Bool.{Bool, true, false}
use mathlib.Core.List.{List, [], ◌++◌, append_assoc}
use lib.Dec.{leb}
use lib.ListN.{length, take, drop, length-append, take-append-drop}
use lib.Seq.{take_all, drop_at, drop-drop}
use borrow.Author.Tests.{le-leb, leb-true}
use Rattle.run_meaning.specs.declared.Why.TheVariants.{NoCard, Limit}
use Rattle.run.proofs.Walking.{cards-append, some-heads}
use Rattle.run.proofs.Locating.{each_take, each-drop, lo-is, hi-is, run-above}
use Rattle.run.proofs.Opening.{At, at_place, cards-split}
use Rattle.run.proofs.Working.{work-mark, and-true, short-all, all_short}
use Rattle.words.specs.Base.{all}
use Rattle.library.specs.Library.{Card}
use Rattle.library.specs.Image.{card_words, cards_words, short_history}
use Rattle.run.specs.CardHeads.{text_of, heads_len, SeesAny}
use Rattle.run.specs.GapWords.{Ordered}
use Rattle.run.specs.CardSeek.{index_of, Found, Finds}
use Rattle.run.specs.ByteMarks.{mark_all, Ranged, MarksRange}
use Rattle.run.specs.Work.{Work, within, up_to, beyond_card, MarksTo}
use Rattle.run.specs.declared.gap.Gap.{Gap}
use Rattle.run.specs.declared.card.Seen.{Seen}
use Rattle.run.specs.declared.seek.Place.{Place}
use Rattle.run_meaning.specs.declared.Why.{Why}

module _ (w : List ℕ) (g : Gap) (order : Ordered w g) (o s : ℕ) (was : Bool) (n : ℕ) (low : n < 65536) (b : Place) (finds : Finds w g.hi (length w) o s b) where
  module _ (yk : ℕ → Bool) (cs1 cs2 : List Card) (k : Work w g yk cs1 cs2) where
    abbrev q : ℕ
    q = index_of o s cs2

    found : Found g.hi yk cs2 o s b
    found = finds yk cs2 [] (run-above w g order yk cs1 cs2 k)

    out : length cs2 ≤ q → b.at ≡ length w
    out h = found.at ∙ ap (λ (z : List Card). g.hi + length (cards_words yk z)) (take_all q cs2 h) ∙ hi-is w g order yk cs1 cs2 k

    module _ (h : q < length cs2) where
      a : At yk cs2 q
      a = at_place yk cs2 q k.fit2 h

      abbrev xs : List ℕ
      xs = cards_words yk (take q cs2)

      ends : g.hi + length (cards_words yk (up_to o s cs2)) ≤ length w
      ends =
          let e : length (cards_words yk cs2) ≡ length (cards_words yk (up_to o s cs2)) + length (cards_words yk (beyond_card o s cs2)) =
          ap length (cards-split yk cs2 (q + 1)) ∙ length-append (cards_words yk (up_to o s cs2)) (cards_words yk (beyond_card o s cs2)) in
          let f : g.hi + length (cards_words yk cs2) ≡ length w = hi-is w g order yk cs1 cs2 k in
          omega arith

      inside : b.at < length w
      inside =
          let z1 : b.at ≡ g.hi + length xs = found.at in
          let z2 : length (cards_words yk (up_to o s cs2)) ≡ length xs + (heads_len a.card + length (text_of a.card)) = a.long in
          let y : 0 < heads_len a.card = some-heads a.card in
          let u : g.hi + length (cards_words yk (up_to o s cs2)) ≤ length w = ends in
          omega arith

      stops : (c : Seen) → SeesAny w b.at c → g.hi + length (cards_words yk (up_to o s cs2)) ≡ b.at + c.heads + c.count
      stops c sees =
          let ms : List ℕ = cards_words yk (beyond_card o s cs2) in
          let z1 : b.at ≡ g.hi + length xs = found.at in
          let z2 : length (cards_words yk (up_to o s cs2)) ≡ length xs + (heads_len a.card + length (text_of a.card)) = a.long in
          let here : drop b.at w ≡ card_words yk a.card ++ ms =
          ap (λ (m : ℕ). drop m w) z1 ∙ sym (drop-drop (length xs) g.hi w)
          ∙ ap (λ (t : List ℕ). drop (length xs) t) (k.parted.over ∙ a.words ∙ append_assoc xs (card_words yk a.card) ms)
          ∙ drop_at xs (card_words yk a.card ++ ms) (length xs) refl in
          let v = sees yk a.card ms here a.fits in
          let n2 : c.heads ≡ heads_len a.card = v.heads in
          let n3 : c.count ≡ length (text_of a.card) = v.count in
          omega arith

  -- not found above the gap
  pub to-missing : length w ≤ b.at → (v : List ℕ) (r : Result Gap Why) → r ≡ Err NoCard → MarksTo w g o s was n v r
  to-missing h v r e yk cs1 cs2 k free pos =
      record {
        missing = λ x. e;
        limit = λ x y. absurd (let i : b.at < length w = inside yk cs1 cs2 k x in omega arith);
        done = λ x y. absurd (let i : b.at < length w = inside yk cs1 cs2 k x in omega arith);
      }

  module _ (c : Seen) (sees : SeesAny w b.at c) (here : b.at < length w) where
    pub to-bad : length w < b.at + c.heads + c.count → (v : List ℕ) (r : Result Gap Why) → r ≡ Err NoCard → MarksTo w g o s was n v r
    to-bad h v r e yk cs1 cs2 k free pos =
        record { missing = λ x. e; limit = λ x y. absurd (no_way x); done = λ x y. absurd (no_way x) }
      where
        no_way : index_of o s cs2 < length cs2 → ⊥
        no_way x =
            let i : g.hi + length (cards_words yk (up_to o s cs2)) ≡ b.at + c.heads + c.count = stops yk cs1 cs2 k x c sees in
            let u : g.hi + length (cards_words yk (up_to o s cs2)) ≤ length w = ends yk cs1 cs2 k x in
            omega arith

    module _ (v : List ℕ) (h : Gap) (marks : MarksRange w g (b.at + c.heads + c.count) was n v h) where
      module _ (yk : ℕ → Bool) (cs1 cs2 : List Card) (k : Work w g yk cs1 cs2) (free : yk n ≡ false) (x : index_of o s cs2 < length cs2) where
        abbrev mid : List Card
        mid = up_to o s cs2

        abbrev end : List Card
        end = beyond_card o s cs2

        abbrev new : List Card
        new = mark_all yk was n mid

        split : Work w g yk cs1 (mid ++ end)
        split = rw (take-append-drop (index_of o s cs2 + 1) cs2) k

        ranged : Ranged w yk new (cards_words yk cs1) (cards_words yk end) v h
        ranged =
            marks yk mid (cards_words yk cs1) (cards_words yk end)
            (record { under = split.parted.under; over = split.parted.over ∙ cards-append yk mid end }) (stops yk cs1 cs2 k x c sees)
            (each_take (index_of o s cs2 + 1) cs2 k.fit2) free

        all_words : length (cards_words yk (cs1 ++ new)) ≡ length (cards_words yk cs1 ++ cards_words yk new)
        all_words = ap length (cards-append yk cs1 new)

        crowd : h.hi < h.lo → within (length w) yk cs1 new end ≡ true → ⊥
        crowd y t =
            let p = and-true (all short_history new) (leb (length (cards_words yk (cs1 ++ new)) + length (cards_words yk end)) (length w)) t in
            let m : length w < length (cards_words yk cs1 ++ cards_words yk new) + length (cards_words yk end) =
            ranged.crowded y (all_short new p.0) in
            let l : length (cards_words yk (cs1 ++ new)) + length (cards_words yk end) ≤ length w =
            leb-true (length (cards_words yk (cs1 ++ new)) + length (cards_words yk end)) (length w) p.1 in
            let e : length (cards_words yk (cs1 ++ new)) ≡ length (cards_words yk cs1 ++ cards_words yk new) = all_words in
            omega arith

        worked : 0 < n → h.lo ≤ h.hi → Work v h yk (cs1 ++ new) end
        worked pos y =
            work-mark w g (b.at + c.heads + c.count) was n v h marks yk cs1 mid end split (each_take (index_of o s cs2 + 1) cs2 k.fit2)
            (each-drop (index_of o s cs2 + 1) cs2 k.fit2) (stops yk cs1 cs2 k x c sees) free pos low y

        fitted : 0 < n → h.lo ≤ h.hi → h.hi ≤ length v → length v ≡ length w → within (length w) yk cs1 new end ≡ true
        fitted pos y top len =
            let j : Work v h yk (cs1 ++ new) end = worked pos y in
            let l1 : length (cards_words yk (cs1 ++ new)) ≡ h.lo = lo-is v h (y, top) yk (cs1 ++ new) end j in
            let l2 : h.hi + length (cards_words yk end) ≡ length v = hi-is v h (y, top) yk (cs1 ++ new) end j in
            let l3 : length (cards_words yk (cs1 ++ new)) + length (cards_words yk end) ≤ length w = omega arith in
            rw (short-all new (ranged.short y)) (le-leb (length (cards_words yk (cs1 ++ new)) + length (cards_words yk end)) (length w) l3)

      none_left : (yk : ℕ → Bool) (cs1 cs2 : List Card) → Work w g yk cs1 cs2 → length cs2 ≤ index_of o s cs2 → ⊥
      none_left yk cs1 cs2 k y = let e : b.at ≡ length w = out yk cs1 cs2 k y in omega arith

      pub to-crowded : h.hi < h.lo → (r : Result Gap Why) → r ≡ Err Limit → MarksTo w g o s was n v r
      to-crowded y r e yk cs1 cs2 k free pos =
          record {
            missing = λ x. absurd (none_left yk cs1 cs2 k x);
            limit = λ x z. e;
            done = λ x z. absurd (crowd yk cs1 cs2 k free x y z);
          }

      pub to-done : h.lo ≤ h.hi → h.hi ≤ length v → length v ≡ length w → (r : Result Gap Why) → r ≡ Ok h → MarksTo w g o s was n v r
      to-done y top len r e yk cs1 cs2 k free pos =
          record {
            missing = λ x. absurd (none_left yk cs1 cs2 k x);
            limit = λ x z. absurd (let t : within (length w) yk cs1 (mark_all yk was n (up_to o s cs2))
                (beyond_card o s cs2) ≡ true = fitted yk cs1 cs2 k free x pos y top len in let u : ◌≡◌ {A = ℕ} 0 1 = cc in omega arith);
            done = λ x z. (h, (e, worked yk cs1 cs2 k free x pos y));
          }
