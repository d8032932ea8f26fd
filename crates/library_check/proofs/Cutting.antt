-- A card that was read stands in the image, and in the part of it that holds the cards up to a place. Assumes nothing.
--   walk-card            a card that was read stands there
--   cut-walk             in a part of the words too
--   cut_at               so do cards in a row
use Rattle.std.specs.Prelude.{if◌then◌else◌}
use Prim.Native.Nat.{ℕ, zero, suc, ◌+◌, ◌-◌, ◌/◌, ◌%◌, ◌^◌, ◌≤◌, ◌<◌}
use native.Mathlib.Omega.{arith}
use native.Mathlib.Nat.{add-zero}
use mathlib.Core.Path.{◌≡◌, refl, sym, ap, ◌∙◌, subst}
use mathlib.Core.Bool.{Bool, true, false}
use mathlib.Core.List.{List, [], ◌∷◌, map}
use mathlib.Core.Option.{some}
use lib.Dec.{eqb}
use lib.ListN.{length, get_or, take, drop, length-take, length-drop}
use lib.Seq.{take-nil, drop-nil, take-take, drop-drop, get_or-take, get_or-drop}
use Rattle.words.specs.Base.{place_from}
use Rattle.words.specs.Text.{is_text}
use Rattle.library.specs.Check.{Stored, Fields, fields_of, stored_of, card_of, is_last_word, raw_bytes, used, ok_form}
use Rattle.library_yanks.specs.Bytes.{part, flagged}
use Rattle.library_image.specs.Places.{next_at, seen_at, places_in}
use Rattle.library_yanks.specs.Flags.{in_force}
use Rattle.library_image.proofs.CardPlaces.{places-more, places-end}
use Rattle.library_yanks.proofs.Passing.{CardAt, AllAt}
use Rattle.library_check.specs.Walks.{Walk, Spans}
use Rattle.library_check.proofs.Spanning.{span-rises}
use Rattle.library_check.proofs.Showing.{shown-next, shown-owner, shown-line}
use Rattle.library_check.proofs.Telling.{shown-active}

pub walk-card : (d ws : List ℕ) (at : ℕ) (s : Stored) → Walk d ws at s → CardAt ws at s.card
unfolding in_force
walk-card d ws at s w =
    record {
      own = shown-owner d ws at s w (seen_at ws at) refl;
      line = shown-line d ws at s w (seen_at ws at) refl;
      force = λ fs. sym (shown-active d ws at s w (seen_at ws at) refl (flagged fs));
    }

-- THE FRONT of words
drop-take : (i m : ℕ) (xs : List ℕ) → drop i (take m xs) ≡ take (m - i) (drop i xs)
drop-take zero m xs = let z : m ≡ m - 0 = omega arith in ap (λ (k : ℕ). take k xs) z
drop-take (suc i) zero xs = let z : 0 ≡ 0 - suc i = omega arith in drop-nil (suc i) ∙ ap (λ (k : ℕ). take k (drop (suc i) xs)) z
drop-take (suc i) (suc m) [] = sym (take-nil (suc m - suc i))
drop-take (suc i) (suc m) (x ∷ xs) = let z : m - i ≡ suc m - suc i = omega arith in drop-take i m xs ∙ ap (λ (k : ℕ). take k (drop i xs)) z

place-take : (p : ℕ → Bool) (n m : ℕ) (xs : List ℕ) (k : ℕ) → place_from p n xs ≡ some k → k < n + m → place_from p n (take m xs) ≡ some k
place-take p n m [] k e lt = ap (place_from p n) (take-nil m) ∙ e
place-take p n zero (x ∷ xs) k e lt = absurd (low (x ∷ xs) n e (omega arith))
  where
    low : (ys : List ℕ) (j : ℕ) → place_from p j ys ≡ some k → k < j → ⊥
    low [] j q h = let z : ◌≡◌ {A = ℕ} 0 1 = cc in omega arith
    low (y ∷ ys) j q h = go (p y) q (λ r. low ys (suc j) r (omega arith))
      where
        go : (b : Bool) → (if b then some j else place_from p (suc j) ys) ≡ some k → (place_from p (suc j) ys ≡ some k → ⊥) → ⊥
        go true q on = let z : j ≡ k = cc in omega arith
        go false q on = on q
place-take p n (suc m) (x ∷ xs) k e lt = go (p x) (λ q. place-take p (suc n) m xs k q (omega arith)) e
  where
    go : (b : Bool) → (place_from p (suc n) xs ≡ some k → place_from p (suc n) (take m xs) ≡ some k) → (if b then some n else place_from p (suc n) xs) ≡ some k
        → (if b then some n else place_from p (suc n) (take m xs)) ≡ some k
    go true on q = q
    go false on q = on q

-- a card's fields are those of its words
abbrev fields_from : ℕ → List ℕ → List ℕ → Fields
fields_from w head text =
    record { head = head; text = text; act = eqb (w / 2 ^ 58 % 2) 1; seq = w / 2 ^ 18 % 2 ^ 18; raw = used (raw_bytes head) }

fields-take : (xs : List ℕ) (k m : ℕ) → 0 < k → k + get_or xs 0 0 / 2 ^ 36 % 2 ^ 18 ≤ m → fields_of (take m xs) k ≡ fields_of xs k
fields-take xs k m pos le =
    let x : ℕ = get_or xs 0 0 in
    let n : ℕ = x / 2 ^ 36 % 2 ^ 18 in
    let w : get_or (take m xs) 0 0 ≡ x = get_or-take m xs 0 0 (omega arith) in
    let head : take k (take m xs) ≡ take k xs = take-take k m xs (omega arith) in
    let text : take (get_or (take m xs) 0 0 / 2 ^ 36 % 2 ^ 18) (drop k (take m xs)) ≡ take n (drop k xs) =
    ap (λ (v : ℕ). take (v / 2 ^ 36 % 2 ^ 18) (drop k (take m xs))) w ∙ ap (take n) (drop-take k m xs) ∙ take-take n (m - k) (drop k xs) (omega arith) in
    λ i. fields_from (w i) (head i) (text i)

module _ (d ws : List ℕ) (from end : ℕ) (within : end ≤ length ws) where
  abbrev cut : List ℕ
  cut = part from end ws

  cut-long : length cut ≡ end - from
  cut-long = length-take (end - from) (drop from ws) ∙ omega (arith, length-drop from ws)

  -- A CARD
  record Cut (i : ℕ) (s : Stored) (n : ℕ) : Type 0 where
    there : Stored
    same : there.card ≡ s.card
    walk : Walk d cut i there
    on : from + walk.next ≡ n

  unfoldable cut-walk : (i : ℕ) (s : Stored) (w : Walk d ws (from + i) s) → w.next ≤ end → Cut i s w.next
  cut-walk i s w le =
      let xs : List ℕ = drop (from + i) ws in
      let m : ℕ = end - from - i in
      let k : ℕ = w.heads in
      let x : ℕ = get_or ws (from + i) 0 in
      let pos : 0 < k = w.some-heads in
      let count : w.next ≡ from + i + k + x / 2 ^ 36 % 2 ^ 18 = w.count in
      let here : drop i cut ≡ take m xs = drop-take i (end - from) (drop from ws) ∙ ap (take m) (drop-drop i from ws) in
      let first : get_or xs 0 0 ≡ x = get_or-drop (from + i) ws 0 0 ∙ ap (λ (n : ℕ). get_or ws n 0) (add-zero (from + i)) in
      let word : get_or cut i 0 ≡ x = get_or-take (end - from) (drop from ws) i 0 (omega arith) ∙ get_or-drop from ws i 0 in
      let fields : fields_of (drop i cut) k ≡ fields_of xs k = ap (λ (l : List ℕ). fields_of l k) here ∙ fields-take xs k m pos (omega arith) in
      record {
        there = stored_of i (fields_of (drop i cut) k);
        same = ap card_of fields ∙ sym (ap (λ (t : Stored). t.card) w.is);
        walk =
            record {
              heads = k;
              next = w.next - from;
              inside = omega (arith, cut-long);
              some-heads = pos;
              within = omega (arith, cut-long);
              count = omega (arith, word);
              last = ap (place_from is_last_word 1) here ∙ place-take is_last_word 1 m xs k w.last (omega arith);
              is = refl;
              form = ap (ok_form d) fields ∙ w.form;
              text = ap (λ (f : Fields). is_text f.text) fields ∙ w.text;
            };
        on = omega arith;
      }

  -- CARDS IN A ROW
  cut-rows : (i : ℕ) (ss : List Stored) → Spans d ws (from + i) end ss → AllAt cut (places_in cut i) (map (λ s. s.card) ss)
  unfolding cut-walk
  cut-rows i [] h =
      let e : from + i ≡ end = h in
      subst (λ (ps : List ℕ). AllAt cut ps []) (sym (places-end cut i (omega (arith, cut-long)))) tt
  cut-rows i (s ∷ ss) h =
      let c : Cut i s h.0.next = cut-walk i s h.0 (span-rises d ws h.0.next end ss h.1) in
      let n : from + next_at cut i ≡ h.0.next = ap (λ (k : ℕ). from + k) (shown-next d cut i c.there c.walk (seen_at cut i) refl) ∙ c.on in
      let on = cut-rows (next_at cut i) ss (subst (λ (k : ℕ). Spans d ws k end ss) (sym n) h.1) in
      subst (λ (ps : List ℕ). AllAt cut ps (map (λ t. t.card) (s ∷ ss))) (sym (places-more cut i c.walk.inside))
      (subst (CardAt cut i) c.same (walk-card d cut i c.there c.walk), on)

  pub cut_at : (ss : List Stored) → Spans d ws from end ss → AllAt cut (places_in cut 0) (map (λ s. s.card) ss)
  cut_at ss h = cut-rows 0 ss (subst (λ (k : ℕ). Spans d ws k end ss) (sym (add-zero from)) h)
