-- The decks of an image, one after another, and the rows of the table that stand for them. Assumes nothing.
--   end-here, end_on, end-past       where the next deck card stands
--   rows-here, rows_on, rows_end     the rows from a place on
--   rows-skip, end-title             from the next deck card on they are the same
--   rows-over, rows_more, next-title a table made row by row
--   Put, put-start, put-more, put_full, put_all   the table
--   table_taken, tables-all          of all decks
--   row_cons                         the row at a place of a table
use Rattle.std.specs.Prelude.{Option}
use Prim.Native.Nat.{ℕ, zero, suc, ◌+◌, ◌-◌, ◌%◌, ◌≤◌, ◌<◌}
use native.Mathlib.Omega.{arith}
use mathlib.Core.Path.{◌≡◌, refl, sym, ap, ◌∙◌}
use mathlib.Core.Bool.{Bool, true, false}
use mathlib.Core.List.{List, [], ◌∷◌, ◌++◌, append_assoc, append-nil}
use borrow.Author.Tests.{ltb-true, ltb-false}
use lib.Dec.{ltb}
use lib.ListN.{length, get_or, take, drop, take-append-drop}
use lib.Seq.{length-take-le, take_all, take_at, drop-cons, drop-drop}
use Rattle.library.specs.declared.Seen.{Seen}
use Rattle.library.specs.Check.{cards_place}
use Rattle.library_image.specs.Places.{next_at, seen_at}
use Rattle.library_image.proofs.CardPlaces.{next-inside, places-more, places-end}
use Rattle.library_image_decks.specs.declared.titles.Title.{Title}
use Rattle.library_image_decks.specs.Decks.{title_in, is_title, deck_end, row_of, rows_in, table_of, table_into, Tables}
use Rattle.library_image_decks.proofs.DeckTitles.{title_at}

module _ (ws : List ℕ) (at : ℕ) where
  module _ (h : at < length ws) where
    pub end-here : is_title (title_at ws at) ≡ true → deck_end ws at ≡ at
    unfolding deck_end
    end-here t = rw (places-more ws at h, t)

    pub end_on : is_title (title_at ws at) ≡ false → deck_end ws at ≡ deck_end ws (next_at ws at)
    unfolding deck_end
    end_on t = rw (places-more ws at h, t)

    pub rows-here : is_title (title_at ws at) ≡ true → rows_in ws at ≡ row_of (title_at ws at) (next_at ws at) (deck_end ws (next_at ws at)) ++ rows_in ws (next_at ws at)
    unfolding rows_in deck_end
    rows-here t = rw (places-more ws at h, t)

    pub rows_on : is_title (title_at ws at) ≡ false → rows_in ws at ≡ rows_in ws (next_at ws at)
    unfolding rows_in
    rows_on t = rw (places-more ws at h, t)

  pub end-past : length ws ≤ at → deck_end ws at ≡ length ws
  unfolding deck_end
  end-past h = rw (places-end ws at h)

  pub rows_end : length ws ≤ at → rows_in ws at ≡ []
  unfolding rows_in
  rows_end h = rw (places-end ws at h)

-- from a place on, and from the next deck card on
record Skips (ws : List ℕ) (at : ℕ) : Type 0 where
  rows : rows_in ws at ≡ rows_in ws (deck_end ws at)
  title : deck_end ws at < length ws → is_title (title_at ws (deck_end ws at)) ≡ true
  inside : deck_end ws at ≤ length ws

skip_step : (ws : List ℕ) (at : ℕ) → (at < length ws → is_title (title_at ws at) ≡ false → Skips ws (next_at ws at)) → Skips ws at
skip_step ws at more = of_test (ltb at (length ws)) refl more
  where
    past : length ws ≤ at → Skips ws at
    past h =
        let e : deck_end ws at ≡ length ws = end-past ws at h in
        record {
          rows = rw e (rows_end ws at h ∙ sym (rows_end ws (length ws) (omega arith)));
          title = λ q. absurd (omega arith);
          inside = omega arith;
        }

    here : at < length ws → is_title (title_at ws at) ≡ true → Skips ws at
    here h t =
        let e : deck_end ws at ≡ at = end-here ws at h t in
        record { rows = rw e; title = λ q. rw e t; inside = omega arith }

    on : at < length ws → is_title (title_at ws at) ≡ false → Skips ws (next_at ws at) → Skips ws at
    on h t s =
        let e : deck_end ws at ≡ deck_end ws (next_at ws at) = end_on ws at h t in
        record { rows = rw e (rows_on ws at h t ∙ s.rows); title = λ q. rw e (s.title (rw e at q)); inside = rw e s.inside }

    of-title : (b : Bool) → is_title (title_at ws at) ≡ b → at < length ws → (is_title (title_at ws at) ≡ false → Skips ws (next_at ws at)) → Skips ws at
    of-title true t h more = here h t
    of-title false t h more = on h t (more t)

    of_test : (b : Bool) → ltb at (length ws) ≡ b → (at < length ws → is_title (title_at ws at) ≡ false → Skips ws (next_at ws at)) → Skips ws at
    of_test true e more = let h = ltb-true at (length ws) e in of-title (is_title (title_at ws at)) refl h (more h)
    of_test false e more = past (ltb-false at (length ws) e)

skips : (ws : List ℕ) (k at : ℕ) → length ws - at ≤ k → Skips ws at
skips ws zero at l = skip_step ws at (λ h t. absurd (omega arith))
skips ws (suc k) at l = skip_step ws at (λ h t. skips ws k (next_at ws at) (omega (arith, next-inside ws at h)))

module _ (ws : List ℕ) (at : ℕ) where
  pub rows-skip : rows_in ws at ≡ rows_in ws (deck_end ws at)
  rows-skip = (skips ws (length ws - at) at (omega arith)).rows

  pub end-title : deck_end ws at < length ws → is_title (title_at ws (deck_end ws at)) ≡ true
  end-title = (skips ws (length ws - at) at (omega arith)).title

-- A TABLE made row by row
module _ (ws : List ℕ) (at : ℕ) (h : at < length ws) (t : is_title (title_at ws at) ≡ true) where
  module _ (s : Seen) (is : s ≡ seen_at ws at) (title : Option Title) (said : title ≡ title_in ws s) (e : ℕ) (end : e ≡ deck_end ws s.next) where
    pub rows_more : (x y whole : List ℕ) → y ≡ x ++ row_of title s.next e → x ++ rows_in ws at ≡ whole → y ++ rows_in ws e ≡ whole
    rows_more x y whole p q =
        let row : row_of title s.next e ≡ row_of (title_at ws at) (next_at ws at) (deck_end ws (next_at ws at)) =
        (λ i. row_of (said i) s.next (end i)) ∙ (λ i. row_of (title_in ws (is i)) (is i).next (deck_end ws (is i).next)) in
        let rest : rows_in ws e ≡ rows_in ws (next_at ws at) = ap (rows_in ws) (end ∙ ap (λ (v : Seen). deck_end ws v.next) is) ∙ sym (rows-skip ws (next_at ws at)) in
        (λ i. p i ++ rest i) ∙ append_assoc x (row_of title s.next e) (rows_in ws (next_at ws at))
        ∙ ap (λ (r : List ℕ). x ++ (r ++ rows_in ws (next_at ws at))) row ∙ ap (λ (r : List ℕ). x ++ r) (sym (rows-here ws at h t)) ∙ q

    pub next-title : e < length ws → is_title (title_at ws e) ≡ true
    next-title l = let m : deck_end ws s.next < length ws = rw end at l in rw end (end-title ws s.next m)

-- the table so far, with the rest of it as it was
pub record Put (ws before : List ℕ) (now : List ℕ) (at n : ℕ) : Type 0 where
  pub same : length now ≡ length before
  pub within : n ≤ length before
  pub fours : n % 4 ≡ 0
  pub rows : take n now ++ rows_in ws at ≡ rows_in ws (cards_place ws)
  pub after : drop n now ≡ drop n before
  pub title : at < length ws → is_title (title_at ws at) ≡ true

abbrev pub Whole : List ℕ → List ℕ → List ℕ → ℕ → Type 0
Whole ws before end n = (n ≤ length end) × ((n ≡ length (table_of ws)) × (end ≡ table_into ws before))

module _ (ws before : List ℕ) (long : length before ≡ 1024) where
  pub put-start : (at first : ℕ) → first ≡ cards_place ws → at ≡ deck_end ws first → Put ws before before at 0
  put-start at first p e =
      record {
        same = refl;
        within = omega arith;
        fours = refl;
        rows = ap (rows_in ws) e ∙ sym (rows-skip ws first) ∙ ap (rows_in ws) p;
        after = refl;
        title = λ h. rw e (end-title ws first (rw e at h));
      }

  module _ (now : List ℕ) (at n : ℕ) (p : Put ws before now at n) where
    taken : length (take n now) ≡ n
    taken = length-take-le n now (omega (arith, p.same, p.within))

    is_whole : take n now ≡ table_of ws → Whole ws before now n
    unfolding table_into
    is_whole t =
        let k : n ≡ length (table_of ws) = sym taken ∙ ap length t in (
          omega (arith, p.same, p.within),
          (k, sym (take-append-drop n now) ∙ (λ i. t i ++ p.after i) ∙ ap (λ (m : ℕ). table_of ws ++ drop m before) k),
        )

    -- there is room for no more, or there are no more
    pub put_full : n ≡ 1024 → Whole ws before now n
    unfolding table_of
    put_full e =
        let t : take 1024 (take n now ++ rows_in ws at) ≡ take n now = take_at (take n now) (rows_in ws at) 1024 (taken ∙ e) in
        is_whole (sym t ∙ ap (take 1024) p.rows)

    pub put_all : length ws ≤ at → Whole ws before now n
    unfolding table_of
    put_all h =
        let r : take n now ≡ rows_in ws (cards_place ws) = sym (append-nil (take n now)) ∙ ap (λ (x : List ℕ). take n now ++ x) (sym (rows_end ws at h)) ∙ p.rows in
        let k : length (rows_in ws (cards_place ws)) ≤ 1024 = omega (arith, ap length r, taken, p.within) in
        is_whole (r ∙ sym (take_all 1024 (rows_in ws (cards_place ws)) k))

    -- one row more
    module _ (h : at < length ws) (s : Seen) (is : s ≡ seen_at ws at) (t : Option Title) (said : t ≡ title_in ws s) (e : ℕ) (end : e ≡ deck_end ws s.next) where
      pub put-room : (n ≡ 1024 → ⊥) → n + 4 ≤ length now
      put-room d = omega (arith, p.same, p.within, p.fours, d)

      pub put-more : (n ≡ 1024 → ⊥) → (next : List ℕ) → length next ≡ length now → take (n + 4) next ≡ take n now ++ row_of t s.next e
          → drop (n + 4) next ≡ drop (n + 4) now → Put ws before next e (n + 4)
      put-more d next l x y =
          record {
            same = l ∙ p.same;
            within = omega (arith, put-room d, p.same);
            fours = omega (arith, p.fours);
            rows = rows_more ws at h (p.title h) s is t said e end (take n now) (take (n + 4) next) (rows_in ws (cards_place ws)) x p.rows;
            after = y ∙ sym (drop-drop 4 n now) ∙ ap (drop 4) p.after ∙ drop-drop 4 n before;
            title = next-title ws at h (p.title h) s is t said e end;
          }

-- where a library's decks have room, it is a table of all
module _ (ws : List ℕ) where
  pub tables-all : Tables ws (table_of ws)
  unfolding table_of
  tables-all p q = take_all 1024 (rows_in ws (cards_place ws)) q

  pub table_taken : (before end : List ℕ) (n : ℕ) → n ≡ length (table_of ws) → end ≡ table_into ws before → take n end ≡ table_of ws
  unfolding table_into
  table_taken before end n k x = ap (take n) x ∙ take_at (table_of ws) (drop (length (table_of ws)) before) n (sym k)

-- THE ROWS OF A TABLE, one after another
pub row_cons : (t : List ℕ) (i : ℕ) → i + 3 < length t → drop i t ≡ get_or t i 0 ∷ get_or t (i + 1) 0 ∷ get_or t (i + 2) 0 ∷ get_or t (i + 3) 0 ∷ drop (i + 4) t
row_cons t i h =
    let a : drop i t ≡ get_or t i 0 ∷ drop (suc i) t = drop-cons t i 0 (omega arith) in
    let b : drop (suc i) t ≡ get_or t (suc i) 0 ∷ drop (suc (suc i)) t = drop-cons t (suc i) 0 (omega arith) in
    let d : drop (suc (suc i)) t ≡ get_or t (suc (suc i)) 0 ∷ drop (suc (suc (suc i))) t = drop-cons t (suc (suc i)) 0 (omega arith) in
    let e : drop (suc (suc (suc i))) t ≡ get_or t (suc (suc (suc i))) 0 ∷ drop (suc (suc (suc (suc i)))) t = drop-cons t (suc (suc (suc i))) 0 (omega arith) in
    let p : i + 1 ≡ suc i = omega arith in
    let q : i + 2 ≡ suc (suc i) = omega arith in
    let r : i + 3 ≡ suc (suc (suc i)) = omega arith in
    let s : i + 4 ≡ suc (suc (suc (suc i))) = omega arith in
    rw (p, q, r, s)
    (a ∙ ap {B = List ℕ} (λ l. get_or t i 0 ∷ l) (b ∙ ap {B = List ℕ} (λ l. get_or t (suc i) 0 ∷ l) (d ∙ ap {B = List ℕ} (λ l. get_or t (suc (suc i)) 0 ∷ l) e)))
