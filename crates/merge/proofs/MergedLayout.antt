-- The tables and cards of a merged image, laid down stretch by stretch, are those that its definition has.
--   tables-long, tables-laid    the tables
--   cards-laid                  the cards
use Prim.Native.Nat.{ℕ, zero, suc, ◌+◌, ◌-◌, ◌≤◌, ◌<◌}
use native.Mathlib.Omega.{arith}
use mathlib.Core.Path.{◌≡◌, refl, sym, ap, ap₂, ◌∙◌}
use mathlib.Core.List.{List, [], ◌∷◌, ◌++◌, append_assoc}
use lib.ListN.{length, take, drop, length-append, length-drop}
use lib.Seq.{length-take-le, drop-drop, take_all}
use Rattle.library.specs.Check.{directory_count, deck_count, directory_of, deck_words_of, cards_place}
use Rattle.library_raise.specs.Raised.{raised_words}
use Rattle.library_raise.proofs.RaisedLength.{raised_long}
use Rattle.library_image_decks.specs.Decks.{deck_end}
use Rattle.merge.specs.Words.{Laid, header_of, tables_of, merged_cards, yanks_in, decks_in}
use Rattle.words_lists.specs.Over.{put_at}
use Rattle.merge.specs.declared.parts.Parts.{Parts}
use Rattle.words_lists.proofs.OverLists.{put-after, put_then}

drop-take : (k : ℕ) (xs : List ℕ) → 0 < k → drop 1 (take k xs) ≡ take (k - 1) (drop 1 xs)
drop-take zero xs pos = absurd (omega arith)
drop-take (suc k) [] pos = sym (take_all (suc k - 1) [] (omega arith))
drop-take (suc k) (x ∷ xs) pos = let e : suc k - 1 ≡ k = omega arith in ap (λ (j : ℕ). take j xs) (sym e)

-- the parts of an image by their places
module _ (ws : List ℕ) (p : Parts) (h : Laid ws p) where
  pub head-long : 2 + directory_count ws ≤ length ws
  head-long = omega (arith, h.cards, h.yanks, h.inside)

  pub directory-part : take (p.names - 2) (drop 2 ws) ≡ directory_of ws
  directory-part = let e : p.names - 2 ≡ directory_count ws = omega (arith, h.names) in ap (λ (k : ℕ). take k (drop 2 ws)) e

  pub list-part : take (p.cards - p.names) (drop p.names ws) ≡ deck_words_of ws
  list-part =
      let e : p.cards - p.names ≡ deck_count ws = omega (arith, h.names, h.cards) in
      ap₂ (λ (k n : ℕ). take k (drop n ws)) e h.names

  pub rest_part : take (p.cards - (p.names + 1)) (drop (p.names + 1) ws) ≡ drop 1 (deck_words_of ws)
  rest_part =
      let e : p.cards - (p.names + 1) ≡ deck_count ws - 1 = omega (arith, h.names, h.cards) in
      let f : p.names + 1 ≡ 2 + directory_count ws + 1 = omega (arith, h.names) in
      ap₂ (λ (k n : ℕ). take k (drop n ws)) e f ∙ ap (take (deck_count ws - 1)) (sym (drop-drop 1 (2 + directory_count ws) ws))
      ∙ sym (drop-take (deck_count ws) (drop (2 + directory_count ws) ws) (omega (arith, h.some)))

  pub yanks-part : take (p.decks - p.cards) (drop p.cards ws) ≡ yanks_in ws
  yanks-part = ap₂ (λ (d c : ℕ). take (d - c) (drop c ws)) h.decks h.cards

  pub decks-part : take (length ws - p.decks) (drop p.decks ws) ≡ decks_in ws
  decks-part = take_all (length ws - p.decks) (drop p.decks ws) (omega (arith, length-drop p.decks ws)) ∙ ap (λ (d : ℕ). drop d ws) h.decks

  -- as long as they are to be
  pub directory-long : length (directory_of ws) ≡ p.names - 2
  directory-long = length-take-le (directory_count ws) (drop 2 ws) (omega (arith, length-drop 2 ws, head-long)) ∙ omega (arith, h.names)

  pub list-long : length (deck_words_of ws) ≡ p.cards - p.names
  list-long =
      length-take-le (deck_count ws) (drop (2 + directory_count ws) ws) (omega (arith, length-drop (2 + directory_count ws) ws, h.cards, h.yanks, h.inside))
      ∙ omega (arith, h.names, h.cards)

  pub rest-long : length (drop 1 (deck_words_of ws)) ≡ p.cards - p.names - 1
  rest-long = length-drop 1 (deck_words_of ws) ∙ omega (arith, list-long)

  pub yanks-long : length (yanks_in ws) ≡ p.decks - p.cards
  yanks-long =
      length-take-le (deck_end ws (cards_place ws) - cards_place ws) (drop (cards_place ws) ws) (omega (arith, length-drop (cards_place ws) ws, h.cards, h.decks, h.yanks, h.inside))
      ∙ omega (arith, h.cards, h.decks)

  pub decks-long : length (decks_in ws) ≡ length ws - p.decks
  decks-long = length-drop (deck_end ws (cards_place ws)) ws ∙ omega (arith, h.decks)

-- OF TWO
module _ (ws vs : List ℕ) (a b : Parts) (f : Laid ws a) (g : Laid vs b) where
  abbrev ds : List ℕ
  ds = directory_of ws ++ directory_of vs

  abbrev ns : List ℕ
  ns = deck_words_of ws ++ drop 1 (deck_words_of vs)

  ds-long : length ds ≡ a.names + b.names - 4
  ds-long = omega (arith, length-append (directory_of ws) (directory_of vs), directory-long ws a f, directory-long vs b g, f.names, g.names)

  pub tables-long : length (tables_of ws vs) ≡ a.cards + b.cards - 3
  tables-long =
      omega (arith, length-append ds ns, ds-long, length-append (deck_words_of ws) (drop 1 (deck_words_of vs)), list-long ws a f, rest-long vs b g, f.names, g.names, f.cards, g.cards, f.some, g.some)

  -- E: the space with the header in it
  pub tables-laid : (e : List ℕ) (n : ℕ) → n ≡ a.names + b.names - 2
      → put_at n (deck_words_of ws ++ drop 1 (deck_words_of vs)) (put_at 2 (directory_of ws ++ directory_of vs) (header_of ws vs ++ drop 2 e))
      ≡ tables_of ws vs ++ drop (length (tables_of ws vs)) e
  tables-laid e n is =
      let hd : List ℕ = header_of ws vs in
      let at : 2 + length ds ≡ n = omega (arith, ds-long, f.names, g.names) in
      let long : length (hd ++ ds) ≡ n = length-append hd ds ∙ at in
      let all : n + length ns ≡ length (tables_of ws vs) = omega (arith, at, length-append ds ns) in
      ap (put_at n ns) (put-after hd e ds 2 refl ∙ ap (λ (k : ℕ). (hd ++ ds) ++ drop k e) at)
      ∙ put-after (hd ++ ds) e ns n long
      ∙ ap₂ (λ (l : List ℕ) (k : ℕ). l ++ drop k e) (append_assoc hd ds ns) all

  -- the cards of both, from the end of the tables on
  pub cards-laid : (e : List ℕ) → length ws + length vs ≤ length e + 3 → (n at more : ℕ) → n ≡ directory_count ws → at ≡ a.cards + b.cards - 3 → more ≡ a.decks + b.decks - 3
      → put_at more (decks_in ws ++ raised_words n (decks_in vs)) (put_at at (yanks_in ws ++ raised_words n (yanks_in vs)) e)
      ≡ put_at (length (tables_of ws vs)) (merged_cards ws vs) e
  cards-laid e room n at more same start end =
      let ys : List ℕ = yanks_in ws ++ raised_words n (yanks_in vs) in
      let zs : List ℕ = decks_in ws ++ raised_words n (decks_in vs) in
      let y1 : length (yanks_in ws) ≡ a.decks - a.cards = yanks-long ws a f in
      let y2 : length (raised_words n (yanks_in vs)) ≡ b.decks - b.cards = raised_long n (yanks_in vs) ∙ yanks-long vs b g in
      let ly : length ys ≡ (a.decks - a.cards) + (b.decks - b.cards) = omega (arith, length-append (yanks_in ws) (raised_words n (yanks_in vs)), y1, y2) in
      let z1 : length (decks_in ws) ≡ length ws - a.decks = decks-long ws a f in
      let z2 : length (raised_words n (decks_in vs)) ≡ length vs - b.decks = raised_long n (decks_in vs) ∙ decks-long vs b g in
      let lz : length zs ≡ (length ws - a.decks) + (length vs - b.decks) = omega (arith, length-append (decks_in ws) (raised_words n (decks_in vs)), z1, z2) in
      let big : 3 ≤ a.cards + b.cards = omega (arith, f.cards, g.cards) in
      let m : more ≡ at + length ys = omega (arith, ly, f.yanks, g.yanks, big) in
      let fits : at + length ys + length zs ≤ length e = omega (arith, ly, lz, f.yanks, g.yanks, f.inside, g.inside, big) in
      ap (λ (k : ℕ). put_at k zs (put_at at ys e)) m ∙ put_then at ys zs e (omega arith)
      ∙ ap₂ (λ (k j : ℕ). put_at k ((yanks_in ws ++ raised_words j (yanks_in vs)) ++ (decks_in ws ++ raised_words j (decks_in vs))) e) (start ∙ sym tables-long) same
