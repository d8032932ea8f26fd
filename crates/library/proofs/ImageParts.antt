-- An accepted image is the image of the library that was read: its parts are that library's tables and cards.
--   accepted-is                                  it is the image of one
--   read-sound, read_small                       which is sound and within the limits
--   header_is, counts-are, entries-are, decks-are, image-long, readable   its counts
--   directory-is, names-are, cards-are           its parts
use Prim.Native.Nat.{ℕ, suc, ◌+◌, ◌/◌, ◌%◌, ◌^◌}
use native.Mathlib.Omega.{arith}
use mathlib.Core.Path.{◌≡◌, refl, sym, ap, ◌∙◌}
use mathlib.Core.List.{List, ◌++◌, append_assoc}
use lib.ListN.{length, take, drop, get_or, length-map}
use lib.Seq.{drop-drop, take-append_seam, drop-append_seam}
use Rattle.library.specs.Library.{Library, name_at, deck_names}
use Rattle.library.specs.Yanks.{yanked}
use Rattle.library.specs.Image.{cards_words, decks_words, header, counts, tables, encode}
use Rattle.library.specs.Check.{Checking, good, bad, check, checked}
use Rattle.library.specs.Sound.{Sound}
use Rattle.library.specs.Readable.{Readable}
use Rattle.library.specs.declared.Refusal.{Refusal}
use Rattle.std.specs.Prelude.{Ok, Err}
use Rattle.library.proofs.CheckEncode.{check-encode}
use Rattle.library.proofs.CheckSound.{check_sound}
use Rattle.library.proofs.LimitsByCount.{words, encode-length, Small, within-small}

pub accepted-is : (ws : List ℕ) → checked (check ws) ≡ Ok tt → (l : Library) × (check ws ≡ good l)
accepted-is ws e = go (check ws) refl e
  where
    go : (x : Checking) → check ws ≡ x → checked x ≡ Ok tt → (l : Library) × (check ws ≡ good l)
    go (good l) q h = (l, q)
    go (bad f p) q h = absurd cc

pub rejected-is : (ws : List ℕ) (r : Refusal) → checked (check ws) ≡ Err r → check ws ≡ bad r.fault r.place
rejected-is ws r e = go (check ws) refl e
  where
    go : (x : Checking) → check ws ≡ x → checked x ≡ Err r → check ws ≡ bad r.fault r.place
    go (good l) q h = absurd cc
    go (bad g n) q h =
        let e : record { fault = g; place = n } ≡ r = cc in
        q ∙ ap (λ (s : Refusal). bad s.fault s.place) e

module _ (ws : List ℕ) (l : Library) (ok : check ws ≡ good l) where
  abbrev n : ℕ
  n = length l.directory

  abbrev k : ℕ
  k = suc (length l.decks)

  abbrev cards : List ℕ
  cards = cards_words (yanked l 0) l.yanks ++ decks_words (yanked l) l.decks

  pub read-sound : Sound l
  read-sound = check_sound ws l ok

  pub read_small : Small l
  read_small = within-small l read-sound.limits

  flat : ws ≡ tables l ++ cards
  unfolding encode
  flat = sym (check-encode ws l ok)

  pub header_is : get_or ws 0 0 ≡ header
  header_is = ap (λ (x : List ℕ). get_or x 0 0) flat

  pub counts-are : get_or ws 1 0 ≡ counts l
  counts-are = ap (λ (x : List ℕ). get_or x 1 0) flat

  pub entries-are : get_or ws 1 0 / 2 ^ 18 ≡ length l.directory
  entries-are = let s = read_small in omega (arith, counts-are, s.entries, s.decks)

  pub decks-are : get_or ws 1 0 % 2 ^ 18 ≡ suc (length l.decks)
  decks-are = let s = read_small in omega (arith, counts-are, s.entries, s.decks)

  pub image-long : length ws ≡ 3 + length l.directory + length l.decks + words l
  image-long = ap length (sym (check-encode ws l ok)) ∙ encode-length l

  pub readable : Readable ws
  readable =
      let s = read_small in
      record {
        lib = l;
        accepted = ok;
        long = omega (arith, image-long, s.total);
        entries = omega (arith, entries-are, s.entries);
        some = omega (arith, decks-are);
        decks = omega (arith, decks-are, s.decks);
        tables = omega (arith, entries-are, decks-are, image-long);
      }

  names-long : length (deck_names l) ≡ suc (length l.decks)
  unfolding deck_names
  names-long = ap suc (length-map l.decks (λ d. name_at l.directory d.number))

  behind-head : drop 2 ws ≡ l.directory ++ (deck_names l ++ cards)
  behind-head = ap (drop 2) flat ∙ append_assoc l.directory (deck_names l) cards

  behind-directory : drop (2 + n) ws ≡ deck_names l ++ cards
  behind-directory = sym (drop-drop n 2 ws) ∙ ap (drop n) behind-head ∙ drop-append_seam l.directory (deck_names l ++ cards)

  pub directory-is : take (length l.directory) (drop 2 ws) ≡ l.directory
  directory-is = ap (take n) behind-head ∙ take-append_seam l.directory (deck_names l ++ cards)

  pub names-are : take (suc (length l.decks)) (drop (2 + length l.directory) ws) ≡ deck_names l
  names-are =
      ap (take k) behind-directory ∙ ap (λ (i : ℕ). take i (deck_names l ++ cards)) (sym names-long) ∙ take-append_seam (deck_names l) cards

  pub cards-are : drop (2 + length l.directory + suc (length l.decks)) ws ≡ cards_words (yanked l 0) l.yanks ++ decks_words (yanked l) l.decks
  cards-are =
      sym (drop-drop k (2 + n) ws) ∙ ap (drop k) behind-directory
      ∙ ap (λ (i : ℕ). drop i (deck_names l ++ cards)) (sym names-long) ∙ drop-append_seam (deck_names l) cards
