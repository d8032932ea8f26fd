-- The library of an accepted image is sound.
use Rattle.std.specs.Prelude.{if◌then◌else◌}
use Prim.Native.Nat.{ℕ, suc, ◌≤◌}
use native.Mathlib.Omega.{arith}
use mathlib.Core.Path.{◌≡◌, refl, ap, ◌∙◌, subst}
use mathlib.Core.List.{List, [], ◌∷◌, map}
use mathlib.Core.Option.{none}
use lib.Dec.{T, eqb, eqb→eq, eqb_refl, le→leb}
use lib.ListN.{length, drop, length-map}
use Rattle.library.specs.Each.{Each}
use Rattle.library.specs.Library.{Card, Deck, Library, DeckLine, not_deck, bad_deck, deck_of, deck_line, history, stream, deck_names, name_at}
use Rattle.library.specs.Image.{encode, short_history, limit_tests, within_limits}
use Rattle.library.specs.Check.{Stored, directory_of, deck_words_of, is_deck_line, row7, part_at, parted_by, library_of, ahead_of_decks, ok_yank}
use Rattle.library.specs.Sound.{no_two, names_lower_sets, SoundDeck, Sound}
use Rattle.library.specs.Exact.{CheckSound, FreshSound}
use Rattle.library.proofs.EachTest.{each_map, each-of-map, each_all, each-all_of}
use Rattle.library.proofs.NoTwo.{no-two-map, no-two-less}
use Rattle.library.proofs.TableRows.{entries-sound}
use Rattle.library.proofs.CardRows.{failing-none, row10-once}
use Rattle.library.proofs.AcceptedImage.{Accepted, check-accepted}
use Rattle.library.proofs.CardsInDecks.{Step, step}
use Rattle.library.proofs.ImageLayout.{Counted, counted, entry-count, entries-pass, listed, read, parts, deck-names, deck-count}
use Rattle.library.proofs.CheckEncode.{accepted-encode}

-- the cards ahead of the decks are those of YANK$$$
ahead-first : (directory names : List ℕ) (ss : List Stored) (end : ℕ) → row7 directory names ss end ≡ none → map (λ s. s.card) (ahead_of_decks ss) ≡ (parted_by ss).first
ahead-first directory names [] end e = refl
ahead-first directory names (s ∷ ss) end e =
    go (deck_line s.card.line) (step directory names s ss end (deck_line s.card.line) e) (λ f. ahead-first directory names ss end f)
  where
    go : (d : DeckLine) → Step directory names s ss end d → (row7 directory names ss end ≡ none → map (λ t. t.card) (ahead_of_decks ss) ≡ (parted_by ss).first)
        → map (λ t. t.card) (if is_deck_line d then [] else (s ∷ ahead_of_decks ss)) ≡ (part_at d s.card (parted_by ss)).first
    go not_deck r ih = ap {B = List Card} (λ t. s.card ∷ t) (ih r)
    go bad_deck r ih = absurd r
    go (deck_of common w) r ih = refl

module _ (ws : List ℕ) (l : Library) (a : Accepted ws l) where
  abbrev directory : List ℕ
  directory = directory_of ws

  abbrev found : Library
  found = library_of directory a.stored

  abbrev name_of : Deck → ℕ
  name_of d = name_at directory d.number

  stream-stored : stream found ≡ map (λ s. s.card) a.stored
  unfolding stream
  stream-stored = (parts ws l a).cards

  short : Each (λ c. T (short_history c)) (stream found)
  short =
      rw stream-stored
      (each-of-map (λ c. T (short_history c)) (λ s. s.card) a.stored
      (each_map _ _ (λ s o. le→leb (length (history s.card)) 64 o.short) a.stored (read ws l a).sound))

  limits : T (within_limits found)
  unfolding within_limits
  limits =
      let c : Counted ws = counted ws l a in
      let few : length a.stored ≤ 16383 = (read ws l a).few in
      let size : length (encode found) ≡ length ws = ap length (accepted-encode ws l a) in
      let count : length (stream found) ≡ length a.stored = ap length stream-stored ∙ length-map a.stored (λ s. s.card) in
      each-all_of (limit_tests found) (
        le→leb (length directory) 1023 (omega (arith, entry-count ws l a)),
        (
          le→leb (suc (length found.decks)) 255 (omega (arith, deck-count ws l a)),
          (
            le→leb (length (stream found)) 16383 (omega arith),
            (each_all short_history (stream found) short, (le→leb (length (encode found)) 65536 (omega arith), tt)),
          ),
        ),
      )

  lower : Each (λ c. T (names_lower_sets found c)) found.yanks
  lower =
      subst (λ (cs : List Card). Each (λ c. T (names_lower_sets found c)) cs) (ahead-first directory (drop 1 (deck_words_of ws)) a.stored (length ws) a.decks)
      (each-of-map (λ c. T (names_lower_sets found c)) (λ s. s.card) (ahead_of_decks a.stored)
      (each_map (λ s. T (ok_yank directory (deck_words_of ws) s)) _ (λ s t. rw (deck-names ws l a) t) (ahead_of_decks a.stored)
      (failing-none (ok_yank directory (deck_words_of ws)) (ahead_of_decks a.stored) a.yanks)))

  -- decks with one number have one name
  differ : T (no_two eqb (map (λ d. d.number) found.decks))
  differ =
      let names : T (no_two eqb (map name_of found.decks)) = rw (parts ws l a).listed (listed ws l a).once in
      rw (no-two-map eqb (λ d. d.number) found.decks)
      (no-two-less (SoundDeck directory) (λ d e. eqb (name_of d) (name_of e)) (λ d e. eqb d.number e.number)
      (λ d e p q t. subst (λ (n : ℕ). T (eqb (name_of d) (name_at directory n))) (eqb→eq d.number e.number t) (eqb_refl (name_of d)))
      found.decks (parts ws l a).decks (rw (no-two-map eqb name_of found.decks) at names))

  accepted-sound : Sound found
  accepted-sound =
      let e = entries-sound 2 directory (entries-pass ws l a) in
      let p = parts ws l a in
      record {
        limits = limits;
        entries = e.0;
        names = e.1;
        yanks = p.first;
        others = p.others;
        lower = lower;
        decks = p.decks;
        differ = differ;
        once = rw stream-stored (row10-once a.stored a.once);
      }

pub check_sound : CheckSound
check_sound ws l e = let a = check-accepted ws l e in subst Sound a.same (accepted-sound ws l a)

pub fresh-sound : FreshSound
unfolding within_limits stream encode deck_names
fresh-sound = record { limits = tt; entries = tt; names = tt; yanks = tt; others = tt; lower = tt; decks = tt; differ = tt; once = tt }
