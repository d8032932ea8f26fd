-- A library taken up is held at the start of a run: cards below the gap, tables in arrays, decks flagged.
use Prim.Native.Nat.{ℕ, ◌+◌, ◌-◌, ◌/◌, ◌%◌, ◌^◌, ◌≤◌}
use native.Mathlib.Omega.{arith}
use mathlib.Core.Path.{◌≡◌, refl, sym, ap, ap₂, ◌∙◌}
use mathlib.Core.Bool.{Bool, false}
use mathlib.Core.List.{List, [], ◌++◌, map, append-nil}
use lib.ListN.{length, take, drop, get_or, length-append, length-drop, drop_of_length-le}
use lib.Seq.{take_at, take-append_seam, length-take-le}
use Rattle.words.specs.Base.{member}
use Rattle.library.specs.Each.{Each}
use Rattle.library.specs.Library.{Card, Library, deck_cards, joined, stream, entry_of, deck_names}
use Rattle.library.specs.Yanks.{yanked}
use Rattle.library.specs.Image.{cards_words}
use Rattle.library.specs.Check.{good, check}
use Rattle.library.specs.Sound.{Sound}
use Rattle.library.proofs.LimitsByCount.{Small}
use Rattle.run_meaning.specs.Step.{start}
use Rattle.run.specs.CardHeads.{Fits}
use Rattle.run.specs.CardSeek.{CardRun, Finds}
use Rattle.run_meaning.specs.Flat.{index_by, deck_numbers}
use Rattle.library_yanks_bits.specs.SettledBits.{flagged}
use Rattle.run.specs.Desk.{Sane, Tables, HeldUnder}
use Rattle.run.specs.Loaded.{titled_card, FindsTitle, FlagsDecks, Loads}
use Rattle.run.specs.declared.desk.Desk.{Desk}
use Rattle.run.specs.declared.desk.TextAt.TheVariants.{Nowhere as TextNowhere}
use Rattle.run.specs.declared.seek.Place.{Place}
use Rattle.run.proofs.Handing.{stream-fits}
use Rattle.library.specs.Readable.{Readable}
use Rattle.library.proofs.ImageParts.{read-sound, read_small, entries-are, decks-are, directory-is, names-are}
use Rattle.run.proofs.Loading.{loaded-long, loaded-cards, none-of-zero, listed-numbers, titles-end}

module _ (old : List ℕ) where
  abbrev N : ℕ
  N = get_or old 1 0 / 2 ^ 18

  abbrev K : ℕ
  K = get_or old 1 0 % 2 ^ 18

  abbrev low : ℕ
  low = length old - (2 + N + K)

  abbrev pub load_desk : Place → Place → Desk
  load_desk t c =
      record {
        gap = record { lo = low; hi = 65536 };
        low = c.index;
        entries = N;
        decks = K - 1;
        cards = c.index;
        yanks = t.index;
        lead = t.at;
        set = false;
        next = 0;
        place = TextNowhere;
      }

  module _ (w dir names decks w₀ dir₀ names₀ : List ℕ) (t c : Place)
      (ew : w ≡ drop (2 + N + K) old ++ drop low w₀) (ed : dir ≡ take N (drop 2 old) ++ drop N dir₀) (en : names ≡ take K (drop (2 + N) old) ++ drop K names₀) (room : length w ≡ 65536)
      (fl : FlagsDecks (take N dir) (take K names) decks) (ft : FindsTitle w low decks t) (fc : Finds w 0 low 0 0 c) where
    module _ (l : Library) (ok : check old ≡ good l) where
      abbrev yk : ℕ → Bool
      yk = yanked l 0

      abbrev cards : List ℕ
      cards = cards_words (yanked l 0) (stream l)

      sound : Sound l
      sound = read-sound old l ok

      fits : Each Fits (stream l)
      fits = stream-fits l sound

      low-is : low ≡ length cards
      low-is = omega (arith, loaded-long old l ok, entries-are old l ok, decks-are old l ok)

      w-is : w ≡ cards ++ drop low w₀
      w-is =
          ew ∙ ap (λ (x : List ℕ). x ++ drop low w₀) (ap₂ (λ (i j : ℕ). drop (2 + i + j) old) (entries-are old l ok) (decks-are old l ok) ∙ loaded-cards old l ok)

      run_of : CardRun w 0 low yk (stream l) (drop low w₀)
      run_of = record { words = w-is; end = omega (arith, low-is); fit = fits }

      dir-is : take N dir ≡ l.directory
      dir-is =
          ap (take N) ed
          ∙ take_at (take N (drop 2 old)) (drop N dir₀) N (length-take-le N (drop 2 old) (omega (arith, length-drop 2 old, loaded-long old l ok, entries-are old l ok)))
          ∙ ap (λ (i : ℕ). take i (drop 2 old)) (entries-are old l ok) ∙ directory-is old l ok

      names-is : take K names ≡ deck_names l
      names-is =
          ap (take K) en
          ∙ take_at (take K (drop (2 + N) old)) (drop K names₀) K (length-take-le K (drop (2 + N) old) (omega (arith, length-drop (2 + N) old, loaded-long old l ok, entries-are old l ok, decks-are old l ok)))
          ∙ ap₂ (λ (i j : ℕ). take j (drop (2 + i) old)) (entries-are old l ok) (decks-are old l ok) ∙ names-are old l ok

      marked : (m : ℕ) → flagged decks m ≡ member m (deck_numbers l)
      marked m = fl m ∙ ap (member m) (ap₂ (λ (x y : List ℕ). map (entry_of x) (drop 1 y)) dir-is names-is ∙ listed-numbers l sound)

      counted : c.index ≡ length (stream l)
      counted = (fc yk (stream l) (drop low w₀) run_of).index ∙ none-of-zero (stream l) fits

      ahead_of : index_by (titled_card decks) (stream l) ≡ length l.yanks
      ahead_of = titles-end l sound decks marked

      yanks-count : t.index ≡ length l.yanks
      yanks-count = (ft yk (stream l) (drop low w₀) run_of).index ∙ ahead_of

      few-yanks : t.index ≤ c.index
      unfolding stream
      few-yanks =
          let n : length (stream l) ≡ length l.yanks + length (joined (map deck_cards l.decks)) = length-append l.yanks (joined (map deck_cards l.decks)) in
          omega (arith, yanks-count, counted)

      yanks-are : take (length l.yanks) (stream l) ≡ l.yanks
      unfolding stream
      yanks-are = take-append_seam l.yanks (joined (map deck_cards l.decks))

      lead_is : t.at ≡ length (cards_words yk l.yanks)
      lead_is =
          (ft yk (stream l) (drop low w₀) run_of).at
          ∙ ap (λ (i : ℕ). length (cards_words yk (take i (stream l)))) ahead_of
          ∙ ap (λ (x : List Card). length (cards_words yk x)) yanks-are

      tables-of : Tables dir names decks (load_desk t c) l
      tables-of =
          let back : K - 1 + 1 ≡ K = omega (arith, decks-are old l ok) in
          record {
            directory = dir-is;
            entries = entries-are old l ok;
            listed = ap (λ (i : ℕ). take i names) back ∙ names-is;
            count = omega (arith, decks-are old l ok);
            marked = marked;
          }

      held_of : HeldUnder yk w dir names decks (load_desk t c) (start l)
      held_of =
          let all : length w ≤ 65536 = omega (arith, room) in
          record {
            below = stream l;
            above = [];
            work = record {
              parted = record {
                under = ap (take low) w-is ∙ take_at cards (drop low w₀) low (sym low-is);
                over = drop_of_length-le w {i = 65536} all;
              };
              fit1 = fits;
              fit2 = tt;
            };
            whole = append-nil (stream l);
            low = counted;
            cards = counted;
            tables = tables-of;
            yanks = yanks-count;
            leads = lead_is;
            set = refl;
            next = refl;
            place = tt;
            safe = record { sound = sound; place = tt; set = λ x. absurd x };
          }

    pub load-held : Loads old w dir names decks (load_desk t c)
    load-held l ok = held_of l ok

    pub load-sane : (r : Readable old) → Sane w (load_desk t c)
    load-sane r =
        let s : Small r.lib = read_small old r.lib r.accepted in
        let e : c.index ≡ length (stream r.lib) = counted r.lib r.accepted in
        record {
          ordered = (omega (arith, r.long), omega (arith, room));
          room = room;
          entries = r.entries;
          decks = omega (arith, r.decks);
          cards = omega (arith, e, s.cards);
          next = omega arith;
          yanks = few-yanks r.lib r.accepted;
          low = omega arith;
        }
