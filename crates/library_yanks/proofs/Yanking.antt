-- The flags settled from the words of a sound library's YANK$$$ are 1 where the number is yanked, 0 else. Assumes nothing.
--   cards-at                        the cards stand at the places of their words
--   settled-yanked                  the law
use Rattle.std.specs.Prelude.{if◌then◌else◌}
use Prim.Native.Nat.{ℕ, suc, ◌+◌, ◌≤◌, ◌<◌}
use native.Mathlib.Omega.{arith}
use mathlib.Core.Path.{◌≡◌, refl, sym, ap, ap₂, ◌∙◌, subst}
use mathlib.Core.Bool.{Bool, true, false, ◌&&◌}
use mathlib.Core.List.{List, [], ◌∷◌, ◌++◌, map}
use borrow.Author.Tests.{eqb-true, eqb-false}
use lib.Dec.{T, eqb, leb→le}
use lib.ListN.{length, get_or, drop, length-append, length-drop}
use Rattle.words.specs.Base.{any, all}
use Rattle.words.specs.Text.{text_words}
use Rattle.words.proofs.TestParts.{true-T}
use Rattle.words_lines.specs.Directive.{directive}
use Rattle.library.specs.Each.{Each}
use Rattle.library.specs.Library.{Byte, Card, Library, history, deck_names}
use Rattle.library.specs.Yanks.{Target, covers, is_yank, targets, last_says, yanked_by, yanked}
use Rattle.library.specs.Image.{byte_bits, further_words, card_words, cards_words, decks_words, tables, encode, limit_tests, within_limits}
use Rattle.library.specs.Check.{ok_target}
use Rattle.library_yanks.specs.Bytes.{flagged}
use Rattle.library.specs.Sound.{is_entry, names_lower_sets, SoundCard, Sound}
use Rattle.library.proofs.EachTest.{each_map, each_two, and_parts, all-each, all_of-each}
use Rattle.library.proofs.EntryNames.{is-named}
use Rattle.library.proofs.ReadBack.{head_of}
use Rattle.library.proofs.AnyAndAll.{any-map}
use Rattle.library_yanks.proofs.Settling.{Lower}
use Rattle.library.proofs.YankedUnique.{falls-none, card-lower}
use Rattle.library.proofs.Rollback.{yank_of}
use Rattle.library.proofs.SettledFlags.{yank_list, yanked-rule, flags-yanked}
use Rattle.library_image.specs.Places.{next_at, places_in}
use Rattle.library_yanks.specs.Flags.{names_in, settled_flags, SettledYanked}
use Rattle.library_image.proofs.CardPlaces.{places-more, places-end}
use Rattle.library_image.proofs.SeenCard.{inside, after, owner-is, line-is}
use Rattle.library_yanks.proofs.Saying.{force-is}
use Rattle.library_yanks.proofs.Passing.{Known, names-known, AllAt, settled-bits, settled_is}

cards-at : (d ws : List ℕ) → length d ≤ 1023 → (yk : ℕ → Bool) (cs : List Card) → Each (SoundCard d) cs → (at : ℕ) → drop at ws ≡ cards_words yk cs → AllAt ws (places_in ws at) cs
cards-at d ws few yk [] h at e =
    let z : length (drop at ws) ≡ 0 = ap length e in
    subst (λ (ps : List ℕ). AllAt ws ps []) (sym (places-end ws at (omega (arith, z, length-drop at ws)))) tt
cards-at d ws few yk (c ∷ cs) h at e =
    let r : List ℕ = cards_words yk cs in
    let on : AllAt ws (places_in ws (next_at ws at)) cs = cards-at d ws few yk cs h.1 (next_at ws at) (after d ws few yk c h.0 at r e) in
    subst (λ (ps : List ℕ). AllAt ws ps (c ∷ cs)) (sym (places-more ws at (inside d ws few yk c h.0 at r e))) (
      record {
        own = owner-is d ws few yk c h.0 at r e;
        line = line-is d ws few yk c h.0 at r e;
        force = force-is d ws few yk c h.0 at r e;
      },
      on,
    )

-- WORDS: how many they are does not hang on what is yanked
module _ (yk zk : ℕ → Bool) where
  further-long : (bs : List Byte) → length (further_words (map (byte_bits yk) bs)) ≡ length (further_words (map (byte_bits zk) bs))
  further-long [] = refl
  further-long (a ∷ []) = refl
  further-long (a ∷ b ∷ []) = refl
  further-long (a ∷ b ∷ c ∷ r) = ap suc (further-long r)

  card-long : (c : Card) → length (card_words yk c) ≡ length (card_words zk c)
  unfolding card_words
  card-long c =
      length-append (head_of yk c) (text_words c.line) ∙ ap (λ (n : ℕ). suc n + length (text_words c.line)) (further-long c.later)
      ∙ sym (length-append (head_of zk c) (text_words c.line))

  cards-long : (cs : List Card) → length (cards_words yk cs) ≡ length (cards_words zk cs)
  cards-long [] = refl
  cards-long (c ∷ cs) =
      length-append (card_words yk c) (cards_words yk cs) ∙ ap₂ ◌+◌ (card-long c) (cards-long cs) ∙ sym (length-append (card_words zk c) (cards_words zk cs))

-- THE LAW
bit_is : (x : ℕ) (b : Bool) → x ≤ 1 → eqb x 1 ≡ b → x ≡ (if b then 1 else 0)
bit_is x true h e = eqb-true x 1 e
bit_is x false h e = let d : x ≡ 1 → ⊥ = eqb-false x 1 e in omega arith

module _ (l : Library) (s : Sound l) where
  abbrev d : List ℕ
  d = l.directory

  limits : (length d ≤ 1023) × (length (cards_words (yanked l 0) l.yanks) ≤ 65536)
  unfolding within_limits encode
  limits =
      let q = all_of-each (limit_tests l) s.limits in
      let whole : length (encode l) ≤ 65536 = leb→le (length (encode l)) 65536 q.1.1.1.1.0 in
      let a : length (encode l) ≡ length (tables l) + length (cards_words (yanked l 0) l.yanks ++ decks_words (yanked l) l.decks) =
      length-append (tables l) (cards_words (yanked l 0) l.yanks ++ decks_words (yanked l) l.decks) in
      let b = length-append (cards_words (yanked l 0) l.yanks) (decks_words (yanked l) l.decks) in
      (leb→le (length d) 1023 q.0, omega arith)

  known-card : (c : Card) → T (names_lower_sets l c) → Known d (names_in c.line)
  known-card c t =
      let ok : Target → Bool = ok_target d (deck_names l) c.owner in
      names-known d (deck_names l) c.owner c.line (and_parts (is_yank (directive c.line)) (all ok (targets d c.line)) t).1

  lower-card : (c : Card) → SoundCard d c → T (names_lower_sets l c) → Lower d c
  lower-card c h t =
      record {
        names = λ n e. let r = card-lower l c h t n (true-T _ e) in (r.0, r.2.0);
        own = (is-named d c.owner (all-each (λ b. is_entry d b.number) (history c) h.named).0).within;
        rises = (omega arith, falls-none c.owner c.later h.rises);
      }

  solves : (n : ℕ) → yanked l 0 n ≡ any (λ c. any (covers 0 n) (targets d c.line) && last_says (yanked l 0) false (history c)) l.yanks
  solves n =
      yanked-rule l 0 n ∙ ap (λ (f : ℕ → Bool). yanked_by (yank_list l) f 0 n) (flags-yanked l s)
      ∙ any-map (λ y. any (covers 0 n) y.acts && last_says (yanked l 0) false y.bytes) (yank_of d) l.yanks

  module _ (yk : ℕ → Bool) (size : ℕ) (lt : length d < size) where
    abbrev ws : List ℕ
    ws = cards_words yk l.yanks

    short : length ws ≤ 65536
    short = omega (arith, limits.1, cards-long yk (yanked l 0) l.yanks)

    flag_is : (n : ℕ) → flagged (settled_flags d ws size) n ≡ yanked l 0 n
    flag_is =
        settled_is d ws size limits.0 short lt l.yanks (cards-at d ws limits.0 yk l.yanks s.yanks 0 refl)
        (each_map (λ c. T (names_lower_sets l c)) (λ c. Known d (names_in c.line)) known-card l.yanks s.lower)
        (each_two (SoundCard d) (λ c. T (names_lower_sets l c)) (Lower d) lower-card l.yanks s.yanks s.lower)
        (yanked l 0) solves

    flags-are : (n : ℕ) → get_or (settled_flags d ws size) n 0 ≡ (if yanked l 0 n then 1 else 0)
    flags-are n = bit_is (get_or (settled_flags d ws size) n 0) (yanked l 0 n) (settled-bits d ws size limits.0 short n) (flag_is n)

pub settled-yanked : SettledYanked
settled-yanked l s yk size lt n = flags-are l s yk size lt n
