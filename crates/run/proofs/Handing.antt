-- The library in work taken up from an image's cards and handed out again; a sound library's cards fit it.
use Prim.Native.Nat.{ℕ, ◌≤◌}
use native.Mathlib.Omega.{arith}
use mathlib.Core.Path.{◌≡◌, refl, sym, ap, ◌∙◌}
use mathlib.Core.Bool.{Bool, false, ◌&&◌, ◌||◌}
use mathlib.Core.List.{List, [], ◌∷◌, ◌++◌, map}
use lib.Dec.{T, eqb, leb→le, ltb→lt}
use lib.ListN.{length}
use Rattle.words.specs.Base.{any, member}
use Rattle.words.specs.Text.{text_words}
use Rattle.words.proofs.TextTrip.{written-fits}
use Rattle.library.specs.Each.{Each}
use Rattle.library.specs.Library.{Byte, Card, Deck, Library, history, deck_cards, joined, stream}
use Rattle.library.specs.Yanks.{Target, whole_set, covers, Yank, yanks_of, yanked_by, settled_yanks, yanked, last_says}
use Rattle.library.specs.Image.{cards_words, decks_words, tables, encode, short_history, limit_tests, within_limits}
use Rattle.library.specs.Sound.{Sound, SoundDeck, SoundCard, is_entry, line_tests, number_tests}
use Rattle.library.proofs.EachTest.{all-each, all_of-each, each_map, each_two}
use Rattle.run.specs.CardHeads.{Fits, FitsByte}
use Rattle.run.proofs.Walking.{cards-append}

-- flags that agree give the same words
pub cards-agree : (p q : ℕ → Bool) (cs : List Card) → ((n : ℕ) → p n ≡ q n) → cards_words p cs ≡ cards_words q cs
cards-agree p q cs h = λ i. cards_words (λ n. h n i) cs

-- OF A LIBRARY: what is yanked is yanked in every deck, so an image has the words of the stream of cards under one set of flags
any-covers : (d e n : ℕ) (ts : List Target) → any (covers d n) ts ≡ any (covers e n) ts
any-covers d e n [] = refl
any-covers d e n (whole_set m ∷ ts) = ap (λ (b : Bool). eqb n m || b) (any-covers d e n ts)

by-any-deck : (ys : List Yank) (f : ℕ → Bool) (d e n : ℕ) → yanked_by ys f d n ≡ yanked_by ys f e n
by-any-deck [] f d e n = refl
by-any-deck (y ∷ ys) f d e n = λ i. (any-covers d e n y.acts i && last_says f false y.bytes) || by-any-deck ys f d e n i

pub yanked-anywhere : (l : Library) (d e n : ℕ) → yanked l d n ≡ yanked l e n
unfolding yanked
yanked-anywhere l d e n = by-any-deck (yanks_of l) (λ m. member m (settled_yanks l)) d e n

decks-stream : (yk : ℕ → ℕ → Bool) → ((d n : ℕ) → yk d n ≡ yk 0 n) → (ds : List Deck)
    → decks_words yk ds ≡ cards_words (yk 0) (joined (map deck_cards ds))
decks-stream yk same [] = refl
decks-stream yk same (d ∷ ds) =
    (λ i. cards-agree (yk d.number) (yk 0) (deck_cards d) (same d.number) i ++ decks-stream yk same ds i)
    ∙ sym (cards-append (yk 0) (deck_cards d) (joined (map deck_cards ds)))

pub encode-stream : (l : Library) → encode l ≡ tables l ++ cards_words (yanked l 0) (stream l)
unfolding encode stream
encode-stream l =
    ap (λ (t : List ℕ). tables l ++ (cards_words (yanked l 0) l.yanks ++ t)) (decks-stream (yanked l) (λ d n. yanked-anywhere l d 0 n) l.decks)
    ∙ ap (λ (t : List ℕ). tables l ++ t) (sym (cards-append (yanked l 0) l.yanks (joined (map deck_cards l.decks))))

-- a sound card of a library within its limits fits
named-fits : (directory : List ℕ) → length directory ≤ 1023 → (b : Byte) → T (is_entry directory b.number) → FitsByte b
named-fits directory small b t =
    let e = all_of-each (number_tests directory b.number) t in
    let high : b.number ≤ length directory = leb→le b.number (length directory) e.1.0 in
    (ltb→lt 0 b.number e.0, omega arith)

pub sound-fits : (directory : List ℕ) → length directory ≤ 1023 → (c : Card) → SoundCard directory c → T (short_history c) → Fits c
sound-fits directory small c s short =
    let e = all_of-each (line_tests c.line) s.line in
    let columns : length c.line ≤ 80 = leb→le (length c.line) 80 e.1.0 in
    let words : length (text_words c.line) ≤ 16 = written-fits c.line columns in
    let named =
    each_map (λ b. T (is_entry directory b.number)) FitsByte (named-fits directory small) (history c)
    (all-each (λ b. is_entry directory b.number) (history c) s.named) in
    let bytes : length (history c) ≤ 64 = leb→le (length (history c)) 64 short in
    let seq : c.seq ≤ 262143 = s.fits in
    record { count = omega arith; above = s.numbered; below = omega arith; first = named.0; later = named.1; short = omega arith }

each-join : {A : Type 0} (P : A → Type 0) (xs ys : List A) → Each P xs → Each P ys → Each P (xs ++ ys)
each-join P [] ys f g = g
each-join P (x ∷ xs) ys f g = (f.0, each-join P xs ys f.1 g)

decks-sound : (directory : List ℕ) (ds : List Deck) → Each (SoundDeck directory) ds → Each (SoundCard directory) (joined (map deck_cards ds))
decks-sound directory [] f = tt
decks-sound directory (d ∷ ds) f =
    (f.0.first, each-join (SoundCard directory) d.cards (joined (map deck_cards ds)) f.0.cards (decks-sound directory ds f.1))

-- so what the check accepts can be taken up
pub stream-fits : (l : Library) → Sound l → Each Fits (stream l)
unfolding within_limits stream
stream-fits l s =
    let e = all_of-each (limit_tests l) s.limits in
    let small : length l.directory ≤ 1023 = leb→le (length l.directory) 1023 e.0 in
    let cards : Each (SoundCard l.directory) (stream l) =
    each-join (SoundCard l.directory) l.yanks (joined (map deck_cards l.decks)) s.yanks (decks-sound l.directory l.decks s.decks)
    in
    each_two (SoundCard l.directory) (λ c. T (short_history c)) Fits (sound-fits l.directory small) (stream l) cards
    (all-each short_history (stream l) e.1.1.1.0)
