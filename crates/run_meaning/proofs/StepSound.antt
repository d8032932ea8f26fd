-- Each line keeps a library sound, so an accepted run makes a sound library of a sound one.
use Rattle.std.specs.Prelude.{if◌then◌else◌}
use Prim.Native.Nat.{ℕ, suc, ◌-◌, ◌<◌}
use native.Mathlib.Omega.{arith}
use mathlib.Core.Path.{◌≡◌, refl, ap, subst}
use mathlib.Core.Bool.{Bool, true, false, ◌||◌, not}
use mathlib.Core.List.{List, [], ◌∷◌}
use mathlib.Core.Option.{Option, none, some}
use lib.Dec.{T, eqb, eqb_refl}
use lib.ListN.{length, length-append}
use Rattle.words.specs.Base.{any}
use Rattle.words.specs.Names.{is_name_word}
use Rattle.words.specs.Text.{trim}
use Rattle.words_lines.specs.Directive.{directive, kind_of_line, lines, line_number, yank_names}
use Rattle.words_lines.specs.declared.Kind.TheVariants.{Text as k_text, Deck as k_deck, Comdeck as k_comdeck, Yank as k_yank}
use Rattle.words_lines.specs.declared.Line.{Line}
use Rattle.words_lines.specs.declared.Line.TheVariants.{Text, Skipped, Deck as DeckLine·, Comdeck, Ident, Insert, Before, Delete, Restore, Yank as YankLine, Outside as LineOutside, Long as LineLong, Malformed as LineMalformed, NotCarried as LineNotCarried}
use Rattle.words_lines.proofs.AskedLine.{Says, line-says, Readable, line-readable}
use Rattle.library.specs.Library.{Library, deck_of, deck_line}
use Rattle.library.specs.Sound.{Sound}
use Rattle.run_meaning.specs.Safe.{Begun, Open, Safe}
use Rattle.run_meaning.specs.Step.{TextPlace, nowhere, in_yanks, in_deck, State, start, is_set, went, limited, new_card, put_in, after_text, put_text, is_known, new_deck, after_deck, put_deck, after_ident, put_ident, with_place, is_unknown, is_no_set, after_yank, put_yank, Spot, is_backwards, is_yank_part, is_deck_spot, is_barred, place_after, insert_after, insert_before, mark_in, after_mark, mark_range, find, obey, step}
use Rattle.run_meaning.specs.Run.{steps}
use Rattle.run_meaning.specs.RunSound.{UpdateSound}
use Rattle.run_meaning.specs.declared.Why.TheVariants.{Known, Unknown as UnknownName, NoSet, Backwards, Barred}
use Rattle.run_meaning.proofs.HoldsThrough.{Went, refuse-went, limited-within, in-set-went, steps-ended, ended_is}
use Rattle.run_meaning.proofs.LineGrows.{not_known}
use Rattle.run_meaning.proofs.SameDecks.{mark-decks, length-change}
use Rattle.run_meaning.proofs.UpdateGrowth.{EndsIn, update-ends, each_line}
use Rattle.run_meaning.proofs.FoundInPart.{PartBelow, find-below}
use Rattle.run_meaning.proofs.MadeCards.{sound-trim, trim-no-deck, trim-deck, yank-lower}
use Rattle.run_meaning.proofs.NewCards.{begun_more, text-inserted, text-sound, yank-inserted, yank-sound}
use Rattle.run_meaning.proofs.MarkSound.{mark-sound, mark-begun}
use Rattle.run_meaning.proofs.UnitSound.{ident-sound, ident-begun, deck-sound, deck-begun}

-- what is known of a line that asks `a`
abbrev Asks : List ℕ → Line → Type 0
Asks l a = (directive l ≡ a) × Says (kind_of_line l) a

text-safe : (s : State) (l : List ℕ) (p : TextPlace) → Asks l Text → Open s.lib s.next p → Safe s → Went Safe (put_text s l p)
text-safe s l nowhere a o h = tt
text-safe s l in_yanks a o h = tt
text-safe s l (in_deck k i) a o h =
    let r : Readable l = line-readable l (ap line_number a.0) in
    let no : deck_line (trim l) ≡ _ = trim-no-deck l k_text a.1 refl in
    let b : Begun (after_text s l k i).lib (suc s.next) =
    begun_more s.lib s.next (trim l) h.sound o.1 (after_text s l k i).lib refl
    (text-inserted s.lib s.next (trim l) h.sound o.1 k i o.0 (sound-trim l r) no) in
    let lt : k < length s.lib.decks = o.0 in
    limited-within Safe (after_text s l k i) (λ w. record {
      sound = text-sound s.lib s.next (trim l) h.sound o.1 k i o.0 (sound-trim l r) no w;
      place = (omega (arith, length-change (put_in i (new_card s l)) k s.lib.decks), b);
      set = λ u. b;
    })

yank-safe : (s : State) (l : List ℕ) → Asks l YankLine → Safe s → Went Safe (put_yank s l)
yank-safe s l a h =
    let r : Readable l = line-readable l (ap line_number a.0) in
    let no : deck_line (trim l) ≡ _ = trim-no-deck l k_yank a.1 refl in
    in-set-went Safe s _
    (λ t. refuse-went Safe (any (is_unknown s.lib) (yank_names l)) UnknownName _
    (λ u. refuse-went Safe (any (is_no_set s.lib) (yank_names l)) NoSet (limited (after_yank s l))
    (λ v. limited-within Safe (after_yank s l) (λ w. record {
      sound = yank-sound s.lib s.next (trim l) h.sound (h.set t) (sound-trim l r) no (yank-lower s.lib l a.0 u v) w;
      place = tt;
      set = λ _. begun_more s.lib s.next (trim l) h.sound (h.set t) (after_yank s l).lib refl
          (yank-inserted s.lib s.next (trim l) h.sound (h.set t) (sound-trim l r) no (yank-lower s.lib l a.0 u v));
    }))))

ident-safe : (s : State) (w : ℕ) → T (is_name_word w) → Safe s → Went Safe (put_ident s w)
ident-safe s w n h =
    refuse-went Safe (is_known s.lib w) Known (limited (after_ident s w))
    (λ t. let k = not_known s.lib w t in
    limited-within Safe (after_ident s w) (λ lim. record {
      sound = ident-sound s.lib w h.sound n k.0 k.1 lim;
      place = tt;
      set = λ _. ident-begun s.lib w h.sound n k.0 k.1;
    }))

deck-safe : (s : State) (common : Bool) (l : List ℕ) (w : ℕ) → T (is_name_word w) → Readable l → deck_line (trim l) ≡ deck_of common w → Safe s → Went Safe (put_deck s common l w)
deck-safe s common l w n r title h =
    refuse-went Safe (is_known s.lib w) Known (limited (after_deck s common l w))
    (λ t. let k = not_known s.lib w t in
    limited-within Safe (after_deck s common l w) (λ lim. record {
      sound = deck-sound s.lib w h.sound n k.0 k.1 common (trim l) (sound-trim l r) title lim;
      place = (omega (arith, length-append s.lib.decks (new_deck s.lib common l ∷ [])), deck-begun s.lib w h.sound n k.0 k.1 common (trim l) (sound-trim l r) title);
      set = λ u. absurd u;
    }))

-- a place directly after a card, or directly ahead of it
after_open : (l : Library) (next : ℕ) (a : Spot) → a.part < suc (length l.decks) → Begun l next → Open l next (place_after a)
after_open l next a lt b = go (eqb a.part 0) (λ e. subst (λ (m : ℕ). T (eqb a.part m)) e (eqb_refl a.part))
  where
    go : (c : Bool) → (a.part ≡ 0 → T c) → Open l next (if c then in_yanks else in_deck (a.part - 1) a.index)
    go true f = tt
    go false f = let ne : a.part ≡ 0 → ⊥ = f in (omega arith, b)

after-safe : (s : State) (o : Option Spot) → PartBelow (suc (length s.lib.decks)) o → T (is_set s.kind) → Safe s → Went Safe (insert_after s o)
after-safe s none lt t h = tt
after-safe s (some a) lt t h =
    refuse-went Safe (is_yank_part a) Barred (went (with_place s (place_after a)))
    (λ _. record { sound = h.sound; place = after_open s.lib s.next a lt (h.set t); set = h.set })

before-safe : (s : State) (o : Option Spot) → PartBelow (suc (length s.lib.decks)) o → T (is_set s.kind) → Safe s → Went Safe (insert_before s o)
before-safe s none lt t h = tt
before-safe s (some a) lt t h =
    refuse-went Safe (is_yank_part a || is_deck_spot a) Barred (went (with_place s (in_deck (a.part - 1) (a.index - 1))))
    (λ u. record { sound = h.sound; place = (inside (eqb a.part 0) (λ e. subst (λ (m : ℕ). T (eqb a.part m)) e (eqb_refl a.part)) u, h.set t); set = h.set })
  where
    inside : (c : Bool) → (a.part ≡ 0 → T c) → T (not (c || is_deck_spot a)) → a.part - 1 < length s.lib.decks
    inside true f u = absurd u
    inside false f u = let ne : a.part ≡ 0 → ⊥ = f in omega arith

range-safe : (s : State) (was : Bool) (a b : Option Spot) → PartBelow (suc (length s.lib.decks)) b → T (is_set s.kind) → Safe s → Went Safe (mark_range s was a b)
range-safe s was none b lt t h = tt
range-safe s was (some a) none lt t h = tt
range-safe s was (some a) (some b) lt t h =
    let new : Library = mark_in s.lib was a.part a.index b.index in
    let g : Begun new s.next = mark-begun s.lib was a.part a.index b.index s.next h.sound (h.set t) in
    let n : length new.decks ≡ length s.lib.decks = mark-decks s.lib was a.part a.index b.index in
    refuse-went Safe (is_backwards a b) Backwards _
    (λ _. refuse-went Safe (is_barred a b) Barred (limited (after_mark s was a b))
    (λ _. limited-within Safe (after_mark s was a b) (λ w. record {
      sound = mark-sound s.lib was a.part a.index b.index h.sound (h.set t).named w;
      place = after_open new s.next b (omega arith) g;
      set = λ _. g;
    })))

obey-safe : (s : State) (l : List ℕ) (a : Line) → Asks l a → Safe s → Went Safe (obey s l a)
obey-safe s l LineOutside k h = tt
obey-safe s l LineLong k h = tt
obey-safe s l LineMalformed k h = tt
obey-safe s l LineNotCarried k h = tt
obey-safe s l Text k h = text-safe s l s.place k h.place h
obey-safe s l Skipped k h = h
obey-safe s l (DeckLine· w) k h =
    let r : Readable l = line-readable l (ap line_number k.0) in
    deck-safe s false l w k.1.1 r (trim-deck l k_deck (DeckLine· w) k.1.0 refl r k.0) h
obey-safe s l (Comdeck w) k h =
    let r : Readable l = line-readable l (ap line_number k.0) in
    deck-safe s true l w k.1.1 r (trim-deck l k_comdeck (Comdeck w) k.1.0 refl r k.0) h
obey-safe s l (Ident w) k h = ident-safe s w k.1 h
obey-safe s l YankLine k h = yank-safe s l k h
obey-safe s l (Insert r) k h = in-set-went Safe s (insert_after s (find s.lib r)) (λ t. after-safe s (find s.lib r) (find-below s.lib r) t h)
obey-safe s l (Before r) k h = in-set-went Safe s (insert_before s (find s.lib r)) (λ t. before-safe s (find s.lib r) (find-below s.lib r) t h)
obey-safe s l (Delete a b) k h =
    in-set-went Safe s (mark_range s true (find s.lib a) (find s.lib b)) (λ t. range-safe s true (find s.lib a) (find s.lib b) (find-below s.lib b) t h)
obey-safe s l (Restore a b) k h =
    in-set-went Safe s (mark_range s false (find s.lib a) (find s.lib b)) (λ t. range-safe s false (find s.lib a) (find s.lib b) (find-below s.lib b) t h)

pub step-safe : (s : State) (l : List ℕ) → Safe s → Went Safe (step s l)
unfolding step
step-safe s l h = obey-safe s l (directive l) (refl, line-says l) h

pub update-sound : UpdateSound
update-sound old x room new s e =
    let r : EndsIn old x new = update-ends room old x new e in
    let h : Safe r.0 =
    ended_is Safe (steps (start old) 1 (lines x)) r.0 r.1
    (steps-ended (λ ns. Safe) (λ l. Unit {0}) (λ l. []) (λ ns t l q k. step-safe t l k) [] (start old) 1 (lines x) (each_line (lines x))
    (record { sound = s; place = tt; set = λ u. absurd u })) in
    subst Sound r.2 h.sound
