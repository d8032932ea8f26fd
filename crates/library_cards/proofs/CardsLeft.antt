-- Rows 5 and 6, one card after another: what is left to read at a place, one law for each way out of the code. Assumes nothing.
--   Begun, begun       a card whose form is right, and where its text starts
--   cards-..           the answer from a place on
--   Ended, ended       a text that passes, and the next card
--   turn-..            the answer after n cards
use Rattle.std.specs.Prelude.{None, Some, Ok, if◌then◌else◌}
use Prim.Native.Nat.{ℕ, zero, suc, ◌+◌, ◌-◌, ◌/◌, ◌%◌, ◌^◌, ◌≤◌, ◌<◌}
use native.Mathlib.Omega.{arith}
use mathlib.Core.Path.{◌≡◌, refl, sym, ap, ◌∙◌}
use mathlib.Core.Bool.{Bool, true, false, not}
use mathlib.Core.List.{List, []}
use mathlib.Core.Option.{Option, none, some}
use lib.ListN.{length, get_or, take, drop, drop_of_length-le}
use lib.Seq.{drop-cons, drop-drop}
use Rattle.words.specs.Base.{place_from}
use Rattle.words.specs.Text.{is_text}
use Rattle.library.specs.declared.Fault.TheVariants.{Form, Text}
use Rattle.library.specs.Refused.{refused_at}
use Rattle.library.specs.Check.{directory_count, deck_count, cards_place, Stored, Fields, Cards, cards, fault, also, fields_of, stored_of, is_last_word, ok_form, read_card, read_cards}
use Rattle.library_cards.specs.Found.{cards_read, cards_answer, answer_from, text_if, text_found, text_count, end_at}
use Rattle.library.proofs.CardWithin.{first-at, Formed, formed-at}
use Rattle.library_tables.proofs.TableWords.{entries-are}

module _ (directory ws : List ℕ) (at : ℕ) where
  -- the words of the text, as a part of the image
  pub text-part : (k : ℕ) → (fields_of (drop at ws) k).text ≡ take (get_or ws at 0 / 2 ^ 36 % 2 ^ 18) (drop (at + k) ws)
  text-part k = ap (λ (w : ℕ). take (w / 2 ^ 36 % 2 ^ 18) (drop k (drop at ws))) (first-at ws at) ∙ ap (take (get_or ws at 0 / 2 ^ 36 % 2 ^ 18)) (drop-drop k at ws)

  -- a card whose text starts at a place
  pub record Begun (text : ℕ) : Type 0 where
    pub card : Formed directory ws at
    pub starts : text ≡ at + card.heads
    pub later : at < text
    pub within : text + text_count ws at ≤ length ws

  unfoldable pub begun : (text : ℕ) → at < length ws → text_found directory ws at ≡ Some text → Begun text
  unfolding text_found formed-at
  begun text inside e = go (place_from is_last_word 1 (drop at ws)) refl e
    where
      pass : (k : ℕ) → place_from is_last_word 1 (drop at ws) ≡ some k → (b : Bool) → ok_form directory (fields_of (drop at ws) k) ≡ b → (if b then Some (at + k) else None) ≡ Some text → Begun text
      pass k p true f e =
          let z : at + k ≡ text = cc in
          let h : 0 < k = (formed-at directory ws at inside k p f).some-heads in
          let w : at + k + text_count ws at ≤ length ws = (formed-at directory ws at inside k p f).within in
          record { card = formed-at directory ws at inside k p f; starts = sym z; later = omega arith; within = omega arith }
      pass k p false f e = absurd (let z : ◌≡◌ {A = ℕ} 0 1 = cc in omega arith)

      go : (o : Option ℕ) → place_from is_last_word 1 (drop at ws) ≡ o → text_if directory ws at o ≡ Some text → Begun text
      go none p e = absurd (let z : ◌≡◌ {A = ℕ} 0 1 = cc in omega arith)
      go (some k) p e = pass k p (ok_form directory (fields_of (drop at ws) k)) refl e

answer-also : (s : Stored) (c : Cards) → cards_answer (also s c) ≡ cards_answer c
answer-also s (cards ss) = refl
answer-also s (fault f p) = refl

module _ (directory ws : List ℕ) (at : ℕ) where
  pub cards-end : (left : ℕ) → length ws ≤ at → answer_from directory ws left at ≡ Ok tt
  cards-end left h = ap (λ (l : List ℕ). cards_answer (read_cards directory left l at)) (drop_of_length-le ws h) ∙ none_left left
    where
      none_left : (n : ℕ) → cards_answer (read_cards directory n [] at) ≡ Ok tt
      none_left zero = refl
      none_left (suc n) = refl

  module _ (inside : at < length ws) where
    pub cards-many : answer_from directory ws 0 at ≡ refused_at Form (Some at)
    cards-many = ap (λ (l : List ℕ). cards_answer (read_cards directory 0 l at)) (drop-cons ws at 0 inside)

    module _ (left : ℕ) where
      abbrev after : ℕ → Cards
      after k = read_cards directory left (drop k (drop at ws)) (at + k)

      one-card : answer_from directory ws (suc left) at ≡ cards_answer (read_card directory at (drop at ws) (place_from is_last_word 1 (drop at ws)) after)
      one-card =
          ap (λ (l : List ℕ). cards_answer (read_cards directory (suc left) l at)) (drop-cons ws at 0 inside)
          ∙ ap (λ (l : List ℕ). cards_answer (read_card directory at l (place_from is_last_word 1 l) (λ k. read_cards directory left (drop k l) (at + k)))) (sym (drop-cons ws at 0 inside))

      pub cards-form : text_found directory ws at ≡ None → answer_from directory ws (suc left) at ≡ refused_at Form (Some at)
      unfolding text_found
      cards-form e = one-card ∙ go (place_from is_last_word 1 (drop at ws)) e
        where
          fail : (k : ℕ) (b : Bool) → (if b then Some (at + k) else None) ≡ None
              → cards_answer (if not b then fault Form at else if not (is_text (fields_of (drop at ws) k).text) then fault Text at else also (stored_of at (fields_of (drop at ws) k)) (after (k + length (fields_of (drop at ws) k).text))) ≡ refused_at Form (Some at)
          fail k true e = absurd (let z : ◌≡◌ {A = ℕ} 0 1 = cc in omega arith)
          fail k false e = refl

          go : (o : Option ℕ) → text_if directory ws at o ≡ None → cards_answer (read_card directory at (drop at ws) o after) ≡ refused_at Form (Some at)
          go none e = refl
          go (some k) e = fail k (ok_form directory (fields_of (drop at ws) k)) e

      module _ (c : Formed directory ws at) where
        abbrev f : Fields
        f = fields_of (drop at ws) c.heads

        past-form : answer_from directory ws (suc left) at ≡ cards_answer (if not (is_text f.text) then fault Text at else also (stored_of at f) (after (c.heads + length f.text)))
        past-form =
            one-card ∙ ap (λ (o : Option ℕ). cards_answer (read_card directory at (drop at ws) o after)) c.last
            ∙ ap (λ (b : Bool). cards_answer (if not b then fault Form at else if not (is_text f.text) then fault Text at else also (stored_of at f) (after (c.heads + length f.text)))) c.form

        pub cards-text : is_text f.text ≡ false → answer_from directory ws (suc left) at ≡ refused_at Text (Some at)
        cards-text e = past-form ∙ ap (λ (b : Bool). cards_answer (if not b then fault Text at else also (stored_of at f) (after (c.heads + length f.text)))) e

        pub cards-on : is_text f.text ≡ true → (next : ℕ) → next ≡ at + c.heads + get_or ws at 0 / 2 ^ 36 % 2 ^ 18 → answer_from directory ws (suc left) at ≡ answer_from directory ws left next
        cards-on e next n =
            let k : ℕ = c.heads + length f.text in
            let z : at + k ≡ next = let q : length f.text ≡ get_or ws at 0 / 2 ^ 36 % 2 ^ 18 = c.count in omega arith in
            past-form ∙ ap (λ (b : Bool). cards_answer (if not b then fault Text at else also (stored_of at f) (after k))) e
            ∙ answer-also (stored_of at f) (after k)
            ∙ ap (λ (l : List ℕ). cards_answer (read_cards directory left l (at + k))) (drop-drop k at ws)
            ∙ ap (answer_from directory ws left) z

-- a text that passes row 6, and the next card
module _ (ws : List ℕ) (at text : ℕ) where
  abbrev part : List ℕ
  part = take (text_count ws at) (drop text ws)

  pub record Ended (end : ℕ) : Type 0 where
    pub passes : is_text part ≡ true
    pub count : end ≡ text + text_count ws at

  unfoldable pub ended : (end : ℕ) → end_at ws at text ≡ Some end → Ended end
  unfolding end_at
  ended end e = go (is_text part) refl e
    where
      go : (b : Bool) → is_text part ≡ b → (if b then Some (text + text_count ws at) else None) ≡ Some end → Ended end
      go true t e = let z : text + text_count ws at ≡ end = cc in record { passes = t; count = sym z }
      go false t e = absurd (let z : ◌≡◌ {A = ℕ} 0 1 = cc in omega arith)

  pub no_end : end_at ws at text ≡ None → is_text part ≡ false
  unfolding end_at
  no_end e = go (is_text part) refl e
    where
      go : (b : Bool) → is_text part ≡ b → (if b then Some (text + text_count ws at) else None) ≡ None → is_text part ≡ false
      go true t e = absurd (let z : ◌≡◌ {A = ℕ} 0 1 = cc in omega arith)
      go false t e = t

  -- the part that is lent is the text
  module _ (end : ℕ) (e : end ≡ text + text_count ws at) where
    lent : take (end - text) (drop text ws) ≡ part
    lent = let z : end - text ≡ text_count ws at = omega arith in ap (λ (n : ℕ). take n (drop text ws)) z

    pub end-there : is_text (take (end - text) (drop text ws)) ≡ true → Some end ≡ end_at ws at text
    unfolding end_at
    end-there t = ap Some e ∙ sym (ap (λ (b : Bool). if b then Some (text + text_count ws at) else None) (ap is_text (sym lent) ∙ t))

    pub end-not : is_text (take (end - text) (drop text ws)) ≡ false → None ≡ end_at ws at text
    unfolding end_at
    end-not t = sym (ap (λ (b : Bool). if b then Some (text + text_count ws at) else None) (ap is_text (sym lent) ∙ t))

-- n cards are passed, and 16,383 are let in
module _ (directory ws : List ℕ) (at n : ℕ) (inside : at < length ws) where
  pub turn_many : n ≡ 16383 → answer_from directory ws (16383 - n) at ≡ refused_at Form (Some at)
  turn_many e = ap (λ (m : ℕ). answer_from directory ws (16383 - m) at) e ∙ cards-many directory ws at inside

  module _ (few : n < 16383) where
    one_less : 16383 - n ≡ suc (16383 - (n + 1))
    one_less = omega arith

    pub turn-form : text_found directory ws at ≡ None → answer_from directory ws (16383 - n) at ≡ refused_at Form (Some at)
    turn-form e = ap (λ (m : ℕ). answer_from directory ws m at) one_less ∙ cards-form directory ws at inside (16383 - (n + 1)) e

    module _ (text : ℕ) (b : Begun directory ws at text) where
      text-is : (fields_of (drop at ws) b.card.heads).text ≡ part ws at text
      text-is = text-part directory ws at b.card.heads ∙ ap (λ (m : ℕ). take (text_count ws at) (drop m ws)) (sym b.starts)

      pub turn-text : end_at ws at text ≡ None → answer_from directory ws (16383 - n) at ≡ refused_at Text (Some at)
      turn-text e = ap (λ (m : ℕ). answer_from directory ws m at) one_less ∙ cards-text directory ws at inside (16383 - (n + 1)) b.card (ap is_text text-is ∙ no_end ws at text e)

      pub turn_on : (end : ℕ) → Ended ws at text end → answer_from directory ws (16383 - n) at ≡ answer_from directory ws (16383 - (n + 1)) end
      turn_on end d =
          let s : text ≡ at + b.card.heads = b.starts in
          let k : end ≡ text + text_count ws at = d.count in
          ap (λ (m : ℕ). answer_from directory ws m at) one_less ∙ cards-on directory ws at inside (16383 - (n + 1)) b.card (ap is_text text-is ∙ d.passes) end (omega arith)

-- all cards, with the directory as it is lent
pub cards-start : (ws : List ℕ) (e d : ℕ) → e ≡ directory_count ws → d ≡ deck_count ws → cards_answer (cards_read ws) ≡ answer_from (take (2 + e - 2) (drop 2 ws)) ws 16383 (2 + e + d)
cards-start ws e d p q =
    ap (λ (l : List ℕ). answer_from l ws 16383 (cards_place ws)) (sym (entries-are ws e p))
    ∙ ap (λ (m : ℕ). answer_from (take (2 + e - 2) (drop 2 ws)) ws 16383 (2 + m + deck_count ws)) (sym p)
    ∙ ap (λ (m : ℕ). answer_from (take (2 + e - 2) (drop 2 ws)) ws 16383 (2 + e + m)) (sym q)
