-- CODE. Cards that were read stand in the words one after another.
--   one card            Walk
--   to the end          Walks
--   up to a place       Spans
use Rattle.std.specs.Prelude.{ℕ, ◌+◌, ◌/◌, ◌%◌, ◌^◌, ◌≤◌, ◌<◌, ◌≡◌, true, List, [], ◌∷◌, length, get_or, drop}
use Rattle.std.proofs.Math.Option.{some}
use Rattle.words.specs.Base.{place_from}
use Rattle.words.specs.Text.{is_text}
use Rattle.library.specs.Check.{Stored, fields_of, stored_of, is_last_word, ok_form}

-- one card at a place: its words ahead of the text are `heads`, and the next card stands at `next`
pub record Walk (directory ws : List ℕ) (at : ℕ) (s : Stored) : Type 0 where
  pub heads : ℕ
  pub next : ℕ
  pub inside : at < length ws
  pub some-heads : 0 < heads
  pub within : next ≤ length ws
  pub count : next ≡ at + heads + get_or ws at 0 / 2 ^ 36 % 2 ^ 18
  pub last : place_from is_last_word 1 (drop at ws) ≡ some heads
  pub is : s ≡ stored_of at (fields_of (drop at ws) heads)
  pub form : ok_form directory (fields_of (drop at ws) heads) ≡ true
  pub text : is_text (fields_of (drop at ws) heads).text ≡ true

abbrev pub Walks : List ℕ → List ℕ → ℕ → List Stored → Type 0
Walks directory ws at [] = length ws ≤ at
Walks directory ws at (s ∷ ss) = (w : Walk directory ws at s) × Walks directory ws w.next ss

abbrev pub Spans : List ℕ → List ℕ → ℕ → ℕ → List Stored → Type 0
Spans directory ws at end [] = at ≡ end
Spans directory ws at end (s ∷ ss) = (w : Walk directory ws at s) × Spans directory ws w.next end ss
