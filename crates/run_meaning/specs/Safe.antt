-- CODE. What holds of every state of a run on a sound library.
--   a unit that has begun    key, Free, Begun
--   where text can go        Open
--   a state                  Safe
use Rattle.std.specs.Prelude.{ℕ, suc, ◌≤◌, ◌<◌, ◌≡◌, T, length}
use Rattle.library.specs.Each.{Each}
use Rattle.library.specs.Library.{Card, Library, stream}
use Rattle.library.specs.Growth.{count}
use Rattle.library.specs.Sound.{is_entry, Sound}
use Rattle.run_meaning.specs.Step.{TextPlace, nowhere, in_yanks, in_deck, State, is_set}

-- what identifies a card
abbrev pub key : Card → ℕ × ℕ
key c = (c.owner, c.seq)

-- A UNIT THAT HAS BEGUN: its number is the directory's last, and no card of it has the next number or a higher one
abbrev pub Free : ℕ → ℕ → (ℕ × ℕ) → Type 0
Free n next k = k.0 ≡ n → k.1 < next

pub record Begun (l : Library) (next : ℕ) : Type 0 where
  pub named : T (is_entry l.directory (count l))
  pub first : 0 < next
  pub fits : next ≤ suc (length (stream l))
  pub free : Each (λ c. Free (count l) next (key c)) (stream l)

-- where a text line can go, there is a deck, and a unit has begun
abbrev pub Open : Library → ℕ → TextPlace → Type 0
Open l next nowhere = Unit {0}
Open l next in_yanks = Unit {0}
Open l next (in_deck k i) = (k < length l.decks) × Begun l next

pub record Safe (s : State) : Type 0 where
  pub sound : Sound s.lib
  pub place : Open s.lib s.next s.place
  pub set : T (is_set s.kind) → Begun s.lib s.next
