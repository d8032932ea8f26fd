-- CODE. What the functions that obey DELETE and RESTORE promise each other.
--   deck cards in a range    is_title, HasTitle
--   the words of YANK$$$     LeadAfter
--   YANK$$$ marked           Remarked, YankMarks
--   a range that was found   GoesOn, MarksFound
use Rattle.run_meaning.specs.declared.Why.{Why}
use Rattle.std.specs.Prelude.{ℕ, ◌+◌, ◌-◌, ◌≤◌, ◌<◌, ◌≡◌, Bool, List, ◌++◌, T, eqb, length, take, Result}
use Rattle.words.specs.Base.{any, all}
use Rattle.words_lines.specs.declared.CardName.{CardName}
use Rattle.library.specs.Library.{Card, stream}
use Rattle.library.specs.Image.{cards_words, short_history}
use Rattle.run_meaning.specs.Step.{in_yanks, State, is_set, refuse, limited, Spot, is_barred, after_mark, step}
use Rattle.run_meaning.specs.Safe.{Safe}
use Rattle.run.specs.CardSeek.{CardRun}
use Rattle.run.specs.Work.{Work}
use Rattle.run.specs.Desk.{fitted, moved_desk, Tables, Held, Answered}
use Rattle.run.specs.Corrected.{titled, SoughtAt}
use Rattle.run.specs.declared.gap.Gap.{Gap}
use Rattle.run.specs.declared.desk.Desk.{Desk}
use Rattle.run.specs.declared.fixes.Sought.{Sought}
use Rattle.run_meaning.specs.declared.Why.TheVariants.{Barred}

-- a deck card, by its owner and number
abbrev pub is_title : List ℕ → Card → Bool
is_title decks c = titled decks c.owner c.seq

-- whether the first n of the cards from a word on have one
abbrev pub HasTitle : List ℕ → List ℕ → ℕ → ℕ → Bool → Type 0
HasTitle w decks from n r = (yk : ℕ → Bool) (cs : List Card) (rest : List ℕ) → CardRun w from (length w) yk cs rest → r ≡ any (is_title decks) (take n cs)

-- the words of YANK$$$ where the gap has become h: the other cards have as many as before
abbrev pub LeadAfter : ℕ → Desk → Gap → ℕ → Type 0
LeadAfter end d h r = (n others : ℕ) → d.lead + others ≡ d.gap.lo + (end - d.gap.hi) → n + others ≡ h.lo + (end - h.hi) → r ≡ n

-- YANK$$$ MARKED: the cards of the new state t, parted by the gap h, with the bits of the flags before; d is the state before
pub record Remarked (yk : ℕ → Bool) (w dir names decks : List ℕ) (d : Desk) (h : Gap) (t : State) : Type 0 where
  pub below : List Card
  pub above : List Card
  pub work : Work w h yk below above
  pub whole : below ++ above ≡ stream t.lib
  pub cards : d.cards ≡ length (stream t.lib)
  pub short : T (all short_history (stream t.lib))
  pub tables : Tables dir names decks d t.lib
  pub yanks : d.yanks ≡ length t.lib.yanks
  pub others : ℕ
  pub before : d.lead + others ≡ d.gap.lo + (length w - d.gap.hi)
  pub after : length (cards_words yk t.lib.yanks) + others ≡ h.lo + (length w - h.hi)
  pub set : d.set ≡ is_set t.kind
  pub next : d.next ≡ t.next
  pub place : t.place ≡ in_yanks

abbrev pub YankMarks : List ℕ → List ℕ → Desk → Gap → List ℕ → List ℕ → Result Desk Why → Type 0
YankMarks w dir d h v newFlags e =
    (yk : ℕ → Bool) (names decks line : List ℕ) (s t : State) → Safe s → step s line ≡ limited t → Remarked yk w dir names decks d h t
    → Answered v dir names decks newFlags e (step s line)

-- A RANGE MARKED, the gap then being k: in YANK$$$ the bits are settled, and else text goes to the gap
pub record GoesOn (w dir flags : List ℕ) (d : Desk) (first last : ℕ) (k : Gap) (v newFlags : List ℕ) (e : Result Desk Why) : Type 0 where
  pub yanks : first < d.yanks → YankMarks w dir d k v newFlags e
  pub decks : d.yanks ≤ first → (v ≡ w) × ((newFlags ≡ flags) × (e ≡ fitted (moved_desk d k (last + 1))))

-- A RANGE THAT WAS FOUND, in a set and not backwards
abbrev pub MarksFound : List ℕ → List ℕ → List ℕ → List ℕ → Desk → Bool → Sought → Sought → ℕ → List ℕ → List ℕ → Result Desk Why → Type 0
MarksFound w dir decks flags d was f l seq v newFlags e =
    (names line : List ℕ) (s : State) (p q : CardName) (a b : Spot) (held : Held w dir names decks flags d s) → T (is_set s.kind) → seq ≡ q.seq
    → SoughtAt s.lib d.gap held.below held.above p f a → SoughtAt s.lib d.gap held.below held.above q l b
    → step s line ≡ refuse (is_barred a b) Barred (limited (after_mark s was a b))
    → Answered v dir names decks newFlags e (step s line)
