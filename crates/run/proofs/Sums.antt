-- Places in the array of cards, and sums of them: each fits a word, none being far past the array's end.
use Rattle.std.specs.Int.{from_bool}
use Prim.Native.Nat.{ℕ, ◌+◌, ◌-◌, ◌*◌, ◌≤◌, ◌<◌}
use native.Mathlib.Omega.{arith}
use mathlib.Core.Path.{◌≡◌}
use mathlib.Core.Bool.{Bool, true, false}
use mir.Syntax.{w64}
use mir.Val.{Fits}

-- a place in the array
pub place-fits : (n m : ℕ) → n ≤ m → m ≤ 65536 → Fits w64 n
place-fits n m p q = record { fits = omega arith }

-- the same in bytes
pub bytes_fit : (n m : ℕ) → n ≤ m → m ≤ 65536 → Fits w64 (n * 8)
bytes_fit n m p q = record { fits = omega arith }

-- a place past it by the text of a card
pub past_fits : (n m k : ℕ) → n ≤ m + 1 → m ≤ 65536 → k < 262144 → Fits w64 (n + k)
past_fits n m k p q r = record { fits = omega arith }

pub place_up : (n m : ℕ) → n ≤ m → n ≤ m + 1
place_up n m p = omega arith

-- a history byte
pub byte-below : (on : Bool) (n : ℕ) → n < 65536 → from_bool on * 65536 + n < 262144
byte-below true n q = omega arith
byte-below false n q = omega arith

-- a lower place, so many words on
pub lower-sum : (r h k n : ℕ) → r ≤ h → h + k ≤ n → r + k ≤ n
lower-sum r h k n p q = omega arith

pub sum-order : (r h k : ℕ) → r ≤ h → r + k ≤ h + k
sum-order r h k p = omega arith

pub sum-above : (h k m : ℕ) → 0 < k → h < h + k + m
sum-above h k m p = omega arith

pub sum-some : (h k : ℕ) → 0 < k → 0 < h + k
sum-some h k p = omega arith

pub below_end : (r h n : ℕ) → r ≤ h → h < n → r < n
below_end r h n p q = omega arith

pub same_place : (n : ℕ) → n ≤ n
same_place n = omega arith

pub order-on : (r h n : ℕ) → r ≤ h → h ≤ n → r ≤ n
order-on r h n p q = omega arith

pub more-some : (n m : ℕ) → n < m → 0 < m
more-some n m p = omega arith

-- entries in the directory's array
pub entry_place : (n m : ℕ) → n ≤ 1023 → m ≡ 1024 → n ≤ m
entry_place n m p e = omega arith

-- a new card at the gap: its head, then the words of its text
module _ (lo hi n : ℕ) (p : lo ≤ hi) (q : hi ≤ n) (r : n ≤ 65536) where
  pub head-fits : Fits w64 (lo + 1)
  head-fits = record { fits = omega arith }

  pub text-fits : (k : ℕ) → k ≤ 16 → Fits w64 (lo + 1 + k)
  text-fits k t = record { fits = omega arith }

  pub text-near : (k : ℕ) → k ≤ 16 → lo + 1 + k ≤ 131072
  text-near k t = omega arith

  pub head-below : (k : ℕ) → lo + 1 + k ≤ hi → lo < n
  head-below k t = omega arith

module _ (k seq n : ℕ) (p : k ≤ 16) (q : seq < 262144) (r : n < 65536) where
  pub count_fits : Fits w64 (k * 68719476736)
  count_fits = record { fits = omega arith }

  pub with-count : Fits w64 (864691128455135232 + k * 68719476736)
  with-count = record { fits = omega arith }

  pub number_fits_lem : Fits w64 (seq * 262144)
  number_fits_lem = record { fits = omega arith }

  pub with_number : Fits w64 (864691128455135232 + k * 68719476736 + seq * 262144)
  with_number = record { fits = omega arith }

  pub with-flag : Fits w64 (864691128455135232 + k * 68719476736 + seq * 262144 + 65536)
  with-flag = record { fits = omega arith }

  pub with-owner : Fits w64 (864691128455135232 + k * 68719476736 + seq * 262144 + 65536 + n)
  with-owner = record { fits = omega arith }

pub room-place : (m : ℕ) → m ≡ 65536 → m ≤ 65536
room-place m e = omega arith

-- one card, entry or deck more
pub card-fits : (n : ℕ) → n ≤ 16383 → Fits w64 (n + 1)
card-fits n p = record { fits = omega arith }

pub entry-fits : (n : ℕ) → n ≤ 1023 → Fits w64 (n + 1)
entry-fits n p = record { fits = omega arith }

pub entry-bytes : (n : ℕ) → n ≤ 1023 → Fits w64 (n * 8)
entry-bytes n p = record { fits = omega arith }

pub entry-bytes-on : (n : ℕ) → n ≤ 1023 → Fits w64 ((n + 1) * 8)
entry-bytes-on n p = record { fits = omega arith }

pub entry-number : (n : ℕ) → n ≤ 1023 → n + 1 < 65536
entry-number n p = omega arith

pub entry-below : (n : ℕ) → n ≤ 1023 → n < 65536
entry-below n p = omega arith

pub entry_in : (n m : ℕ) → n ≤ 1023 → 1023 < m → n < m
entry_in n m p q = omega arith

pub entries-in : (n m : ℕ) → n ≤ 1023 → 1023 < m → n ≤ m
entries-in n m p q = omega arith

pub entry-in-on : (n m : ℕ) → n ≤ 1023 → 1024 < m → n + 1 < m
entry-in-on n m p q = omega arith

pub deck-fits : (n : ℕ) → n ≤ 254 → Fits w64 (n + 1)
deck-fits n p = record { fits = omega arith }

pub deck-bytes : (n : ℕ) → n ≤ 254 → Fits w64 ((n + 1) * 8)
deck-bytes n p = record { fits = omega arith }

pub deck-in : (n m : ℕ) → n ≤ 254 → 255 < m → n + 1 < m
deck-in n m p q = omega arith

-- the counts that the limits are asked with
pub entries-few : (n : ℕ) → n ≤ 1023 → n + 1 ≤ 2000
entries-few n p = omega arith

pub decks-few : (n : ℕ) → n ≤ 254 → n + 1 ≤ 2000
decks-few n p = omega arith

pub entries-small : (n : ℕ) → n ≤ 1023 → n ≤ 2000
entries-small n p = omega arith

pub decks-small : (n : ℕ) → n ≤ 254 → n ≤ 2000
decks-small n p = omega arith

pub decks-in : (n m : ℕ) → n ≤ 254 → 255 < m → n + 1 ≤ m
decks-in n m p q = omega arith

-- the number of a unit's next card
pub next-below : (n m : ℕ) → n ≤ m + 1 → m ≤ 16383 → n < 262144
next-below n m p q = omega arith

pub next-number : (n m : ℕ) → n ≤ m + 1 → m ≤ 16383 → n ≤ 262143
next-number n m p q = omega arith

pub two-on : (n : ℕ) → 2 ≤ n + 1 + 1
two-on n = omega arith

-- the index of a card that is there
pub index-fits : (i n : ℕ) → i < n → n ≤ 16383 → Fits w64 (i + 1)
index-fits i n p q = record { fits = omega arith }

pub one_on : (i n : ℕ) → i < n → i + 1 ≤ n
one_on i n p = omega arith

pub below-le : (i n : ℕ) → i < n → i ≤ n
below-le i n p = omega arith

-- TWO WALKS over the cards: i of them come before the word a, and j before b
pub near : (n m : ℕ) → n ≤ m → m ≤ 65536 → n ≤ 400000
near n m p q = omega arith

pub near_on : (r n : ℕ) → r < n + 262144 → n ≤ 65536 → r ≤ 400000
near_on r n p q = omega arith

pub step-on : (i a r : ℕ) → i ≤ a → a < r → i + 1 ≤ r
step-on i a r p q = omega arith

pub end-nearer : (n b r : ℕ) → b < r → b < n → n - r < n - b
end-nearer n b r p q = omega arith

pub below_all : (a lo hi n : ℕ) → a < lo → lo ≤ hi → hi ≤ n → a < n
below_all a lo hi n p q r = omega arith

pub low_fits : (low j b : ℕ) → low ≤ 16383 → j ≤ b → b ≤ 400000 → Fits w64 (low + j)
low_fits low j b p q r = record { fits = omega arith }

pub low_near : (low j b : ℕ) → low ≤ 16383 → j ≤ b → b ≤ 400000 → low + j ≤ 1200000
low_near low j b p q r = omega arith

module _ (i a : ℕ) (p : i ≤ a) (q : a ≤ 400000) where
  pub one-fits : Fits w64 (i + 1)
  one-fits = record { fits = omega arith }

  pub one-near : i ≤ 1200000
  one-near = omega arith

  pub two-fit : (k : ℕ) → k ≤ 400000 → Fits w64 (i + k)
  two-fit k r = record { fits = omega arith }

  pub two-near : (k : ℕ) → k ≤ 400000 → i + k ≤ 1200000
  two-near k r = omega arith

  module _ (j b k : ℕ) (r : j ≤ b) (s : b ≤ 400000) (t : k ≤ 400000) where
    pub three-fit : Fits w64 (i + (j + k))
    three-fit = record { fits = omega arith }

    pub three-near : i + (j + k) ≤ 1200000
    three-near = omega arith

    pub last_fits : Fits w64 (i + k + j)
    last_fits = record { fits = omega arith }

    pub last-near : i + k + j ≤ 1200000
    last-near = omega arith

-- A CARD ABOVE THE GAP: the words of its history and text
pub past_one : (n : ℕ) → n < n + 1
past_one n = omega arith

pub not-past : (n : ℕ) → n + 1 ≤ n → ⊥
not-past n p = omega arith

pub words-fit : (h k m n : ℕ) → h + k ≤ n → n ≤ 65536 → m < 262144 → Fits w64 (k + m)
words-fit h k m n p q r = record { fits = omega arith }

pub words-on : (h k m n : ℕ) → h + k ≤ n → n ≤ 65536 → m < 262144 → Fits w64 (h + (k + m))
words-on h k m n p q r = record { fits = omega arith }

pub words-above : (h k m : ℕ) → 0 < k → h < h + (k + m)
words-above h k m p = omega arith
