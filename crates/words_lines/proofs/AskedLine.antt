-- What is known of a line from what it asks: its directive's kind, and that a unit's name is a name.
use Rattle.std.specs.Prelude.{if◌then◌else◌}
use Prim.Native.Nat.{ℕ, ◌≤◌}
use native.Mathlib.Omega.{arith}
use mathlib.Core.Path.{◌≡◌, refl}
use mathlib.Core.Bool.{Bool, true, false, ◌&&◌, not}
use mathlib.Core.List.{List}
use lib.Dec.{T, ltb, nltb→le}
use lib.ListN.{length}
use Rattle.words.specs.Base.{all, is_nil, take_until, beyond}
use Rattle.words.specs.Display.{in_chart}
use Rattle.words.specs.Names.{is_name, name_word, is_name_word}
use Rattle.words.proofs.TestParts.{T-true, true-T}
use Rattle.words.proofs.NameTrip.{word-of-name-is-one}
use Rattle.words_lines.specs.Directive.{kind_of_line, field, is_clean, params, is_card, card_named, is_comma, one_name, one_card, range, formed, asks, asked, directive, line_number}
use Rattle.words_lines.specs.declared.Kind.{Kind}
use Rattle.words_lines.specs.declared.Kind.TheVariants.{Text as k_text, Skipped as k_skipped, NotCarried as k_not_carried, Deck as k_deck, Comdeck as k_comdeck, Ident as k_ident, Insert as k_insert, Before as k_before, Delete as k_delete, Restore as k_restore, Yank as k_yank}
use Rattle.words_lines.specs.declared.CardName.{CardName}
use Rattle.words_lines.specs.declared.Line.{Line}
use Rattle.words_lines.specs.declared.Line.TheVariants.{Text, Skipped, Deck, Comdeck, Ident, Insert, Before, Delete, Restore, Yank, Outside, Long, Malformed, NotCarried}

word-of-name : (n : List ℕ) → T (is_name n) → T (is_name_word (name_word n))
word-of-name n t = true-T (is_name_word (name_word n)) (word-of-name-is-one n (T-true (is_name n) t))

-- k: the kind of the line's directive
abbrev pub Says : Kind → Line → Type 0
Says k Text = k ≡ k_text
Says k Skipped = Unit {0}
Says k (Deck w) = (k ≡ k_deck) × T (is_name_word w)
Says k (Comdeck w) = (k ≡ k_comdeck) × T (is_name_word w)
Says k (Ident w) = T (is_name_word w)
Says k (Insert r) = Unit {0}
Says k (Before r) = Unit {0}
Says k (Delete a b) = Unit {0}
Says k (Restore a b) = Unit {0}
Says k Yank = k ≡ k_yank
Says k Outside = Unit {0}
Says k Long = Unit {0}
Says k Malformed = Unit {0}
Says k NotCarried = Unit {0}

says-formed : (k : Kind) (clean : Bool) (a : Line) → Says k a → Says k (formed clean a)
says-formed k true a h = h
says-formed k false a h = tt

says-name : (k : Kind) (ask : ℕ → Line) (more : Line) (f : List ℕ) → (T (is_name f) → Says k (ask (name_word f))) → Says k more → Says k (one_name ask more f)
says-name k ask more f h m = go (is_name f) (is_name (take_until is_comma f) && all (λ p. not (is_nil p)) (params f)) h
  where
    go : (a b : Bool) → (T a → Says k (ask (name_word f))) → Says k (if a then ask (name_word f) else if b then more else Malformed)
    go true b g = g tt
    go false true g = m
    go false false g = tt

says-card : (k : Kind) (ask : CardName → Line) (f : List ℕ) → ((r : CardName) → Says k (ask r)) → Says k (one_card ask f)
says-card k ask f h = go (is_card f)
  where
    go : (a : Bool) → Says k (if a then ask (card_named f) else Malformed)
    go true = h (card_named f)
    go false = tt

says_range : (k : Kind) (ask : CardName → CardName → Line) (f : List ℕ) → ((r q : CardName) → Says k (ask r q)) → Says k (range ask f)
says_range k ask f h = go (is_card f) (is_card (take_until is_comma f) && is_card (beyond is_comma f))
  where
    go : (a b : Bool) → Says k (if a then ask (card_named f) (card_named f) else if b then ask (card_named (take_until is_comma f)) (card_named (beyond is_comma f)) else Malformed)
    go true b = h (card_named f) (card_named f)
    go false true = h (card_named (take_until is_comma f)) (card_named (beyond is_comma f))
    go false false = tt

says-asks : (k : Kind) (clean : Bool) (f : List ℕ) → Says k (asks k clean f)
says-asks k_text clean f = refl
says-asks k_skipped clean f = tt
says-asks k_not_carried clean f = tt
says-asks k_deck clean f = says-formed k_deck clean (one_name Deck Malformed f) (says-name k_deck Deck Malformed f (λ t. (refl, word-of-name f t)) tt)
says-asks k_comdeck clean f = says-formed k_comdeck clean (one_name Comdeck NotCarried f) (says-name k_comdeck Comdeck NotCarried f (λ t. (refl, word-of-name f t)) tt)
says-asks k_ident clean f = says-formed k_ident clean (one_name Ident NotCarried f) (says-name k_ident Ident NotCarried f (λ t. word-of-name f t) tt)
says-asks k_insert clean f = says-formed k_insert clean (one_card Insert f) (says-card k_insert Insert f (λ r. tt))
says-asks k_before clean f = says-formed k_before clean (one_card Before f) (says-card k_before Before f (λ r. tt))
says-asks k_delete clean f = says-formed k_delete clean (range Delete f) (says_range k_delete Delete f (λ r q. tt))
says-asks k_restore clean f = says-formed k_restore clean (range Restore f) (says_range k_restore Restore f (λ r q. tt))
says-asks k_yank clean f = says-formed k_yank clean (if all is_name (params f) then Yank else Malformed) (go (all is_name (params f)))
  where
    go : (a : Bool) → Says k_yank (if a then Yank else Malformed)
    go true = refl
    go false = tt

pub line-says : (l : List ℕ) → Says (kind_of_line l) (directive l)
unfolding directive asked
line-says l = go (all in_chart l) (ltb 80 (length l))
  where
    go : (c b : Bool) → Says (kind_of_line l) (if not c then Outside else if b then Long else asks (kind_of_line l) (is_clean l) (field l))
    go false b = tt
    go true true = tt
    go true false = says-asks (kind_of_line l) (is_clean l) (field l)

-- a line that is not refused for its form has bytes of the character set, and not too many
abbrev pub Readable : List ℕ → Type 0
Readable l = T (all in_chart l) × (length l ≤ 80)

pub line-readable : (l : List ℕ) → line_number (directive l) ≡ 0 → Readable l
unfolding directive
line-readable l e = go (all in_chart l) (ltb 80 (length l)) (λ t. t) (nltb→le 80 (length l)) e
  where
    go : (c b : Bool) → (T c → T (all in_chart l)) → (T (not b) → length l ≤ 80) → line_number (if not c then Outside else if b then Long else asked l) ≡ 0 → Readable l
    go false b f g h = absurd (omega arith)
    go true true f g h = absurd (omega arith)
    go true false f g h = (f tt, g tt)
