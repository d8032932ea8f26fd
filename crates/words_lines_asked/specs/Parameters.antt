-- CODE. What fields of parameters hold, as they are read (RULES, "Directives").
--   parameters           not_empty, names_left
--   cards                card_read, range_read
use Rattle.std.specs.Prelude.{ℕ, Bool, ◌&&◌, not, List, [], map, ltb, length, drop, Option, Some, None, if◌then◌else◌}
use Rattle.words.specs.Base.{is_nil, take_until, beyond}
use Rattle.words.specs.Spelt.{word_of_name}
use Rattle.words_lines.specs.Directive.{is_comma, params, is_card, card_named}
use Rattle.words_lines.specs.declared.CardName.{CardName}
use Rattle.words_lines_asked.specs.declared.names.FieldNames.{FieldNames}

abbrev pub not_empty : List ℕ → Bool
not_empty p = not (is_nil p)

-- the names that are left: words of the parameters from a place on, none past the end
unfoldable pub names_left : FieldNames → List ℕ
names_left n = if ltb (length n.field.now) n.at then [] else map word_of_name (params (drop n.at n.field.now))

unfoldable pub card_read : List ℕ → Option CardName
card_read p = if is_card p then Some (card_named p) else None

-- one card, twice, or two
unfoldable pub range_read : List ℕ → Option (CardName × CardName)
range_read f =
    let a : List ℕ = take_until is_comma f in
    let b : List ℕ = beyond is_comma f in
    if is_card f then Some (card_named f, card_named f)
    else if is_card a && is_card b then Some (card_named a, card_named b)
    else None
