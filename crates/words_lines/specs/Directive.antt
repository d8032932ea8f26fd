-- MEANING. Lines and what they ask (RULES, "Lines", "Directives"; rows 20 to 23).
--   lines of a stream      is_end, lines
--   names of directives    Spelt, spelt, table, kind_in, kind_of
--   a directive's parts    starts, ends_name, name_of_line, kind_of_line, passed, after_name, field, is_clean, is_comma, params
--   cards                  is_card, card_named
--   what a field asks      one_name, one_card, range, formed, asks
--   what a line asks       asked, directive, line_number
--   YANK's names           yank_names
--   CALL                   call_names, call_of
use Rattle.std.specs.Prelude.{ℕ, Bool, true, false, ◌&&◌, ◌||◌, not, List, [], ◌∷◌, map, eqb, ltb, length, drop, if◌then◌else◌}
use Prim.Native.String.{String}
use Rattle.words.specs.Base.{bytes, any, all, same, is_nil, take_until, drop_until, beyond, into, split}
use Rattle.words.specs.Display.{in_chart, blank, comma, point, star, slash}
use Rattle.words.specs.Names.{is_name, name_word, is_number, decimal}
use Rattle.words_lines.specs.declared.Kind.{Kind}
use Rattle.words_lines.specs.declared.Kind.TheVariants.{Text as k_text, Skipped as k_skipped, NotCarried as k_not_carried, Deck as k_deck, Comdeck as k_comdeck, Ident as k_ident, Insert as k_insert, Before as k_before, Delete as k_delete, Restore as k_restore, Yank as k_yank}
use Rattle.words_lines.specs.declared.CardName.{CardName}
use Rattle.words_lines.specs.declared.Line.{Line}
use Rattle.words_lines.specs.declared.Line.TheVariants.{Text, Skipped, Deck, Comdeck, Ident, Insert, Before, Delete, Restore, Yank, Outside, Long, Malformed, NotCarried}
use Rattle.words_lines.specs.declared.Call.{Call}
use Rattle.words_lines.specs.declared.Call.TheVariants.{Not, Of, Malformed as BadCall}

-- LINES: byte 10 ends a line and is no part of it; what stands after the last byte 10, if anything, is a line too
abbrev pub is_end : ℕ → Bool
is_end b = eqb b 10

unfoldable pub lines : List ℕ → List (List ℕ)
lines [] = []
lines (b ∷ bs) = let rest = lines bs in if is_end b then ([] ∷ rest) else into b rest

-- NAMES: the directives that are carried, then those of UPDATE that are not. Each row has a kind's names, full and short.
pub record Spelt : Type 0 where
  pub kind : Kind
  pub names : List (List ℕ)

abbrev pub spelt : Kind → String → Spelt
spelt k s = record { kind = k; names = split (eqb blank) (bytes s) }

abbrev pub table : List Spelt
table =
    spelt k_deck "DECK DK"
    ∷ spelt k_comdeck "COMDECK CD"
    ∷ spelt k_ident "IDENT ID"
    ∷ spelt k_insert "INSERT I"
    ∷ spelt k_before "BEFORE B"
    ∷ spelt k_delete "DELETE D"
    ∷ spelt k_restore "RESTORE R"
    ∷ spelt k_yank "YANK Y"
    ∷ spelt k_skipped "END"
    ∷ spelt k_not_carried "ABBREV ADDFILE AF CHANGE CH COMPILE C COPY CY CWEOR CW DECLARE DC DEFINE DF DO DONT DT ENDIF EI ENDTEXT ET IF LIMIT LT LIST L MOVE M NOABBREV NA NOLIST NL PULLMOD PM PURDECK PD PURGE P READ RD REWIND RW SELPURGE SP SELYANK SY SEQUENCE S SKIP SK TEXT T WEOR W YANKDECK YD"
    ∷ []

-- a name that no row has is that of a text line
abbrev pub kind_in : List ℕ → List Spelt → Kind
kind_in n [] = k_text
kind_in n (r ∷ rs) = let later = kind_in n rs in if any (same n) r.names then r.kind else later

unfoldable pub kind_of : List ℕ → Kind
kind_of n = kind_in n table

-- PARTS: the name is what stands after column 1, up to the first comma or blank, or else to the line's end
abbrev pub starts : ℕ → List ℕ → Bool
starts b [] = false
starts b (x ∷ xs) = eqb b x

abbrev pub ends_name : ℕ → Bool
ends_name b = eqb b comma || eqb b blank

unfoldable pub name_of_line : List ℕ → List ℕ
name_of_line l = take_until ends_name (drop 1 l)

-- text where column 1 is not *; skipped where the line begins */; else what its name says, which is skipped for END
unfoldable pub kind_of_line : List ℕ → Kind
kind_of_line l =
    if not (starts star l) then k_text
    else if starts slash (drop 1 l) then k_skipped
    else kind_of (name_of_line l)

-- what follows the name, one comma or the blanks passed
abbrev pub passed : List ℕ → List ℕ
passed [] = []
passed (x ∷ xs) = if eqb x comma then xs else drop_until (λ b. not (eqb b blank)) xs

abbrev pub after_name : List ℕ → List ℕ
after_name l = passed (drop_until ends_name (drop 1 l))

-- the field of parameters, up to the next blank; and whether all after it is blank
unfoldable pub field : List ℕ → List ℕ
field l = take_until (eqb blank) (after_name l)

unfoldable pub is_clean : List ℕ → Bool
is_clean l = all (eqb blank) (drop_until (eqb blank) (after_name l))

-- the field cut at each comma: an empty field is one empty parameter
abbrev pub is_comma : ℕ → Bool
is_comma b = eqb b comma

abbrev pub params : List ℕ → List (List ℕ)
params f = split is_comma f

-- CARDS: a name, a point, and a card's number
unfoldable pub is_card : List ℕ → Bool
is_card p = is_name (take_until (eqb point) p) && is_number (beyond (eqb point) p)

unfoldable pub card_named : List ℕ → CardName
card_named p = record { name = name_word (take_until (eqb point) p); seq = decimal 0 (beyond (eqb point) p) }

-- WHAT A FIELD OF PARAMETERS ASKS
-- one name; where more parameters follow it, `more`
abbrev pub one_name : (ℕ → Line) → Line → List ℕ → Line
one_name ask more f =
    if is_name f then ask (name_word f)
    else if is_name (take_until is_comma f) && all (λ p. not (is_nil p)) (params f) then more
    else Malformed

abbrev pub one_card : (CardName → Line) → List ℕ → Line
one_card ask f = if is_card f then ask (card_named f) else Malformed

-- one card, or two
abbrev pub range : (CardName → CardName → Line) → List ℕ → Line
range ask f =
    let a : List ℕ = take_until is_comma f in
    let b : List ℕ = beyond is_comma f in
    if is_card f then ask (card_named f) (card_named f)
    else if is_card a && is_card b then ask (card_named a) (card_named b)
    else Malformed

-- `clean`: nothing but blanks follows the parameters
abbrev pub formed : Bool → Line → Line
formed true a = a
formed false a = Malformed

abbrev pub asks : Kind → Bool → List ℕ → Line
asks k_text clean f = Text
asks k_skipped clean f = Skipped
asks k_not_carried clean f = NotCarried
asks k_deck clean f = formed clean (one_name Deck Malformed f)
asks k_comdeck clean f = formed clean (one_name Comdeck NotCarried f)
asks k_ident clean f = formed clean (one_name Ident NotCarried f)
asks k_insert clean f = formed clean (one_card Insert f)
asks k_before clean f = formed clean (one_card Before f)
asks k_delete clean f = formed clean (range Delete f)
asks k_restore clean f = formed clean (range Restore f)
asks k_yank clean f = formed clean (if all is_name (params f) then Yank else Malformed)

unfoldable pub asked : List ℕ → Line
asked l = asks (kind_of_line l) (is_clean l) (field l)

-- WHAT A LINE ASKS: 20 over the whole line, then 21, then what its form says
unfoldable pub directive : List ℕ → Line
directive l =
    if not (all in_chart l) then Outside
    else if ltb 80 (length l) then Long
    else asked l

-- the table's numbers; 0 where the line is not refused for its form
abbrev pub line_number : Line → ℕ
line_number Text = 0
line_number Skipped = 0
line_number (Deck w) = 0
line_number (Comdeck w) = 0
line_number (Ident w) = 0
line_number (Insert r) = 0
line_number (Before r) = 0
line_number (Delete a b) = 0
line_number (Restore a b) = 0
line_number Yank = 0
line_number Outside = 20
line_number Long = 21
line_number Malformed = 22
line_number NotCarried = 23

-- YANK: the names of such a line, as directory words
unfoldable pub yank_names : List ℕ → List ℕ
yank_names l = map name_word (params (field l))

-- CALL, which is text in a stream: what a card calls when the compile file is written
abbrev pub call_names : List (List ℕ)
call_names = split (eqb blank) (bytes "CALL CA")

unfoldable pub call_of : List ℕ → Call
call_of l =
    if not (starts star l && any (same (name_of_line l)) call_names) then Not
    else if is_clean l && is_name (field l) then Of (name_word (field l))
    else BadCall
