-- The names that are left of a field, one after another: what an iterator over them cites. Assumes nothing.
--   the names left by the walk      left-from
--   one step                        left-none, left-more; left-fewer
use Rattle.std.specs.Prelude.{Some, None, if◌then◌else◌}
use mathlib.Core.Path.{◌≡◌, refl, sym, ap, ◌∙◌}
use mathlib.Core.Bool.{Bool, true, false}
use mathlib.Core.List.{[], ◌∷◌, map}
use borrow.Author.Tests.{ltb-true, ltb-false}
use lib.Dec.{ltb}
use lib.ListN.{length, drop}
use Rattle.words.specs.Spelt.{word_of_name}
use Rattle.words_lines.specs.Directive.{is_comma, params}
use Rattle.words_lines.specs.Reading.{next_name}
use Rattle.words_lines.specs.declared.NameAt.{NameAt}
use Rattle.words_lines.proofs.SplitList.{parts_from, parts_none, parts-here}
use Rattle.words_lines.proofs.FieldNames.{names_from, names-none, names_more}
use Rattle.words_lines_asked.specs.Parameters.{names_left}
use Rattle.words_lines_asked.specs.declared.names.FieldNames.{FieldNames}

pub left-from : (n : FieldNames) → names_left n ≡ names_from n.field.now n.at
unfolding names_left names_from
left-from n = by-test (ltb (length n.field.now) n.at) refl
  where
    by-test : (t : Bool) → ltb (length n.field.now) n.at ≡ t
        → (if t then [] else map word_of_name (params (drop n.at n.field.now))) ≡ map word_of_name (parts_from is_comma n.at n.field.now)
    by-test true e = ap (map word_of_name) (sym (parts_none is_comma n.at n.field.now (ltb-true _ _ e)))
    by-test false e = ap (map word_of_name) (sym (parts-here is_comma n.at n.field.now (ltb-false _ _ e)))

module _ (n : FieldNames) where
  pub left-none : next_name n.field.now n.at ≡ None → names_left n ≡ []
  left-none e = left-from n ∙ names-none n.field.now n.at e

  pub left-more : (m : NameAt) → next_name n.field.now n.at ≡ Some m → names_left n ≡ m.word ∷ names_left (record { field = n.field; at = m.next })
  left-more m e = left-from n ∙ names_more n.field.now n.at m e ∙ ap (λ r. m.word ∷ r) (sym (left-from (record { field = n.field; at = m.next })))
