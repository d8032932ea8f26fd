-- A CALL asks for the deck that the table has under its name.
use Rattle.compile_walk.specs.Steps.{asked_of}
use Rattle.std.proofs.lemmas.Result.{err_from_is_err_and}
use mathlib.Core.Path.{sym, ◌∙◌}
use Rattle.compile_walk.proofs.calls.asks.Goals as goal

pub returns-in_err-find_row-in-Of : goal.returns-in_err-find_row-in-Of
unfolding asked_of
returns-in_err-find_row-in-Of c =
    let p = err_from_is_err_and c.from_residual.result c.from_residual.ensures.1 in
    rw (p.1, p.2, sym c.call_of.ensures ∙ c.in-Of.is, sym c.in_err-find_row-in-Of.ensures)

pub returns-in-Not : goal.returns-in-Not
unfolding asked_of
returns-in-Not c = rw (sym c.call_of.ensures ∙ c.in-Not.is)

pub returns-in-Malformed : goal.returns-in-Malformed
unfolding asked_of
returns-in-Malformed c = rw (sym c.call_of.ensures ∙ c.in-Malformed.is)

pub returns-in_ok-find_row-in-Of : goal.returns-in_ok-find_row-in-Of
unfolding asked_of
returns-in_ok-find_row-in-Of c = rw (sym c.call_of.ensures ∙ c.in-Of.is, sym c.in_ok-find_row-in-Of.ensures) c.open_at.ensures
