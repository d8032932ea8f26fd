-- CODE. What a row of the check answers by itself.
--   refused_at
use Rattle.std.specs.Prelude.{ℕ, Option, None, Some, Result, Ok, Err}
use Rattle.library.specs.declared.Fault.{Fault}
use Rattle.library.specs.declared.Refusal.{Refusal}

-- refused at the place where the row's fault stands, or nothing
abbrev pub refused_at : Fault → Option ℕ → Result (Unit {0}) Refusal
refused_at f None = Ok tt
refused_at f (Some p) = Err (record { fault = f; place = p })
