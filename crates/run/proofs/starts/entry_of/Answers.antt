-- A name's number is none beyond the directory.
use native.Mathlib.Omega.{arith}
use Rattle.library.proofs.NameAtEnd.{entry-within}
use Rattle.run.proofs.starts.entry_of.Goals as goal

pub returns : goal.returns
returns c = let a = c.args in record { upper_bound = omega (arith, c.entry_of.ensures, entry-within a.directory.now a.w); value = c.entry_of.ensures }
