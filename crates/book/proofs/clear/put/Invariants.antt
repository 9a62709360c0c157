-- Storing what is left comes to storing all.
use Rattle.std.proofs.Common.{◌≡◌, drop}
use Rattle.book.specs.Clear.{stored}
use Rattle.book.proofs.clear.put.Given as goal

abbrev pub invariant-loop-i : goal.invariant-loop-i
invariant-loop-i l = stored (drop l.i l.places) (drop l.i l.values) l.out ≡ stored l.places l.values l.initial.out
