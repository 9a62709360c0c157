-- The lower of two quotes is the better one.
use native.Mathlib.Omega.{arith}
use Rattle.std.proofs.lemmas.Bool.Decides.{nat_tests}
use Rattle.credit_math.specs.Steps.{after}
use Rattle.credit_math.proofs.Search.{lower_is_ahead}
use Rattle.credit_math.proofs.allocation.better_of.Goals as goal

pub returns-in-Some : goal.returns-in-Some
unfolding after
returns-in-Some c = rw (c.min.ensures, c.in-Some.is, lower_is_ahead c.args.q c.in-Some.old) (grind (arith, nat_tests))
