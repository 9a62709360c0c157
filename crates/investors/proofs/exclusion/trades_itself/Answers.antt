-- An order of the investor's on the other side is found.
use Rattle.std.proofs.Common.{arith}
use Rattle.std.proofs.lemmas.Bool.Decides.{nat_tests}
use Rattle.laws.proofs.Search.{some_at}
use Rattle.investors.specs.Exclusion.{is_other}
use Rattle.investors.proofs.exclusion.trades_itself.Goals as goal

pub returns-then-o-side : goal.returns-then-o-side
unfolding is_other
returns-then-o-side c = some_at _ _ c.loop-j.j c.loop-j-test.true (grind (arith, nat_tests))
