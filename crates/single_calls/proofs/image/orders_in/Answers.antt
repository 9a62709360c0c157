-- After the loop each place is read.
use Rattle.std.proofs.Common.{arith}
use Rattle.laws.proofs.Lists.{written}
use Rattle.single_calls.proofs.image.orders_in.Goals as goal

pub returns : goal.returns
returns c = written c.loop-i.invariant (omega arith)
