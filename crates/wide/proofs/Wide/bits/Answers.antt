-- `Wide::bits` meets its contract. What the leading zeros leave is the number of digits.
use Rattle.std.proofs.Common.{arith}
use Rattle.wide.proofs.Length.{length_low, length_high}
use Rattle.wide.proofs.Wide.bits.Goals as goal

pub returns-then-self-eq0 : goal.returns-then-self-eq0
returns-then-self-eq0 c = rw (← c.self.view_is, c.from.ensures) (length_low 64 _ _ c.self.invariant.1 c.if-self-eq0.true)

pub returns-else-self-eq0 : goal.returns-else-self-eq0
returns-else-self-eq0 c = rw (← c.self.view_is, c.from-else-self-eq0.ensures) (length_high 64 _ _ c.self.invariant.1 c.self.invariant.0 (omega arith))
