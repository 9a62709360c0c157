-- `Wide::bit` meets its contract. A digit of the number is a digit of one of its words.
use Rattle.std.proofs.Common.{sym}
use Rattle.wide.proofs.Long.{digit_low, digit_high}
use Rattle.wide.proofs.Wide.bit.Goals as goal

pub returns-then-i-lt64 : goal.returns-then-i-lt64
returns-then-i-lt64 c = rw (← c.self.view_is) (sym (digit_low 64 _ _ _ c.if-i-lt64.true))

pub returns-else-i-lt64 : goal.returns-else-i-lt64
returns-else-i-lt64 c = rw (← c.self.view_is) (sym (digit_high 64 _ _ _ c.self.invariant.1 c.if-i-lt64.false))
