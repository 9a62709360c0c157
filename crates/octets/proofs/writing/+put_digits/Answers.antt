-- `octets::writing::put_digits` meets its contract: the hundreds first, and two digits behind them.
use Rattle.std.proofs.Common.{arith, rules}
use Rattle.octets.proofs.Spliced.{puts_byte, puts_puts}
use Rattle.octets.proofs.Decimal.{decimal_one, decimal_two, decimal_hundreds, hundredth_digits}
use Rattle.octets.proofs.writing.+put_digits.Goals as goal

pub returns-then-x-lt10 : goal.returns-then-x-lt10
returns-then-x-lt10 t c = (rw (decimal_one c.args.x c.if-x-lt10.true, ← c.digit.ensures) (puts_byte _ _ _ (omega arith)), omega arith)

pub returns-then-x-lt100 : goal.returns-then-x-lt100
returns-then-x-lt100 t c = rw (decimal_two c.args.x (omega arith) (omega arith)) (search rules)

pub put_two-requires-2 : goal.put_two-requires-2
put_two-requires-2 t c =
    let few = hundredth_digits c.args.x c.ranges.x.fits (omega arith) in
    omega arith

pub returns : goal.returns
returns t c =
    let few = hundredth_digits c.args.x c.ranges.x.fits (omega arith) in
    (rw (decimal_hundreds c.args.x c.ranges.x.fits (omega arith)) (puts_puts c.put_digits-k.ensures.0 c.put_two-2.ensures (omega arith)), omega arith)
