-- `octets::writing::put_digit` meets its contract, by its test.
use Rattle.std.proofs.Common.{arith}
use Rattle.octets.proofs.Spliced.{puts_byte}
use Rattle.octets.proofs.Fitting.{put_where}
use Rattle.octets.proofs.Decimal.{decimal_one}
use Rattle.octets.proofs.writing.put_digit.Goals as goal

pub returns-then-at-out : goal.returns-then-at-out
returns-then-at-out c =
    rw (decimal_one c.args.x c.requires, ← c.digit.ensures) (put_where (puts_byte _ _ _ c.if-at-out.true) (omega arith))
