-- `octets::writing::put_dec` meets its contract: in place where any number fits, else what was printed into the buffer is put.
use Rattle.octets.proofs.Decimal.{most_digits}
use Rattle.octets.proofs.writing.put_dec.Goals as goal

pub returns-then-x-lt10 : goal.returns-then-x-lt10
returns-then-x-lt10 c =
    (c.put_digit.ensures, most_digits c.args.x c.ranges.x.fits)
