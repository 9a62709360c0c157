-- `octets::writing::put_two` meets its contract: one byte after the other.
use Rattle.std.proofs.Common.{◌+◌, ◌≤◌, length, add_assoc, arith}
use lib.ListN.{length-set}
use Rattle.octets.proofs.Spliced.{puts_byte, puts_puts}
use Rattle.octets.proofs.writing.put_two.Goals as goal

pub returns : goal.returns
returns c =
    let within : c.args.at ≤ length c.args.out.now = omega arith in
    let tens = puts_byte c.args.at c.digit.result c.args.out.now (omega arith) in
    let ones = puts_byte (c.args.at + 1) c.digit-2.result _ (simp length-set (omega arith)) in
    rw (← c.digit.ensures, ← c.digit-2.ensures) (rw add_assoc at (puts_puts tens ones within))
