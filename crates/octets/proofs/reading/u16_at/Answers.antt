-- `octets::reading::u16_at` meets its contract: std's sum of the bytes read is the number that they say.
use Rattle.std.proofs.Common.{add-zero, arith}
use Rattle.laws.specs.Lists.{table}
use Rattle.octets.proofs.reading.u16_at.Goals as goal

pub returns : goal.returns
unfolding table
returns c = omega (arith, rw (c.bytes_at.ensures, add-zero) at c.from_le_bytes.ensures)
