-- `octets::reading::u32_at` meets its contract: std's sum of the bytes read is the number that they say.
use Rattle.std.proofs.Common.{add-zero, add_assoc, arith}
use Rattle.laws.specs.Lists.{table}
use Rattle.octets.proofs.reading.u32_at.Goals as goal

pub returns : goal.returns
unfolding table
returns c = simp add_assoc (omega (arith, rw (c.bytes_at.ensures, add-zero) at c.from_le_bytes.ensures))
