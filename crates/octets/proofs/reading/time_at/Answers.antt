-- `octets::reading::time_at` meets its contract: std's signed number is the one of eight bytes.
use Rattle.std.proofs.Common.{arith}
use Rattle.std.proofs.lemmas.Int.{to_z-of_z}
use Rattle.octets.specs.Bytes.{signed}
use Rattle.octets.proofs.reading.time_at.Goals as goal

pub returns : goal.returns
unfolding signed
returns c = grind (arith, to_z-of_z)
