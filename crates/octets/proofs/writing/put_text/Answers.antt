-- `octets::writing::put_text` meets its contract, by its test.
use Rattle.std.proofs.Common.{rules}
use Rattle.octets.specs.Writing.{written, after}
use Rattle.octets.proofs.writing.put_text.Goals as goal

pub returns-then-room-len : goal.returns-then-room-len
unfolding written after
returns-then-room-len c = search rules

pub returns : goal.returns
unfolding written after
returns c = search rules
