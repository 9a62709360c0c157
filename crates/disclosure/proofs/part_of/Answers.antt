-- `disclosure::part_of` meets its contract. The quotient's part and the rest's add up to the whole's, and stay small.
use lib.Dec.{lit<}
use Rattle.disclosure.proofs.Parts.{by_parts}
use Rattle.disclosure.proofs.part_of.Goals as goal

pub returns : goal.returns
returns c = by_parts _ 10000 _ (lit< tt)
