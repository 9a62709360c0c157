-- The table holds, since each side computes.
use Rattle.worked_examples.proofs.Examples.{examples_hold}
use Rattle.worked_examples.proofs.examples_hold.Goals as goal

pub returns : goal.returns
returns c = examples_hold
