-- The theorem of proofs/Examples.antt.
use Rattle.inquiries.proofs.Examples.{examples_hold}
use Rattle.inquiries.proofs.claims.examples_hold.Goals as goal

pub returns : goal.returns
returns c = examples_hold
