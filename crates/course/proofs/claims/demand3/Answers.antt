-- The theorem of proofs/Demand3.antt.
use Rattle.course.proofs.Demand3.{demand3}
use Rattle.course.proofs.claims.demand3.Goals as goal

pub returns : goal.returns
returns c = demand3
