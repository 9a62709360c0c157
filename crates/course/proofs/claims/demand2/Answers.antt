-- The theorem of proofs/Demand2.antt.
use Rattle.course.proofs.Demand2.{demand2}
use Rattle.course.proofs.claims.demand2.Goals as goal

pub returns : goal.returns
returns c = demand2
