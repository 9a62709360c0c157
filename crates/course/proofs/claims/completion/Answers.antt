-- The theorem of proofs/Demand3.antt.
use Rattle.course.proofs.Demand3.{completion}
use Rattle.course.proofs.claims.completion.Goals as goal

pub returns : goal.returns
returns c = completion
