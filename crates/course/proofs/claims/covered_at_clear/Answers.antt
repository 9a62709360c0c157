-- The theorem of proofs/Covered.antt.
use Rattle.course.proofs.Covered.{covered_at_clear}
use Rattle.course.proofs.claims.covered_at_clear.Goals as goal

pub returns : goal.returns
returns c = covered_at_clear
