-- The theorem of proofs/Exclusions.antt.
use Rattle.course.proofs.Exclusions.{kinds_fit}
use Rattle.course.proofs.claims.kinds_fit.Goals as goal

pub returns : goal.returns
returns c = kinds_fit
