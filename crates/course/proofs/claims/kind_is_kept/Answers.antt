-- The theorem of proofs/Exclusions.antt.
use Rattle.course.proofs.Exclusions.{kind_is_kept}
use Rattle.course.proofs.claims.kind_is_kept.Goals as goal

pub returns : goal.returns
returns c = kind_is_kept
