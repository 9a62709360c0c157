-- The theorem of proofs/Applied.antt.
use Rattle.course.proofs.Applied.{apply_is_run}
use Rattle.course.proofs.claims.apply_is_run.Goals as goal

pub returns : goal.returns
returns c = apply_is_run
