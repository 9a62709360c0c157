-- The theorem of proofs/FillCount.antt.
use Rattle.course.proofs.FillCount.{fills_before_crank}
use Rattle.course.proofs.claims.fills_before_crank.Goals as goal

pub returns : goal.returns
returns c = fills_before_crank
