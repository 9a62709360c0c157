-- The theorem of proofs/CaseL.antt.
use Rattle.course.proofs.CaseL.{case_l}
use Rattle.course.proofs.claims.case_l.Goals as goal

pub returns : goal.returns
returns c = case_l
