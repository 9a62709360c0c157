-- The theorem of proofs/Refusals.antt.
use Rattle.course.proofs.Refusals.{record_refused_by_its_row}
use Rattle.course.proofs.claims.record_refused_by_its_row.Goals as goal

pub returns : goal.returns
returns c = record_refused_by_its_row
