-- The theorem of proofs/Refusals.antt.
use Rattle.course.proofs.Refusals.{refused_by_its_row}
use Rattle.course.proofs.claims.refused_by_its_row.Goals as goal

pub returns : goal.returns
returns c = refused_by_its_row
