-- The theorem of proofs/Lines.antt.
use Rattle.course.proofs.Lines.{lines_tell}
use Rattle.course.proofs.claims.lines_tell.Goals as goal

pub returns : goal.returns
returns c = lines_tell
