-- The theorem of proofs/Course.antt.
use Rattle.session_file.proofs.Course.{cleared_in_file}
use Rattle.session_file.proofs.claims.cleared_in_file.Goals as goal

pub returns : goal.returns
returns c = cleared_in_file
