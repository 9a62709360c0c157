-- The theorem of proofs/Course.antt.
use Rattle.session_file.proofs.Course.{covered_in_file}
use Rattle.session_file.proofs.claims.covered_in_file.Goals as goal

pub returns : goal.returns
returns c = covered_in_file
