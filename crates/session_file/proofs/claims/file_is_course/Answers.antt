-- The theorem of proofs/Course.antt.
use Rattle.session_file.proofs.Course.{file_is_course}
use Rattle.session_file.proofs.claims.file_is_course.Goals as goal

pub returns : goal.returns
returns c = file_is_course
