-- The theorem of proofs/Applied.antt.
use Rattle.course.proofs.Applied.{run_is_answers}
use Rattle.course.proofs.claims.run_is_answers.Goals as goal

pub returns : goal.returns
returns c = run_is_answers
