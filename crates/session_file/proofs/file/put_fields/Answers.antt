-- `session_file::file::put_fields` meets its contract: what is said of a call.
use Rattle.session_file.proofs.Stepping.{said_answer}
use Rattle.session_file.proofs.file.put_fields.Goals as goal

pub returns-in_ok-arguments_refusal-in-Call-clause-lines : goal.returns-in_ok-arguments_refusal-in-Call-clause-lines
returns-in_ok-arguments_refusal-in-Call-clause-lines c = rw (c.in-Call.is, ← said_answer c.args.place.now c.args.session.now c.in-Call.call) c.put_call.ensures.lines
