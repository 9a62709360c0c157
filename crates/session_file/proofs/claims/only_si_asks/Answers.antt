-- The theorem of proofs/Course.antt.
use Rattle.session_file.proofs.Course.{only_si_asks}
use Rattle.session_file.proofs.claims.only_si_asks.Goals as goal

pub returns : goal.returns
returns c = only_si_asks
