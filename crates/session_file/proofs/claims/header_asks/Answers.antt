-- The theorem of proofs/Course.antt.
use Rattle.session_file.proofs.Course.{header_asks}
use Rattle.session_file.proofs.claims.header_asks.Goals as goal

pub returns : goal.returns
returns c = header_asks
