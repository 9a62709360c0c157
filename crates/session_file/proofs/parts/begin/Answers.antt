-- `session_file::parts::begin` meets its contract.
use Rattle.session_file.specs.Parts.{begun}
use Rattle.session_file.proofs.parts.begin.Goals as goal

pub returns : goal.returns
unfolding begun
returns c = rw (c.first_place.ensures, c.unopened.ensures)
