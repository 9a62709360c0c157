-- The theorem of proofs/Refusals.antt.
use Rattle.session_file.proofs.Refusals.{refused_by_place}
use Rattle.session_file.proofs.claims.refused_by_place.Goals as goal

pub returns : goal.returns
returns c = refused_by_place
