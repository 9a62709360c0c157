-- The theorem of proofs/Covers.antt.
use Rattle.escrow.proofs.Covers.{not_refused_covers}
use Rattle.escrow.proofs.claims.not_refused_covers.Goals as goal

pub returns : goal.returns
returns c = not_refused_covers
