-- The theorem of proofs/ProRataTheorems.antt.
use Rattle.credit_math.proofs.ProRataTheorems.{lots_are_right}
use Rattle.credit_math.proofs.claims.lots_are_right.Goals as goal

pub returns : goal.returns
returns c = lots_are_right
