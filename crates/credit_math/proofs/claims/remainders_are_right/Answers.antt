-- The theorem of proofs/ProRataTheorems.antt.
use Rattle.credit_math.proofs.ProRataTheorems.{remainders_are_right}
use Rattle.credit_math.proofs.claims.remainders_are_right.Goals as goal

pub returns : goal.returns
returns c = remainders_are_right
