-- The theorem of proofs/ProRataTheorems.antt.
use Rattle.credit_math.proofs.ProRataTheorems.{share_is_right}
use Rattle.credit_math.proofs.claims.share_is_right.Goals as goal

pub returns : goal.returns
returns c = share_is_right
