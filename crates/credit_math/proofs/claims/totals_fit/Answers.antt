-- The theorem of proofs/PriceTheorems.antt.
use Rattle.credit_math.proofs.PriceTheorems.{totals_fit}
use Rattle.credit_math.proofs.claims.totals_fit.Goals as goal

pub returns : goal.returns
returns c = totals_fit
