-- The theorem of proofs/TableTheorems.antt.
use Rattle.credit_math.proofs.TableTheorems.{running_sums_fit}
use Rattle.credit_math.proofs.claims.running_sums_fit.Goals as goal

pub returns : goal.returns
returns c = running_sums_fit
