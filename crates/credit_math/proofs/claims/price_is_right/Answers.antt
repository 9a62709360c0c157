-- The theorem of proofs/PriceTheorems.antt.
use Rattle.credit_math.proofs.PriceTheorems.{price_is_right}
use Rattle.credit_math.proofs.claims.price_is_right.Goals as goal

pub returns : goal.returns
returns c = price_is_right
