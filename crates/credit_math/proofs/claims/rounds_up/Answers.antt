-- The theorem of proofs/Rounding.antt.
use Rattle.credit_math.proofs.Rounding.{rounds_up}
use Rattle.credit_math.proofs.claims.rounds_up.Goals as goal

pub returns : goal.returns
returns c = λ a b p. rounds_up a b p
