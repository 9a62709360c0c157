-- The theorem of proofs/TableTheorems.antt.
use Rattle.credit_math.proofs.TableTheorems.{table_is_right}
use Rattle.credit_math.proofs.claims.table_is_right.Goals as goal

pub returns : goal.returns
returns c = table_is_right
