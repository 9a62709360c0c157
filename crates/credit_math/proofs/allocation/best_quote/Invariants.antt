-- What is left of the walk over the rows ends with the price.
use Rattle.credit_math.proofs.Search.{Searching}
use Rattle.credit_math.proofs.allocation.best_quote.Given as goal

abbrev pub invariant-loop-row : goal.invariant-loop-row
invariant-loop-row l = Searching l.table l.reserve l.reference l.best l.row-index
