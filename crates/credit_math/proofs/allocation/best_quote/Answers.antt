-- What is left of the walk over the rows ends with the price.
use Rattle.credit_math.proofs.Search.{searching, searching_more, searched}
use Rattle.credit_math.proofs.allocation.best_quote.Goals as goal

pub loop-row-init : goal.loop-row-init
loop-row-init c = searching

pub loop-row-preserved : goal.loop-row-preserved
loop-row-preserved c = searching_more c.loop-row.invariant c.row-item.result c.loop-row-test.true c.row-item.is c.quote_of.ensures c.better_of-best.ensures

pub returns : goal.returns
returns c = searched c.loop-row.invariant c.loop-row-test.false
