-- With the best so far, what is left of the walk ends with the price.
use Rattle.price_by_order.proofs.Walk.{Searching}
use Rattle.price_by_order.proofs.search.best_quote.Given as goal

abbrev pub invariant-loop-limit : goal.invariant-loop-limit
invariant-loop-limit l = Searching l.orders.is_buy.now l.orders.limits.now l.orders.qtys.now l.reserve l.reference l.best l.limit-index
