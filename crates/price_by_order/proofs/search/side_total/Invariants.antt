-- The sum of what the places passed add, which fits two words.
use Rattle.laws.proofs.Widths.{Summing}
use Rattle.price_by_order.proofs.Sides.{adds}
use Rattle.price_by_order.proofs.search.side_total.Given as goal

abbrev pub invariant-loop-i : goal.invariant-loop-i
invariant-loop-i l = Summing 64 (adds l.orders.is_buy.now l.orders.limits.now l.orders.qtys.now l.buys l.p) l.i l.sum
