-- Of the live orders passed, those of the side that trade stand one behind the other, by numbers within the limit.
use Rattle.std.proofs.Common.{ℕ, ◌≤◌, ◌<◌, List, get_or}
use Rattle.credit_math.specs.Limits.{max_orders}
use Rattle.book.specs.Gathered.{Gathered}
use Rattle.book.specs.declared.Order.{Order}
use Rattle.book.proofs.Live.{Siding}
use Rattle.book.proofs.gathered.Live.side_orders.Given as goal

abbrev pub invariant-loop-i : goal.invariant-loop-i
invariant-loop-i l = record {
  few : l.count ≤ l.i;
  inside : (k : ℕ) → k < l.count → get_or l.numbers k 0 < max_orders;
  gathered : (orders : List Order) (n : ℕ) → Gathered orders n l.self → Siding orders n l.buys l.p l.i l.count l.numbers l.qtys;
}
