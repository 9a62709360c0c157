-- Of the orders passed, the live ones stand one behind the other, by numbers within the limit.
use Rattle.std.proofs.Common.{ℕ, ◌≤◌, ◌<◌, get_or}
use Rattle.credit_math.specs.Limits.{max_orders}
use Rattle.book.proofs.Live.{Collecting}
use Rattle.book.proofs.clear.live_orders.Given as goal

abbrev pub invariant-loop-i : goal.invariant-loop-i
invariant-loop-i l = record {
  few : l.count ≤ l.i;
  inside : (k : ℕ) → k < l.count → get_or l.numbers k 0 < max_orders;
  gathered : Collecting l.orders l.i l.count l.numbers l.is_buy l.limits l.qtys;
}
