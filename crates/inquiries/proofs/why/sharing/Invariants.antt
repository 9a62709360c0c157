-- The sum so far is that of the orders passed, each of one word.
use Rattle.std.proofs.Common.{◌≡◌, ◌&&◌, ◌*◌, ◌^◌, ◌≤◌}
use Rattle.laws.specs.Sums.{sum_below, only}
use Rattle.book.specs.Book.{order_in, is_live}
use Rattle.book.specs.Clear.{trades_at}
use Rattle.inquiries.proofs.why.sharing.Given as goal

abbrev pub invariant-loop-j : goal.invariant-loop-j
invariant-loop-j l =
    (l.sum ≡ sum_below (λ k. only (is_live (order_in l.orders k) && trades_at l.orders l.n l.buys l.price k) (order_in l.orders k).qty) l.j) × (l.sum ≤ l.j * 2 ^ 64)
