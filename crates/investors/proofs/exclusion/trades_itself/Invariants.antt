-- No order passed is another of the investor's on the other side.
use Rattle.std.proofs.Common.{◌≡◌, false, not, ◌&&◌, ◌==◌, length}
use Rattle.laws.specs.Search.{some}
use Rattle.book.specs.Book.{order_in}
use Rattle.investors.specs.Exclusion.{is_other}
use Rattle.investors.proofs.exclusion.trades_itself.Given as goal

abbrev pub invariant-loop-j : goal.invariant-loop-j
invariant-loop-j l = some (λ k. is_other l.orders (length l.orders) l.index l.id k && not ((order_in l.orders k).side == l.side)) l.j ≡ false
