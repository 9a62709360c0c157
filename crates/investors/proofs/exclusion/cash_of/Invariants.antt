-- The order's own escrow and those passed, a sum that fits two words.
use Rattle.std.proofs.Common.{◌&&◌, length}
use Rattle.laws.specs.Sums.{only}
use Rattle.laws.proofs.Widths.{SummingFrom}
use Rattle.book.specs.Book.{order_in, is_buy}
use Rattle.investors.specs.Exclusion.{is_other}
use Rattle.investors.proofs.exclusion.cash_of.Given as goal

abbrev pub invariant-loop-j : goal.invariant-loop-j
invariant-loop-j l =
    SummingFrom 64 l.escrowed (λ k. only (is_other l.orders (length l.orders) l.index l.id k && is_buy (order_in l.orders k)) (order_in l.orders k).escrowed) l.j l.sum
