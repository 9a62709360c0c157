-- The checks over the orders counted are those over all, read up to the limit. Assumes nothing.
use Rattle.std.proofs.Common.{◌≡◌, ℕ, ◌+◌, ◌*◌, ◌^◌, ◌≤◌, min, not, ◌&&◌, ◌==◌, List, length, take, ap, arith}
use Rattle.std.proofs.lemmas.List.{get_or-take, length-take-le}
use lib.Dec.{lit≤}
use Rattle.laws.specs.Sums.{sum_below, only}
use Rattle.laws.specs.Search.{some}
use Rattle.laws.proofs.Sums.{sum_same}
use Rattle.laws.proofs.Search.{some_same}
use Rattle.wide.specs.Value.{modulus}
use Rattle.credit_math.specs.Limits.{max_orders}
use Rattle.book.specs.Book.{order_in, is_buy, no_order}
use Rattle.book.specs.declared.Order.{Order}
use Rattle.investors.specs.Exclusion.{is_other, self_trade, cash_of}

-- the order's own escrow and those of all the orders fit two words
pub escrows_fit : (max_orders + 1) * 2 ^ 64 ≤ modulus
unfolding modulus
escrows_fit = lit≤ tt

-- with the side and the escrow of the order itself
module _ (orders : List Order) (n m i : ℕ) (id : List ℕ) (e : m ≡ min n max_orders) (h : length orders ≡ max_orders) (own : ℕ × ℕ) (o : own ≡ ((order_in orders i).side, (order_in orders i).escrowed)) where
  -- the search for an order on the other side
  pub self_trade_counted : some (λ j. is_other (take m orders) (length (take m orders)) i id j && not ((order_in (take m orders) j).side == own.0)) (length (take m orders))
      ≡ self_trade orders n i id
  unfolding self_trade is_other
  self_trade_counted = rw (length-take-le m orders (omega arith), ← e, o) (some_same _ _ m (λ j l. rw (get_or-take m orders j no_order l)))

  -- the sum of the escrows
  pub cash_counted : own.1 + sum_below (λ j. only (is_other (take m orders) (length (take m orders)) i id j && is_buy (order_in (take m orders) j)) (order_in (take m orders) j).escrowed) (length (take m orders))
      ≡ cash_of orders n i id
  unfolding cash_of is_other
  cash_counted = rw (length-take-le m orders (omega arith), ← e, o) (ap ((order_in orders i).escrowed +◌) (sum_same _ _ m (λ j l. rw (get_or-take m orders j no_order l))))
