-- `investor_exclusion`: 'only other live orders with the same nonzero id count; an id of zeros matches none'.
use Rattle.std.specs.Prelude.{Bool, if◌then◌else◌, not, ◌&&◌, List, ℕ, ◌+◌, min, nat_lt, ◌==◌}
use Rattle.laws.specs.Sums.{sum_below, only}
use Rattle.laws.specs.Search.{some}
use Rattle.laws.specs.Lists.{same}
use Rattle.credit_math.specs.Limits.{max_orders}
use Rattle.book.specs.Book.{order_in, is_live, is_buy, no_investor}
use Rattle.book.specs.declared.Order.{Order}

-- exclusions by the investor's own orders: SelfTrade 7, InvestorCapExceeded 8
abbrev pub self_trade_exclusion : ℕ
self_trade_exclusion = 7

abbrev pub cap_exclusion : ℕ
cap_exclusion = 8

module _ (orders : List Order) (n : ℕ) where
  -- order j is another live order, beside order i, with the same nonzero id
  unfoldable pub is_other : (i : ℕ) (id : List ℕ) (j : ℕ) → Bool
  is_other i id j =
      not (j == i) && is_live (order_in orders j) && not (same (order_in orders j).investor_id no_investor) && same (order_in orders j).investor_id id

  -- 'An opposite side gives SelfTrade' (a count above the limit is read as the limit)
  unfoldable pub self_trade : (i : ℕ) (id : List ℕ) → Bool
  self_trade i id = some (λ j. is_other i id j && not ((order_in orders j).side == (order_in orders i).side)) (min n max_orders)

  -- 'own escrow plus those of the buys among them'
  unfoldable pub cash_of : (i : ℕ) (id : List ℕ) → ℕ
  cash_of i id = (order_in orders i).escrowed + sum_below (λ j. only (is_other i id j && is_buy (order_in orders j)) (order_in orders j).escrowed) (min n max_orders)

  -- 'failing that, a buy whose own escrow plus those .. exceeds `max_cash` gives InvestorCapExceeded'; 0 where there is none
  unfoldable pub investor_exclusion : (i : ℕ) (id : List ℕ) (max_cash : ℕ) → ℕ
  investor_exclusion i id max_cash =
      if self_trade i id then self_trade_exclusion
      else if is_buy (order_in orders i) && nat_lt max_cash (cash_of i id) then cap_exclusion else 0
