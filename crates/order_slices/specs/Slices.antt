-- The source's `find_uniform_clear_price(&[Order], ..)` and `allocate_pro_rata(.., &[(id, quantity)])`: the definitions of `credit_math`, on the fields
-- of the records in their order.
use Rattle.std.specs.Prelude.{List, map, ℕ}
use Rattle.credit_math.specs.Price.{Found, find_uniform_clear_price}
use Rattle.credit_math.specs.ProRata.{pro_rata_refusal, allocate_pro_rata}
use Rattle.order_slices.specs.declared.Order.{Order}
use Rattle.order_slices.specs.declared.Bid.{Bid}

-- 30 over 16 orders; else no cross, or the best price with its volume
unfoldable pub search_orders : List Order → (reserve reference : ℕ) → Found
search_orders orders reserve reference =
    find_uniform_clear_price (map (λ o. o.is_buy) orders) (map (λ o. o.limit_price) orders) (map (λ o. o.qty) orders) reserve reference

-- 30 over 16 bids or an output of another length; then 28 and 29
unfoldable pub bids_refusal : List Bid → (room total : ℕ) → ℕ
bids_refusal bids room total = pro_rata_refusal (map (λ b. b.id) bids) (map (λ b. b.qty) bids) room total

-- what the lent output then holds: the lots, or what it held
unfoldable pub allocate_bids : List Bid → (total : ℕ) (out : List ℕ) → List ℕ
allocate_bids bids total out = allocate_pro_rata (map (λ b. b.id) bids) (map (λ b. b.qty) bids) total out
