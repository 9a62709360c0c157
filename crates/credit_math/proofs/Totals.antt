-- The totals of at most n orders of k-bit quantities: both sides together stay below n * 2 ^ k, since an order adds to at most one of them.
-- Assumes nothing.
use mathlib.Core.Bool.{Bool, true, false, not, ◌&&◌}
use mathlib.Core.List.{List}
use Prim.Native.Nat.{ℕ, ◌+◌, ◌*◌, ◌^◌, ◌≤◌, ◌<◌}
use native.Mathlib.Omega.{arith}
use lib.Dec.{leb, lit≤}
use lib.ListN.{length, get_or}
use Rattle.laws.specs.Sums.{sum_below, only}
use Rattle.laws.proofs.Sums.{sum_add, sum_le_sum, sum_mono}
use Rattle.laws.proofs.Widths.{sum_below_lem}
use Rattle.wide.specs.Value.{modulus}
use Rattle.credit_math.specs.Limits.{max_orders}
use Rattle.credit_math.specs.Price.{buy, sell, executed}

-- an order adds its quantity to at most one side
one_side : (is_buy a b : Bool) (qty : ℕ) → only (is_buy && a) qty + only (not is_buy && b) qty ≤ qty
one_side true true b qty = omega arith
one_side true false b qty = omega arith
one_side false a true qty = omega arith
one_side false a false qty = omega arith

module _ (is_buy : List Bool) (limits qtys : List ℕ) (p : ℕ) where
  -- what place i adds to each side
  abbrev bought : ℕ → ℕ
  bought i = only (get_or is_buy i false && leb p (get_or limits i 0)) (get_or qtys i 0)

  abbrev sold : ℕ → ℕ
  sold i = only (not (get_or is_buy i false) && leb (get_or limits i 0) p) (get_or qtys i 0)

  sides_within : buy is_buy limits qtys p + sell is_buy limits qtys p ≤ sum_below (λ i. get_or qtys i 0) (length is_buy)
  unfolding buy sell
  sides_within =
      omega (
        arith,
        sum_add bought sold (length is_buy),
        sum_le_sum (λ i. bought i + sold i) (λ i. get_or qtys i 0) (length is_buy)
            (λ i _. one_side (get_or is_buy i false) (leb p (get_or limits i 0)) (leb (get_or limits i 0) p) (get_or qtys i 0)),
      )

  module _ (n k : ℕ) (some : 0 < n) (few : length is_buy ≤ n) (short : (i : ℕ) → get_or qtys i 0 < 2 ^ k) where
    pub sides_below : buy is_buy limits qtys p + sell is_buy limits qtys p < n * 2 ^ k
    sides_below = omega (arith, sides_within, sum_mono (λ i. get_or qtys i 0) (length is_buy) n few, sum_below_lem k (λ i. get_or qtys i 0) n short some)

    pub buy_below : buy is_buy limits qtys p < n * 2 ^ k
    buy_below = omega (arith, sides_below)

    pub sell_below : sell is_buy limits qtys p < n * 2 ^ k
    sell_below = omega (arith, sides_below)

    -- the smaller side stays below half of that
    pub executed_below : (half : ℕ) → n * 2 ^ k ≤ 2 * half → executed is_buy limits qtys p < half
    unfolding executed
    executed_below half h = omega (arith, sides_below)

-- a quantity for each order: their sum fits two words
pub orders_fit : max_orders * 2 ^ 64 ≤ modulus
unfolding modulus
orders_fit = lit≤ tt
