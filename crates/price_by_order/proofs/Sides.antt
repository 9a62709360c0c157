-- What the orders add to a side, one after the other, comes to its total.
use Rattle.std.proofs.Common.{◌≡◌, Bool, true, false, if◌then◌else◌, not, ◌&&◌, List, ℕ, leb, length, get_or}
use Rattle.laws.specs.Sums.{sum_below, only}
use Rattle.credit_math.specs.Price.{buy, sell}
use Rattle.price_by_order.specs.Steps.{side_total}

-- what place i adds
abbrev pub adds : (is_buy : List Bool) (limits qtys : List ℕ) (buys : Bool) (p i : ℕ) → ℕ
adds is_buy limits qtys buys p i =
    only (if buys then get_or is_buy i false && leb p (get_or limits i 0) else not (get_or is_buy i false) && leb (get_or limits i 0) p) (get_or qtys i 0)

-- all places
pub added_all : (is_buy : List Bool) (limits qtys : List ℕ) (buys : Bool) (p i : ℕ) → i ≡ length is_buy → sum_below (adds is_buy limits qtys buys p) i ≡ side_total is_buy limits qtys buys p
unfolding buy sell
added_all is_buy limits qtys true p i e = rw e
added_all is_buy limits qtys false p i e = rw e
