-- What the private functions hand each other: arrays of which the first `count` places hold the lists of Clear.antt.
use Rattle.std.specs.Prelude.{◌≡◌, Bool, List, map, ℕ, ◌≤◌, length, take, Result}
use Rattle.credit_math.specs.Price.{buy, sell, cross}
use Rattle.book.specs.Book.{order_in, is_buy}
use Rattle.book.specs.Clear.{outcome_of, stored, live_orders, searched, side_orders, side_lots, allocations, allotted}
use Rattle.book.specs.declared.Order.{Order}
use Rattle.refusals.specs.declared.Refusal.{Refusal}
use Rattle.book.specs.declared.gathered.Live.{Live}
use Rattle.book.specs.declared.gathered.Side.{Side}
use Rattle.book.specs.declared.clear.Cross.{Cross}
use Rattle.book.specs.declared.clear.Failure.{Failure}

module _ (orders : List Order) (n : ℕ) where
  -- sides, limits and quantities of the list `orders`
  abbrev pub buys_of : List Bool
  buys_of = map (λ i. is_buy (order_in orders i)) (live_orders orders n)

  abbrev pub limits_of : List ℕ
  limits_of = map (λ i. (order_in orders i).limit) (live_orders orders n)

  abbrev pub qtys_of : List ℕ
  qtys_of = map (λ i. (order_in orders i).qty) (live_orders orders n)

  -- the live orders, with their sides, limits and quantities
  pub record Gathered (l : Live) : Type 0 where
    pub counted : l.count ≡ length (live_orders orders n)
    pub numbers : take l.count l.numbers ≡ live_orders orders n
    pub sides : take l.count l.is_buy ≡ buys_of
    pub limits : take l.count l.limits ≡ limits_of
    pub qtys : take l.count l.qtys ≡ qtys_of

  -- those of a side that trade at p, with their quantities
  pub record SideGathered (buys : Bool) (p : ℕ) (s : Side) : Type 0 where
    pub counted : s.count ≡ length (side_orders orders n buys p)
    pub numbers : take s.count s.numbers ≡ side_orders orders n buys p
    pub qtys : take s.count s.qtys ≡ map (λ i. (order_in orders i).qty) (side_orders orders n buys p)

  -- a volume that both sides have at p
  pub record Within (p v : ℕ) : Type 0 where
    pub bought : v ≤ buy buys_of limits_of qtys_of p
    pub sold : v ≤ sell buys_of limits_of qtys_of p

-- what the functions answer, of whatever book the live orders are
module _ (l : Live) where
  -- the orders of a side that trade at p
  abbrev pub Trading : (buys : Bool) (p : ℕ) → Side → Type 0
  Trading buys p s = (orders : List Order) (n : ℕ) → Gathered orders n l → SideGathered orders n buys p s

  -- a side's lots, stored
  abbrev pub Allotted : (buys : Bool) (p v : ℕ) (into out : List ℕ) → Type 0
  Allotted buys p v into out = (orders : List Order) (n : ℕ) → Gathered orders n l → Within orders n p v → out ≡ stored (side_orders orders n buys p) (side_lots orders n buys p v) into

  -- both sides' lots
  abbrev pub Allocated : (p v : ℕ) (out : List ℕ) → Type 0
  Allocated p v out = (orders : List Order) (n : ℕ) → Gathered orders n l → Within orders n p v → out ≡ allocations orders n p v

  -- the outcome at a price with its volume
  abbrev pub Priced : (p v : ℕ) → Result (Result Cross Failure) Refusal → Type 0
  Priced p v o = (orders : List Order) (n : ℕ) → Gathered orders n l → Within orders n p v → outcome_of o ≡ allotted orders n (cross p v)

  -- the outcome of the search
  abbrev pub Cleared : (reserve reference : ℕ) → Result (Result Cross Failure) Refusal → Type 0
  Cleared reserve reference o = (orders : List Order) (n : ℕ) → Gathered orders n l → outcome_of o ≡ allotted orders n (searched orders n reserve reference)
