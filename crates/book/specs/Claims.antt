-- What is proved of `compute_clear`: proofs/Theorems.antt. Demand 2 over the orders of a session.
use Rattle.std.specs.Prelude.{◌≡◌, ◌≢◌, ◌↔◌, Bool, true, false, if◌then◌else◌, not, ◌&&◌, List, map, ℕ, ◌^◌, ◌≤◌, ◌<◌, min, nat_lt, length, slice_index}
use Rattle.laws.specs.Sums.{sum_below, only}
use Rattle.credit_math.specs.Limits.{max_orders}
use Rattle.credit_math.specs.Error.{no_cross}
use Rattle.credit_math.specs.Price.{executed, better}
use Rattle.book.specs.Book.{order_in, is_live, is_buy}
use Rattle.book.specs.Clear.{live_orders, trades_at, allocations, floor_of, compute_clear, Outcome, failed_by, refused_with, too_few_reveals, mark_unavailable, math_overflow}
use Rattle.book.specs.declared.Order.{Order}
use Rattle.book.specs.declared.Params.{Params}
use Rattle.book.specs.declared.Given.{Given}

module _ (p : Params) (g : Given) (orders : List Order) (n : ℕ) where
  -- what a price executes of the live orders
  abbrev pub executed_at : ℕ → ℕ
  executed_at = executed (map (λ i. is_buy (order_in orders i)) (live_orders orders n)) (map (λ i. (order_in orders i).limit) (live_orders orders n)) (map (λ i. (order_in orders i).qty) (live_orders orders n))

  abbrev pub better_than : ℕ → ℕ → Bool
  better_than = better (map (λ i. is_buy (order_in orders i)) (live_orders orders n)) (map (λ i. (order_in orders i).limit) (live_orders orders n)) (map (λ i. (order_in orders i).qty) (live_orders orders n)) g.reference

  -- 'no live limit at or above the reserve executes anything': q is a live order's limit, at or above the reserve, and executes something
  pub record Executes (q : ℕ) : Type 0 where
    pub order : ℕ
    pub below : order < min n max_orders
    pub live : is_live (order_in orders order) ≡ true
    pub limit : q ≡ (order_in orders order).limit
    pub floor : floor_of p g ≤ q
    pub some : 0 < executed_at q

  -- 'the best by volume, imbalance, nearness to the reference and lowness, in that order': it executes something, and is better than any other
  -- live limit at or above the reserve that does
  pub record BestPrice (price : ℕ) : Type 0 where
    pub executes : Executes price
    pub beats : (q : ℕ) → Executes q → q ≢ price → better_than price q ≡ true

  -- 'with enough live orders, and a mark unless the sale is forced'
  pub record Clearable : Type 0 where
    pub enough : p.min_reveals ≤ length (live_orders orders n)
    pub marked : (not p.forced && not g.mark) ≡ false

  -- the lots of the orders of one side, added up
  abbrev pub side_sum : (buys : Bool) (lots : List ℕ) → ℕ
  side_sum buys lots = sum_below (λ i. only (if buys then is_buy (order_in orders i) else not (is_buy (order_in orders i))) (slice_index lots i)) (min n max_orders)

  -- an order among the first n that is live and trades at the price on its side
  abbrev pub takes_part : (price i : ℕ) → Bool
  takes_part price i = (nat_lt i n && is_live (order_in orders i)) && trades_at orders n (is_buy (order_in orders i)) price i

  -- 'when the volume fits 64 bits each side's lots add up to it, none above its order'; they are the pro-rata lots, and the others have none
  pub record RightAllocations (price volume : ℕ) (lots : List ℕ) : Type 0 where
    pub sides : (buys : Bool) → side_sum buys lots ≡ volume
    pub within : (i : ℕ) → slice_index lots i ≤ (order_in orders i).qty
    pub others : (i : ℕ) → takes_part price i ≡ false → slice_index lots i ≡ 0
    pub pro_rata : lots ≡ allocations orders n price volume

  -- an outcome with the best price, its volume and its lots
  pub record Priced (o : Outcome) : Type 0 where
    pub refusal : o.refusal ≡ 0
    pub failed : o.failed ≡ 0
    pub best : BestPrice o.price
    pub volume : o.volume ≡ executed_at o.price
    pub fits : o.volume < 2 ^ 64
    pub lots : RightAllocations o.price o.volume o.lots

  -- Demand 2: what the clear of a book that can be cleared comes to, one of three
  pub data RightClear (o : Outcome) : Type 0 where
    -- 'clearing ends in NoCross exactly when no live limit at or above the reserve executes anything'
    no_crossing : ((q : ℕ) → Executes q → ⊥) → o ≡ failed_by no_cross → RightClear o
    -- '17 volume above 64 bits'
    too_large : (price : ℕ) → BestPrice price → 2 ^ 64 ≤ executed_at price → o ≡ refused_with math_overflow → RightClear o
    -- 'otherwise the price is the best'
    has_price : Priced o → RightClear o

  -- the clear is right, and no other outcome would be
  pub record ClearIsRight : Type 0 where
    -- 'TooFewReveals 1 (live orders below min_reveals), MarkUnavailable 3 (unforced, mark 0), .. checked so'
    pub too_few : length (live_orders orders n) < p.min_reveals → compute_clear p g orders n ≡ failed_by too_few_reveals
    pub unmarked : p.min_reveals ≤ length (live_orders orders n) → (not p.forced && not g.mark) ≡ true → compute_clear p g orders n ≡ failed_by mark_unavailable
    pub right : Clearable → RightClear (compute_clear p g orders n)
    pub one_best : (q r : ℕ) → BestPrice q → BestPrice r → q ≡ r
    pub one_outcome : Clearable → (o : Outcome) → RightClear o → o ≡ compute_clear p g orders n
    pub no_cross_exactly : Clearable → ((compute_clear p g orders n).failed ≡ no_cross) ↔ ((q : ℕ) → Executes q → ⊥)
