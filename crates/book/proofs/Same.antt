-- What `compute_clear` finds depends on nothing of the orders but which are live, their sides, limits and quantities. Assumes nothing.
use mathlib.Core.Path.{◌≡◌, refl, ap, ◌∙◌}
use mathlib.Core.Bool.{Bool, true, false, cond, not, ◌&&◌}
use mathlib.Core.List.{List, map}
use Prim.Native.Nat.{ℕ, ◌^◌, min}
use lib.Dec.{ltb, leb}
use lib.ListN.{length, replicate}
use Rattle.laws.specs.Lists.{table, keep}
use Rattle.credit_math.specs.Limits.{max_orders}
use Rattle.credit_math.specs.Price.{Found, refused, failed, cross, find_uniform_clear_price}
use Rattle.credit_math.specs.ProRata.{lots}
use Rattle.book.specs.Book.{order_in, is_live, is_buy}
use Rattle.book.specs.Clear.{too_few_reveals, mark_unavailable, math_overflow, failed_by, refused_with, stored, live_orders, searched, trades_at, side_orders, side_lots, allocations, allotted, floor_of, compute_clear}
use Rattle.book.specs.declared.Order.{Order}
use Rattle.book.specs.declared.Params.{Params}
use Rattle.book.specs.declared.Given.{Given}

module _ (os qs : List Order) (n : ℕ)
    (live : (i : ℕ) → is_live (order_in os i) ≡ is_live (order_in qs i))
    (buy : (i : ℕ) → is_buy (order_in os i) ≡ is_buy (order_in qs i))
    (limit : (i : ℕ) → (order_in os i).limit ≡ (order_in qs i).limit)
    (qty : (i : ℕ) → (order_in os i).qty ≡ (order_in qs i).qty) where
  live_same : live_orders os n ≡ live_orders qs n
  unfolding live_orders
  live_same = λ j. keep (λ i. live i j) (table (λ i. i) (min n max_orders))

  searched_same : (reserve reference : ℕ) → searched os n reserve reference ≡ searched qs n reserve reference
  unfolding searched
  searched_same reserve reference =
      λ j. find_uniform_clear_price (map (λ i. buy i j) (live_same j)) (map (λ i. limit i j) (live_same j)) (map (λ i. qty i j) (live_same j)) reserve reference

  trades_same : (buys : Bool) (p i : ℕ) → trades_at os n buys p i ≡ trades_at qs n buys p i
  unfolding trades_at
  trades_same buys p i = λ j. cond buys (buy i j && leb p (limit i j)) (not (buy i j) && leb (limit i j) p)

  side_same : (buys : Bool) (p : ℕ) → side_orders os n buys p ≡ side_orders qs n buys p
  unfolding side_orders
  side_same buys p = λ j. keep (λ i. trades_same buys p i j) (live_same j)

  lots_same : (buys : Bool) (p v : ℕ) → side_lots os n buys p v ≡ side_lots qs n buys p v
  unfolding side_lots
  lots_same buys p v = λ j. lots (side_same buys p j) (map (λ i. qty i j) (side_same buys p j)) v

  allocations_same : (p v : ℕ) → allocations os n p v ≡ allocations qs n p v
  unfolding allocations
  allocations_same p v =
      λ j. stored (side_same false p j) (lots_same false p v j) (stored (side_same true p j) (lots_same true p v j) (replicate max_orders 0))

  allotted_same : (f : Found) → allotted os n f ≡ allotted qs n f
  unfolding allotted
  allotted_same (refused number) = refl
  allotted_same (failed reason) = refl
  allotted_same (cross p v) =
      λ j. cond (ltb v (2 ^ 64)) (record { refusal = 0; failed = 0; price = p; volume = v; lots = allocations_same p v j }) (refused_with math_overflow)

  pub clear_same : (p : Params) (g : Given) → compute_clear p g os n ≡ compute_clear p g qs n
  unfolding compute_clear
  clear_same p g =
      let found = ap (allotted os n) (searched_same (floor_of p g) g.reference) ∙ allotted_same (searched qs n (floor_of p g) g.reference) in
      λ j. cond (ltb (length (live_same j)) p.min_reveals) (failed_by too_few_reveals) (cond (not p.forced && not g.mark) (failed_by mark_unavailable) (found j))
