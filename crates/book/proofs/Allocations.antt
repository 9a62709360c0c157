-- The lots of both sides, stored at their order numbers: each order's lot is that of its side, and a side's lots add up to the volume. Assumes nothing.
use mathlib.Core.Path.{◌≡◌, refl, sym, ◌∙◌}
use mathlib.Core.Bool.{Bool, true, false, cond, not, ◌&&◌}
use mathlib.Core.List.{List, map}
use Prim.Native.Nat.{ℕ, ◌+◌, ◌<◌, ◌≤◌, min}
use native.Mathlib.Omega.{arith}
use lib.Dec.{ltb, leb}
use lib.ListN.{get_or, replicate, length-map, length-replicate}
use borrow.Author.Tests.{lt-ltb}
use Rattle.laws.specs.Sums.{sum_below, only}
use Rattle.laws.specs.Lists.{table, Member}
use Rattle.laws.proofs.Tests.{clash}
use Rattle.laws.proofs.Sums.{sum_same}
use Rattle.std.proofs.lemmas.List.{get_or-map}
use Rattle.laws.proofs.Lists.{get_or_nothing}
use Rattle.credit_math.specs.Limits.{max_orders}
use Rattle.credit_math.specs.Claims.{RightLots}
use Rattle.credit_math.proofs.ProRataTheorems.{lots_are_right}
use Rattle.book.specs.Book.{order_in, is_live, is_buy}
use Rattle.book.specs.Clear.{live_orders, stored, trades_at, side_orders, side_lots, allocations}
use Rattle.book.specs.Gathered.{Within}
use Rattle.book.specs.declared.Order.{Order}
use Rattle.book.proofs.Live.{live_inside, side_inside}
use Rattle.book.proofs.Sides.{side_has}
use Rattle.book.proofs.Stored.{length_stored, Once, once_keep, once_table, value_at, value_none, stored_is, sum_value, value_within}

module _ (orders : List Order) (n p : ℕ) where
  abbrev S : Bool → List ℕ
  S buys = side_orders orders n buys p

  -- a side's orders stand once each, below the count, live and on the side
  pub once : (buys : Bool) → Once (S buys)
  unfolding side_orders live_orders
  once buys = once_keep (trades_at orders n buys p) (live_orders orders n) (once_keep (λ i. is_live (order_in orders i)) (table (λ i. i) (min n max_orders)) (once_table (λ i. i) (min n max_orders) (λ _ _ h. h)))

  below : (buys : Bool) (i : ℕ) → Member i (S buys) → i < min n max_orders
  below buys i m = ((live_inside orders n i).0 ((side_inside orders n buys p i).0 m).0).0

  takes_part_lem : (buys : Bool) (i : ℕ) → Member i (S buys) → ((ltb i n && is_live (order_in orders i)) && trades_at orders n buys p i) ≡ true
  takes_part_lem buys i m =
      let s = (side_inside orders n buys p i).0 m in
      let l = (live_inside orders n i).0 s.0 in
      rw (lt-ltb i n (omega (arith, l.0)), l.1, s.1)

  pub of_side : (buys : Bool) (i : ℕ) → Member i (S buys) → is_buy (order_in orders i) ≡ buys
  unfolding trades_at
  of_side buys i m = go buys (is_buy (order_in orders i)) ((side_inside orders n buys p i).0 m).1
    where
      go : (side b : Bool) → cond side (b && leb p (order_in orders i).limit) (not b && leb (order_in orders i).limit p) ≡ true → b ≡ side
      go true true e = refl
      go true false e = e
      go false true e = sym e
      go false false e = refl

  module _ (v : ℕ) (w : Within orders n p v) where
    abbrev G : Bool → List ℕ
    G buys = side_lots orders n buys p v

    -- the lot of an order on a side
    abbrev lot_in : Bool → ℕ → ℕ
    lot_in buys i = value_at (S buys) (G buys) i

    -- pro-rata's lots are right
    right : (buys : Bool) → RightLots (S buys) (map (λ i. (order_in orders i).qty) (S buys)) v
    right buys = lots_are_right (S buys) (map (λ i. (order_in orders i).qty) (S buys)) v (side_has orders n p buys w)

    adds_up : (buys : Bool) → sum_below (lot_in buys) (min n max_orders) ≡ v
    unfolding side_lots
    adds_up buys = sum_value (S buys) (G buys) (min n max_orders) ((right buys).length_is ∙ length-map (S buys) _) (below buys) ∙ (right buys).adds_up

    within : (buys : Bool) (i : ℕ) → lot_in buys i ≤ (order_in orders i).qty
    unfolding side_lots
    within buys i =
        value_within (λ j. (order_in orders j).qty) (S buys) (G buys) (once buys)
        (λ k h. omega (arith, (right buys).within k, get_or-map (λ j. (order_in orders j).qty) (S buys) k 0 0 h)) i

    -- an order has no lot on the other side
    other_side : (buys : Bool) (i : ℕ) → is_buy (order_in orders i) ≡ not buys → lot_in buys i ≡ 0
    other_side true i e = value_none (S true) (G true) i (λ m. clash (is_buy (order_in orders i)) (of_side true i m) e)
    other_side false i e = value_none (S false) (G false) i (λ m. clash (is_buy (order_in orders i)) e (of_side false i m))

    abbrev nothing : List ℕ
    nothing = replicate max_orders 0

    bought_at_lem : (i : ℕ) → get_or (stored (S true) (G true) nothing) i 0 ≡ lot_in true i
    bought_at_lem i =
        omega (
          arith,
          stored_is (S true) (G true) nothing (once true) (λ j m. (omega (arith, length-replicate {A = ℕ} max_orders 0, below true j m), get_or_nothing max_orders j)) i,
          get_or_nothing max_orders i,
        )

    -- each order's lot
    allocations_at : (i : ℕ) → get_or (allocations orders n p v) i 0 ≡ lot_in true i + lot_in false i
    unfolding allocations
    allocations_at i =
        omega (
          arith,
          stored_is (S false) (G false) (stored (S true) (G true) nothing) (once false)
              (λ j m. (
                omega (arith, length_stored (S true) (G true) nothing, length-replicate {A = ℕ} max_orders 0, below false j m),
                bought_at_lem j ∙ other_side true j (of_side false j m),
              ))
              i,
          bought_at_lem i,
        )

    -- is the lot of its side
    pub by_side : (i : ℕ) (b : Bool) → is_buy (order_in orders i) ≡ b → get_or (allocations orders n p v) i 0 ≡ lot_in b i
    by_side i true e = omega (arith, allocations_at i, other_side false i e)
    by_side i false e = omega (arith, allocations_at i, other_side true i e)

    -- no lot is above its order's quantity
    pub allocation_within : (i : ℕ) → get_or (allocations orders n p v) i 0 ≤ (order_in orders i).qty
    allocation_within i = let b = is_buy (order_in orders i) in omega (arith, by_side i b refl, within b i)

    -- an order that takes no part has none
    pub allocation_others : (i : ℕ) → ((ltb i n && is_live (order_in orders i)) && trades_at orders n (is_buy (order_in orders i)) p i) ≡ false → get_or (allocations orders n p v) i 0 ≡ 0
    allocation_others i t = let b = is_buy (order_in orders i) in by_side i b refl ∙ value_none (S b) (G b) i (λ m. clash _ (takes_part_lem b i m) t)

    -- and each side's add up to the volume
    pub side_adds_up : (buys : Bool) → sum_below (λ i. only (cond buys (is_buy (order_in orders i)) (not (is_buy (order_in orders i)))) (get_or (allocations orders n p v) i 0)) (min n max_orders) ≡ v
    side_adds_up buys = sum_same _ (lot_in buys) (min n max_orders) (λ i _. go buys (is_buy (order_in orders i)) i refl) ∙ adds_up buys
      where
        go : (side b : Bool) (i : ℕ) → is_buy (order_in orders i) ≡ b → only (cond side b (not b)) (get_or (allocations orders n p v) i 0) ≡ lot_in side i
        go true true i e = by_side i true e
        go true false i e = sym (other_side true i e)
        go false true i e = sym (other_side false i e)
        go false false i e = by_side i false e
