-- A side's quantities at p add up to its total there, so that pro-rata of what both sides have is not refused. Assumes nothing.
use mathlib.Core.Path.{◌≡◌, sym, ◌∙◌, ap}
use mathlib.Core.Bool.{Bool, true, false, not, ◌&&◌}
use mathlib.Core.List.{List, ◌++◌, map}
use Prim.Native.Nat.{ℕ, ◌≤◌}
use native.Mathlib.Omega.{arith}
use lib.Dec.{leb}
use lib.ListN.{length, get_or, take, length-map}
use lib.Seq.{take_at}
use borrow.Author.Tests.{eq-eqb}
use Rattle.laws.specs.Sums.{sum_below, only, sum_of, sum_over}
use Rattle.laws.specs.Lists.{keep}
use Rattle.laws.proofs.Sums.{sum_same}
use Rattle.std.proofs.lemmas.List.{get_or-map}
use Rattle.laws.proofs.Lists.{sum_map}
use Rattle.laws.proofs.Kept.{sum_keep}
use Rattle.credit_math.specs.Price.{buy, sell}
use Rattle.credit_math.specs.ProRata.{lots, allocate_pro_rata}
use Rattle.credit_math.proofs.ProRataRefusals.{in_sum}
use Rattle.credit_math.proofs.Sorted.{length_lots}
use Rattle.book.specs.Book.{order_in, is_buy}
use Rattle.book.specs.Clear.{stored, live_orders, trades_at, side_orders, side_lots}
use Rattle.book.specs.Gathered.{buys_of, limits_of, qtys_of, SideGathered, Within}
use Rattle.book.specs.declared.Order.{Order}
use Rattle.book.specs.declared.gathered.Side.{Side}

module _ (orders : List Order) (n p : ℕ) where
  abbrev L : List ℕ
  L = live_orders orders n

  abbrev qty : ℕ → ℕ
  qty i = (order_in orders i).qty

  -- what a side's orders have is what its total adds
  part_sum : (buys : Bool) → sum_of (map qty (side_orders orders n buys p)) ≡ sum_below (λ k. only (trades_at orders n buys p (get_or L k 0)) (qty (get_or L k 0))) (length L)
  unfolding side_orders sum_over
  part_sum buys = sum_map qty 0 (keep (trades_at orders n buys p) L) ∙ sum_keep qty 0 (trades_at orders n buys p) L

  bought : sum_of (map qty (side_orders orders n true p)) ≡ buy (buys_of orders n) (limits_of orders n) (qtys_of orders n) p
  unfolding buy trades_at
  bought =
      part_sum true
      ∙ rw (length-map L (λ i. is_buy (order_in orders i)))
      (sum_same _ (λ k. only (get_or (buys_of orders n) k false && leb p (get_or (limits_of orders n) k 0)) (get_or (qtys_of orders n) k 0)) (length L)
      (λ k h. rw (get_or-map (λ i. is_buy (order_in orders i)) L k 0 false h, get_or-map (λ i. (order_in orders i).limit) L k 0 0 h, get_or-map qty L k 0 0 h)))

  sold : sum_of (map qty (side_orders orders n false p)) ≡ sell (buys_of orders n) (limits_of orders n) (qtys_of orders n) p
  unfolding sell trades_at
  sold =
      part_sum false
      ∙ rw (length-map L (λ i. is_buy (order_in orders i)))
      (sum_same _ (λ k. only (not (get_or (buys_of orders n) k false) && leb (get_or (limits_of orders n) k 0) p) (get_or (qtys_of orders n) k 0)) (length L)
      (λ k h. rw (get_or-map (λ i. is_buy (order_in orders i)) L k 0 false h, get_or-map (λ i. (order_in orders i).limit) L k 0 0 h, get_or-map qty L k 0 0 h)))

  -- a volume that both sides have is within a side's quantities
  pub side_has : (buys : Bool) {v : ℕ} → Within orders n p v → v ≤ sum_of (map qty (side_orders orders n buys p))
  side_has true w = omega (arith, w.bought, bought)
  side_has false w = omega (arith, w.sold, sold)

  -- so pro-rata gives the side's lots
  pub side_allotted : (buys : Bool) {v : ℕ} {s : Side} → SideGathered orders n buys p s → Within orders n p v → (out : List ℕ) → length out ≡ s.count
      → allocate_pro_rata (take s.count s.numbers) (take s.count s.qtys) v out ≡ side_lots orders n buys p v
  unfolding allocate_pro_rata side_lots
  side_allotted buys {v} {s} g w out e =
      let S = side_orders orders n buys p in
      let same : length (map qty S) ≡ length S = length-map S qty in
      let verdict = in_sum S (map qty S) (length out) v (omega (arith, s.few)) (sym same) (e ∙ g.counted ∙ sym same) (side_has buys w) in
      rw (g.numbers, g.qtys, eq-eqb _ _ verdict)

  -- and storing them from the array is storing them
  pub side_stored : (buys : Bool) {v : ℕ} {s : Side} → SideGathered orders n buys p s → Within orders n p v → (out lent rest into r : List ℕ) → length out ≡ s.count
      → lent ≡ allocate_pro_rata (take s.count s.numbers) (take s.count s.qtys) v out → r ≡ stored (take s.count s.numbers) (take s.count (lent ++ rest)) into
      → r ≡ stored (side_orders orders n buys p) (side_lots orders n buys p v) into
  unfolding side_lots
  side_stored buys {v} {s} g w out lent rest into r e f h =
      let S = side_orders orders n buys p in
      let is : lent ≡ lots S (map qty S) v = f ∙ side_allotted buys g w out e in
      let len : length lent ≡ s.count = ap length is ∙ length_lots S (map qty S) v ∙ length-map S qty ∙ sym g.counted in
      h ∙ rw (take_at lent rest s.count len, g.numbers, is)
