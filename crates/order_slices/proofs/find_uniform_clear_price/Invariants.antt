-- The first i of each array are a field of the first i orders.
use Rattle.std.proofs.Common.{◌≡◌, length, map, take}
use Rattle.order_slices.proofs.find_uniform_clear_price.Given as goal

abbrev pub invariant-loop-i : goal.invariant-loop-i
invariant-loop-i l = record {
  sides : take l.i l.is_buy ≡ map (λ o. o.is_buy) (take l.i l.orders);
  limits : take l.i l.limits ≡ map (λ o. o.limit_price) (take l.i l.orders);
  qtys : take l.i l.qtys ≡ map (λ o. o.qty) (take l.i l.orders);
  long : (length l.is_buy ≡ 16) × (length l.limits ≡ 16) × (length l.qtys ≡ 16);
}
