-- The first i of each array are a field of the first i bids.
use Rattle.std.proofs.Common.{◌≡◌, length, map, take}
use Rattle.order_slices.proofs.allocate_pro_rata.Given as goal

abbrev pub invariant-loop-i : goal.invariant-loop-i
invariant-loop-i l = record {
  ids : take l.i l.ids ≡ map (λ b. b.id) (take l.i l.bids);
  qtys : take l.i l.qtys ≡ map (λ b. b.qty) (take l.i l.bids);
  long : (length l.ids ≡ 16) × (length l.qtys ≡ 16);
}
