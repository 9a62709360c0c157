-- `escrow::gross` meets its contract. The loop's invariant: rounded up by the decimals that are left, the amount so far is the whole one.
use mathlib.Core.Path.{◌≡◌}
use Prim.Native.Nat.{◌^◌}
use Rattle.credit_math.specs.Rounding.{ceil_div}
use Rattle.escrow.specs.Cover.{gross}
use Rattle.escrow.proofs.gross.Given as goal

abbrev pub invariant-loop-left : goal.invariant-loop-left
invariant-loop-left l = ceil_div l.amount (10 ^ l.left) ≡ gross l.qty l.price l.decimals

abbrev pub decreases-loop-left : goal.decreases-loop-left
decreases-loop-left l = l.left
