-- So far the power is that of the steps made.
use Rattle.std.proofs.Common.{◌≡◌, ◌^◌, ◌≤◌}
use Rattle.escrow.proofs.power_of_ten.Given as goal

abbrev pub invariant-loop : goal.invariant-loop
invariant-loop l = (l.counter ≤ l.decimals) × (l.power ≡ 10 ^ l.counter)
