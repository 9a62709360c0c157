-- The loop's invariant: quotient times divisor and remainder make the digits brought down so far.
use Rattle.std.proofs.Common.{◌≡◌, ◌+◌, ◌*◌, ◌/◌, ◌^◌, ◌<◌}
use Rattle.wide.proofs.Wide.long_division.Given as goal

abbrev pub invariant-loop-i : goal.invariant-loop-i
invariant-loop-i l = (l.p.rest < l.d) × (l.p.quotient * l.d + l.p.rest ≡ l.self / 2 ^ l.i)
