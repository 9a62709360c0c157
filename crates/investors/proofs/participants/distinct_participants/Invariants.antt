-- Those seen are those of the fills passed, at most two of each.
use Rattle.std.proofs.Common.{◌≡◌, ◌*◌, ◌≤◌, length}
use Rattle.investors.specs.Participants.{seen}
use Rattle.investors.proofs.participants.distinct_participants.Given as goal

abbrev pub invariant-loop-i : goal.invariant-loop-i
invariant-loop-i l = (l.seen ≡ seen l.fn.orders l.fn.order_count l.fn.fills l.skipped l.i) × (length l.seen ≤ 2 * l.i)
