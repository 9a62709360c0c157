-- The loop's invariant: the same lots are ahead, and the places before i are passed.
use Rattle.std.proofs.Common.{◌≡◌, ◌≤◌, length}
use Rattle.fills.specs.Steps.{nonzero, ahead}
use Rattle.fills.proofs.lines.Lots.next_lot.Given as goal

abbrev pub invariant-loop-i : goal.invariant-loop-i
invariant-loop-i l =
    (nonzero (ahead l.side l.self.lots.now l.self.sides.now l.now) ≡ nonzero (ahead l.side l.self.lots.now l.self.sides.now (record { left = 0; next = l.next })))
    × (l.now.next ≡ l.i) × (l.i ≤ length l.self.lots.now)
