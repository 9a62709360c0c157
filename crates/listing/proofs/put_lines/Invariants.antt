-- The loop's invariant: the lines of the first events are written.
use Rattle.std.proofs.Common.{◌≤◌, length, take}
use Rattle.octets.specs.Puts.{Puts}
use Rattle.listing.specs.Lines.{event_lines}
use Rattle.listing.proofs.put_lines.Given as goal

abbrev pub invariant-loop-event : goal.invariant-loop-event
invariant-loop-event l =
    (l.k ≤ length l.initial.out) × Puts (event_lines l.number (take l.event-index l.events)) 0 l.k l.initial.out l.out
