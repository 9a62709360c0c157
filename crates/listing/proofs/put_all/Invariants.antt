-- The loop's invariant: the lines of the first events are written, each in at most `max_line` bytes.
use Rattle.std.proofs.Common.{◌*◌, ◌≤◌, take}
use Rattle.octets.specs.Puts.{Puts}
use Rattle.listing.specs.Lines.{event_lines, max_line}
use Rattle.listing.proofs.put_all.Given as goal

abbrev pub invariant-loop-event : goal.invariant-loop-event
invariant-loop-event l =
    (l.k ≤ max_line * l.event-index) × Puts (event_lines l.number (take l.event-index l.events)) 0 l.k l.initial.out l.out
