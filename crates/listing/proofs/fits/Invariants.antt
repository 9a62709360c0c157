-- The loop's invariant: the lines of the first events leave that much room.
use Rattle.std.proofs.Common.{◌≡◌, ◌+◌, length, take}
use Rattle.listing.specs.Lines.{event_lines}
use Rattle.listing.proofs.fits.Given as goal

abbrev pub invariant-loop-event : goal.invariant-loop-event
invariant-loop-event l = l.left + length (event_lines l.number (take l.event-index l.events)) ≡ l.room
