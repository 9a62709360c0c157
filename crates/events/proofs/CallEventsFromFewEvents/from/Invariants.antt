use Rattle.std.proofs.Common.{◌≡◌, take}
use Rattle.events.proofs.CallEventsFromFewEvents.from.Given as goal

abbrev pub invariant-loop-event : goal.invariant-loop-event
invariant-loop-event l = l.all ≡ take l.event-index l.event-items
