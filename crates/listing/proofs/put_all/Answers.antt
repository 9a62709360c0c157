-- `put_all` meets its contract, event by event.
use Rattle.std.proofs.Common.{arith}
use Rattle.octets.proofs.Spliced.{puts_part}
use Rattle.listing.proofs.Records.{puts_event}
use Rattle.listing.proofs.put_all.Goals as goal

pub loop-event-preserved : goal.loop-event-preserved
loop-event-preserved c =
    let l = c.loop-event in
    let v = puts_part l.k l.out c.put-k.ensures.0 in
    (omega arith, puts_event c.args.number l.event-index c.args.events.now l.invariant.1 v (omega arith))
