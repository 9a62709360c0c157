use Rattle.events.proofs.said.Events.push.Goals as goal
use Rattle.events.proofs.Room.{after_push}

-- src/said.rt:51:13
pub invariant_of-self : goal.invariant_of-self
invariant_of-self g c =
    after_push g.row.N c.self.inside.count c.self.inside.lines c.args.event c.if-self.true c.self.invariant.1 c.self.invariant.2
