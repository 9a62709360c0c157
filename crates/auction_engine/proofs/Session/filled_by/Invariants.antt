-- The loop of `filled_by`: with fills left to make, what is left decides (`Going`).
use Rattle.std.proofs.Common.{◌-◌}
use Rattle.auction_engine.proofs.FillLoop.{Going}
use Rattle.auction_engine.proofs.Session.filled_by.Given as goal

abbrev pub invariant-loop : goal.invariant-loop
invariant-loop l = Going l.initial.self l.n (l.n - l.counter) l.self l.events
