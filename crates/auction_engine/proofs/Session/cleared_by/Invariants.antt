-- The loop of `cleared_by`: the orders passed have their lots.
use Rattle.std.proofs.Common.{◌≡◌}
use Rattle.auction_engine.proofs.Lots.{lotted}
use Rattle.auction_engine.proofs.Session.cleared_by.Given as goal

abbrev pub invariant-loop-i : goal.invariant-loop-i
invariant-loop-i l = l.self ≡ lotted l.initial.self l.cross.lots l.i
