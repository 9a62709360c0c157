-- The loop of `moved_volume`: the sum of what moved in the fills passed, which fits two words.
use Rattle.laws.proofs.Widths.{Summing}
use Rattle.auction_engine.proofs.Prints.{moved_at}
use Rattle.auction_engine.proofs.settlement.moved_volume.Given as goal

abbrev pub invariant-loop-i : goal.invariant-loop-i
invariant-loop-i l = Summing 64 (moved_at l.fills l.skipped) l.i l.sum
