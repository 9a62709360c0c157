-- `auction_engine::opening::order_refusal` meets its contract. The last check by the law of a search among the first orders.
use Rattle.std.proofs.Common.{arith}
use Rattle.std.proofs.lemmas.Bool.Decides.{nat_tests}
use Rattle.auction_engine.specs.Opening.{order_refusal}
use Rattle.auction_engine.proofs.Steps.{steps}
use Rattle.auction_engine.proofs.Chains.{owner_some}
use Rattle.auction_engine.proofs.opening.order_refusal.Goals as goal

pub returns : goal.returns
unfolding order_refusal
returns c = let s = c.args.s.now in let h = c.seen.ensures in let few = c.in_ok-check.ensures.held in let k = owner_some s (grind (arith, nat_tests)) c.args.row.now.owner in grind (arith, steps)
