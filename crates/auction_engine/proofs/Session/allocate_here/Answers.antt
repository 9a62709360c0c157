-- `auction_engine::Session::allocate_here` meets its contract. The checks keep the counts in their arrays; the phase after the last fill has its number.
use Rattle.std.proofs.Common.{arith, sym}
use Rattle.std.proofs.lemmas.Grind.{common_steps}
use Rattle.auction_engine.proofs.Allocating.{checks_within, answer_done}
use Rattle.auction_engine.proofs.Session.allocate_here.Goals as goal

pub filled_by-requires : goal.filled_by-requires
filled_by-requires c = let w = checks_within c.args.self.now (sym c.in_ok-allocate_refusal.ensures) in (w.orders, w.fills)

pub returns : goal.returns
returns c =
    answer_done c.args.self.now c.args.now c.args.max_fills c.in_ok-allocate_refusal.ensures c.filled_by.new.self c.in_ok-events.events c.in_ok-events.ensures
    c.if-not-all_paired.ensures _ (grind (arith, common_steps, c.phase_after-to.ensures)) c.push.new.self c.push.ensures
