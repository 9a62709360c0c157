-- `inquiries::why::cause_of` meets its contract: an order that was revealed and is not excluded is live.
use Rattle.std.proofs.Common.{sym, ◌∙◌}
use Rattle.inquiries.proofs.Theorems.{live}
use Rattle.inquiries.proofs.why.cause_of.Goals as goal

pub lot_cause-requires-clause-live : goal.lot_cause-requires-clause-live
lot_cause-requires-clause-live c =
    live c.args.session.now c.requires.asked c.args.i c.requires.here c.if-not-o.false (sym c.is_excluded.ensures ∙ c.if-is_excluded.false)
