-- A limit is passed over or quoted as the walk does.
use Rattle.std.proofs.Common.{◌∙◌, refl}
use Rattle.price_by_order.proofs.Walk.{below, quote}
use Rattle.price_by_order.proofs.search.best_quote.Goals as goal
use Rattle.price_by_order.proofs.search.best_quote.Goals.{then-reserve-limit, else-reserve-limit}

pub loop-limit-preserved : goal.loop-limit-preserved
loop-limit-preserved c =
    elim c.if-reserve-limit.branch [
      | then-reserve-limit w ↦
          quote _ _ _ _ _ c.loop-limit.invariant c.loop-limit-test.true refl w.side_total.ensures w.side_total-then-reserve-limit.ensures w.quote_of.ensures
          (w.best-is ∙ w.better_of-best.ensures)
      | else-reserve-limit w ↦ below _ _ _ _ _ c.loop-limit.invariant c.loop-limit-test.true w.if-reserve-limit.false w.best-is
    ]
