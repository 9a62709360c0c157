-- The sum of what the places passed add, which fits two words.
use Rattle.std.proofs.Common.{◌∙◌, arith}
use Rattle.laws.proofs.Widths.{summing, summing_mod}
use Rattle.wide.specs.Value.{modulus}
use Rattle.credit_math.specs.Limits.{max_orders}
use Rattle.credit_math.proofs.Totals.{orders_fit}
use Rattle.price_by_order.proofs.Sides.{added_all}
use Rattle.price_by_order.proofs.search.side_total.Goals as goal

pub loop-i-init : goal.loop-i-init
loop-i-init c = summing c.from-sum.ensures

pub loop-i-preserved : goal.loop-i-preserved
loop-i-preserved c =
    let few = c.args.orders.now.few in
    summing_mod modulus max_orders orders_fit _ _ c.loop-i.invariant (omega arith) c.added_at.ensures c.added_at.type_inv c.wrapping_add-sum.ensures

pub returns : goal.returns
returns c = c.loop-i.invariant.is ∙ added_all _ _ _ _ _ _ (omega arith)
