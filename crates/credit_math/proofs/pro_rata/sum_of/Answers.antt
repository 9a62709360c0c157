-- The sum of the quantities passed, which fits two words.
use Rattle.std.proofs.Common.{refl, arith}
use Rattle.laws.proofs.Widths.{summing, summing_mod}
use Rattle.wide.specs.Value.{modulus}
use Rattle.credit_math.specs.Limits.{max_orders}
use Rattle.credit_math.proofs.Totals.{orders_fit}
use Rattle.credit_math.proofs.pro_rata.sum_of.Goals as goal

pub loop-qty-init : goal.loop-qty-init
loop-qty-init c = summing c.from-sum.ensures

pub loop-qty-preserved : goal.loop-qty-preserved
loop-qty-preserved c =
    summing_mod modulus max_orders orders_fit _ _ c.loop-qty.invariant (omega arith) refl (c.type_inv.qtys _).fits c.wrapping_add-sum.ensures
