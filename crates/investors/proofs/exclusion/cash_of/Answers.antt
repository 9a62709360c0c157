-- The order's own escrow and those passed, a sum that fits two words.
use Rattle.std.proofs.Common.{◌≡◌, ◌+◌, ◌%◌, ◌∙◌, arith}
use Rattle.std.proofs.lemmas.Bool.Decides.{nat_tests}
use Rattle.laws.proofs.Widths.{summing_from, summing_from_mod, summing_from_skip, summed_from}
use Rattle.wide.specs.Value.{modulus}
use Rattle.credit_math.specs.Limits.{max_orders}
use Rattle.book.specs.Book.{order_in}
use Rattle.investors.specs.Exclusion.{is_other}
use Rattle.investors.proofs.Excluding.{escrows_fit}
use Rattle.investors.proofs.exclusion.cash_of.Goals as goal
use Rattle.investors.proofs.exclusion.cash_of.Goals.{then-is_other+then-o-eq0, else-is_other}

pub loop-j-init : goal.loop-j-init
loop-j-init c = summing_from c.from-sum.ensures c.ranges.escrowed.fits

pub loop-j-preserved : goal.loop-j-preserved
unfolding is_other
loop-j-preserved c =
    elim c.if-is_other.branch [
      | then-is_other+then-o-eq0 w ↦
          let o = order_in c.args.orders.now c.loop-j.j in
          let adds : c.if-is_other.sum ≡ (c.loop-j.sum + o.escrowed) % modulus = w.sum-is ∙ w.wrapping_add-sum.ensures in
          summing_from_mod modulus max_orders escrows_fit o.escrowed _ c.loop-j.invariant (omega arith) (grind (arith, nat_tests)) (omega arith) adds
      | else-is_other w ↦ summing_from_skip _ c.loop-j.invariant (grind (arith, nat_tests)) w.sum-is
    ]

pub returns : goal.returns
returns c = summed_from _ c.loop-j.invariant (omega arith) (omega arith)
