-- The sum of the quantities passed, which fits two words.
use Rattle.std.proofs.Common.{get_or}
use Rattle.laws.proofs.Widths.{Summing}
use Rattle.credit_math.proofs.pro_rata.sum_of.Given as goal

abbrev pub invariant-loop-qty : goal.invariant-loop-qty
invariant-loop-qty l = Summing 64 (λ k. get_or l.qtys k 0) l.qty-index l.sum
