-- `Wide::double` meets its contract: the upper word has room for what the lower word brings it.
use Rattle.std.proofs.Common.{rules}
use Rattle.wide.specs.Value.{modulus}
use Rattle.wide.proofs.Wide.double.Goals as goal

pub overflow_mul-result : goal.overflow_mul-result
unfolding modulus
overflow_mul-result c = search rules

pub overflow_add-result : goal.overflow_add-result
unfolding modulus
overflow_add-result c = search rules

pub invariant_of-result : goal.invariant_of-result
unfolding modulus
invariant_of-result c = search rules
