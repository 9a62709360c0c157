-- The worked examples of the number of fills hold: each side computes. Assumes nothing.
use mathlib.Core.Path.{refl}
use Rattle.laws.specs.Search.{every}
use Rattle.laws.specs.Lists.{table, keep, has}
use Rattle.laws.specs.Checks.{unless, first_of}
use Rattle.fills.specs.FillCount.{lots_on, partial_sums, distinct, fill_count, fill_count_refusal, fill_count_answer}
use Rattle.fills.specs.Examples.{All, examples}

-- each example computes
pub examples_hold : All examples
unfolding every table keep has unless first_of lots_on partial_sums distinct fill_count fill_count_refusal fill_count_answer
examples_hold = (refl, (refl, (refl, (refl, (refl, (refl, (refl, tt)))))))
