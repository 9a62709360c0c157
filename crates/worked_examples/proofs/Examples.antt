-- The worked examples hold: each side computes. Assumes nothing.
use mathlib.Core.Path.{refl}
use Rattle.laws.specs.Sums.{sum_below, sum_of}
use Rattle.laws.specs.Lists.{table, keep}
use Rattle.laws.specs.Sort.{insert, sort, dedup}
use Rattle.laws.specs.Lex.{lex}
use Rattle.laws.specs.Checks.{unless, first_of}
use Rattle.credit_math.specs.Price.{buy, sell, executed, imbalance, executes, better, candidates, clear_price, price_refusal, find_uniform_clear_price}
use Rattle.credit_math.specs.ProRata.{share, shares, residue, precedes, turns, hand_out, lots, pro_rata_refusal, allocate_pro_rata}
use Rattle.disclosure.specs.Disclosure.{width, banded, band_answer}
use Rattle.worked_examples.specs.Examples.{All, examples}

pub examples_hold : All examples
unfolding find_uniform_clear_price price_refusal clear_price candidates better executes imbalance executed sell buy allocate_pro_rata pro_rata_refusal lots hand_out turns precedes residue shares share sum_below sum_of table keep insert sort dedup lex unless first_of band_answer banded width
examples_hold = (refl, (refl, (refl, (refl, (refl, (refl, (refl, (refl, (refl, (refl, (refl, (refl, tt))))))))))))
