-- `Wide::long_division` meets its contract: a digit of the number is brought down in each turn, and the digits brought down so far fit two words, as the number does.
use Rattle.std.proofs.Common.{◌∙◌, lt_of_le_of_lt, arith}
use lib.Pow.{shr_le}
use Rattle.wide.specs.Value.{modulus}
use Rattle.wide.proofs.Length.{length_le}
use Rattle.wide.proofs.Long.{none_yet, one_more, all_down, of_parts}
use Rattle.wide.proofs.Wide.long_division.Goals as goal

pub loop-i-init : goal.loop-i-init
loop-i-init c = (omega (arith, c.from-2.ensures), none_yet _ _ _ _ _ c.bits-i.ensures c.from.ensures c.from-2.ensures)

pub bit-requires : goal.bit-requires
bit-requires c = omega (arith, length_le c.args.self 128 (omega arith))

pub bring_down-p-requires : goal.bring_down-p-requires
unfolding modulus
bring_down-p-requires c =
    record {
      below = c.loop-i.invariant.0;
      twice = c.requires.1;
      digit = omega arith;
      fits = rw (one_more _ _ _ _ c.loop-i-test.true c.loop-i.invariant.1 c.bit.ensures) (lt_of_le_of_lt (shr_le _ _) (omega arith));
    }

pub loop-i-preserved : goal.loop-i-preserved
loop-i-preserved c = (c.bring_down-p.ensures.0, c.bring_down-p.ensures.1 ∙ one_more _ _ _ _ c.loop-i-test.true c.loop-i.invariant.1 c.bit.ensures)

pub returns : goal.returns
returns c = let i = c.loop-i.invariant in of_parts _ _ c.loop-i.p i.0 (i.1 ∙ all_down _ _ c.loop-i-test.false)
