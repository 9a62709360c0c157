-- A power within the decimals has 64 bits.
use Rattle.std.proofs.Common.{suc, arith, pow-suc}
use Rattle.escrow.proofs.Powers.{ten_fits}
use Rattle.escrow.proofs.power_of_ten.Goals as goal

pub overflow_mul-power : goal.overflow_mul-power
overflow_mul-power c = omega (arith, c.loop.invariant.1, ten_fits (suc c.loop.counter) (omega (arith, c.loop-test.true, c.requires)), pow-suc 10 c.loop.counter)
