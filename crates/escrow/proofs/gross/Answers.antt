-- `escrow::gross` meets its contract. The loop's invariant: rounded up by the decimals that are left, the amount so far is the whole one.
use Rattle.std.proofs.Common.{◌≡◌, ℕ, ◌^◌, sym, ap, ◌∙◌, arith}
use Rattle.credit_math.specs.Rounding.{ceil_div}
use Rattle.escrow.proofs.Powers.{scaled_twice, scaled_none}
use Rattle.escrow.proofs.gross.Goals as goal

pub loop-left-preserved : goal.loop-left-preserved
loop-left-preserved c =
    rw (c.ceil_div-amount.ensures, c.from.ensures, c.power_of_ten.ensures)
    (scaled_twice c.loop-left.amount c.min-some.result c.loop-left.left (omega (arith, c.min-some.ensures)) ∙ c.loop-left.invariant)

pub returns : goal.returns
returns c =
    let none : c.loop-left.left ≡ 0 = omega (arith, c.loop-left-test.false) in
    sym (ap (λ (k : ℕ). ceil_div c.loop-left.amount (10 ^ k)) none ∙ scaled_none c.loop-left.amount) ∙ c.loop-left.invariant
