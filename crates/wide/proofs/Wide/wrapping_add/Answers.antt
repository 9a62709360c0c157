-- `Wide::wrapping_add` meets its contract. With no carry the lower word has room; with one the upper word starts again at 0 past its largest value.
use Rattle.std.proofs.Common.{◌≡◌, ◌+◌, arith}
use Rattle.wide.specs.Value.{modulus}
use Rattle.wide.proofs.Laws.{add_fits, add_carries}
use Rattle.wide.proofs.Wide.wrapping_add.Goals as goal

pub returns-then-carry : goal.returns-then-carry
unfolding modulus
returns-then-carry c =
    let r = c.overflowing_add-lo in
    let over = rw c.if-carry.true at r.ensures.overflow in
    rw (← c.self.view_is) (add_carries 64 _ _ c.args.x r.result.0 (omega arith) (omega arith))

pub returns : goal.returns
unfolding modulus
returns c =
    let r = c.overflowing_add-lo in
    let fits = rw c.if-carry.false at r.ensures.overflow in
    let same : r.result.0 ≡ c.self.inside.lo + c.args.x = omega arith in
    rw (← c.self.view_is, same) (add_fits 64 _ _ c.args.x c.self.invariant.0 fits)
