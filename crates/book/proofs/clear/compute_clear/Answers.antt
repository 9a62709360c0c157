-- The clearing of the live orders is that of the book.
use Rattle.std.proofs.Common.{arith}
use Rattle.std.proofs.lemmas.Bool.Decides.{nat_tests}
use Rattle.book.specs.Clear.{compute_clear}
use Rattle.book.proofs.Live.{first_live, from_first}
use Rattle.book.proofs.clear.compute_clear.Goals as goal

pub returns-then-p-g : goal.returns-then-p-g
unfolding compute_clear
returns-then-p-g c =
    let e = c.clear.ensures c.args.orders.now c.args.n (from_first c.args.orders.now c.args.n (omega arith) (rw c.min.ensures at c.live_orders-live.ensures)) in
    grind (arith, nat_tests, first_live)
