-- `single_calls::image::orders_in` meets its contract. The loop's invariant: the orders passed are read.
use Rattle.laws.proofs.Lists.{Writing}
use Rattle.credit_math.specs.Limits.{max_orders}
use Rattle.book.specs.Book.{no_order}
use Rattle.single_calls.specs.Image.{order_in}
use Rattle.single_calls.proofs.image.orders_in.Given as goal

abbrev pub invariant-loop-i : goal.invariant-loop-i
invariant-loop-i l = Writing (order_in l.block) no_order max_orders l.i l.orders
