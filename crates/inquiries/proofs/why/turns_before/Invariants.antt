-- So many of the orders passed share the volume and come before order i.
use Rattle.std.proofs.Common.{◌≡◌, ◌&&◌, ◌≤◌, nat_lt}
use Rattle.laws.specs.Sums.{count}
use Rattle.laws.specs.Lex.{lex}
use Rattle.book.specs.Book.{order_in, is_live, is_buy}
use Rattle.book.specs.Clear.{trades_at}
use Rattle.inquiries.proofs.why.turns_before.Given as goal

abbrev pub invariant-loop-j : goal.invariant-loop-j
invariant-loop-j l =
    (l.before ≡ count (λ k. (is_live (order_in l.orders k) && trades_at l.orders l.n (is_buy (order_in l.orders l.i)) l.price k) && lex (order_in l.orders l.i).qty (order_in l.orders k).qty (nat_lt k l.i)) l.j)
    × (l.before ≤ l.j)
