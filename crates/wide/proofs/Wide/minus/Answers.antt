-- `Wide::minus` meets its contract, word by word, with a borrow where the lower word is too small.
use Rattle.std.proofs.Common.{le_of_lt, arith}
use Rattle.wide.proofs.Laws.{upper_le, upper_lt, subtracts, borrows}
use Rattle.wide.proofs.Wide.minus.Goals as goal

pub overflow_sub-result : goal.overflow_sub-result
overflow_sub-result c = upper_le 64 _ _ _ _ c.self.invariant.1 (rw (← c.self.view_is, ← c.b.view_is) at c.requires)

pub returns-then-b-self : goal.returns-then-b-self
returns-then-b-self c =
    rw (← c.self.view_is, ← c.b.view_is)
    (subtracts 64 _ _ _ _ c.if-b-self.true (upper_le 64 _ _ _ _ c.self.invariant.1 (rw (← c.self.view_is, ← c.b.view_is) at c.requires)))

pub overflow_sub-result-2 : goal.overflow_sub-result-2
overflow_sub-result-2 c = le_of_lt (upper_lt 64 _ _ _ _ c.if-b-self.false (rw (← c.self.view_is, ← c.b.view_is) at c.requires))

pub overflow_sub-result-3 : goal.overflow_sub-result-3
overflow_sub-result-3 c = omega (arith, upper_lt 64 _ _ _ _ c.if-b-self.false (rw (← c.self.view_is, ← c.b.view_is) at c.requires))

pub returns : goal.returns
returns c =
    rw (← c.self.view_is, ← c.b.view_is)
    (borrows 64 _ _ _ _ c.b.invariant.1 c.if-b-self.false (upper_lt 64 _ _ _ _ c.if-b-self.false (rw (← c.self.view_is, ← c.b.view_is) at c.requires)))
