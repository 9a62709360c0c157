-- `Division::bring_down` meets its contract. The next digit of the quotient is 1 where the divisor goes into the remainder with b behind it, else 0.
use Rattle.std.proofs.Common.{ℕ, ◌*◌, ◌≤◌, ap, add-mul, mul_assoc, arith, rules}
use Rattle.std.proofs.lemmas.Grind.{common_steps}
use Rattle.wide.proofs.Division.bring_down.Goals as goal

pub returns-then-lt : goal.returns-then-lt
returns-then-lt c = (search rules, grind (arith, common_steps, add-mul, mul_assoc))

pub returns-else-lt : goal.returns-else-lt
returns-else-lt c =
    let s = c.args in
    let goes : s.d ≤ c.double-rest.result = grind (arith, common_steps) in
    (omega arith, omega (arith, ap (λ (n : ℕ). n * s.d) c.double-else-lt.ensures, add-mul (2 * s.self.quotient) 1 s.d, mul_assoc 2 s.self.quotient s.d))
