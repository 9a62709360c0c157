-- What the long division keeps from digit to digit.
use Rattle.std.specs.Prelude.{ℕ, ◌+◌, ◌*◌, ◌<◌, ◌≤◌}
use Rattle.wide.specs.Value.{modulus}

-- what a step of the long division asks, of a quotient q and a remainder r of the digits so far, a divisor d and the next digit b:
-- the remainder is below the divisor, twice the divisor fits two words, and so does the number so far
pub record Partway (q r d b : ℕ) : Type 0 where
  pub below : r < d
  pub twice : 2 * d ≤ modulus
  pub digit : b < 2
  pub fits : 2 * (q * d + r) + b < modulus
