-- A division with its remainder.
use Rattle.std.specs.Prelude.{◌≡◌, ℕ, ◌/◌, ◌%◌}
use Rattle.wide.specs.declared.Division.{Division}

-- quotient and remainder; by 0, as in `◌/◌` and `◌%◌`, the quotient is 0 and the remainder n
pub record Divided (n d : ℕ) (r : Division) : Type 0 where
  pub quotient : r.quotient ≡ n / d
  pub rest : r.rest ≡ n % d
