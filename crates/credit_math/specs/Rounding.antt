-- `ceil_div`: division rounded up.
use Rattle.std.specs.Prelude.{not, ℕ, ◌+◌, ◌/◌, ◌%◌, ◌==◌}
use Rattle.laws.specs.Sums.{only}

-- ⌈a / b⌉: the quotient, and one more unless b divides a. By 0, as in `◌/◌` and `◌%◌`, the quotient is 0 and the remainder a
unfoldable pub ceil_div : ℕ → ℕ → ℕ
ceil_div a b = a / b + only (not (a % b == 0)) 1
