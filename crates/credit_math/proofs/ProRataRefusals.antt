-- Pro-rata refuses no total within the sum of at most 16 quantities, with lists as long.
use Rattle.std.proofs.Common.{◌≡◌, ℕ, ◌≤◌, List, length, arith}
use Rattle.std.proofs.lemmas.Bool.Decides.{nat_tests}
use Rattle.laws.specs.Sums.{sum_of}
use Rattle.laws.specs.Checks.{unless, first_of}
use Rattle.credit_math.specs.Limits.{max_orders}
use Rattle.credit_math.specs.ProRata.{pro_rata_refusal}

-- each check passes
pub in_sum : (ids qtys : List ℕ) (room total : ℕ) → length qtys ≤ max_orders → length ids ≡ length qtys → room ≡ length qtys → total ≤ sum_of qtys
    → pro_rata_refusal ids qtys room total ≡ 0
unfolding pro_rata_refusal unless first_of
in_sum ids qtys room total few ids_too room_too h = grind (arith, nat_tests)
