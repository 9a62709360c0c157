-- Laws of division rounded up.
use Rattle.std.proofs.Common.{◌≡◌, ℕ, ◌*◌, ◌/◌, ◌%◌, ◌<◌, ◌≤◌, arith}
use Rattle.std.proofs.Math.Nat.{le_antisymm, le_trans, mul-le-mul_right, div-le_of_le-mul}
use Rattle.std.proofs.lemmas.Bool.Decides.{nat_tests}
use Rattle.credit_math.specs.Rounding.{ceil_div}
use Rattle.credit_math.specs.Claims.{RoundsUp}

module _ (a b : ℕ) where
  -- where b divides a
  pub ceil_whole : a % b ≡ 0 → a / b ≡ ceil_div a b
  unfolding ceil_div
  ceil_whole z = grind (arith, nat_tests)

  -- it is the least that is enough
  pub rounds_up : 0 < b → RoundsUp a b
  unfolding ceil_div
  rounds_up p = record {
    enough = grind (arith, nat_tests);
    least = λ m h. let quotient = div-le_of_le-mul b {m = a} {n = m} (omega arith) in grind (arith, nat_tests);
  }

-- more is not less when rounded up
pub ceil_mono : (a c b : ℕ) → 0 < b → a ≤ c → ceil_div a b ≤ ceil_div c b
ceil_mono a c b p h = (rounds_up a b p).least (ceil_div c b) (le_trans h (rounds_up c b p).enough)

-- rounding up twice is rounding up once
pub ceil_twice : (n a b : ℕ) → 0 < a → 0 < b → 0 < a * b → ceil_div (ceil_div n a) b ≡ ceil_div n (a * b)
ceil_twice n a b p q pq =
    let once = rounds_up n (a * b) pq in
    let first = rounds_up n a p in
    let second = rounds_up (ceil_div n a) b q in
    le_antisymm
    (second.least (ceil_div n (a * b)) (first.least (ceil_div n (a * b) * b) (omega (arith, once.enough))))
    (once.least (ceil_div (ceil_div n a) b) (omega (arith, first.enough, mul-le-mul_right a second.enough)))
