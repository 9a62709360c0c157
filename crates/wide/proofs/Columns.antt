-- The product of two numbers of two digits, column by column, to any base.
-- Assumes nothing.
use Rattle.std.proofs.Common.{◌≡◌, ℕ, ◌+◌, ◌*◌, ◌/◌, ◌%◌, sym, ap, ◌∙◌, mul_assoc, add-mul, add_comm, div-add-mod', mul-add, mul_right_comm, arith}
use native.Mathlib.Nat.{mul-mul-mul_comm}

module _ (b u1 u0 v1 v0 q0 r0 q1 r1 q2 r2 : ℕ) where
  -- the three columns with their carries
  pub columns : q0 * b + r0 ≡ u0 * v0 → q1 * b + r1 ≡ u1 * v0 + q0 → q2 * b + r2 ≡ r1 + u0 * v1
      → (u1 * v1 + q1 + q2) * (b * b) + (r2 * b + r0) ≡ (u1 * b + u0) * (v1 * b + v0)
  columns e0 e1 e2 =
      omega (
        arith,
        add-mul (u1 * v1 + q1) q2 (b * b),
        add-mul (u1 * v1) q1 (b * b),
        sym (mul_assoc q1 b b),
        sym (mul_assoc q2 b b),
        sym (add-mul (q1 * b) r1 b) ∙ ap (λ (n : ℕ). n * b) e1 ∙ add-mul (u1 * v0) q0 b,
        sym (add-mul (q2 * b) r2 b) ∙ ap (λ (n : ℕ). n * b) e2 ∙ add-mul r1 (u0 * v1) b,
        add-mul (u1 * b) u0 (v1 * b + v0),
        mul-add (u1 * b) (v1 * b) v0,
        mul-add u0 (v1 * b) v0,
        mul-mul-mul_comm u1 b v1 b,
        mul_right_comm u1 b v0,
        sym (mul_assoc u0 v1 b),
      )

-- what the columns come to, for u and v of two digits
module _ (b u v : ℕ) where
  abbrev w : ℕ
  w = u % b * (v % b)

  abbrev t : ℕ
  t = u / b * (v % b) + w / b

  abbrev s : ℕ
  s = u % b * (v / b) + t % b

  abbrev pub upper : ℕ
  upper = u / b * (v / b) + t / b + s / b

  -- they are the product's digits, and the upper ones fit
  pub whole : upper * (b * b) + (s % b * b + w % b) ≡ u * v
  whole =
      columns b (u / b) (u % b) (v / b) (v % b) (w / b) (w % b) (t / b) (t % b) (s / b) (s % b)
      (div-add-mod' w b) (div-add-mod' t b) (div-add-mod' s b ∙ add_comm (u % b * (v / b)) (t % b))
      ∙ ap (λ (n : ℕ). n * (v / b * b + v % b)) (div-add-mod' u b) ∙ ap (λ (n : ℕ). u * n) (div-add-mod' v b)
