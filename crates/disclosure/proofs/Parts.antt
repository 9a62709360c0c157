-- A part s / w of a number p, by its quotient and its rest. Assumes nothing.
use mathlib.Core.Path.{◌≡◌, sym, ◌∙◌, ap}
use Prim.Native.Nat.{ℕ, zero, ◌+◌, ◌*◌, ◌/◌, ◌%◌, ◌<◌, ◌≤◌}
use native.Mathlib.Nat.{mul-le-mul_left, mul_comm, mul_assoc, add-mul, mul-add-div_right, div-add-mod', div-mul-le_self, le_of_mul-le-mul_right}
use native.Mathlib.Omega.{arith}

module _ (p w s : ℕ) (pos : zero < w) where
  whole : p / w * s * w + p % w * s ≡ p * s
  whole =
      ap (λ (x : ℕ). x + p % w * s) (mul_assoc (p / w) s w ∙ ap (λ (x : ℕ). p / w * x) (mul_comm s w) ∙ sym (mul_assoc (p / w) w s))
      ∙ sym (add-mul (p / w * w) (p % w) s)
      ∙ ap (λ (x : ℕ). x * s) (div-add-mod' p w)

  pub by_parts : p / w * s + p % w * s / w ≡ p * s / w
  by_parts = sym (mul-add-div_right pos (p / w * s) (p % w * s)) ∙ ap (λ (x : ℕ). x / w) whole

  -- what the steps stay below, where the part is no more than the whole
  module _ (part : s ≤ w) where
    pub first_le : p / w * s ≤ p
    first_le = omega (arith, mul-le-mul_left (p / w) part, div-mul-le_self p w)

    second_le : p % w * s / w ≤ p % w
    second_le = le_of_mul-le-mul_right (omega (arith, div-mul-le_self (p % w * s) w, mul-le-mul_left (p % w) part)) pos

    pub sum_le : p / w * s + p % w * s / w ≤ p
    sum_le = omega (arith, mul-le-mul_left (p / w) part, second_le, div-add-mod' p w)
