-- Laws of long division in binary.
-- Assumes nothing.
use Rattle.std.proofs.Common.{◌≡◌, ℕ, zero, ◌+◌, ◌-◌, ◌*◌, ◌/◌, ◌%◌, ◌^◌, ◌<◌, ◌≤◌, sym, ap, ◌∙◌, subst, mul-le-mul_right, mul_assoc, mul_comm, add-mul, add_comm, lt_of_mul-lt-mul_right, div-add-mod', zero-mul, div-one, arith, pow_pos, pow-add, shr-shr}
use native.Mathlib.Nat.{div-eq_of_lt, add-mul-div_right}
use lib.Pow.{high}
use lib.Arith.{digits_lt, digits_div, digits_mod}
use Rattle.wide.specs.declared.Division.{Division}
use Rattle.wide.specs.Divided.{Divided}
use Rattle.wide.specs.Value.{digits, bit_length}
use Rattle.wide.proofs.Length.{below_length}

-- a number of two digits to the base 2 c doubled, and a digit b put behind it
pub twice : (c h l b : ℕ) → (h * 2 + l / c) * (2 * c) + (l % c * 2 + b) ≡ 2 * (h * (2 * c) + l) + b
twice c h l b = omega (arith, add-mul (h * 2) (l / c) (2 * c), two_out h (2 * c), two_in (l / c) c, div-add-mod' l c)
  where
    two_out : (x y : ℕ) → x * 2 * y ≡ 2 * (x * y)
    two_out x y = ap (λ (n : ℕ). n * y) (mul_comm x 2) ∙ mul_assoc 2 x y

    two_in : (x y : ℕ) → x * (2 * y) ≡ 2 * (x * y)
    two_in x y = sym (mul_assoc x 2 y) ∙ two_out x y

pub twice_upper : (c h l b m : ℕ) → 2 * (h * (2 * c) + l) + b < m * (2 * c) → h * 2 + l / c < m
twice_upper c h l b m s = lt_of_mul-lt-mul_right (2 * c) (omega (arith, twice c h l b))

mul_two : (x y : ℕ) → 2 * x * y ≡ 2 * (x * y)
mul_two x y = mul_assoc 2 x y

-- an upper digit in the upper half of the digits, or in the lower
pub half_above : (c h l : ℕ) → c ≤ h → 2 * c * (2 * c) ≤ 2 * (h * (2 * c) + l)
half_above c h l s = omega (arith, mul_two c (2 * c), mul-le-mul_right (2 * c) s)

pub half_below : (c h l : ℕ) → l < 2 * c → h < c → 2 * (h * (2 * c) + l) ≤ 2 * c * (2 * c)
half_below c h l f s = omega (arith, mul_two c (2 * c), digits_lt s f)

-- a digit of the lower half
pub digit_low : (k h l i : ℕ) → i < k → digits k h l / 2 ^ i % 2 ≡ l / 2 ^ i % 2
digit_low k h l i s =
    let m : ℕ = k - i - 1 in
    let split : 2 ^ k ≡ 2 ^ m * 2 * 2 ^ i = ap (λ (n : ℕ). 2 ^ n) (above_it k i s) ∙ pow-add 2 (m + 1) i ∙ ap (λ (n : ℕ). n * 2 ^ i) (pow-add 2 m 1) in
    let whole : h * 2 ^ k ≡ h * 2 ^ m * 2 * 2 ^ i =
    ap (λ (n : ℕ). h * n) split ∙ sym (mul_assoc h (2 ^ m * 2) (2 ^ i)) ∙ ap (λ (n : ℕ). n * 2 ^ i) (sym (mul_assoc h (2 ^ m) 2)) in
    ap (λ (n : ℕ). n % 2) (ap (λ (n : ℕ). n / 2 ^ i) (add_comm (h * 2 ^ k) l ∙ ap (λ (n : ℕ). l + n) whole) ∙ add-mul-div_right l (h * 2 ^ m * 2) (pow_pos i))
    ∙ even (h * 2 ^ m) (l / 2 ^ i)
  where
    above_it : (a b : ℕ) → b < a → a ≡ a - b - 1 + 1 + b
    above_it a b c = omega arith

    even : (a b : ℕ) → (b + a * 2) % 2 ≡ b % 2
    even a b = omega arith

-- a digit of the upper half
pub digit_high : (k h l i : ℕ) → l < 2 ^ k → k ≤ i → digits k h l / 2 ^ i % 2 ≡ h / 2 ^ (i - k) % 2
digit_high k h l i f s =
    ap (λ (n : ℕ). n % 2)
    (ap (λ (n : ℕ). digits k h l / 2 ^ n) (rejoin k i s) ∙ sym (shr-shr (digits k h l) k (i - k)) ∙ ap (λ (n : ℕ). n / 2 ^ (i - k)) (high h k f))
  where
    rejoin : (a b : ℕ) → a ≤ b → b ≡ a + (b - a)
    rejoin a b c = omega arith

-- the digits of n down to i - 1 are those down to i and one more
prefix : (n i : ℕ) → zero < i → n / 2 ^ (i - 1) ≡ 2 * (n / 2 ^ i) + n / 2 ^ (i - 1) % 2
prefix n i p = omega (arith, shr-shr n (i - 1) 1 ∙ ap (λ (x : ℕ). n / 2 ^ x) (again i p))
  where
    again : (a : ℕ) → zero < a → a - 1 + 1 ≡ a
    again a q = omega arith

module _ (n i : ℕ) where
  -- before the first digit of n
  pub none_yet : (q d r : ℕ) → i ≡ bit_length n → q ≡ 0 → r ≡ 0 → q * d + r ≡ n / 2 ^ i
  none_yet q d r h e f = omega (arith, ap (λ (x : ℕ). x * d) e, zero-mul d, div-eq_of_lt (subst (λ (x : ℕ). n < 2 ^ x) (sym h) (below_length n)))

  -- after one digit more
  pub one_more : (x b : ℕ) → zero < i → x ≡ n / 2 ^ i → b ≡ n / 2 ^ (i - 1) % 2 → 2 * x + b ≡ n / 2 ^ (i - 1)
  one_more x b p e f = omega (arith, prefix n i p)

  -- after the last
  pub all_down : i ≤ 0 → n / 2 ^ i ≡ n
  all_down h = ap (λ (x : ℕ). n / 2 ^ x) (only h) ∙ div-one n
    where
      only : {a : ℕ} → a ≤ 0 → a ≡ 0
      only g = omega arith

-- a multiple of d and a remainder below d make n
pub of_parts : (n d : ℕ) (r : Division) → r.rest < d → r.quotient * d + r.rest ≡ n → Divided n d r
of_parts n d r h e = record {
  quotient = sym (digits_div r.quotient h) ∙ ap (λ (x : ℕ). x / d) e;
  rest = sym (digits_mod r.quotient h) ∙ ap (λ (x : ℕ). x % d) e;
}
