-- Laws of the number of binary digits, and what leading zeros leave of it.
-- Assumes nothing.
use Rattle.std.proofs.Common.{◌≡◌, ℕ, zero, suc, ◌+◌, ◌-◌, ◌*◌, ◌^◌, ◌<◌, ◌≤◌, Bool, ltb, sym, ap, ◌∙◌, subst, ⊎_elim, le_refl, mul-le-mul_right, add-mul, le_antisymm, arith, pow_mono, pow-add, ltb-false, ltb-true}
use native.Mathlib.Nat.{two-pow-succ}
use lib.Arith.{digits_lt}
use lib.Count.{count_leading_zeros, leading_length, leading_top}
use Rattle.laws.specs.Search.{first}
use Rattle.laws.proofs.Search.{first_le, first_holds, first_below}
use Rattle.laws.proofs.Tests.{lt_or_le}
use Rattle.wide.specs.Value.{digits, bit_length}
use Rattle.wide.proofs.Laws.{zero_low}

-- a number is below 2 to it
below_power : (n : ℕ) → n < 2 ^ n
below_power zero = le_refl 1
below_power (suc n) = omega (arith, below_power n, two-pow-succ n)

-- a number is below 2 to its length
pub below_length : (n : ℕ) → n < 2 ^ bit_length n
unfolding bit_length
below_length n =
    let p : ℕ → Bool = λ i. ltb n (2 ^ i) in
    ⊎_elim (λ (h : first p n < n). ltb-true _ _ (first_holds p n h))
    (λ (h : n ≤ first p n). subst (λ (i : ℕ). n < 2 ^ i) (le_antisymm h (first_le p n)) (below_power n))
    (lt_or_le (first p n) n)

-- no shorter length would do
reaches : (n i : ℕ) → i < bit_length n → 2 ^ i ≤ n
unfolding bit_length
reaches n i h = ltb-false _ _ (first_below (λ (j : ℕ). ltb n (2 ^ j)) n i h)

-- a bound of the number bounds its length
pub length_le : (n k : ℕ) → n < 2 ^ k → bit_length n ≤ k
length_le n k h = ⊎_elim (λ (l : k < bit_length n). omega (arith, reaches n k l)) (λ (l : bit_length n ≤ k). l) (lt_or_le k (bit_length n))

-- the length, from a number below 2 ^ m that is no less than its half
pub length_is : (n m : ℕ) → n < 2 ^ m → 2 ^ m ≤ 2 * n + 1 → m ≡ bit_length n
length_is n m h r =
    let k = bit_length n in
    ⊎_elim (λ (l : k < m). omega (arith, below_length n, two-pow-succ k, pow_mono l))
    (λ (l : m ≤ k). le_antisymm l (length_le n m h))
    (lt_or_le k m)

-- the length of a number whose upper digit is 0: what the leading zeros of the lower leave
pub length_low : (k h l : ℕ) → l < 2 ^ k → h ≡ 0 → k - count_leading_zeros k l ≡ bit_length (digits k h l)
length_low k h l f e =
    let t = leading_length k l f in
    let m : t.0 ≡ k - count_leading_zeros k l = omega (arith, t.1) in
    sym m ∙ length_is l t.0 t.2 t.3 ∙ ap bit_length (zero_low k h l e)

-- and of one whose upper digit is not 0: what the leading zeros of the upper leave
pub length_high : (k h l : ℕ) → l < 2 ^ k → h < 2 ^ k → 0 < h → k + k - count_leading_zeros k h ≡ bit_length (digits k h l)
length_high k h l f g p =
    let t = leading_top k h p g in
    let j = t.0 in
    let m : suc j + k ≡ k + k - count_leading_zeros k h = omega (arith, t.1) in
    let q : 2 ^ (suc j + k) ≡ 2 ^ suc j * 2 ^ k = pow-add 2 (suc j) k in
    let d : 2 ^ suc j * 2 ^ k ≡ 2 ^ j * 2 ^ k + 2 ^ j * 2 ^ k = ap (λ (n : ℕ). n * 2 ^ k) (two-pow-succ j) ∙ add-mul (2 ^ j) (2 ^ j) (2 ^ k) in
    sym m ∙ length_is (digits k h l) (suc j + k) (omega (arith, q, digits_lt t.3 f)) (omega (arith, q, d, mul-le-mul_right (2 ^ k) t.2))
