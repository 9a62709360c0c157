-- The bits of a word with one more bit set, and that its bits say the word. Assumes nothing.
use mathlib.Core.Path.{◌≡◌, refl, sym, ap, ◌∙◌}
use mathlib.Core.Logic.{◌≢◌, ⊎_elim}
use Prim.Native.Nat.{ℕ, suc, ◌+◌, ◌-◌, ◌*◌, ◌/◌, ◌%◌, ◌^◌, ◌≤◌, ◌<◌, max}
use native.Mathlib.Nat.{div-eq_of_lt, div_self, zero-div, div-one, lt_trans, eq-or-lt_of_le}
use native.Mathlib.Decide.{dec_lt}
use native.Mathlib.Omega.{arith}
use lib.Arith.{bin_ind}
use lib.Bits.{bit_or, or_shr, or_step}
use lib.Pow.{pow_pos, pow-lt, pow-add, shl-shr, shr-shr}
use Rattle.laws.specs.Bits.{bit}

or_odd : (a b : ℕ) → bit_or a b % 2 ≡ max (a % 2) (b % 2)
or_odd a b = omega (arith, or_step a b)

pub bit_of_or : (a b i : ℕ) → bit (bit_or a b) i ≡ max (bit a i) (bit b i)
unfolding bit
bit_of_or a b i = rw (or_shr a b i) (or_odd (a / 2 ^ i) (b / 2 ^ i))

pub bit_zero : (i : ℕ) → bit 0 i ≡ 0
unfolding bit
bit_zero i = rw (zero-div (2 ^ i))

pub bit_same : (i : ℕ) → bit (2 ^ i) i ≡ 1
unfolding bit
bit_same i = rw (div_self (pow_pos i))

pub bit_other : (i j : ℕ) → i ≢ j → bit (2 ^ i) j ≡ 0
unfolding bit
bit_other i j q = go (dec_lt i j)
  where
    go : Dec (i < j) → 2 ^ i / 2 ^ j % 2 ≡ 0
    go (yes l) = rw (div-eq_of_lt (pow-lt l))
    go (no l) =
        let e : i ≡ suc (i - suc j) + j = omega arith in
        let f : 2 ^ i ≡ 2 ^ suc (i - suc j) * 2 ^ j = ap (2 ^◌) e ∙ pow-add 2 (suc (i - suc j)) j in
        rw (f, shl-shr (2 ^ suc (i - suc j)) j) (omega arith)

bit_half : (m i : ℕ) → bit (m / 2) i ≡ bit m (suc i)
unfolding bit
bit_half m i = ap (λ x. x % 2) (shr-shr m 1 i ∙ ap (λ k. m / 2 ^ k) (omega arith))

bit_low : (m : ℕ) → bit m 0 ≡ m % 2
unfolding bit
bit_low m = ap (λ x. x % 2) (div-one m)

-- a word is said by its bits
pub bits_ext : (m n : ℕ) → ((i : ℕ) → bit m i ≡ bit n i) → m ≡ n
bits_ext =
    bin_ind (λ m. (n : ℕ) → ((i : ℕ) → bit m i ≡ bit n i) → m ≡ n)
    (λ n e. sym (bin_ind (λ n. ((i : ℕ) → bit n i ≡ 0) → n ≡ 0) (λ _. refl)
    (λ n ih h. omega (arith, ih (λ i. bit_half n i ∙ h (suc i)), sym (bit_low n) ∙ h 0)) n (λ i. sym (e i) ∙ bit_zero i)))
    (λ m ih n e. omega (arith, ih (n / 2) (λ i. bit_half m i ∙ e (suc i) ∙ sym (bit_half n i)), bit_low m, bit_low n, e 0))

-- a word of k bits has no bit from k on
pub bit_past : (word k i : ℕ) → word < 2 ^ k → k ≤ i → bit word i ≡ 0
unfolding bit
bit_past word k i h l = rw (div-eq_of_lt (⊎_elim (λ (e : k ≡ i). rw e at h) (λ (g : k < i). lt_trans h (pow-lt g)) (eq-or-lt_of_le l)))
