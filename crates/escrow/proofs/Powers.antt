-- Laws of the powers of ten, and of an amount that is scaled down in steps. Assumes nothing.
use mathlib.Core.Path.{◌≡◌, sym, ap, ◌∙◌}
use Prim.Native.Nat.{ℕ, ◌-◌, ◌*◌, ◌^◌, ◌≤◌, ◌<◌}
use native.Mathlib.Nat.{div-one, mod-one, one-le-pow, pow-le-pow_right, lt_of_le_of_lt}
use native.Mathlib.Omega.{arith}
use lib.Dec.{lit<}
use lib.Pow.{pow-add}
use Rattle.credit_math.specs.Rounding.{ceil_div}
use Rattle.credit_math.proofs.Rounding.{ceil_whole, ceil_twice}
use Rattle.escrow.specs.Cover.{max_decimals}

pub ten_positive : (i : ℕ) → 0 < 10 ^ i
ten_positive i = one-le-pow i 10 (omega arith)

-- 10 to the most decimals fits 64 bits
pub ten_fits : (i : ℕ) → i ≤ max_decimals → 10 ^ i < 2 ^ 64
ten_fits i h = lt_of_le_of_lt (pow-le-pow_right {n = 10} (omega arith) h) (lit< tt)

-- rounded up by some decimals, and then by those that are left
pub scaled_twice : (n some left : ℕ) → some ≤ left → ceil_div (ceil_div n (10 ^ some)) (10 ^ (left - some)) ≡ ceil_div n (10 ^ left)
scaled_twice n some left h =
    let all : 10 ^ some * 10 ^ (left - some) ≡ 10 ^ left = sym (pow-add 10 some (left - some)) ∙ ap (λ (k : ℕ). 10 ^ k) (omega arith) in
    ceil_twice n (10 ^ some) (10 ^ (left - some)) (ten_positive some) (ten_positive (left - some)) (rw all (ten_positive left)) ∙ ap (ceil_div n) all

-- nothing is left to scale down by
pub scaled_none : (n : ℕ) → ceil_div n (10 ^ 0) ≡ n
scaled_none n = sym (ceil_whole n 1 (mod-one n)) ∙ div-one n
