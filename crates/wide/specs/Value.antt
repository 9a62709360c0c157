-- The value of a number of two 64-bit words.
use Rattle.std.specs.Prelude.{◌≡◌, if◌then◌else◌, ℕ, ◌+◌, ◌-◌, ◌*◌, ◌/◌, ◌%◌, ◌^◌, ◌<◌, nat_lt, Result, Ok, Err}
use lib.Arith.{digits_div, digits_mod}
use Rattle.laws.specs.Search.{first}
use Rattle.wide.specs.declared.TooWide.{TooWide}

-- two digits to the base 2 ^ k
abbrev pub digits : ℕ → ℕ → ℕ → ℕ
digits k hi lo = hi * 2 ^ k + lo

-- the digits are its quotient and its remainder
pub high_again : (hi lo : ℕ) → lo < 2 ^ 64 → digits 64 hi lo / 2 ^ 64 ≡ hi
high_again hi lo f = digits_div hi f

pub low_again : (hi lo : ℕ) → lo < 2 ^ 64 → digits 64 hi lo % 2 ^ 64 ≡ lo
low_again hi lo f = digits_mod hi f

-- one more than the largest value of two words
unfoldable pub modulus : ℕ
modulus = 2 ^ 64 * 2 ^ 64

-- |a - b|
abbrev pub apart : ℕ → ℕ → ℕ
apart a b = (a - b) + (b - a)

-- how many binary digits n has, 0 for 0: the least i with n < 2 ^ i (n itself is one such, so none above it is looked at)
unfoldable pub bit_length : ℕ → ℕ
bit_length n = first (λ i. nat_lt n (2 ^ i)) n

-- a number in one word, where it fits
abbrev pub Narrows : ℕ → Result ℕ TooWide → Type 0
Narrows w r = r ≡ (if nat_lt w (2 ^ 64) then Ok w else Err (record {}))
