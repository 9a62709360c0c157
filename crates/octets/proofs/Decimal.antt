-- A number in base ten: its last digit after those of its tenth, its last two after those of its hundredth, and at most 20 digits of 64 bits.
use mathlib.Core.Path.{◌≡◌}
use mathlib.Core.List.{List, [], ◌∷◌, ◌++◌, append_assoc}
use Prim.Native.Nat.{ℕ, suc, ◌+◌, ◌/◌, ◌%◌, ◌^◌, ◌<◌, ◌≤◌}
use native.Mathlib.Omega.{arith}
use borrow.Author.Tests.{lt-ltb}
use lib.ListN.{length, length-append}
use Rattle.std.proofs.Common.{rules}
use Rattle.std.specs.Fmt as std
use Rattle.std.proofs.lemmas.Fmt.{AppendsLastDigit, decimal_from_appends, decimal_step, length-decimal-le, length-decimal-le_succ}
use Rattle.octets.specs.Decimal.{digits, decimal, max_digits}

-- one digit
pub decimal_one : (x : ℕ) → x < 10 → decimal x ≡ (48 + x % 10) ∷ []
unfolding decimal digits
decimal_one x h = rw (lt-ltb x 10 h)

-- the digits are those that std writes
appends : AppendsLastDigit digits
unfolding digits
appends = search rules

module _ (x : ℕ) (fits : x < 2 ^ 64) where
  -- so the number is what std writes
  as_std : decimal x ≡ std.decimal x
  unfolding decimal
  as_std = decimal_from_appends digits appends (suc x) x fits (omega (arith, length-decimal-le_succ x fits))

  -- at most 20
  pub most_digits : length (decimal x) ≤ max_digits
  most_digits = rw as_std (length-decimal-le 20 x (omega arith) (omega arith) fits)

-- the last digit after those of the tenth
decimal_more : (x : ℕ) → x < 2 ^ 64 → 10 ≤ x → decimal x ≡ decimal (x / 10) ++ ((48 + x % 10) ∷ [])
decimal_more x fits h = rw (as_std x fits, as_std (x / 10) (omega arith)) (decimal_step x h fits)

-- the last two digits
abbrev last_two : ℕ → List ℕ
last_two x = (48 + x / 10 % 10) ∷ (48 + x % 10) ∷ []

-- they stand alone
pub decimal_two : (x : ℕ) → 10 ≤ x → x < 100 → decimal x ≡ last_two x
decimal_two x h small = rw (decimal_more x (omega arith) h, decimal_one (x / 10) (omega arith))

module _ (x : ℕ) (fits : x < 2 ^ 64) (h : 100 ≤ x) where
  -- they stand after those of the hundredth
  pub decimal_hundreds : decimal x ≡ decimal (x / 100) ++ last_two x
  decimal_hundreds =
      let e : x / 10 / 10 ≡ x / 100 = omega arith in
      rw (decimal_more x fits (omega arith), decimal_more (x / 10) (omega arith) (omega arith), e, append_assoc)

  -- the hundredth has two digits fewer
  pub hundredth_digits : length (decimal (x / 100)) + 2 ≤ max_digits
  hundredth_digits =
      let e : length (decimal x) ≡ length (decimal (x / 100)) + 2 = rw (decimal_hundreds, length-append) in
      omega (arith, most_digits x fits)
