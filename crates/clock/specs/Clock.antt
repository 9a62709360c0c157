-- Signed 64-bit times. `lt_z` and `le_z` of the library are their order.
use Rattle.std.specs.Prelude.{Bool, ◌^◌, nat_lt, ℤ, ◌+ℤ◌}
use Rattle.std.specs.Int.Signed.{mag}

-- the sum is a signed 64-bit number: `mag` is n of n and of -(n + 1)
unfoldable pub sum_fits : ℤ → ℤ → Bool
sum_fits a b = nat_lt (mag (a +ℤ b)) (2 ^ 63)
